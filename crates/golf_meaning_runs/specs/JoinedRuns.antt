-- The law of how the calls of a run are joined, as a statement (Go specification, "Calls", "Go statements", "Defer
-- statements", "Return statements", "Handling panics").
use Rattle.std.specs.Prelude.{◌≡◌, ◌⊎◌, ℕ, List, [], ◌∷◌, ◌++◌, map, Option, None}
use Rattle.golf_theory.specs.Maps.{Entry}
use Rattle.golf_theory.specs.Membership.{Every}
use Rattle.golf_syntax_trees.specs.declared.declarations.File.{File}
use Rattle.golf_data.specs.declared.value.Value.{Value}
use Rattle.golf_data.specs.declared.goroutine.Deferred.{Deferred}
use Rattle.golf_model.specs.Views.{GoroutineView}
use Rattle.golf_model.specs.State.{start, ending}
use Rattle.golf_model.specs.Runs.{Event, run}
use Rattle.golf_code_of.specs.Files.{CodeOf}
use Rattle.golf_code_never_stuck.specs.Reached.{IsProgram}
use Rattle.golf_meaning_runs.specs.CallRecords.{Standing, CallSnapshot, Child, Origin, Call, Beginning, as_seen, call_of}
use Rattle.golf_meaning_runs.specs.CallRecords.{beginning, beginners, started_as, starts, deferrals}
use Rattle.golf_meaning_runs.specs.Joins.{IsOutermostOf, OutermostIs, IsBegun, IsOutermost, Joined, AsksNoCall, AsksCall, HasCalled, HasReturned}
use Rattle.golf_meaning_runs.specs.Joins.{JoinsEnded, deferred_of, DeferredHaveRun, HasLeftSo}
use Rattle.golf_meaning_runs.specs.Books.{one_of, book_of, left_of}
use Rattle.golf_meaning_runs.specs.Laws.{IsMeant}

-- ---- the calls of a goroutine, the innermost first

-- What a call has shown is answered. Or the last operation is not: it is no call, or a call whose value is not yet
-- noted.
abbrev pub IsAnsweredSo : Call → Standing → Type 0
IsAnsweredSo k Standing.Goes = Joined k.shown k.got k.made
IsAnsweredSo k (Standing.Asks q) = AsksNoCall k ⊎ ((v : Option Value) × HasCalled k (HasReturned v))
IsAnsweredSo k (Standing.Ended h) = ⊥

-- Those of its deferred calls that have run, these now, and others that are still to run are the calls of its `defer`
-- statements, the latest first. Each began when the call stood as it stands now.
abbrev pub RunsDeferred : Call → List Deferred → Type 0
RunsDeferred k now = (still : List Deferred) × (map deferred_of k.late ++ (now ++ still) ≡ deferrals k.shown)
    × Every (λ (x : Child). x.after ≡ as_seen k) k.late

-- the innermost call goes on, and no deferred call of it has run; or it is being left
abbrev pub IsInnermost : Call → Type 0
IsInnermost k = (IsAnsweredSo k k.standing × (k.late ≡ [])) ⊎ (JoinsEnded k k.standing × RunsDeferred k [])

-- a call waits for the one above it, which its last operation calls and which it began as it stands
abbrev pub Awaits : Beginning → Call → Type 0
Awaits above k = (above.origin ≡ Origin.Calling (as_seen k)) × AsksCall k above.function above.arguments × (k.late ≡ [])

-- a call is being left and runs the one above it, the next of those that it has deferred
abbrev pub RunsNow : Beginning → Call → Type 0
RunsNow above k = (above.origin ≡ Origin.Deferring (as_seen k)) × JoinsEnded k k.standing
    × RunsDeferred k (record { function = above.function; arguments = above.arguments } ∷ [])

-- the calls below one that was begun so; the outermost was begun by no call of its goroutine
abbrev pub AreBelow : Beginning → List Call → Type 0
AreBelow above [] = IsOutermost above.origin
AreBelow above (k ∷ ks) = (Awaits above k ⊎ RunsNow above k) × AreBelow (beginning k) ks

abbrev pub AreJoined : List Call → Type 0
AreJoined [] = Unit {0}
AreJoined (k ∷ ks) = IsInnermost k × AreBelow (beginning k) ks

-- ---- who began a call, and the calls that it began

-- what these calls have shown is what their sources mean
abbrev pub AreMeant : File → List CallSnapshot → Type 0
AreMeant file xs = Every (λ (x : CallSnapshot). IsMeant file (call_of x)) xs

-- Function and arguments of a call are those that the call that began it has shown. The sources of that call, and of
-- the calls that it made and deferred and that have left, mean what these have shown. Each `go` that it has shown has
-- started a goroutine, with the function and the arguments shown there.
pub record IsTied (file : File) (k : Call) : Type 0 where
  pub begun : IsBegun k.origin k.function k.arguments
  pub by : AreMeant file (beginners k.origin)
  pub made : AreMeant file (map one_of k.made)
  pub late : AreMeant file (map one_of k.late)
  pub started : map started_as k.spawned ≡ starts k.shown

-- A call that has left. All operations are answered, or the last one is not, since the call panicked there or the call
-- that it made was unwound. All deferred calls have run, the latest first, after its end. It has returned and none of
-- these has panicked; or it has left by a panic, and there is a cause.
pub record HasLeftJoined (file : File) (k : Call) : Type 0 where
  pub joins : JoinsEnded k k.standing
  pub ran : DeferredHaveRun k (deferrals k.shown)
  pub so : HasLeftSo k.panicked k
  pub tied : IsTied file k

-- After these events the calls of each goroutine are joined, unless the run has ended; and so is each call that has
-- left. The outermost call of a goroutine was begun by `go`, but for function 0 in goroutine 1 and finalisers in
-- goroutine 0.
pub record RunIsJoined (file : File) (events : List Event) : Type 0 where
  pub going : ending (run (CodeOf file) (start (CodeOf file)) events) ≡ None → (g : ℕ) (r : GoroutineView)
      → Entry (run (CodeOf file) (start (CodeOf file)) events).goroutines g r
      → AreJoined (book_of (CodeOf file) events g) × Every (IsTied file) (book_of (CodeOf file) events g)
  pub first : (g : ℕ) → OutermostIs (IsOutermostOf g) (book_of (CodeOf file) events g)
  pub left : Every (HasLeftJoined file) (left_of (CodeOf file) events)

-- this holds after all events, for each well-formed file that breaks no rule
abbrev pub RunsAreJoined : Type 0
RunsAreJoined = (file : File) → IsProgram file → (events : List Event) → RunIsJoined file events
