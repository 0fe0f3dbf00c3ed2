-- How the calls of a run are joined (Go specification, "Calls", "Go statements", "Defer statements", "Return
-- statements", "Handling panics").
use Rattle.std.specs.Prelude.{◌≡◌, ◌⊎◌, ℕ, Bool, true, false, List, [], ◌∷◌, ◌++◌, map, Option, option_to_list}
use Rattle.golf_theory.specs.Membership.{In, Every}
use Rattle.golf_data.specs.declared.value.Value.{Value}
use Rattle.golf_data.specs.declared.code.Instr.{Instr}
use Rattle.golf_data.specs.declared.goroutine.Deferred.{Deferred}
use Rattle.golf_data.specs.declared.goroutine.Leaving.{Leaving}
use Rattle.golf_data.specs.declared.goroutine.Mode.{Mode}
use Rattle.golf_model.specs.Views.{FrameView}
use Rattle.golf_meaning_flat.specs.Worlds.{Operation, Answer, Halt}
use Rattle.golf_meaning_runs.specs.CallRecords.{Standing, CallSnapshot, Child, Origin, Call, Beginning, as_seen, deferrals}

-- a call whose frame unwinds or is gone: it has ended, or its last operation is never answered
abbrev pub GoesNoMore : Standing → Type 0
GoesNoMore Standing.Goes = ⊥
GoesNoMore (Standing.Asks q) = Unit {0}
GoesNoMore (Standing.Ended h) = Unit {0}

-- ---- who began a call

-- the instruction calls this function, or starts a goroutine on it
abbrev pub Calls : Instr → ℕ → Type 0
Calls (Instr.Call f n) g = f ≡ g
Calls _ g = ⊥

abbrev pub StartsOn : Instr → ℕ → Type 0
StartsOn (Instr.Go f n) g = f ≡ g
StartsOn _ g = ⊥

-- the last operation that a call has shown
abbrev pub LastShown : List Operation → (List Operation → Operation → Type 0) → Type 0
LastShown shown P = (os : List Operation) × (o : Operation) × (shown ≡ os ++ o ∷ []) × P os o

-- Function and arguments of a call are those that the call that began it has shown last, with its call instruction or
-- with its `go`; or, after its end, among those of its `defer` statements. Function 0 begins with none, and a finaliser
-- with its object.
abbrev pub IsBegun : Origin → ℕ → List Value → Type 0
IsBegun Origin.Opening f vs = (f ≡ 0) × (vs ≡ [])
IsBegun Origin.Finalising f vs = (o : ℕ) × (vs ≡ Value.Ref (record { 0 = o }) ∷ [])
IsBegun (Origin.Calling by) f vs = LastShown by.shown (λ os o. Calls o.instr f × (o.operands ≡ vs))
IsBegun (Origin.Starting by) f vs = LastShown by.shown (λ os o. StartsOn o.instr f × (o.operands ≡ vs))
IsBegun (Origin.Deferring by) f vs = GoesNoMore by.standing
    × In (record { function = f; arguments = vs }) (deferrals by.shown)

-- the first call of a goroutine
abbrev pub IsOutermost : Origin → Type 0
IsOutermost Origin.Opening = Unit {0}
IsOutermost Origin.Finalising = Unit {0}
IsOutermost (Origin.Calling by) = ⊥
IsOutermost (Origin.Starting by) = Unit {0}
IsOutermost (Origin.Deferring by) = ⊥

-- only goroutine 0 runs finalisers, and only goroutine 1 has the call of function 0; a `go` began each other first call
abbrev pub IsOutermostOf : ℕ → Origin → Type 0
IsOutermostOf g Origin.Opening = g ≡ 1
IsOutermostOf g Origin.Finalising = g ≡ 0
IsOutermostOf g (Origin.Starting by) = Unit {0}
IsOutermostOf g _ = ⊥

-- the outermost of these calls, if there is one, was begun so
abbrev pub OutermostIs : (Origin → Type 0) → List Call → Type 0
OutermostIs P [] = Unit {0}
OutermostIs P (k ∷ []) = P k.origin
OutermostIs P (k ∷ (c ∷ cs)) = OutermostIs P (c ∷ cs)

-- who is called hands its value back
abbrev pub DiscardsSo : Origin → Bool → Type 0
DiscardsSo (Origin.Calling by) d = d ≡ false
DiscardsSo _ d = Unit {0}

-- ---- the answers to calls

-- any instruction but a call
abbrev pub IsNoCall : Instr → Type 0
IsNoCall (Instr.Call f n) = ⊥
IsNoCall _ = Unit {0}

-- the operation called so
abbrev pub IsCallOf : Operation → CallSnapshot → Type 0
IsCallOf o x = Calls o.instr x.function × (o.operands ≡ x.arguments)

-- the call has returned this value, and no panic of a deferred call has reached it since
abbrev pub HasReturned : Option Value → Child → Type 0
HasReturned v x = (x.panicked ≡ false) × (x.one.standing ≡ Standing.Ended (Halt.Returned v))

-- Operations with their answers, and the calls that they made, in order. Each operation that is a call made one of
-- them, with the function and the arguments that it shows; that call has returned, and its value, or nothing, is the
-- answer.
pub data Joined : List Operation → List Answer → List Child → Type 0 where
  Empty : Joined [] [] []
  Other : {os : List Operation} {got : List Answer} {made : List Child} (o : Operation) (a : Answer)
      → Joined os got made → IsNoCall o.instr → Joined (os ++ o ∷ []) (got ++ a ∷ []) made
  Returned : {os : List Operation} {got : List Answer} {made : List Child} (o : Operation) (a : Answer) (x : Child)
      (v : Option Value) → Joined os got made → IsCallOf o x.one → HasReturned v x → a.values ≡ option_to_list v → Joined (os ++ o ∷ []) (got ++ a ∷ []) (made ++ x ∷ [])

-- the last operation has no answer, and is no call
abbrev pub AsksNoCall : Call → Type 0
AsksNoCall k = LastShown k.shown (λ os o. IsNoCall o.instr × Joined os k.got k.made)

-- the last operation has no answer, and is the call of this function with these arguments, which has not left
abbrev pub AsksCall : Call → ℕ → List Value → Type 0
AsksCall k f vs = LastShown k.shown (λ os o. Calls o.instr f × (o.operands ≡ vs) × Joined os k.got k.made)

-- the last operation has no answer, and is a call, which has left so
abbrev pub HasCalled : Call → (Child → Type 0) → Type 0
HasCalled k P = LastShown k.shown (λ os o. (made : List Child) × (x : Child) × (k.made ≡ made ++ x ∷ [])
    × IsCallOf o x.one × P x × Joined os k.got made)

abbrev pub IsUnwound : Child → Type 0
IsUnwound x = x.panicked ≡ true

-- A call that is being left, or has left. All its operations are answered; or the last one is not, since there the call
-- itself panicked, or the call that it made was unwound.
abbrev pub JoinsEnded : Call → Standing → Type 0
JoinsEnded k Standing.Goes = ⊥
JoinsEnded k (Standing.Asks q) = AsksNoCall k ⊎ HasCalled k IsUnwound
JoinsEnded k (Standing.Ended h) = Joined k.shown k.got k.made

-- ---- deferred calls

abbrev pub deferred_of : Child → Deferred
deferred_of x = record { function = x.one.function; arguments = x.one.arguments }

-- The deferred calls that have run are these, in order. Each began when the call stood as it stands now, so it has
-- shown nothing and got no answer since.
abbrev pub DeferredHaveRun : Call → List Deferred → Type 0
DeferredHaveRun k ds = (map deferred_of k.late ≡ ds) × Every (λ (x : Child). x.after ≡ as_seen k) k.late

-- these are still to run, after this one; the latest `defer` runs first
abbrev pub StillDefers : Call → List Deferred → FrameView → Type 0
StillDefers k now f = (map deferred_of k.late ++ (now ++ f.deferred) ≡ deferrals k.shown)
    × Every (λ (x : Child). x.after ≡ as_seen k) k.late

-- none has run
abbrev pub DefersAll : Call → FrameView → Type 0
DefersAll k f = (k.late ≡ []) × (f.deferred ≡ deferrals k.shown)

-- ---- panics

-- none of its deferred calls has panicked
abbrev pub NonePanicked : Call → Type 0
NonePanicked k = Every (λ (x : Child). x.panicked ≡ false) k.late

-- Why a panic reaches a call. It has not returned: its last operation panicked, or a call that it made was unwound, or
-- it has divided by zero. Or one of its deferred calls panicked.
abbrev pub HasPanicCause : Call → Type 0
HasPanicCause k = ((v : Option Value) → k.standing ≡ Standing.Ended (Halt.Returned v) → ⊥)
    ⊎ ((x : Child) × In x k.late × (x.panicked ≡ true))

-- a call has left by its return, or by a panic
abbrev pub HasLeftSo : Bool → Call → Type 0
HasLeftSo false k = ((v : Option Value) × (k.standing ≡ Standing.Ended (Halt.Returned v))) × NonePanicked k
HasLeftSo true k = HasPanicCause k

-- ---- a call and its frame

-- who is leaving does not wait
abbrev pub DoesNotWait : Mode → Type 0
DoesNotWait Mode.Running = Unit {0}
DoesNotWait (Mode.Blocked kind line waits ticket) = ⊥

abbrev pub JoinsOnTop : Call → FrameView → Standing → Mode → Type 0
JoinsOnTop k f Standing.Goes mode = Joined k.shown k.got k.made
JoinsOnTop k f (Standing.Asks q) Mode.Running =
    AsksNoCall k ⊎ ((v : Option Value) × HasCalled k (HasReturned v) × (f.operands ≡ option_to_list v ++ q.rest))
JoinsOnTop k f (Standing.Asks q) (Mode.Blocked kind line waits ticket) = AsksNoCall k
JoinsOnTop k f (Standing.Ended h) mode = Joined k.shown k.got k.made

-- the innermost call
abbrev pub JoinsTop : Call → FrameView → Leaving → Mode → Type 0
JoinsTop k f Leaving.No mode = JoinsOnTop k f k.standing mode × DefersAll k f
JoinsTop k f (Leaving.Returning v) mode = JoinsEnded k k.standing × StillDefers k [] f × NonePanicked k × DoesNotWait mode
JoinsTop k f (Leaving.Unwinding x) mode = JoinsEnded k k.standing × StillDefers k [] f × HasPanicCause k

-- a call below another: it has called that one, or deferred it
abbrev pub DefersIt : Beginning → Call → FrameView → Type 0
DefersIt above k f = (above.origin ≡ Origin.Deferring (as_seen k)) × JoinsEnded k k.standing
    × StillDefers k (record { function = above.function; arguments = above.arguments } ∷ []) f

abbrev pub JoinsBelow : Beginning → Call → FrameView → Leaving → Type 0
JoinsBelow above k f Leaving.No = (above.origin ≡ Origin.Calling (as_seen k))
    × AsksCall k above.function above.arguments × DefersAll k f
JoinsBelow above k f (Leaving.Returning v) = DefersIt above k f × NonePanicked k
JoinsBelow above k f (Leaving.Unwinding x) = DefersIt above k f × HasPanicCause k
