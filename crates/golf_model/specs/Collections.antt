-- Collections: the plain one, which queues finalisers and frees nothing, and the real one, which frees and reclaims.
use Rattle.std.specs.Prelude.{◌≡◌, ◌⊎◌, ℕ, Bool, true, false, not, ◌&&◌, ◌||◌, List, [], ◌++◌, map, filter}
use Rattle.golf_theory.specs.Maps.{find, only, keys}
use Rattle.golf_theory.specs.Membership.{In, is_in, any_of}
use Rattle.golf_data.specs.declared.code.Code.{Code}
use Rattle.golf_data.specs.declared.code.Instr.{Instr}
use Rattle.golf_data.specs.declared.goroutine.Queued.{Queued}
use Rattle.golf_model.specs.State.{State}
use Rattle.golf_model.specs.Refs.{has_finaliser, refs_of_goroutine}
use Rattle.golf_model.specs.Reach.{Reach, reach, sources}
use Rattle.golf_model.specs.LiveSet.{Node, Live, live_list, has_object, dead}

-- the queue's entries for these objects and functions
abbrev pub queued : List (ℕ × ℕ) → List Queued
queued es = map (λ e. record { object = record { 0 = e.0 }; function = e.1 }) es

-- the finalised objects outside the list lose their finalisers and join the queue, in rising order
abbrev pub queue_outside : List ℕ → State → State
queue_outside reached s =
    record s {
      finalisers = only (λ o. is_in o reached) s.finalisers;
      queue = s.queue
          ++ queued (only (λ o. not (is_in o reached)) s.finalisers);
    }

-- each object with a finaliser that no source reaches loses the finaliser and joins the queue; nothing is freed
-- (package runtime, `SetFinalizer`)
abbrev pub plain_collect : State → State
plain_collect s = queue_outside (reach s (sources s [])) s

-- whether an instruction sets a finaliser, and whether some instruction of the code does
abbrev pub is_setting : Instr → Bool
is_setting (Instr.SetFinalizer f) = true
is_setting _ = false

abbrev pub sets_finalisers : Code → Bool
sets_finalisers code = any_of (λ fn. any_of (λ l. is_setting l.instr) fn.body) code.functions

-- an object that keeps each dead goroutine that reaches it: one with a finaliser, or a live one if the code sets
-- finalisers
abbrev pub prevents_removal : State → Bool → ℕ → Bool
prevents_removal s sets_finalisers o = has_finaliser s o || (sets_finalisers && has_object (live_list s) o)

-- the keep rule: a dead goroutine stays if its removal could let a finaliser run (this runtime's rule)
abbrev pub keeps : State → Bool → ℕ → Bool
keeps s sets_finalisers g = any_of (prevents_removal s sets_finalisers)
    (reach s (refs_of_goroutine (find g s.goroutines)))

-- the same as a relation: the goroutine reaches an object with a finaliser, or a live object if the code sets
-- finalisers
abbrev pub Keeps : State → Bool → ℕ → Type 0
Keeps s sets_finalisers g =
    (o : ℕ) × Reach s (refs_of_goroutine (find g s.goroutines)) o
    × (In o (keys s.finalisers) ⊎ ((sets_finalisers ≡ true) × Live s (Node.AnObject o)))

-- the dead goroutines that are not kept
abbrev pub unkept : State → Bool → List ℕ
unkept s sets_finalisers = filter (λ g. not (keeps s sets_finalisers g)) (dead s)

-- the dead goroutines that a collection removes
abbrev pub removed : State → Bool → Bool → List ℕ
removed s true sets_finalisers = unkept s sets_finalisers
removed s false sets_finalisers = []

-- the objects that a collection does not free: those reached without the removed goroutines, and those that had a
-- finaliser
abbrev pub retained : State → List ℕ → List ℕ
retained s gone = reach s (sources s gone) ++ keys s.finalisers

-- the same as a relation
abbrev pub Retained : State → List ℕ → ℕ → Type 0
Retained s gone o = Reach s (sources s gone) o ⊎ In o (keys s.finalisers)

-- the state with only those goroutines and objects that satisfy the tests
abbrev pub cut : (ℕ → Bool) → (ℕ → Bool) → State → State
cut stays kept s = record s { objects = only kept s.objects; goroutines = only stays s.goroutines }

-- the state without these goroutines and with only these objects
abbrev pub cut_to : List ℕ → List ℕ → State → State
cut_to gone kept s = cut (λ g. not (is_in g gone)) (λ o. is_in o kept) s

abbrev pub collect_without : List ℕ → State → State
collect_without gone s = cut_to gone (retained s gone) (plain_collect s)

-- the plain collection, and then the removed goroutines are gone and only retained objects are left
abbrev pub real_collect : State → Bool → Bool → State
real_collect s recover sets_finalisers = collect_without (removed s recover sets_finalisers) s
