-- The meaning of the outcomes of operations.
use Rattle.std.specs.Prelude.{◌≡◌, ℕ, Bool, true, false, cond, List, [], ◌∷◌}
use Rattle.golf_theory.specs.Maps.{find}
use Rattle.golf_data.specs.declared.goroutine.Ending.{Ending}
use Rattle.golf_data.specs.declared.goroutine.Leaving.{Leaving}
use Rattle.golf_data.specs.declared.goroutine.PanicKind.{PanicKind}
use Rattle.golf_data.specs.Fatal.{is_fatal}
use Rattle.golf_model.specs.Views.{FrameView}
use Rattle.golf_model.specs.State.{State}
use Rattle.golf_model.specs.Changes.{Change}
use Rattle.golf_model.specs.Actors.{Actor, panics, dies, choose}
use Rattle.golf_state.specs.declared.outcome.Outcome.{Outcome}
use Rattle.golf_state.specs.Looked.{runs, is_blocked, frames_of}
use Rattle.golf_state.specs.ActorChanges.{does, does_by, Stands}

-- a fatal error ends the program at once; a panic unwinds
abbrev pub faults : Actor → PanicKind → List Change
faults a kind = choose (is_fatal kind) (dies a kind) (panics a kind)

-- if the outcome is a panic, the goroutine is still at its instruction
abbrev pub StandsToFault : Outcome → ℕ → ℕ → State → Type 0
StandsToFault Outcome.Done g after s = Unit {0}
StandsToFault Outcome.Blocked g after s = Unit {0}
StandsToFault (Outcome.Panic kind) g after s = Stands g after s
StandsToFault Outcome.Stuck g after s = Unit {0}

-- the state after the rest of an outcome is carried out
abbrev pub carries : Outcome → ℕ → ℕ → State → State
carries Outcome.Done g line s = s
carries Outcome.Blocked g line s = s
carries (Outcome.Panic kind) g line s = does (λ a. faults a kind) g line s
carries Outcome.Stuck g line s = s

-- a frame that unwinds panics, and any other frame goes on
abbrev pub frame_outcome : Leaving → Outcome
frame_outcome Leaving.No = Outcome.Done
frame_outcome (Leaving.Returning v) = Outcome.Done
frame_outcome (Leaving.Unwinding x) = Outcome.Panic x.kind

abbrev pub frames_outcome : List FrameView → Outcome
frames_outcome [] = Outcome.Done
frames_outcome (f ∷ fs) = frame_outcome f.leaving

-- a fatal error ends the program
abbrev pub ending_outcome : Ending → Outcome
ending_outcome Ending.Returned = Outcome.Done
ending_outcome (Ending.Panicked kind g line) = Outcome.Panic kind
ending_outcome Ending.Asleep = Outcome.Done

-- whether a goroutine blocks; it is the one whose turn it is
abbrev pub has_block : List Change → Bool
has_block [] = false
has_block (Change.Block g kind line waits r ∷ cs) = true
has_block (_ ∷ cs) = has_block cs

-- the outcome by the first change that ends the program or lets a goroutine go on; that one is the goroutine whose turn
-- it is
abbrev pub goes_as : List Change → Outcome
goes_as [] = Outcome.Done
goes_as (Change.Finish e ∷ cs) = ending_outcome e
goes_as (Change.Become g r ∷ cs) = frames_outcome r.frames
goes_as (_ ∷ cs) = goes_as cs

-- the outcome of an operation with these changes; without a change no rule fits
abbrev pub outcome_of : List Change → Outcome
outcome_of [] = Outcome.Stuck
outcome_of (c ∷ cs) = cond (has_block (c ∷ cs)) Outcome.Blocked (goes_as (c ∷ cs))

-- The state after this outcome. `Done`: the changes are made, and the goroutine runs. `Blocked`: they are made, and it
-- is blocked. `Panic`: the state is unchanged, and the changes are those of the fault. `Stuck`: no rule fits.
abbrev pub Leaves : Outcome → (Actor → List Change) → ℕ → ℕ → State → State → Type 0
Leaves Outcome.Done act g line old new = (new ≡ does act g line old) × (runs g new ≡ true)
Leaves Outcome.Blocked act g line old new = (new ≡ does act g line old) × (is_blocked g new ≡ true)
Leaves (Outcome.Panic kind) act g line old new = (new ≡ old)
    × (does act g line old ≡ does (λ a. faults a kind) g line old)
Leaves Outcome.Stuck act g line old new = (new ≡ old) × (does act g line old ≡ old)

-- the innermost frame of these is not leaving
abbrev pub StaysIn : List FrameView → Type 0
StaysIn [] = Unit {0}
StaysIn (f ∷ fs) = f.leaving ≡ Leaving.No

-- An operation with these changes has this outcome. If the goroutine's innermost frame was not leaving, it is exactly
-- the outcome of these changes.
abbrev pub Comes : Outcome → (Actor → List Change) → ℕ → ℕ → State → State → Type 0
Comes outcome act g line old new = Leaves outcome act g line old new
    × (StaysIn (frames_of g old) → outcome_of (does_by act g line (find g old.goroutines)) ≡ outcome)
