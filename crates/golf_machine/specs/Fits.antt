-- The meaning of the outcomes of instructions.
use Rattle.std.specs.Prelude.{◌≡◌, ℕ, Bool, true, false, List}
use Rattle.golf_theory.specs.Maps.{find}
use Rattle.golf_data.specs.declared.goroutine.PanicKind.{PanicKind}
use Rattle.golf_model.specs.State.{State, not_empty}
use Rattle.golf_model.specs.Changes.{Change}
use Rattle.golf_model.specs.Actors.{Actor}
use Rattle.golf_state.specs.declared.outcome.Outcome.{Outcome}
use Rattle.golf_state.specs.ActorChanges.{does, does_by}
use Rattle.golf_state.specs.Outcomes.{faults}
use Rattle.golf_machine.specs.declared.within.Within.{Within}

-- a rule fits
abbrev pub is_fit : Outcome → Bool
is_fit Outcome.Done = true
is_fit Outcome.Blocked = true
is_fit (Outcome.Panic kind) = true
is_fit Outcome.Stuck = false

-- the outcome of an instruction on the innermost frame
abbrev pub outcome_in : Within → Outcome
outcome_in Within.Done = Outcome.Done
outcome_in Within.ZeroDivisor = Outcome.Panic PanicKind.DivideByZero
outcome_in Within.Stuck = Outcome.Stuck
outcome_in Within.Beyond = Outcome.Stuck

-- The state after this outcome. `Done` and `Blocked`: the changes are made. `Panic`: the state is unchanged, and the
-- changes are those of the fault. `Stuck`: the state is unchanged, since no rule fits.
abbrev pub Ends : Outcome → (Actor → List Change) → ℕ → ℕ → State → State → Type 0
Ends Outcome.Done act g line old new = new ≡ does act g line old
Ends Outcome.Blocked act g line old new = new ≡ does act g line old
Ends (Outcome.Panic kind) act g line old new = (new ≡ old)
    × (does act g line old ≡ does (λ a. faults a kind) g line old)
Ends Outcome.Stuck act g line old new = new ≡ old

-- an instruction with these changes has this outcome; a rule fits exactly when there are changes
abbrev pub Fits : Outcome → (Actor → List Change) → ℕ → ℕ → State → State → Type 0
Fits outcome act g line old new = Ends outcome act g line old new
    × (is_fit outcome ≡ not_empty (does_by act g line (find g old.goroutines)))
