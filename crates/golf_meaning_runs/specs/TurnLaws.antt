-- The laws of turns and meanings, as statements.
use Rattle.std.specs.Prelude.{◌≡◌, ℕ, ◌+◌, Bool, true, false, List, [], length, Option, ◌⊎◌, slice_get}
use Rattle.golf_data.specs.declared.value.Value.{Value}
use Rattle.golf_data.specs.declared.code.Code.{Code}
use Rattle.golf_data.specs.declared.code.CodeLine.{CodeLine}
use Rattle.golf_data.specs.declared.code.Instr.{Instr}
use Rattle.golf_data.specs.declared.code.SelectCase.{SelectCase}
use Rattle.golf_data.specs.declared.goroutine.Wait.{Wait}
use Rattle.golf_data.specs.Effects.{taken, cases_taken}
use Rattle.golf_theory.specs.Membership.{In}
use Rattle.golf_live.specs.Paths.{Needed}
use Rattle.golf_model.specs.State.{State}
use Rattle.golf_model.specs.Actors.{Actor}
use Rattle.golf_model.specs.Turn.{changes}
use Rattle.golf_meaning_flat.specs.Worlds.{World}
use Rattle.golf_meaning_flat.specs.InstructionEffects.{doing}
use Rattle.golf_meaning_flat.specs.Flat.{targets, exec}
use Rattle.golf_meaning_runs.specs.FlatSteps.{stepped, frame_of, is_inner, IsTurnStep}
use Rattle.golf_meaning_runs.specs.VisibleOutcomes.{split_from, ComesBy, ServedGoOn, Chooses, IsAwake}

-- the same number of slots, and the same values in the slots that are needed at a place
abbrev pub AlikeAt : List CodeLine → ℕ → List Value → List Value → Type 0
AlikeAt body at xs ys = (length xs ≡ length ys) × ((i : ℕ) → Needed body i at → slice_get xs i ≡ slice_get ys i)

abbrev pub NeededDecide : Type 0
NeededDecide = (gives : List Bool) (body : List CodeLine) (n at : ℕ) (xs ys operands : List Value) (w : World)
    → AlikeAt body at xs ys → exec gives body n at (record { slots = xs; operands = operands }) w ≡ exec gives body n at
    (record { slots = ys; operands = operands }) w

abbrev pub InnerTurns : Type 0
InnerTurns = (gives : List Bool) (code : Code) (i : Instr) (a : Actor) (choice : ℕ) (s : State) → is_inner i ≡ true
    → IsTurnStep a (λ w. stepped gives (doing gives i) a.frame.at (frame_of a.frame) w) (changes code i a choice s)

-- the place is the one after the instruction; a goroutine that waits is served to go on there
abbrev pub After : Actor → ℕ → Type 0
After a to = to ≡ a.frame.at + 1

abbrev pub WaitsAfter : Actor → ℕ → List Wait → Type 0
WaitsAfter a to ws = (to ≡ a.frame.at + 1) × ServedGoOn ws

-- the outcome of the turn of a visible instruction that has no targets
abbrev pub VisibleTurns : Type 0
VisibleTurns = (code : Code) (i : Instr) (a : Actor) (choice : ℕ) (s : State) → is_inner i ≡ false
    → ((cases : List SelectCase) (otherwise : Option ℕ) → i ≡ Instr.Select cases otherwise → ⊥) → IsAwake s a.number
    → ComesBy code s a i (After a) (WaitsAfter a) (split_from (taken i) [] a.frame.operands) (changes code i a choice s)

-- a goroutine that waits for a choice goes on at the target of a case; if it is at a target already, it goes on there
abbrev pub WaitsFor : List ℕ → ℕ → List Wait → Type 0
WaitsFor ts to ws = (In to ts × ServedGoOn ws) ⊎ Chooses ts ws

-- the outcome of the turn of a choice: it goes on at one of the targets
abbrev pub ChoosingTurns : Type 0
ChoosingTurns = (code : Code) (cases : List SelectCase) (otherwise : Option ℕ) (a : Actor) (choice : ℕ) (s : State)
    → IsAwake s a.number
    → ComesBy code s a (Instr.Select cases otherwise) (λ to. In to (targets cases otherwise))
    (WaitsFor (targets cases otherwise)) (split_from (cases_taken cases) [] a.frame.operands)
    (changes code (Instr.Select cases otherwise) a choice s)
