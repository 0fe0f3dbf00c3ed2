-- Turns that touch only the innermost frame.
use Rattle.std.specs.Prelude.{◌≡◌, ℕ, ◌+◌, Bool, false, not, ◌||◌, List, [], ◌∷◌, Some, None, slice_get}
use Rattle.golf_theory.specs.Maps.{find}
use Rattle.golf_data.specs.declared.value.Value.{Value}
use Rattle.golf_data.specs.declared.code.Code.{Code}
use Rattle.golf_data.specs.declared.code.Function.{Function}
use Rattle.golf_data.specs.declared.code.CodeLine.{CodeLine}
use Rattle.golf_data.specs.declared.goroutine.Leaving.{Leaving}
use Rattle.golf_data.specs.Slots.{cleared_slots}
use Rattle.golf_model.specs.Views.{FrameView}
use Rattle.golf_model.specs.State.{State, ending, not_empty, runnable}
use Rattle.golf_model.specs.Changes.{apply_all}
use Rattle.golf_model.specs.ClearedSlots.{stays_in, cleared, clearing}
use Rattle.golf_model.specs.Turn.{changes, is_collection, line_at, turn_of, goroutine_collects}
use Rattle.golf_state.specs.Looked.{frames_of}
use Rattle.golf_machine.specs.Within.{Becomes}
use Rattle.golf_machine.specs.declared.innermost_turns.InnerTurn.{InnerTurn}

-- a frame of this function that is not leaving, with its slots cleared
abbrev pub cleared_in : Function → FrameView → FrameView
cleared_in fn f = record f { slots = cleared_slots (stays_in Leaving.No (slice_get fn.live f.at)) f.slots }

-- The frame f is not leaving, and is at an instruction other than a collection. With these globals the instruction
-- makes it another frame, and h is that frame cleared.
pub record MovesFrame (code : Code) (globals : List Value) (f h : FrameView) : Type 0 where
  pub line : CodeLine
  pub frame : FrameView
  pub stays : f.leaving ≡ Leaving.No
  pub found : line_at code f.function f.at ≡ Some line
  pub plain : is_collection line.instr ≡ false
  pub does : (choice : ℕ) (s : State) → s.globals ≡ globals → Becomes (λ a. changes code line.instr a choice s) f frame
  pub clears : h ≡ cleared code frame

-- the frame is not leaving, is at this instruction, and `after` is the next place
abbrev pub IsAt : Code → FrameView → CodeLine → ℕ → Type 0
IsAt code f line after = (f.leaving ≡ Leaving.No) × (line_at code f.function f.at ≡ Some line) × (after ≡ f.at + 1)

-- the frame is leaving, or at no instruction
abbrev pub IsNowhere : Code → FrameView → Type 0
IsNowhere code f = f.leaving ≡ Leaving.No → line_at code f.function f.at ≡ None

-- `Over`: the frame took its turn. Otherwise the frame is unchanged, and is there.
abbrev pub HasTurnedInside : InnerTurn → Code → List Value → FrameView → FrameView → Type 0
HasTurnedInside InnerTurn.Over code globals f h = MovesFrame code globals f h
HasTurnedInside (InnerTurn.At line after) code globals f h = (h ≡ f) × IsAt code f line.now after
HasTurnedInside InnerTurn.Nowhere code globals f h = (h ≡ f) × IsNowhere code f

-- the same for the innermost of these frames
pub record MovesOnTop (code : Code) (globals : List Value) (fs hs : List FrameView) : Type 0 where
  pub first : FrameView
  pub next : FrameView
  pub callers : List FrameView
  pub were : fs ≡ first ∷ callers
  pub are : hs ≡ next ∷ callers
  pub moves : MovesFrame code globals first next

pub record IsAtTop (code : Code) (fs : List FrameView) (line : CodeLine) (after : ℕ) : Type 0 where
  pub frame : FrameView
  pub callers : List FrameView
  pub are : fs ≡ frame ∷ callers
  pub at : IsAt code frame line after

abbrev pub IsNowhereOnTop : Code → List FrameView → Type 0
IsNowhereOnTop code [] = Unit {0}
IsNowhereOnTop code (f ∷ fs) = IsNowhere code f

abbrev pub HasTurnedOnTop : InnerTurn → Code → List Value → List FrameView → List FrameView → Type 0
HasTurnedOnTop InnerTurn.Over code globals fs hs = MovesOnTop code globals fs hs
HasTurnedOnTop (InnerTurn.At line after) code globals fs hs = (hs ≡ fs) × IsAtTop code fs line.now after
HasTurnedOnTop InnerTurn.Nowhere code globals fs hs = (hs ≡ fs) × IsNowhereOnTop code fs

-- a frame takes its turn so once for each of these numbers
abbrev pub MoveInside : Code → List Value → List ℕ → FrameView → FrameView → Type 0
MoveInside code globals [] f h = h ≡ f
MoveInside code globals (c ∷ cs) f h = (k : FrameView) × MovesFrame code globals f k × MoveInside code globals cs k h

-- the innermost frame takes its turn so once for each of these numbers
abbrev pub MoveEach : Code → List Value → List ℕ → List FrameView → List FrameView → Type 0
MoveEach code globals [] fs hs = hs ≡ fs
MoveEach code globals (c ∷ cs) fs hs = (ks : List FrameView) × MovesOnTop code globals fs ks
    × MoveEach code globals cs ks hs

-- the state after the turn of a goroutine that runs, before slots are cleared
abbrev pub acted : Code → ℕ → ℕ → State → State
acted code g choice s = apply_all (turn_of code g choice s (find g s.goroutines)) s

-- whether no slots are cleared after the turn: its instruction is a collection, or no rule fits
abbrev pub keeps_all : Code → ℕ → ℕ → State → Bool
keeps_all code g choice s = goroutine_collects code (find g s.goroutines)
    || not (not_empty (turn_of code g choice s (find g s.goroutines)))

abbrev pub taken : Code → ℕ → ℕ → State → State
taken code g choice s = apply_all (clearing code (keeps_all code g choice s) (Some g) (acted code g choice s))
    (acted code g choice s)

-- `Over`: the goroutine took its turn, which is no collection and ends no program, and is the same for all choices.
-- Who can run and the output stay the same.
-- Otherwise the state is unchanged.
abbrev pub HasTakenTurn : InnerTurn → Code → ℕ → State → State → Type 0
HasTakenTurn InnerTurn.Over code g s t = (goroutine_collects code (find g s.goroutines) ≡ false)
    × ((choice : ℕ) → t ≡ taken code g choice s) × (ending t ≡ ending s)
    × (runnable t ≡ runnable s) × (t.output ≡ s.output)
HasTakenTurn (InnerTurn.At line after) code g s t = (t ≡ s) × IsAtTop code (frames_of g s) line.now after
HasTakenTurn InnerTurn.Nowhere code g s t = (t ≡ s) × IsNowhereOnTop code (frames_of g s)
