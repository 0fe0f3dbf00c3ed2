-- Frame-local turns: they change only the frames of their own goroutine, and the output. They read nothing but these
-- frames.
use Rattle.std.specs.Prelude.{◌≡◌, ℕ, Bool, true, false, not, ◌||◌, List, [], ◌∷◌, Option, Some, None, ◌⊎◌}
use Rattle.golf_theory.specs.Maps.{find, IsRising}
use Rattle.golf_data.specs.declared.code.Code.{Code}
use Rattle.golf_data.specs.declared.code.Instr.{Instr}
use Rattle.golf_data.specs.declared.code.CodeLine.{CodeLine}
use Rattle.golf_data.specs.declared.goroutine.Deferred.{Deferred}
use Rattle.golf_data.specs.declared.goroutine.Leaving.{Leaving}
use Rattle.golf_data.specs.declared.goroutine.Mode.{Mode}
use Rattle.golf_model.specs.Views.{FrameView, GoroutineView}
use Rattle.golf_model.specs.State.{State, runnable, not_empty}
use Rattle.golf_model.specs.Changes.{Change, become, apply}
use Rattle.golf_model.specs.Actors.{Actor, with_frames}
use Rattle.golf_model.specs.Calls.{is_full}
use Rattle.golf_model.specs.Turn.{line_at, changes, whose_turn, step}
use Rattle.golf_explore_laws.specs.After.{silent, after}

-- constants, slots, operands, arithmetic, comparisons, jumps, deferring a call, prints, and panics
abbrev pub is_local : Instr → Bool
is_local (Instr.Int n) = true
is_local (Instr.Bool b) = true
is_local (Instr.Text k) = true
is_local Instr.Unit = true
is_local Instr.Nil = true
is_local (Instr.Load i) = true
is_local (Instr.Store i) = true
is_local Instr.Drop = true
is_local Instr.Dup = true
is_local Instr.Dup2 = true
is_local Instr.Neg = true
is_local Instr.Not = true
is_local Instr.Add = true
is_local Instr.Sub = true
is_local Instr.Mul = true
is_local Instr.Div = true
is_local Instr.Rem = true
is_local Instr.Eq = true
is_local Instr.Less = true
is_local Instr.AtMost = true
is_local (Instr.Jump target) = true
is_local (Instr.JumpIfNot target) = true
is_local (Instr.Defer f n) = true
is_local (Instr.Print n) = true
is_local Instr.Panic = true
is_local _ = false

-- calls that do not overflow the stack, and returns after which the goroutine still has a frame
abbrev pub moves_frames : Instr → FrameView → List FrameView → Bool
moves_frames (Instr.Call g n) f callers = not (is_full (f ∷ callers))
moves_frames Instr.Return f callers = not_empty f.deferred || not_empty callers
moves_frames Instr.ReturnValue f callers = not_empty f.deferred || not_empty callers
moves_frames _ f callers = false

-- the instruction is frame-local for a goroutine with this innermost frame and these callers
abbrev pub instr_is_local : Instr → FrameView → List FrameView → Bool
instr_is_local i f callers = is_local i || moves_frames i f callers

abbrev pub line_is_local : Option CodeLine → FrameView → List FrameView → Bool
line_is_local None f callers = false
line_is_local (Some l) f callers = instr_is_local l.instr f callers

-- a frame that is leaving begins a deferred call that does not overflow the stack, or a caller goes on
abbrev pub leaving_is_local : List Deferred → FrameView → List FrameView → Bool
leaving_is_local [] f callers = not_empty callers
leaving_is_local (d ∷ ds) f callers = not (is_full (f ∷ callers))

-- the next turn of a goroutine with this innermost frame and these callers is frame-local
abbrev pub frame_is_local : Code → FrameView → List FrameView → Leaving → Bool
frame_is_local code f callers Leaving.No = line_is_local (line_at code f.function f.at) f callers
frame_is_local code f callers (Leaving.Returning v) = leaving_is_local f.deferred f callers
frame_is_local code f callers (Leaving.Unwinding x) = leaving_is_local f.deferred f callers

-- the changes, and before them the output of this text, if there is one
abbrev pub printing : Option (List ℕ) → List Change → List Change
printing None cs = cs
printing (Some bytes) cs = Change.Output bytes ∷ cs

-- no rule fits, or the goroutine prints at most, and goes on with these frames
abbrev pub StandsAlone : Actor → List Change → Type 0
StandsAlone a cs = (cs ≡ [])
    ⊎ ((text : Option (List ℕ)) × (f : FrameView) × (fs : List FrameView)
    × (cs ≡ printing text (Change.Become a.number (with_frames a (f ∷ fs)) ∷ [])))

-- a frame-local instruction has the same changes in each state and with each choice, and they change only its
-- goroutine's frames, and the output
abbrev pub LocalInstructions : Type 0
LocalInstructions = (code : Code) (i : Instr) (a : Actor) → instr_is_local i a.frame a.callers ≡ true
    → (choice other : ℕ) (s t : State)
    → (changes code i a choice s ≡ changes code i a other t) × StandsAlone a (changes code i a choice s)

-- ---- turns

-- the goroutine runs, and its next turn is frame-local
pub record IsLocal (code : Code) (r : GoroutineView) : Type 0 where
  pub runs : r.mode ≡ Mode.Running
  pub frame : FrameView
  pub callers : List FrameView
  pub frames : r.frames ≡ frame ∷ callers
  pub local : frame_is_local code frame callers frame.leaving ≡ true

-- the goroutine becomes this one; or nothing changes
abbrev pub becomes : ℕ → Option GoroutineView → State → State
becomes g None s = s
becomes g (Some r) s = become g r s

-- the frame-local turn of a goroutine has one outcome, output apart, whatever the state and the choice; it runs after
-- the turn, and the same goroutines can run after it
pub record HasLocalTurn (code : Code) (g : ℕ) (r : GoroutineView) : Type 0 where
  pub after : Option GoroutineView
  pub runs : (q : GoroutineView) → after ≡ Some q → q.mode ≡ Mode.Running
  pub steps : (s : State) (c : ℕ) → whose_turn s c ≡ Some g → find g s.goroutines ≡ Some r
      → silent (step code s c) ≡ becomes g after (silent s)
  pub same : (s : State) → IsRising s.goroutines → find g s.goroutines ≡ Some r
      → runnable (becomes g after s) ≡ runnable s

abbrev pub LocalTurns : Type 0
LocalTurns = (code : Code) (g : ℕ) (r : GoroutineView) → IsLocal code r → HasLocalTurn code g r

-- ---- turns one after another

-- the turn of this number is of a goroutine at a frame-local instruction
pub record IsLocalTurn (code : Code) (s : State) (number : ℕ) : Type 0 where
  pub g : ℕ
  pub r : GoroutineView
  pub whose : whose_turn s number ≡ Some g
  pub found : find g s.goroutines ≡ Some r
  pub local : IsLocal code r

-- each of these turns, one after another, is frame-local
abbrev pub AreLocalTurns : Code → State → List ℕ → Type 0
AreLocalTurns code s [] = Unit {0}
AreLocalTurns code s (n ∷ ns) = IsLocalTurn code s n × AreLocalTurns code (after code s n) ns

-- ---- changes of other turns

-- the change is a change of the goroutine of this number
abbrev pub IsChangeOf : ℕ → Change → Type 0
IsChangeOf g (Change.Become k r) = k ≡ g
IsChangeOf g (Change.Block k kind line waits r) = k ≡ g
IsChangeOf g (Change.Requeue k m) = k ≡ g
IsChangeOf g _ = ⊥

-- the new entry of a goroutine that runs can be exchanged with a change that is not of this goroutine and does not give
-- its number
abbrev pub LocalChangesCommute : Type 0
LocalChangesCommute = (change : Change) (g : ℕ) (r : GoroutineView) (s : State) → r.mode ≡ Mode.Running
    → (IsChangeOf g change → ⊥) → (g ≡ s.next_goroutine → ⊥) → apply change (become g r s) ≡ become g r (apply change s)
