-- One step of the meaning of flat code.
use Rattle.std.specs.Prelude.{◌≡◌, ℕ, ◌+◌, Bool, true, false, cond, List, [], Option}
use Rattle.golf_data.specs.declared.value.Value.{Value}
use Rattle.golf_data.specs.declared.code.Instr.{Instr}
use Rattle.golf_data.specs.declared.goroutine.PanicKind.{PanicKind}
use Rattle.golf_model.specs.Views.{FrameView}
use Rattle.golf_model.specs.Changes.{Change}
use Rattle.golf_model.specs.Actors.{Actor, stands, panics}
use Rattle.golf_model.specs.Calls.{returns_by}
use Rattle.golf_meaning_flat.specs.Worlds.{Operation, Misfit, Halt, Told, World, Part, halted}
use Rattle.golf_meaning_flat.specs.InstructionEffects.{Frame, Doing}
use Rattle.golf_meaning_flat.specs.Flat.{targets, lower, picks, tests, Next}

-- the code goes on at a place, or halts
pub data Stepped : Type 0 where
  Goes : (at : ℕ) (c : Frame) (w : World) → Stepped
  Halts : (h : Halt) (os : List Operation) → Stepped

abbrev pub stepped_by : {A : Type 0} → Part A → (A → World → Stepped) → Stepped
stepped_by (Part.Gives a w) f = f a w
stepped_by (Part.Stops h os) f = Stepped.Halts h os

abbrev pub stepped : List Bool → Doing → ℕ → Frame → World → Stepped
stepped gives (Doing.Acts f) at c w = stepped_by (f c w) (λ d u. Stepped.Goes (at + 1) d u)
stepped gives (Doing.Jumps t) at c w = Stepped.Goes t c w
stepped gives (Doing.Tests t) at c w = stepped_by (tests c w) (λ r u. Stepped.Goes (cond r.0 (at + 1) t) r.1 u)
stepped gives (Doing.Chooses cs o) at c w =
    stepped_by (picks gives (lower (targets cs o)) cs o c w) (λ r u. Stepped.Goes r.0 r.1 u)

abbrev pub then_next : Stepped → Next → Told
then_next (Stepped.Goes at c w) next = next at c w
then_next (Stepped.Halts h os) next = halted h os

-- the slots and operands of a frame
abbrev pub frame_of : FrameView → Frame
frame_of f = record { slots = f.slots; operands = f.operands }

-- whether an instruction shows nothing
abbrev pub is_inner : Instr → Bool
is_inner (Instr.Int n) = true
is_inner (Instr.Bool b) = true
is_inner (Instr.Text k) = true
is_inner Instr.Unit = true
is_inner Instr.Nil = true
is_inner (Instr.Load i) = true
is_inner (Instr.Store i) = true
is_inner Instr.Drop = true
is_inner Instr.Dup = true
is_inner Instr.Dup2 = true
is_inner Instr.Neg = true
is_inner Instr.Not = true
is_inner Instr.Add = true
is_inner Instr.Sub = true
is_inner Instr.Mul = true
is_inner Instr.Div = true
is_inner Instr.Rem = true
is_inner Instr.Eq = true
is_inner Instr.Less = true
is_inner Instr.AtMost = true
is_inner (Instr.Jump t) = true
is_inner (Instr.JumpIfNot t) = true
is_inner Instr.Return = true
is_inner Instr.ReturnValue = true
is_inner i = false

-- The changes of a turn are what the step says in every world, and nothing is shown: the frame goes on, it returns a
-- value, it panics at a zero divisor, or no rule fits.
pub data IsTurnStep (a : Actor) (step : World → Stepped) (cs : List Change) : Type 0 where
  GoesOn : (to : ℕ) (d : Frame) → ((w : World) → step w ≡ Stepped.Goes to d w)
      → cs ≡ stands a (record a.frame { at = to; slots = d.slots; operands = d.operands }) → IsTurnStep a step cs
  Returns : (v : Option Value) (rest : List Value)
      → ((w : World) → step w ≡ Stepped.Halts (Halt.Returned v) w.operations)
      → cs ≡ returns_by a v rest a.frame.deferred → IsTurnStep a step cs
  Divides : ((w : World) → step w ≡ Stepped.Halts Halt.Divided w.operations) → cs ≡ panics a PanicKind.DivideByZero
      → IsTurnStep a step cs
  NoRule : (of : Misfit) → ((w : World) → step w ≡ Stepped.Halts (Halt.Unfit of) w.operations) → cs ≡ []
      → IsTurnStep a step cs
