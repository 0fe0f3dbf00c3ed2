-- The life of a call: the operations that it has shown, and the answers that it got.
use Rattle.std.specs.Prelude.{◌≡◌, ℕ, ◌-◌, pos, Bool, List, [], ◌∷◌, ◌++◌, length, replicate, Some, slice_get, Option}
use Rattle.golf_data.specs.declared.value.Value.{Value}
use Rattle.golf_data.specs.declared.code.CodeLine.{CodeLine}
use Rattle.golf_data.specs.declared.code.Function.{Function}
use Rattle.golf_meaning_flat.specs.Worlds.{Operation, Answer, Halt, End, Told, World}
use Rattle.golf_meaning_flat.specs.InstructionEffects.{Frame, doing}
use Rattle.golf_meaning_flat.specs.Flat.{exec}
use Rattle.golf_meaning_runs.specs.FlatSteps.{Stepped, stepped}
use Rattle.golf_meaning_runs.specs.TurnLaws.{AlikeAt}
use Rattle.golf_meaning_runs.specs.FrameShapes.{Shaping, IsShaped, giving_by}

-- the answers that are left, and the operations that were shown
abbrev pub world : List Answer → List Operation → World
world answers operations = record { answers = answers; operations = operations }

abbrev pub frame : List Value → List Value → Frame
frame slots operands = record { slots = slots; operands = operands }

-- a call is at a place; or it waits for the answer to the operation at a place, and `before` has the operations shown
-- before that one; or it has halted
pub data Now : Type 0 where
  Stands : (at : ℕ) (c : Frame) → Now
  Asks : (at : ℕ) (c : Frame) (before : List Operation) → Now
  Halted : (h : Halt) → Now

-- the slots of a call before its first instruction: the arguments, and 0 in the others (this runtime's rule)
abbrev pub first_slots : Function → List Value → List Value
first_slots fn arguments = arguments ++ replicate (fn.slots - length arguments) (Value.Int (pos 0))

-- The operations that a call of a function with these arguments has shown, its answers, and where it is now. Its frame
-- has the shape of its place whenever it shows an operation, and whenever it goes on after an answer.
pub data Life (fn : Function) (shaping : Option Shaping) (arguments : List Value) : List Operation → List Answer → Now
    → Type 0 where
  -- the call begins, with as many arguments as the function has parameters
  Begins : length arguments ≡ fn.params → Life fn shaping arguments [] []
      (Now.Stands 0 (frame (first_slots fn arguments) []))
  -- an instruction shows nothing
  Turns : {os : List Operation} {got : List Answer} {at : ℕ} {c : Frame} (l : CodeLine) (to : ℕ) (d : Frame)
      → Life fn shaping arguments os got (Now.Stands at c) → slice_get fn.body at ≡ Some l
      → ((w : World) → stepped (giving_by shaping) (doing (giving_by shaping) l.instr) at c w ≡ Stepped.Goes to d w)
      → Life fn shaping arguments os got (Now.Stands to d)
  -- slots that are not needed are cleared
  Clears : {os : List Operation} {got : List Answer} {at : ℕ} {c : Frame} (slots : List Value)
      → Life fn shaping arguments os got (Now.Stands at c) → AlikeAt fn.body at c.slots slots
      → Life fn shaping arguments os got (Now.Stands at (frame slots c.operands))
  -- an operation is shown
  Shows : {os : List Operation} {got : List Answer} {at : ℕ} {c : Frame} (l : CodeLine) (o : Operation)
      → Life fn shaping arguments os got (Now.Stands at c) → IsShaped shaping at c → slice_get fn.body at ≡ Some l
      → stepped (giving_by shaping) (doing (giving_by shaping) l.instr) at c (world [] os) ≡ Stepped.Halts Halt.Waits
      (os ++ o ∷ []) → Life fn shaping arguments (os ++ o ∷ []) got (Now.Asks at c os)
  -- an operation is answered
  Answered : {os before : List Operation} {got : List Answer} {at : ℕ} {c : Frame} (l : CodeLine) (a : Answer) (to : ℕ)
      (d : Frame) → Life fn shaping arguments os got (Now.Asks at c before) → IsShaped shaping to d
      → slice_get fn.body at ≡ Some l
      → ((later : List Answer) → stepped (giving_by shaping) (doing (giving_by shaping) l.instr) at c
      (world (a ∷ later) before) ≡ Stepped.Goes to d (world later os))
      → Life fn shaping arguments os (got ++ a ∷ []) (Now.Stands to d)
  -- the call returns, or divides by zero
  Halts : {os : List Operation} {got : List Answer} {at : ℕ} {c : Frame} (l : CodeLine) (h : Halt)
      → Life fn shaping arguments os got (Now.Stands at c) → slice_get fn.body at ≡ Some l
      → ((w : World) → stepped (giving_by shaping) (doing (giving_by shaping) l.instr) at c w
      ≡ Stepped.Halts h w.operations) → Life fn shaping arguments os got (Now.Halted h)

-- the meaning of the code of a call; `gives` says which functions give a value
abbrev pub call_means : List Bool → Function → List Value → List Answer → ℕ → Told
call_means gives fn arguments answers n =
    exec gives fn.body n 0 (frame (first_slots fn arguments) []) (world answers [])

-- with the answers that it got, the code means the operations that the call has shown; after some number of
-- instructions it is still running, waits at its last operation, or ends as the call has
abbrev pub HasShown : List Bool → Function → List Value → List Operation → List Answer → Now → Type 0
HasShown gives fn arguments os got (Now.Stands at c) = (n : ℕ)
    × (call_means gives fn arguments got n ≡ record { operations = os; end = End.Short })
HasShown gives fn arguments os got (Now.Asks at c before) = (n : ℕ)
    × (call_means gives fn arguments got n ≡ record { operations = os; end = End.Halts Halt.Waits })
HasShown gives fn arguments os got (Now.Halted h) = (n : ℕ)
    × (call_means gives fn arguments got n ≡ record { operations = os; end = End.Halts h })

abbrev pub LivesMean : Type 0
LivesMean = (fn : Function) (shaping : Option Shaping) (arguments : List Value) (os : List Operation)
    (got : List Answer) (now : Now) → Life fn shaping arguments os got now
    → HasShown (giving_by shaping) fn arguments os got now
