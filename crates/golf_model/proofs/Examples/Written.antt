-- States written by hand, which no short run leads to.
use Rattle.std.specs.Prelude.{◌≡◌, ℕ, List, [], ◌∷◌, length, replicate, Some, None, option_map, refl, true, false, pos}
use Rattle.golf_theory.specs.Maps.{find}
use Rattle.golf_data.specs.declared.value.Value.{Value}
use Rattle.golf_data.specs.declared.value.Object.{Object}
use Rattle.golf_data.specs.declared.code.CaseKind.{CaseKind}
use Rattle.golf_data.specs.declared.code.Instr.{Instr}
use Rattle.golf_data.specs.declared.goroutine.Leaving.{Leaving}
use Rattle.golf_data.specs.declared.goroutine.Mode.{Mode}
use Rattle.golf_data.specs.declared.goroutine.PanicKind.{PanicKind}
use Rattle.golf_data.specs.declared.goroutine.Side.{Side}
use Rattle.golf_data.specs.declared.goroutine.WaitKind.{WaitKind}
use Rattle.golf_model.specs.Views.{FrameView, GoroutineView}
use Rattle.golf_model.specs.Values.{reference}
use Rattle.golf_model.specs.State.{State, ending, runnable}
use Rattle.golf_model.specs.Waiters.{bare_wait}
use Rattle.golf_model.specs.Wakes.{fault}
use Rattle.golf_model.specs.Changes.{Change}
use Rattle.golf_model.specs.Turn.{turn_changes, whose_turn, step}
use Rattle.golf_model.proofs.Examples.Writing.{straight, case, panicked}

-- a frame of function 0 at its first instruction, with these operands
abbrev frame : List Value → FrameView
frame operands = record {
  function = 0;
  at = 0;
  slots = [];
  operands = operands;
  deferred = [];
  leaving = Leaving.No;
  discards = true;
}

-- goroutine 1 runs with these frames, beside these goroutines
abbrev written : List (ℕ × Object) → List FrameView → List (ℕ × GoroutineView) → State
written objects frames others = record {
  globals = [];
  objects = objects;
  finalisers = [];
  goroutines = (0, record { frames = []; mode = Mode.Running; started = 0 })
      ∷ (1, record { frames = frames; mode = Mode.Running; started = 1 }) ∷ others;
  queue = [];
  output = [];
  last_object = 2;
  next_goroutine = 4;
  next_ticket = 2;
  recorded = None;
}

-- so many readers hold a reader and writer mutex, and one more wants it
abbrev readers : ℕ → State
readers n = written ((1, Object.Rw (pos n)) ∷ []) (frame (reference 1 ∷ []) ∷ []) []

pub last_reader : find 1 (step (straight (Instr.ReadLock ∷ [])) (readers 1073741822) 0).objects ≡ Some
    (Object.Rw (pos 1073741823))
last_reader = refl

pub reader_limit : ending (step (straight (Instr.ReadLock ∷ [])) (readers 1073741823) 0) ≡ Some
    (panicked PanicKind.ReaderLimit 1 1)
reader_limit = refl

-- a goroutine with so many frames below this one
abbrev deep : FrameView → ℕ → State
deep f n = written [] (f ∷ replicate n (frame [])) []

-- a goroutine has at most 10,000 frames
pub last_frame : option_map (λ r. length r.frames)
    (find 1 (step (straight (Instr.Call 0 0 ∷ [])) (deep (frame []) 9998) 0).goroutines) ≡ Some 10000
last_frame = refl

pub stack_overflow : ending (step (straight (Instr.Call 0 0 ∷ [])) (deep (frame []) 9999) 0) ≡ Some
    (panicked PanicKind.StackOverflow 1 1)
stack_overflow = refl

-- one by a deferred call has the line of the return, or of the fault
abbrev leaving_frame : Leaving → FrameView
leaving_frame leaving = record {
  function = 0;
  at = 2;
  slots = [];
  operands = [];
  deferred = record { function = 0; arguments = [] } ∷ [];
  leaving = leaving;
  discards = true;
}

pub overflow_at_return : ending (step (straight (Instr.Collect ∷ Instr.Return ∷ []))
    (deep (leaving_frame (Leaving.Returning None)) 9999) 0) ≡ Some (panicked PanicKind.StackOverflow 1 2)
overflow_at_return = refl

pub overflow_after_return : ending (step (straight (Instr.Collect ∷ Instr.Return ∷ []))
    (step (straight (Instr.Collect ∷ Instr.Return ∷ [])) (deep (record (leaving_frame Leaving.No) { at = 1 }) 9999) 0)
    0) ≡ Some (panicked PanicKind.StackOverflow 1 2)
overflow_after_return = refl

pub overflow_at_fault : ending (step (straight (Instr.Collect ∷ Instr.Return ∷ []))
    (deep (leaving_frame (Leaving.Unwinding (fault PanicKind.NilPointer 7))) 9999) 0) ≡ Some
    (panicked PanicKind.StackOverflow 1 7)
overflow_at_fault = refl

-- goroutines 2 and 3 wait on the condition of object 1, goroutine 3 with the earlier ticket
abbrev waits_on_condition : ℕ → GoroutineView
waits_on_condition ticket = record {
  frames = frame [] ∷ [];
  mode = Mode.Blocked WaitKind.Condition 7 (bare_wait 1 Side.Cond ∷ []) ticket;
  started = 5;
}

abbrev notifying : Value → Object → State
notifying mutex x = written ((1, Object.Cond mutex) ∷ (2, x) ∷ []) (frame (reference 1 ∷ []) ∷ [])
    ((2, waits_on_condition 1) ∷ (3, waits_on_condition 0) ∷ [])

abbrev changes_by : Instr → State → List Change
changes_by i s = turn_changes (straight (i ∷ [])) 0 s (whose_turn s 0)

-- a reference to what is not there
pub select_on_nothing : changes_by (Instr.Select (case CaseKind.Take 0 ∷ []) (Some 0))
    (written [] (frame (reference 1 ∷ []) ∷ []) []) ≡ []
select_on_nothing = refl

-- who waits on a condition cannot be passed on to nil, nor to what is no mutex
pub signal_to_nil : changes_by Instr.CondSignal (notifying Value.Nil (Object.Mutex false)) ≡ []
signal_to_nil = refl

pub signal_to_group : changes_by Instr.CondSignal (notifying (reference 2) (Object.Group (pos 0))) ≡ []
signal_to_group = refl

pub broadcast_to_nil : changes_by Instr.CondBroadcast (notifying Value.Nil (Object.Mutex false)) ≡ []
broadcast_to_nil = refl

pub broadcast_to_group : changes_by Instr.CondBroadcast (notifying (reference 2) (Object.Group (pos 0))) ≡ []
broadcast_to_group = refl

-- but to a mutex
pub signal_to_mutex : runnable (step (straight (Instr.CondSignal ∷ []))
    (notifying (reference 2) (Object.Mutex false)) 0) ≡ 1 ∷ 3 ∷ []
signal_to_mutex = refl

-- a wait on a mutex that is held stays a wait, and is not for the condition
pub broadcast_to_held_mutex : option_map (λ r. r.mode)
    (find 2 (step (straight (Instr.CondBroadcast ∷ [])) (notifying (reference 2) (Object.Mutex true)) 0).goroutines)
    ≡ Some (Mode.Blocked WaitKind.Condition 7 (bare_wait 2 Side.Lock ∷ []) 3)
broadcast_to_held_mutex = refl
