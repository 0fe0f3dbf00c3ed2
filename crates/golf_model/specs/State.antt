-- The state of the plain machine: which goroutines can run, how a run has ended, and where it begins. The remark "this
-- runtime's rule" marks a rule that is this runtime's own, because Go's documents leave a choice or say nothing.
use Rattle.std.specs.Prelude.{ℕ, ◌-◌, Bool, true, false, not, ◌&&◌, ◌||◌, pos, List, [], ◌∷◌, ◌++◌, length, replicate}
use Rattle.std.specs.Prelude.{Option, Some, None, option_map, option_to_list, ◌==◌, slice_get}
use Rattle.golf_theory.specs.Maps.{keys_where}
use Rattle.golf_data.specs.declared.value.Value.{Value}
use Rattle.golf_data.specs.declared.value.Object.{Object}
use Rattle.golf_data.specs.declared.code.Code.{Code}
use Rattle.golf_data.specs.declared.code.Function.{Function}
use Rattle.golf_data.specs.declared.goroutine.Ending.{Ending}
use Rattle.golf_data.specs.declared.goroutine.Leaving.{Leaving}
use Rattle.golf_data.specs.declared.goroutine.Mode.{Mode}
use Rattle.golf_data.specs.declared.goroutine.Queued.{Queued}
use Rattle.golf_model.specs.Views.{FrameView, GoroutineView}
use Rattle.golf_model.specs.Values.{zeros_of}
use Rattle.golf_data.specs.Masks.{stays_under}
use Rattle.golf_data.specs.Slots.{cleared_slots}

-- everything on which a run depends; the three maps have their entries in rising order of number, and goroutine 0
-- always exists
pub record State : Type 0 where
  pub globals : List Value
  pub objects : List (ℕ × Object)
  pub finalisers : List (ℕ × ℕ)
  pub goroutines : List (ℕ × GoroutineView)
  pub queue : List Queued
  pub output : List ℕ
  pub last_object : ℕ
  pub next_goroutine : ℕ
  pub next_ticket : ℕ
  pub recorded : Option Ending

abbrev pub is_running : Mode → Bool
is_running Mode.Running = true
is_running (Mode.Blocked kind line waits ticket) = false

abbrev pub not_empty : {X : Type 0} → List X → Bool
not_empty [] = false
not_empty (x ∷ xs) = true

-- whether a goroutine can run; goroutine 0, which runs finalisers, needs a frame or an entry in the queue (package
-- runtime, `SetFinalizer`: "a single goroutine runs all finalizers for a program, sequentially")
abbrev pub can_run : List Queued → ℕ → GoroutineView → Bool
can_run queue g r = is_running r.mode && (not (g == 0) || (not_empty r.frames || not_empty queue))

-- the goroutines that can run, in rising order
abbrev pub runnable : State → List ℕ
runnable s = keys_where (can_run s.queue) s.goroutines

abbrev pub ending_of : Option Ending → Bool → Option Ending
ending_of (Some e) awake = Some e
ending_of None true = None
ending_of None false = Some Ending.Asleep

-- the recorded ending; else asleep if no goroutine can run; else none (Go specification, "Program execution")
abbrev pub ending : State → Option Ending
ending s = ending_of s.recorded (not_empty (runnable s))

-- the arguments lie in the first slots, and the others hold 0 until a store; an argument that is not needed is cleared
-- (this runtime's rule)
abbrev pub slots_of : Function → List Value → List Value
slots_of fn arguments = cleared_slots (stays_under (slice_get fn.live 0))
    (arguments ++ replicate (fn.slots - length arguments) (Value.Int (pos 0)))

-- a frame at the first instruction of a function
abbrev pub opened : ℕ → List Value → Bool → Function → FrameView
opened f arguments discards fn = record {
  function = f;
  at = 0;
  slots = slots_of fn arguments;
  operands = [];
  deferred = [];
  leaving = Leaving.No;
  discards = discards;
}

-- the first frame of a call of the function of this number, if the code has one
abbrev pub call_frame : Code → ℕ → List Value → Bool → Option FrameView
call_frame code f arguments discards = option_map (opened f arguments discards) (slice_get code.functions f)

-- goroutine 0 without a frame, and goroutine 1 in function 0, which runs the initialisers and calls `main` (Go
-- specification, "Program initialization")
abbrev pub first_goroutines : Code → List (ℕ × GoroutineView)
first_goroutines code =
    (0, record { frames = []; mode = Mode.Running; started = 0 })
    ∷ (1, record { frames = option_to_list (call_frame code 0 [] true); mode = Mode.Running; started = code.main_line })
    ∷ []

-- the opening state of a code; objects are numbered from 1 and further goroutines from 2, and no number is used again
-- (this runtime's rule)
abbrev pub start : Code → State
start code = record {
  globals = zeros_of code.globals;
  objects = [];
  finalisers = [];
  goroutines = first_goroutines code;
  queue = [];
  output = [];
  last_object = 0;
  next_goroutine = 2;
  next_ticket = 0;
  recorded = None;
}
