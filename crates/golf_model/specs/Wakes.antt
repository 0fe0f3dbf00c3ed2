-- How a blocked goroutine goes on.
use Rattle.std.specs.Prelude.{ℕ, Bool, true, false, cond, List, [], ◌∷◌, ◌++◌, Option, Some, None, unwrap_or, nat_lt}
use Rattle.golf_data.specs.declared.value.Value.{Value}
use Rattle.golf_data.specs.declared.goroutine.Fault.{Fault}
use Rattle.golf_data.specs.declared.goroutine.Leaving.{Leaving}
use Rattle.golf_data.specs.declared.goroutine.Mode.{Mode}
use Rattle.golf_data.specs.declared.goroutine.PanicKind.{PanicKind}
use Rattle.golf_data.specs.declared.goroutine.Side.{Side}
use Rattle.golf_data.specs.declared.goroutine.Wait.{Wait}
use Rattle.golf_model.specs.Views.{FrameView, GoroutineView}
use Rattle.golf_model.specs.Waiters.{waits_of, ticket_of, blocked_line, wait_for, wait_on}

abbrev pub fault : PanicKind → ℕ → Fault
fault kind line = record { kind = kind; line = line }

-- a panic marks the frame as unwinding and empties its operands (Go specification, "Run-time panics")
abbrev pub unwinding : Fault → FrameView → FrameView
unwinding x f = record f { operands = []; leaving = Leaving.Unwinding x }

-- the frame goes on at the wait's target, if there is one, with these values on top of its operands
abbrev pub resumed_frame : Wait → List Value → FrameView → FrameView
resumed_frame w vs f = record f { at = unwrap_or w.target f.at; operands = vs ++ f.operands }

-- the frames with the innermost one changed
abbrev pub on_top : (FrameView → FrameView) → List FrameView → List FrameView
on_top change [] = []
on_top change (f ∷ fs) = change f ∷ fs

-- a goroutine whose wait was served with these values, the top one first
abbrev pub resumed : Wait → List Value → GoroutineView → GoroutineView
resumed w vs r = record r { frames = on_top (resumed_frame w vs) r.frames; mode = Mode.Running }

-- a goroutine that goes on where it stands, and gets no value
abbrev pub released : GoroutineView → GoroutineView
released r = record r { mode = Mode.Running }

-- a goroutine whose innermost frame unwinds
abbrev pub unwound : Fault → GoroutineView → GoroutineView
unwound x r = record r { frames = on_top (unwinding x) r.frames; mode = Mode.Running }

-- the values that a receive leaves, the top one first: the value, and if it is asked for whether the value was sent (Go
-- specification, "Receive operator")
abbrev pub received : Bool → Value → Bool → List Value
received true v sent = Value.Bool sent ∷ v ∷ []
received false v sent = v ∷ []

-- the events that wake all goroutines that wait on an object
pub data Waking : Type 0 where
  -- a channel was closed; the field is its zero value
  Closing : (zero : Value) → Waking
  -- a wait group is at zero
  AtZero : Waking
  -- a reader and writer mutex is handed to its readers: those with a ticket below this one, or all
  ToReaders : (below : Option ℕ) → Waking

-- a receiver gets the zero value and false; a sender unwinds at the line where it blocked (Go specification, "Close")
abbrev pub closed_for : Value → Wait → Side → GoroutineView → GoroutineView
closed_for zero w Side.Receive r = resumed w (received w.with_ok zero false) r
closed_for zero w Side.Send r = unwound (fault PanicKind.SendClosed (blocked_line r.mode)) r
closed_for zero w Side.Lock r = r
closed_for zero w Side.Group r = r
closed_for zero w Side.Read r = r
closed_for zero w Side.Write r = r
closed_for zero w Side.Cond r = r

-- a `select` that both sends and receives there is woken by its first case on that channel (this runtime's rule)
abbrev pub closed_on : Value → Option Wait → GoroutineView → GoroutineView
closed_on zero None r = r
closed_on zero (Some w) r = closed_for zero w w.side r

abbrev pub released_by : Option Wait → GoroutineView → GoroutineView
released_by None r = r
released_by (Some w) r = released r

abbrev pub is_below : Option ℕ → ℕ → Bool
is_below None t = true
is_below (Some n) t = nat_lt t n

-- the readers that are served: those with a ticket below that of every writer (this runtime's rule)
abbrev pub reads_next : Option ℕ → ℕ → GoroutineView → Option Wait
reads_next below o r = cond (is_below below (ticket_of r.mode)) (wait_for o Side.Read (waits_of r.mode)) None

-- the goroutine after all that wait on the object were woken
abbrev pub woken_by : Waking → ℕ → GoroutineView → GoroutineView
woken_by (Waking.Closing zero) o r = closed_on zero (wait_on o (waits_of r.mode)) r
woken_by Waking.AtZero o r = released_by (wait_for o Side.Group (waits_of r.mode)) r
woken_by (Waking.ToReaders below) o r = released_by (reads_next below o r) r
