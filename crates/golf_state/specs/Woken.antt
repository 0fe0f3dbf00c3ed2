-- How each waiter goes on when all waiters of an object are woken, in terms of the definitions.
use Rattle.std.specs.Prelude.{ℕ, Bool, false, cond, Option, Some, None}
use Rattle.golf_data.specs.declared.value.Value.{Value}
use Rattle.golf_data.specs.declared.goroutine.Mode.{Mode}
use Rattle.golf_data.specs.declared.goroutine.PanicKind.{PanicKind}
use Rattle.golf_data.specs.declared.goroutine.Side.{Side}
use Rattle.golf_data.specs.declared.goroutine.Wait.{Wait}
use Rattle.golf_model.specs.Views.{GoroutineView}
use Rattle.golf_model.specs.Waiters.{wait_for, wait_on}
use Rattle.golf_model.specs.Wakes.{Waking as Woken, fault, is_below}
use Rattle.golf_state.specs.declared.frames.Given.{Given}
use Rattle.golf_state.specs.declared.frames.Wakening.{Wakening}
use Rattle.golf_state.specs.declared.wake_causes.Waking.{Waking}
use Rattle.golf_state.specs.Wakenings.{wakened}

abbrev pub waking_of : Waking → Woken
waking_of (Waking.Closing zero) = Woken.Closing zero
waking_of Waking.AtZero = Woken.AtZero
waking_of (Waking.ToReaders below) = Woken.ToReaders below

abbrev pub given_for : Bool → Value → Bool → Given
given_for with_ok v sent = cond with_ok (Given.Two v sent) (Given.One v)

abbrev pub wakening_by_close : Value → Wait → ℕ → Side → Option Wakening
wakening_by_close zero w line Side.Receive = Some (Wakening.Served w (given_for w.with_ok zero false))
wakening_by_close zero w line Side.Send = Some (Wakening.Unwound (fault PanicKind.SendClosed line))
wakening_by_close zero w line Side.Lock = None
wakening_by_close zero w line Side.Group = None
wakening_by_close zero w line Side.Read = None
wakening_by_close zero w line Side.Write = None
wakening_by_close zero w line Side.Cond = None

abbrev pub released_where : Option Wait → Option Wakening
released_where None = None
released_where (Some w) = Some Wakening.Released

abbrev pub wakening_on : Value → ℕ → Option Wait → Option Wakening
wakening_on zero line None = None
wakening_on zero line (Some w) = wakening_by_close zero w line w.side

-- how a goroutine in this mode goes on when all waiters of the object are woken
abbrev pub wakening_of : Mode → ℕ → Waking → Option Wakening
wakening_of Mode.Running o how = None
wakening_of (Mode.Blocked kind line waits ticket) o (Waking.Closing zero) = wakening_on zero line (wait_on o waits)
wakening_of (Mode.Blocked kind line waits ticket) o Waking.AtZero = released_where (wait_for o Side.Group waits)
wakening_of (Mode.Blocked kind line waits ticket) o (Waking.ToReaders below) =
    released_where (cond (is_below below ticket) (wait_for o Side.Read waits) None)

abbrev pub wakened_by : Option Wakening → GoroutineView → GoroutineView
wakened_by None r = r
wakened_by (Some how) r = wakened how r
