-- How a waiting goroutine is woken, and the list of those that run, place by place.
-- For: `woken_by` (golf_model/specs/Wakes.antt) and `wait_on` (src/wake_causes.rt), `list_running` (src/places.rt)
-- By: induction over the entries of the map of goroutines; otherwise cases of the mode
use Rattle.std.proofs.Common.{◌≡◌, ℕ, Bool, true, false, cond, List, Option, Some, None, refl, ap}
use Rattle.golf_data.specs.declared.value.Value.{Value}
use Rattle.golf_data.specs.declared.goroutine.Mode.{Mode}
use Rattle.golf_data.specs.declared.goroutine.Side.{Side}
use Rattle.golf_data.specs.declared.goroutine.Wait.{Wait}
use Rattle.golf_data.specs.declared.goroutine.WaitKind.{WaitKind}
use Rattle.golf_model.specs.Views.{FrameView, GoroutineView}
use Rattle.golf_model.specs.Waiters.{wait_for, wait_on}
use Rattle.golf_model.specs.Wakes.{received, is_below, resumed, released_by, closed_on, closed_for, woken_by}
use Rattle.golf_state.specs.Looked.{values_of}
use Rattle.golf_state.specs.Woken.{given_for, waking_of, wakening_by_close, wakening_on, released_where, wakening_of}
use Rattle.golf_state.specs.Woken.{wakened_by}
use Rattle.golf_state.specs.declared.wake_causes.Waking.{Waking}

-- ---- along the waits of a goroutine

-- ---- how a goroutine goes on

given-is : (b : Bool) (v : Value) (sent : Bool) → values_of (given_for b v sent) ≡ received b v sent
given-is true v sent = refl
given-is false v sent = refl

closed-is : (v : Value) (fs : List FrameView) (started : ℕ) (kind : WaitKind) (line : ℕ) (waits : List Wait)
    (ticket : ℕ) (w : Wait) (side : Side)
    → wakened_by (wakening_by_close v w line side)
    (record { frames = fs; mode = Mode.Blocked kind line waits ticket; started = started }) ≡ closed_for v w side
    (record { frames = fs; mode = Mode.Blocked kind line waits ticket; started = started })
closed-is v fs started kind line waits ticket w Side.Receive =
    ap (λ (vs : List Value). resumed w vs (record {
      frames = fs;
      mode = Mode.Blocked kind line waits ticket;
      started = started;
    })) (given-is w.with_ok v false)
closed-is v fs started kind line waits ticket w Side.Send = refl
closed-is v fs started kind line waits ticket w Side.Lock = refl
closed-is v fs started kind line waits ticket w Side.Group = refl
closed-is v fs started kind line waits ticket w Side.Read = refl
closed-is v fs started kind line waits ticket w Side.Write = refl
closed-is v fs started kind line waits ticket w Side.Cond = refl

closed-on : (v : Value) (fs : List FrameView) (started : ℕ) (kind : WaitKind) (line : ℕ) (waits : List Wait)
    (ticket : ℕ) (m : Option Wait)
    → wakened_by (wakening_on v line m) (record {
      frames = fs;
      mode = Mode.Blocked kind line waits ticket;
      started = started;
    }) ≡ closed_on v m (record {
      frames = fs;
      mode = Mode.Blocked kind line waits ticket;
      started = started;
    })
closed-on v fs started kind line waits ticket None = refl
closed-on v fs started kind line waits ticket (Some w) = closed-is v fs started kind line waits ticket w w.side

released-is : (r : GoroutineView) (m : Option Wait) → wakened_by (released_where m) r ≡ released_by m r
released-is r None = refl
released-is r (Some w) = refl

-- it goes on as the definitions have it
pub woken-is : (fs : List FrameView) (started : ℕ) (m : Mode) (o : ℕ) (how : Waking)
    → wakened_by (wakening_of m o how) (record { frames = fs; mode = m; started = started }) ≡ woken_by
    (waking_of how) o (record { frames = fs; mode = m; started = started })
woken-is fs started Mode.Running o (Waking.Closing v) = refl
woken-is fs started Mode.Running o Waking.AtZero = refl
woken-is fs started Mode.Running o (Waking.ToReaders below) =
    elim (is_below below 0) as (λ b. ◌≡◌ {A = GoroutineView}
    (record { frames = fs; mode = Mode.Running; started = started })
    (released_by (cond b None None) (record { frames = fs; mode = Mode.Running; started = started }))) [
      | true ↦
          refl
      | false ↦ refl
    ]
woken-is fs started (Mode.Blocked kind line waits ticket) o (Waking.Closing v) =
    closed-on v fs started kind line waits ticket (wait_on o waits)
woken-is fs started (Mode.Blocked kind line waits ticket) o Waking.AtZero = released-is _ (wait_for o Side.Group waits)
woken-is fs started (Mode.Blocked kind line waits ticket) o (Waking.ToReaders below) =
    released-is _ (cond (is_below below ticket) (wait_for o Side.Read waits) None)
