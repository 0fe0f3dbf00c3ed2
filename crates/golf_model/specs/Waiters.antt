-- The goroutines that wait on an object, and which of them comes first.
use Rattle.std.specs.Prelude.{ℕ, Bool, false, cond, ◌&&◌, List, [], ◌∷◌, Option, Some, None, option_map, ◌==◌, nat_lt}
use Rattle.golf_data.specs.declared.value.Value.{Value}
use Rattle.golf_data.specs.declared.goroutine.Mode.{Mode}
use Rattle.golf_data.specs.declared.goroutine.Side.{Side}
use Rattle.golf_data.specs.declared.goroutine.Wait.{Wait}
use Rattle.golf_model.specs.Views.{GoroutineView}

-- the waits of a goroutine, in source order of the cases
abbrev pub waits_of : Mode → List Wait
waits_of Mode.Running = []
waits_of (Mode.Blocked kind line waits ticket) = waits

abbrev pub ticket_of : Mode → ℕ
ticket_of Mode.Running = 0
ticket_of (Mode.Blocked kind line waits ticket) = ticket

-- the line of the instruction that blocked
abbrev pub blocked_line : Mode → ℕ
blocked_line Mode.Running = 0
blocked_line (Mode.Blocked kind line waits ticket) = line

abbrev pub side_number : Side → ℕ
side_number Side.Receive = 0
side_number Side.Send = 1
side_number Side.Lock = 2
side_number Side.Group = 3
side_number Side.Read = 4
side_number Side.Write = 5
side_number Side.Cond = 6

abbrev pub same_side : Side → Side → Bool
same_side a b = side_number a == side_number b

-- the first wait on the object with that side
abbrev pub wait_for : ℕ → Side → List Wait → Option Wait
wait_for o side [] = None
wait_for o side (w ∷ ws) = cond ((w.object.0 == o) && same_side w.side side) (Some w) (wait_for o side ws)

-- the first wait on the object
abbrev pub wait_on : ℕ → List Wait → Option Wait
wait_on o [] = None
wait_on o (w ∷ ws) = cond (w.object.0 == o) (Some w) (wait_on o ws)

-- a goroutine that waits on an object, with its first wait that fits
pub record Waiter : Type 0 where
  pub number : ℕ
  pub goroutine : GoroutineView
  pub wait : Wait

abbrev pub waiter_ticket : Waiter → ℕ
waiter_ticket w = ticket_of w.goroutine.mode

-- the goroutine as a waiter, if it waits on the object with that side
abbrev pub waiter_of : ℕ → Side → ℕ × GoroutineView → Option Waiter
waiter_of o side e = option_map (λ w. record { number = e.0; goroutine = e.1; wait = w })
    (wait_for o side (waits_of e.1.mode))

-- the waiter with the earlier ticket
abbrev pub earlier : Option Waiter → Option Waiter → Option Waiter
earlier None w = w
earlier (Some v) None = Some v
earlier (Some v) (Some w) = cond (nat_lt (waiter_ticket w) (waiter_ticket v)) (Some w) (Some v)

-- the waiter with the least ticket on the object with that side: waiters are served in rising order of ticket (this
-- runtime's rule)
abbrev pub first : ℕ → Side → List (ℕ × GoroutineView) → Option Waiter
first o side [] = None
first o side (e ∷ es) = earlier (waiter_of o side e) (first o side es)

-- the list with the waiter inserted by rising ticket
abbrev pub by_ticket : Waiter → List Waiter → List Waiter
by_ticket w [] = w ∷ []
by_ticket w (v ∷ vs) = cond (nat_lt (waiter_ticket v) (waiter_ticket w)) (v ∷ by_ticket w vs) (w ∷ v ∷ vs)

abbrev pub enter : Option Waiter → List Waiter → List Waiter
enter None ws = ws
enter (Some w) ws = by_ticket w ws

-- all goroutines that wait on the object with that side, by rising ticket
abbrev pub waiters : ℕ → Side → List (ℕ × GoroutineView) → List Waiter
waiters o side [] = []
waiters o side (e ∷ es) = enter (waiter_of o side e) (waiters o side es)

-- a wait on the object with that side, which gives nothing when it is served
abbrev pub bare_wait : ℕ → Side → Wait
bare_wait o side = record { object = record { 0 = o }; side = side; value = Value.Nil; target = None; with_ok = false }

-- a wait to send the value; the goroutine goes on at the target, or where it stands
abbrev pub send_wait : ℕ → Value → Option ℕ → Wait
send_wait o v target = record {
  object = record { 0 = o };
  side = Side.Send;
  value = v;
  target = target;
  with_ok = false;
}

-- a wait to receive
abbrev pub receive_wait : ℕ → Option ℕ → Bool → Wait
receive_wait o target with_ok = record {
  object = record { 0 = o };
  side = Side.Receive;
  value = Value.Nil;
  target = target;
  with_ok = with_ok;
}
