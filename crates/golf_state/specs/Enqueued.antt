-- Every goroutine that waits is in the wait queue of its object and side.
use Rattle.std.specs.Prelude.{◌≡◌, ℕ, ◌+◌, ◌<◌, Bool, true, List, Some}
use Rattle.golf_theory.specs.Maps.{Entry}
use Rattle.golf_data.specs.declared.goroutine.Mode.{Mode}
use Rattle.golf_data.specs.declared.goroutine.Side.{Side}
use Rattle.golf_model.specs.Views.{GoroutineView}
use Rattle.golf_model.specs.Waiters.{Waiter, waiter_of, ticket_of}
use Rattle.golf_state_queues.specs.WaitQueues.{WaitQueues, key, wait_queue_at, TicketsBelow}

-- all goroutines that wait on the object with that side are in the queue, with their tickets
abbrev pub HasWaiters : ℕ → Side → List (ℕ × GoroutineView) → List (ℕ × ℕ) → Type 0
HasWaiters o side gs line = (g : ℕ) (r : GoroutineView) (w : Waiter) → Entry gs g r → waiter_of o side (g, r) ≡ Some w
    → Entry line (ticket_of r.mode) g

-- if it is blocked, its ticket is below n
abbrev pub IsEarly : ℕ → Mode → Type 0
IsEarly n Mode.Running = Unit {0}
IsEarly n (Mode.Blocked kind line waits ticket) = ticket < n

-- whether the queues of that side have all waiters; those of mutexes have them if `listed` is true
abbrev pub has_queue : Bool → Side → Bool
has_queue listed Side.Receive = true
has_queue listed Side.Send = true
has_queue listed Side.Lock = listed
has_queue listed Side.Group = true
has_queue listed Side.Read = true
has_queue listed Side.Write = true
has_queue listed Side.Cond = true

-- On each side with full queues, every waiter is in its queue. The waiters' tickets are below the next one. Entries of
-- goroutines that no longer wait there may have the next ticket too.
pub record AreEnqueued (listed : Bool) (gs : List (ℕ × GoroutineView)) (queues : WaitQueues) (next : ℕ) : Type 0 where
  pub below : TicketsBelow (next + 1) queues
  pub early : (g : ℕ) (r : GoroutineView) → Entry gs g r → IsEarly next r.mode
  pub all : (o : ℕ) (side : Side) → has_queue listed side ≡ true
      → HasWaiters o side gs (wait_queue_at (key o side) queues)
