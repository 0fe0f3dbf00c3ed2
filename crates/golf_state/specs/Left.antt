-- Goroutines that leave the wait queues that they are in.
use Rattle.std.specs.Prelude.{ℕ, Bool, false, Option, Some, None}
use Rattle.golf_data.specs.declared.goroutine.Mode.{Mode}
use Rattle.golf_model.specs.Views.{GoroutineView}
use Rattle.golf_model.specs.Waiters.{ticket_of, waits_of}
use Rattle.golf_state_queues.specs.WaitQueues.{keys_of, leaves}

-- whether this entry in the queue of key k is this goroutine, which waits there in this mode
abbrev pub leaves_in : ℕ → Mode → ℕ → ℕ × ℕ → Bool
leaves_in g m k h = leaves (ticket_of m) g (keys_of (waits_of m)) k h

-- the same for a goroutine that may be absent
abbrev pub leaves_where : ℕ → Option GoroutineView → ℕ → ℕ × ℕ → Bool
leaves_where g None k h = false
leaves_where g (Some r) k h = leaves_in g r.mode k h
