-- The next holders of a free reader and writer mutex.
use Rattle.std.specs.Prelude.{ℕ, Bool, true, cond, List, Option, Some, None, pos, negsuc, nat_lt}
use Rattle.golf_data.specs.declared.value.Object.{Object}
use Rattle.golf_model.specs.Views.{GoroutineView}
use Rattle.golf_model.specs.State.{State}
use Rattle.golf_model.specs.Waiters.{Waiter, waiter_ticket}
use Rattle.golf_model.specs.Wakes.{Waking, released}
use Rattle.golf_model.specs.Changes.{become, replace, wake_all}
use Rattle.golf_model.specs.ReadersWriters.{readers_next}
use Rattle.golf_state.specs.Looked.{looked_up, is_blocked}
use Rattle.golf_state.specs.Waited.{waiting_of}
use Rattle.golf_sync.specs.declared.readers_writers.Served.{Served}

abbrev pub readers_of : ℕ → Option ℕ → List (ℕ × GoroutineView) → Served
readers_of o below gs = Served.Readers (pos (readers_next below o gs)) below

-- the next holders, by the first waiter for writing and the first waiter for reading
abbrev pub next_in : ℕ → List (ℕ × GoroutineView) → Option Waiter → Option Waiter → Served
next_in o gs None r = readers_of o None gs
next_in o gs (Some w) None = Served.Writer (waiting_of w)
next_in o gs (Some w) (Some r) = cond (nat_lt (waiter_ticket r) (waiter_ticket w))
    (readers_of o (Some (waiter_ticket w)) gs) (Served.Writer (waiting_of w))

-- the state after these goroutines got the mutex
abbrev pub served_by : ℕ → Served → State → State
served_by o (Served.Readers count below) s = wake_all o (Waking.ToReaders below) (replace o (Object.Rw count) s)
served_by o (Served.Writer x) s = looked_up x.goroutine.0 (λ r. become x.goroutine.0 (released r))
    (replace o (Object.Rw (negsuc 0)) s)

-- if the next holder is a writer, it is blocked
abbrev pub is_ready_for : Served → State → Bool
is_ready_for (Served.Readers count below) s = true
is_ready_for (Served.Writer x) s = is_blocked x.goroutine.0 s
