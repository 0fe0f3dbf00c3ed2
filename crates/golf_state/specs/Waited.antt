-- A waiter as the state reports it.
use Rattle.golf_model.specs.Waiters.{Waiter, waiter_ticket}
use Rattle.golf_state.specs.declared.waiters.Waiting.{Waiting}

-- its number, its wait and its ticket
abbrev pub waiting_of : Waiter → Waiting
waiting_of w = record { goroutine = record { 0 = w.number }; wait = w.wait; ticket = waiter_ticket w }
