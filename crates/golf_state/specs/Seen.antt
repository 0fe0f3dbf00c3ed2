-- Waiters, as the search for the first one walks over them.
use Rattle.std.specs.Prelude.{ℕ, cond, List, [], ◌∷◌, Option, Some, None, ◌==◌, nat_lt}
use Rattle.golf_theory.specs.Maps.{find}
use Rattle.golf_data.specs.declared.goroutine.Side.{Side}
use Rattle.golf_model.specs.Views.{GoroutineView}
use Rattle.golf_model.specs.Waiters.{Waiter, waiter_of, ticket_of}
use Rattle.golf_state.specs.declared.waiters.Waiting.{Waiting}

-- the waiter with the smaller ticket
abbrev pub sooner : Option Waiting → Option Waiting → Option Waiting
sooner None w = w
sooner (Some v) None = Some v
sooner (Some v) (Some w) = cond (nat_lt w.ticket v.ticket) (Some w) (Some v)

-- the goroutine as a waiter, if it is there, has the ticket, and waits on the object with that side
abbrev pub waiter_held : ℕ → Side → ℕ → ℕ → Option GoroutineView → Option Waiter
waiter_held o side t g None = None
waiter_held o side t g (Some r) = cond (ticket_of r.mode == t) (waiter_of o side (g, r)) None

abbrev pub waiter_by : ℕ → Side → List (ℕ × GoroutineView) → ℕ × ℕ → Option Waiter
waiter_by o side gs h = waiter_held o side h.0 h.1 (find h.1 gs)

abbrev pub or_later : Option Waiter → Option Waiter → Option Waiter
or_later None w = w
or_later (Some v) w = Some v

-- the first entry of a queue whose goroutine waits there
abbrev pub first_held : ℕ → Side → List (ℕ × GoroutineView) → List (ℕ × ℕ) → Option Waiter
first_held o side gs [] = None
first_held o side gs (h ∷ hs) = or_later (waiter_by o side gs h) (first_held o side gs hs)
