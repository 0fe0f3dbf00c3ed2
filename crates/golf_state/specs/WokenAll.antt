-- The waiters that are still to be woken, when all waiters of an object are.
use Rattle.std.specs.Prelude.{◌≡◌, ◌≤◌, ◌<◌, ℕ, List, Option, Some, None, ◌⊎◌}
use Rattle.golf_theory.specs.Maps.{Entry}
use Rattle.golf_data.specs.declared.goroutine.Side.{Side}
use Rattle.golf_model.specs.Views.{GoroutineView}
use Rattle.golf_model.specs.State.{State}
use Rattle.golf_model.specs.Waiters.{Waiter, waiter_of, ticket_of}
use Rattle.golf_model.specs.Changes.{wake_all}
use Rattle.golf_state_queues.specs.declared.holders.TicketHolder.{TicketHolder}
use Rattle.golf_state.specs.Woken.{waking_of, wakening_of}
use Rattle.golf_state.specs.declared.frames.Wakening.{Wakening}
use Rattle.golf_state.specs.declared.wake_causes.Waking.{Waking}

-- how a goroutine goes on, if it is there and is woken
abbrev pub wakening_in : Option GoroutineView → ℕ → Waking → Option Wakening
wakening_in None o how = None
wakening_in (Some r) o how = wakening_of r.mode o how

-- each waiter of the object on that side that is woken has a ticket below n
abbrev pub AreWokenBelow : ℕ → ℕ → Side → Waking → List (ℕ × GoroutineView) → Type 0
AreWokenBelow n o side how gs = (g : ℕ) (r : GoroutineView) (w : Waiter) (k : Wakening) → Entry gs g r
    → waiter_of o side (g, r) ≡ Some w → wakening_of r.mode o how ≡ Some k → ticket_of r.mode < n

-- no waiter there is woken
abbrev pub NobodyWoken : ℕ → Side → Waking → List (ℕ × GoroutineView) → Type 0
NobodyWoken o side how gs = (g : ℕ) (r : GoroutineView) (w : Waiter) (k : Wakening) → Entry gs g r
    → waiter_of o side (g, r) ≡ Some w → wakening_of r.mode o how ≡ Some k → ⊥

-- The last entry of the queue with a ticket below n. Each waiter there with such a ticket is the goroutine of this
-- entry, or has a smaller ticket. Without such an entry no waiter there has a ticket below n.
abbrev pub IsHolderBelow : ℕ → ℕ → Side → List (ℕ × GoroutineView) → Option TicketHolder → Type 0
IsHolderBelow n o side gs None = (g : ℕ) (r : GoroutineView) (w : Waiter) → Entry gs g r
    → waiter_of o side (g, r) ≡ Some w → n ≤ ticket_of r.mode
IsHolderBelow n o side gs (Some h) = (h.ticket < n)
    × ((g : ℕ) (r : GoroutineView) (w : Waiter) → Entry gs g r → waiter_of o side (g, r) ≡ Some w → ticket_of r.mode < n
    → (ticket_of r.mode < h.ticket) ⊎ ((g ≡ h.goroutine.0) × (ticket_of r.mode ≡ h.ticket)))

-- some of the waiters that are woken have already gone on
pub record HasWoken (o : ℕ) (how : Waking) (old new : State) : Type 0 where
  pub same : wake_all o (waking_of how) new ≡ wake_all o (waking_of how) old
  pub nobody : (side : Side) → NobodyWoken o side how old.goroutines → NobodyWoken o side how new.goroutines
