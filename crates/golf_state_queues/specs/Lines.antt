-- A wait queue in memory.
use Rattle.std.specs.Prelude.{ℕ, ◌≤◌, List, drop, length, map}
use Rattle.golf_theory.specs.Maps.{Rises}
use Rattle.golf_state_queues.specs.declared.holders.TicketHolder.{TicketHolder}

-- the entries of a queue, also those that are gone: goroutines by their tickets
abbrev pub spots : List TicketHolder → List (ℕ × ℕ)
spots hs = map (λ h. (h.ticket, h.goroutine.0)) hs

-- `front` entries are skipped at the front; the tickets of the others rise
pub record IsLine (front : ℕ) (hs : List TicketHolder) : Type 0 where
  pub within : front ≤ length hs
  pub rises : Rises 0 (spots (drop front hs))
