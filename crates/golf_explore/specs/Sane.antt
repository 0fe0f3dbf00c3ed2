-- States that a search by preemptions keeps.
use Rattle.golf_model.specs.State.{State}
use Rattle.golf_model.specs.Futures.{Numbered}
use Rattle.golf_model.specs.Presence.{IsWhole}

-- numbers are in order, and every reference is to an object that is there
pub record IsSane (s : State) : Type 0 where
  pub numbered : Numbered s
  pub whole : IsWhole s
