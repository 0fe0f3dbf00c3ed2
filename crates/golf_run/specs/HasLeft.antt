-- Goroutines that were removed do not come back.
use Rattle.std.specs.Prelude.{ℕ, ◌<◌, List}
use Rattle.golf_theory.specs.Membership.{In}
use Rattle.golf_theory.specs.Maps.{keys}
use Rattle.golf_model.specs.State.{State}

-- none of these goroutines is there, none is goroutine 0, and all their numbers were given
pub record HasLeft (gone : List ℕ) (s : State) : Type 0 where
  pub absent : (g : ℕ) → In g (keys s.goroutines) → In g gone → ⊥
  pub not_zero : In 0 gone → ⊥
  pub given : (g : ℕ) → In g gone → g < s.next_goroutine
