-- The model of a roster: the goroutines that are there, and how each operation changes them.
use Rattle.std.specs.Prelude.{◌≡◌, ℕ, ◌<◌, ◌==◌, not, List, [], ◌∷◌, ◌++◌}
use Rattle.golf_theory.specs.Maps.{put, only}
use Rattle.golf_theory.specs.Stored.{placed, without}
use Rattle.golf_data.specs.declared.goroutine.Goroutine.{Goroutine}
use Rattle.golf_state_goroutines.specs.Places.{plain_entries, running_of}

-- the goroutines in rising order of number, and the numbers of those that run in rising order
pub record Goroutines : Type 0 where
  pub places : List (ℕ × Goroutine)
  pub running : List ℕ

-- the numbers of those that run are those of the goroutines that are not blocked
abbrev pub IsListed : Goroutines → Type 0
IsListed r = r.running ≡ running_of (plain_entries r.places)

-- adds a running goroutine after the others
abbrev pub added : ℕ × Goroutine → Goroutines → Goroutines
added p r = record { places = r.places ++ p ∷ []; running = r.running ++ p.0 ∷ [] }

-- removes the goroutine of this number
abbrev pub parted : ℕ → Goroutines → Goroutines
parted g r = record { places = only (λ h. not (h == g)) r.places; running = without g r.running }

-- removes the number from those that run
abbrev pub stopped : ℕ → Goroutines → Goroutines
stopped g r = record r { running = without g r.running }

-- adds the number to those that run
abbrev pub started : ℕ → Goroutines → Goroutines
started g r = record r { running = placed g r.running }

-- this goroutine replaces the one of this number, which is there
abbrev pub changed : ℕ → Goroutine → Goroutines → Goroutines
changed g x r = record r { places = put g x r.places }

-- all numbers are below n
abbrev pub AllUnder : ℕ → List ℕ → Type 0
AllUnder n [] = Unit {0}
AllUnder n (x ∷ xs) = (x < n) × AllUnder n xs

-- the number is not in the list
abbrev pub IsNone : ℕ → List ℕ → Type 0
IsNone g [] = Unit {0}
IsNone g (x ∷ xs) = (x ≡ g → ⊥) × IsNone g xs
