-- Sets given by tests, and states without the members that fail a test.
use Rattle.std.specs.Prelude.{◌≡◌, ℕ, ◌<◌, ◌≤◌, Bool, true}
use Rattle.golf_model.specs.State.{State}

-- the numbers that satisfy the test
abbrev pub IsKeptBy : (ℕ → Bool) → ℕ → Type 0
IsKeptBy test n = test n ≡ true

-- numbers that are not given yet satisfy the tests
pub record KeepsFresh (stays kept : ℕ → Bool) (s : State) : Type 0 where
  pub objects : (o : ℕ) → s.last_object < o → kept o ≡ true
  pub goroutines : (g : ℕ) → s.next_goroutine ≤ g → stays g ≡ true
