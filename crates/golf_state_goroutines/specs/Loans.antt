-- The roster after a goroutine that it lent was changed.
use Rattle.std.specs.Prelude.{ℕ}
use Rattle.std.specs.Borrow.{Lends, MutBor, Fml}
use Rattle.golf_data.specs.declared.goroutine.Goroutine.{Goroutine}
use Rattle.golf_data.specs.contracts.goroutine.Goroutine.{the_row as goroutine_row}
use Rattle.golf_state_goroutines.specs.contracts.roster.Roster.{the_row as roster_row}
use Rattle.golf_state_goroutines.specs.Goroutines.{Goroutines, changed}

-- at the end of the loan the roster has the goroutine's last value
abbrev pub LendsGoroutine : MutBor Goroutines → ℕ → MutBor Goroutine → Fml
LendsGoroutine s g r = Lends roster_row goroutine_row s r (λ x. changed g x s.now)
