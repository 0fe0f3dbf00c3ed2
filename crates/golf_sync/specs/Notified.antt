-- The waiters that are requeued from a condition to its mutex.
use Rattle.std.specs.Prelude.{ℕ, Bool, true, false, List}
use Rattle.golf_data.specs.declared.goroutine.Side.{Side}
use Rattle.golf_model.specs.Views.{GoroutineView}
use Rattle.golf_model.specs.Waiters.{Waiter, first, waiters}
use Rattle.golf_model.specs.Conditions.{first_only}

-- all waiters, or only the first one
abbrev pub notified : Bool → ℕ → List (ℕ × GoroutineView) → List Waiter
notified true o gs = waiters o Side.Cond gs
notified false o gs = first_only (first o Side.Cond gs)
