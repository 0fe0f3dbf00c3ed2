-- A waiter that was found before, and gets a mutex.
use Rattle.std.specs.Prelude.{◌≡◌, ℕ, Bool, true, false, Option, Some, None, IfSome}
use Rattle.golf_theory.specs.Maps.{find}
use Rattle.golf_data.specs.declared.value.Object.{Object}
use Rattle.golf_model.specs.State.{State, is_running}
use Rattle.golf_model.specs.Waiters.{Waiter}
use Rattle.golf_model.specs.Wakes.{released}
use Rattle.golf_model.specs.Changes.{become, replace}
use Rattle.golf_state.specs.declared.waiters.Waiting.{Waiting}
use Rattle.golf_state.specs.Looked.{looked_up, is_blocked}

-- the waiter, if there is one, is blocked
abbrev pub is_blocked_where : Option Waiting → State → Bool
is_blocked_where None s = true
is_blocked_where (Some x) s = is_blocked x.goroutine.0 s

-- the waiter, if there is one, is there and blocked
abbrev pub IsBlockedIn : State → Option Waiter → Type 0
IsBlockedIn s m = IfSome m (λ w. find w.number s.goroutines ≡ Some w.goroutine × is_running w.goroutine.mode ≡ false)

-- the waiter runs, and the mutex stays locked; without a waiter the mutex becomes unlocked
abbrev pub handed_over : ℕ → Option Waiting → State → State
handed_over m None s = replace m (Object.Mutex false) s
handed_over m (Some x) s = looked_up x.goroutine.0 (λ r. become x.goroutine.0 (released r)) s
