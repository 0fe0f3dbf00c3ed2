-- Mutexes and wait groups (package sync, `Mutex` and `WaitGroup`).
use Rattle.std.specs.Prelude.{ℕ, Bool, true, false, ℤ, pos, List, [], ◌∷◌, ◌++◌, Option, Some, None, int_lt}
use Rattle.golf_theory.specs.Maps.{find}
use Rattle.golf_data.specs.declared.value.Value.{Value}
use Rattle.golf_data.specs.declared.value.Object.{Object}
use Rattle.golf_data.specs.declared.goroutine.PanicKind.{PanicKind}
use Rattle.golf_data.specs.declared.goroutine.Side.{Side}
use Rattle.golf_data.specs.declared.goroutine.WaitKind.{WaitKind}
use Rattle.golf_model.specs.Values.{int_of, is_zero}
use Rattle.golf_model.specs.State.{State}
use Rattle.golf_model.specs.Waiters.{Waiter, first, bare_wait}
use Rattle.golf_model.specs.Wakes.{Waking, released}
use Rattle.golf_model.specs.Changes.{Change}
use Rattle.golf_model.specs.Actors.{Actor, next, goes, panics, dies, blocks, on_some, taking_one, taking_two, choose}
use Rattle.golf_model.specs.Actors.{at_reference, at_mutex, at_group}
use Rattle.golf_model.specs.Arithmetic.{sum}

-- the waiter runs, and is given nothing
abbrev pub runs : Waiter → Change
runs w = Change.Become w.number (released w.goroutine)

-- blocks on the object with that side
abbrev pub blocks_on : Actor → List Value → WaitKind → ℕ → Side → List Change
blocks_on a rest kind o side = blocks a (next a.frame rest) kind (bare_wait o side ∷ [])

-- an unlocked mutex becomes locked; a locked one blocks
abbrev pub locks_by : Actor → List Value → ℕ → Bool → List Change
locks_by a rest o false = Change.Replace o (Object.Mutex true) ∷ goes a rest
locks_by a rest o true = blocks_on a rest WaitKind.Lock o Side.Lock

-- `m ->`
abbrev pub locks : Actor → State → List Change
locks a s = taking_one (λ m rest. at_reference a (λ o. at_mutex (locks_by a rest o) (find o s.objects)) m)
    a.frame.operands

-- a mutex stays locked and its first waiter runs; with no waiter it becomes unlocked (this runtime's rule)
abbrev pub hands_over : ℕ → Option Waiter → List Change
hands_over o None = Change.Replace o (Object.Mutex false) ∷ []
hands_over o (Some w) = runs w ∷ []

abbrev pub unlocks_by : Actor → List Value → State → ℕ → Bool → List Change
unlocks_by a rest s o false = dies a PanicKind.UnlockUnlocked
unlocks_by a rest s o true = goes a rest ++ hands_over o (first o Side.Lock s.goroutines)

-- `m ->`; to unlock an unlocked mutex is a fatal error
abbrev pub unlocks : Actor → State → List Change
unlocks a s = taking_one (λ m rest. at_reference a (λ o. at_mutex (unlocks_by a rest s o) (find o s.objects)) m)
    a.frame.operands

-- the counter becomes n, and at 0 all waiters are woken; below 0 it panics and the counter stays (this runtime's rule)
abbrev pub counts : Actor → List Value → ℕ → ℤ → List Change
counts a rest o n =
    choose (int_lt n (pos 0)) (panics a PanicKind.NegativeGroup)
    (Change.Replace o (Object.Group n) ∷ (goes a rest
    ++ choose (is_zero n) (Change.WakeAll o Waking.AtZero ∷ []) []))

-- `w, d ->`
abbrev pub adds : Actor → State → List Change
adds a s =
    taking_two (λ w x rest. on_some (λ d. at_reference a
    (λ o. at_group (λ n. counts a rest o (sum n d)) (find o s.objects)) w) (int_of x)) a.frame.operands

abbrev pub waits_by : Actor → List Value → ℕ → ℤ → List Change
waits_by a rest o n = choose (is_zero n) (goes a rest) (blocks_on a rest WaitKind.Group o Side.Group)

-- `w ->`; at 0 it goes on, else it blocks
abbrev pub waits : Actor → State → List Change
waits a s = taking_one (λ w rest. at_reference a (λ o. at_group (waits_by a rest o) (find o s.objects)) w)
    a.frame.operands
