-- Conditions (package sync, `Cond`).
use Rattle.std.specs.Prelude.{ℕ, Bool, true, false, List, [], ◌∷◌, ◌++◌, Option, Some, None}
use Rattle.golf_theory.specs.Maps.{find}
use Rattle.golf_data.specs.declared.value.Value.{Value}
use Rattle.golf_data.specs.declared.value.Object.{Object}
use Rattle.golf_data.specs.declared.goroutine.PanicKind.{PanicKind}
use Rattle.golf_data.specs.declared.goroutine.Side.{Side}
use Rattle.golf_data.specs.declared.goroutine.WaitKind.{WaitKind}
use Rattle.golf_model.specs.State.{State}
use Rattle.golf_model.specs.Waiters.{Waiter, first, waiters}
use Rattle.golf_model.specs.Changes.{Change}
use Rattle.golf_model.specs.Actors.{Actor, goes, dies, taking_one, at_reference, at_reference_or, at_mutex}
use Rattle.golf_model.specs.Actors.{at_condition}
use Rattle.golf_model.specs.Mutexes.{hands_over, blocks_on}
use Rattle.golf_model.specs.Structures.{makes}

-- `m -> ref`, a condition with this mutex, which may be nil
abbrev pub makes_condition : Actor → State → List Change
makes_condition a s =
    taking_one (λ m rest. at_reference_or (makes a (Object.Cond m) rest s)
    (λ o. at_mutex (λ locked. makes a (Object.Cond m) rest s) (find o s.objects)) m) a.frame.operands

-- `c -> m`
abbrev pub gets_mutex : Actor → State → List Change
gets_mutex a s = taking_one (λ c rest. at_reference a (λ o. at_condition (λ m. goes a (m ∷ rest)) (find o s.objects)) c)
    a.frame.operands

-- the goroutine unlocks the mutex as its holder, and blocks on the condition
abbrev pub awaits_by : Actor → List Value → State → ℕ → ℕ → Bool → List Change
awaits_by a rest s o m false = dies a PanicKind.UnlockUnlocked
awaits_by a rest s o m true = hands_over m (first m Side.Lock s.goroutines)
    ++ blocks_on a rest WaitKind.Condition o Side.Cond

-- `c ->`; a nil mutex panics, and an unlocked one is a fatal error
abbrev pub awaits : Actor → State → List Change
awaits a s =
    taking_one (λ c rest. at_reference a (λ o. at_condition
    (λ m. at_reference a (λ p. at_mutex (awaits_by a rest s o p) (find p s.objects)) m) (find o s.objects)) c)
    a.frame.operands

-- each of the waiters is requeued on the mutex, in the order of the list
abbrev pub requeues : ℕ → List Waiter → List Change
requeues m [] = []
requeues m (w ∷ ws) = Change.Requeue w.number m ∷ requeues m ws

abbrev pub first_only : Option Waiter → List Waiter
first_only None = []
first_only (Some w) = w ∷ []

-- without a waiter the mutex is not looked at; with one it must be a mutex, or no rule fits
abbrev pub notifies : Actor → List Value → State → List Waiter → Value → List Change
notifies a rest s [] m = goes a rest
notifies a rest s (w ∷ ws) m = at_reference_or []
    (λ p. at_mutex (λ locked. goes a rest ++ requeues p (w ∷ ws)) (find p s.objects)) m

-- `c ->`; the first waiter, if any, is requeued
abbrev pub signals : Actor → State → List Change
signals a s =
    taking_one (λ c rest. at_reference a (λ o. at_condition
    (notifies a rest s (first_only (first o Side.Cond s.goroutines))) (find o s.objects)) c) a.frame.operands

-- `c ->`; each waiter is requeued, by rising ticket (this runtime's rule)
abbrev pub broadcasts : Actor → State → List Change
broadcasts a s =
    taking_one (λ c rest. at_reference a (λ o. at_condition (notifies a rest s (waiters o Side.Cond s.goroutines))
    (find o s.objects)) c) a.frame.operands
