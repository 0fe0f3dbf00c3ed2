-- Finalisers (package runtime, `SetFinalizer`).
use Rattle.std.specs.Prelude.{ℕ, true, List, [], ◌∷◌, Option, Some, None}
use Rattle.golf_theory.specs.Maps.{find}
use Rattle.golf_data.specs.declared.value.Value.{Value}
use Rattle.golf_data.specs.declared.code.Code.{Code}
use Rattle.golf_data.specs.declared.goroutine.PanicKind.{PanicKind}
use Rattle.golf_data.specs.declared.goroutine.Queued.{Queued}
use Rattle.golf_model.specs.Views.{GoroutineView}
use Rattle.golf_model.specs.State.{State, call_frame}
use Rattle.golf_model.specs.Changes.{Change}
use Rattle.golf_model.specs.Actors.{Actor, goes, dies, on_some, taking_one, at_reference, at_reference_or, at_struct}

-- the object gets a finaliser; a second one is a fatal error
abbrev pub finalises_by : Actor → List Value → ℕ → ℕ → Option ℕ → List Change
finalises_by a rest f o None = Change.SetFinaliser o f ∷ goes a rest
finalises_by a rest f o (Some old) = dies a PanicKind.FinalizerSet

-- `p ->`; the function becomes the finaliser of p's struct, and nil panics (this runtime's rule)
abbrev pub finalises : Actor → ℕ → State → List Change
finalises a f s =
    taking_one (λ p rest. at_reference a (λ o. at_struct (λ fields. finalises_by a rest f o (find o s.finalisers))
    (find o s.objects)) p) a.frame.operands

-- `p ->`; p's struct loses its finaliser; nothing happens without a finaliser, or if p is nil (this runtime's rule)
abbrev pub unfinalises : Actor → State → List Change
unfinalises a s =
    taking_one (λ p rest. at_reference_or (goes a rest)
    (λ o. at_struct (λ fields. Change.ClearFinaliser o ∷ goes a rest) (find o s.objects)) p) a.frame.operands

-- goroutine 0 without a frame takes the first entry of the queue and begins its function on its object
abbrev pub begins_queued : Code → GoroutineView → List Queued → List Change
begins_queued code r [] = []
begins_queued code r (q ∷ queue) =
    on_some (λ x. Change.TakeQueued ∷ Change.Become 0 (record r { frames = x ∷ [] }) ∷ [])
    (call_frame code q.function (Value.Ref q.object ∷ []) true)
