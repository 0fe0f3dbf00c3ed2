-- The goroutine in its turn goes on, and those that are blocked stay as they are.
-- For: `send_on`, src/sends.rt; `receive_buffered` and `receive_unbuffered`, src/receives.rt
-- By: putting the laws of the state together; no induction
use Rattle.std.proofs.Common.{◌≡◌, ℕ, List, ap, ◌∙◌}
use Rattle.golf_data.specs.declared.value.Value.{Value}
use Rattle.golf_model.specs.State.{State}
use Rattle.golf_model.specs.Changes.{apply_all}
use Rattle.golf_model.specs.Actors.{stands}
use Rattle.golf_state.specs.ActorChanges.{does, Stands}
use Rattle.golf_state.specs.FrameChanges.{went}
use Rattle.golf_state.proofs.Doings.{does-is, actor_of}
use Rattle.golf_state.proofs.Serving.{Beside, beside-put}

module _ {g after : ℕ} {s : State} (st : Stands g after s) (line target taken : ℕ) (vs : List Value) where
  pub gone-on : {u : State} → u ≡ does (λ a. stands a (went target taken vs a.frame)) g line s
      → u ≡ apply_all (stands (actor_of st line) (went target taken vs st.frame)) s
  gone-on is = is ∙ does-is g after s st (λ a. stands a (went target taken vs a.frame)) line

  pub gone-beside : {u : State} → u ≡ does (λ a. stands a (went target taken vs a.frame)) g line s → (t : State)
      → t.goroutines ≡ u.goroutines → Beside s t
  gone-beside is t same = beside-put g after s st t _ (same ∙ ap (λ (v : State). v.goroutines) (gone-on is))
