-- Outcomes of operations that make the same changes.
-- For: `Comes` (golf_state/specs/Outcomes.antt) and `carry_out` (src/outcome.rt)
-- By: cases of the outcome; no induction
use Rattle.std.proofs.Common.{◌≡◌, ℕ, false, cond, List, ◌∷◌, ◌++◌, Option, ap, sym, ◌∙◌, subst}
use Rattle.golf_data.specs.declared.goroutine.Leaving.{Leaving}
use Rattle.golf_data.specs.declared.value.Object.{Object}
use Rattle.golf_model.specs.Views.{FrameView, GoroutineView}
use Rattle.golf_model.specs.State.{State}
use Rattle.golf_model.specs.Changes.{Change, apply_all}
use Rattle.golf_model.specs.Actors.{Actor, stands}
use Rattle.golf_state.specs.declared.outcome.Outcome.{Outcome}
use Rattle.golf_theory.specs.Maps.{find}
use Rattle.golf_state.specs.ActorChanges.{does, does_by, Stands}
use Rattle.golf_state.specs.Looked.{frames_of}
use Rattle.golf_state.specs.Outcomes.{Comes, Leaves, StaysIn, outcome_of, has_block, frame_outcome}
use Rattle.golf_state.proofs.Doings.{actor_of, frames-is}

pub comes-same : (outcome : Outcome) (act other : Actor → List Change) (g line : ℕ) (s t : State)
    → does_by act g line (find g s.goroutines) ≡ does_by other g line (find g s.goroutines)
    → Comes outcome act g line s t → Comes outcome other g line s t
comes-same outcome act other g line s t e h = (
  leaves-same outcome act other g line s t (ap (λ (cs : List Change). apply_all cs s) e) h.0,
  λ stays. ap outcome_of (sym e) ∙ h.1 stays,
)
  where
    leaves-same : (outcome : Outcome) (act other : Actor → List Change) (g line : ℕ) (s t : State)
        → does act g line s ≡ does other g line s → Leaves outcome act g line s t → Leaves outcome other g line s t
    leaves-same Outcome.Done act other g line s t e h = (h.0 ∙ e, h.1)
    leaves-same Outcome.Blocked act other g line s t e h = (h.0 ∙ e, h.1)
    leaves-same (Outcome.Panic kind) act other g line s t e h = (h.0, sym e ∙ h.1)
    leaves-same Outcome.Stuck act other g line s t e h = (h.0, sym e ∙ h.1)

-- the same changes of the goroutine in its turn
pub acts-same : (g after line : ℕ) (s : State) (st : Stands g after s) (act other : Actor → List Change)
    → act (actor_of st line) ≡ other (actor_of st line)
    → does_by act g line (find g s.goroutines) ≡ does_by other g line (find g s.goroutines)
acts-same g after line s st act other e = ap (does_by act g line) st.found ∙ e
    ∙ sym (ap (does_by other g line) st.found)

-- ---- the goroutine goes on

module _ (g after line : ℕ) (s : State) (st : Stands g after s) (act : Actor → List Change) (h : FrameView)
    (rest : List Change) (same : h.leaving ≡ st.frame.leaving) (free : has_block rest ≡ false) where
  stays-so : StaysIn (frames_of g s) → h.leaving ≡ Leaving.No
  stays-so stays = same ∙ subst StaysIn (frames-is g after s st) stays

  -- with a frame that leaves as its own did
  pub done-standing : act (actor_of st line) ≡ stands (actor_of st line) h ++ rest → StaysIn (frames_of g s)
      → outcome_of (does_by act g line (find g s.goroutines)) ≡ Outcome.Done
  done-standing is stays =
      ap (λ (o : Option GoroutineView). outcome_of (does_by act g line o)) st.found ∙ ap outcome_of is
      ∙ ap (λ b. cond b Outcome.Blocked (frame_outcome h.leaving)) free ∙ ap frame_outcome (stays-so stays)

  -- and an object becomes another one before
  pub done-replacing : (o : ℕ) (x : Object) → act (actor_of st line) ≡ Change.Replace o x
      ∷ (stands (actor_of st line) h ++ rest) → StaysIn (frames_of g s)
      → outcome_of (does_by act g line (find g s.goroutines)) ≡ Outcome.Done
  done-replacing o x is stays =
      ap (λ (o : Option GoroutineView). outcome_of (does_by act g line o)) st.found ∙ ap outcome_of is
      ∙ ap (λ b. cond b Outcome.Blocked (frame_outcome h.leaving)) free ∙ ap frame_outcome (stays-so stays)
