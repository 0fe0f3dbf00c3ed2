-- Instructions that touch the innermost frame alone, on the frame of a goroutine.
-- For: `HasTriedWithin` (golf_machine/specs/Within.antt) and `perform_on_frame` (src/instructions.rt)
-- By: cases of what came of the instruction; no induction
use Rattle.std.proofs.Common.{◌≡◌, ℕ, ◌-◌, Bool, true, false, List, [], ◌∷◌, length, Some, refl, ap}
use Rattle.std.proofs.Common.{arith}
use Rattle.std.specs.Prelude.{slice_get, slice_set}
use Rattle.golf_data.specs.declared.goroutine.Frame.{Frame}
use Rattle.golf_data.specs.declared.goroutine.Mode.{Mode}
use Rattle.golf_data.specs.declared.goroutine.PanicKind.{PanicKind}
use Rattle.golf_model.specs.Views.{FrameView, GoroutineView, frame_view, frame_views}
use Rattle.golf_model.specs.State.{State}
use Rattle.golf_model.specs.Changes.{Change, behind_first}
use Rattle.golf_model.specs.Actors.{Actor}
use Rattle.golf_state.specs.Looked.{reframed, frames_of}
use Rattle.golf_state.specs.ActorChanges.{Stands}
use Rattle.golf_machine.specs.Fits.{Fits, outcome_in}
use Rattle.golf_machine.specs.Within.{HasTriedWithin}
use Rattle.golf_machine.specs.declared.within.Within.{Within}
use Rattle.golf_machine.proofs.Fits.{fits-panic}
use Rattle.golf_machine.proofs.Moves.{below, views-are, views-after, on-top-same}

pub no-frames : {g after : ℕ} {s : State} → Stands g after s → (fs : List Frame) (n : ℕ) → n ≡ length fs
    → frame_views fs ≡ frames_of g s → n ≡ 0 → true ≡ false
no-frames st [] n size value none = let e : ◌≡◌ {A = List FrameView} [] _ = rw st.found at value in cc
no-frames st (f ∷ fs) n size value none = absurd (omega (arith, size, none))

same-first : (f h : FrameView) (fs hs : List FrameView) → f ∷ fs ≡ h ∷ hs → (f ≡ h) × (fs ≡ hs)
same-first f h fs hs e = (cc, ap behind_first e)

module _ {g after : ℕ} {s : State} (st : Stands g after s) (fs : List Frame) (f w : Frame) (n : ℕ)
    (size : n ≡ length fs) (there : slice_get fs (n - 1) ≡ Some f) (value : frame_views fs ≡ frames_of g s) where
  pub were : (frame_view f ≡ st.frame) × (below fs f w n size there ≡ st.callers)
  were = same-first (frame_view f) st.frame _ st.callers (rw (views-are fs f w n size there, st.found) at value)

  pub left-is : reframed g (frames_of g s) s ≡ s → frame_view w ≡ frame_view f
      → reframed g (frame_views (slice_set fs (n - 1) w)) s ≡ s
  left-is same e = rw (on-top-same fs f w n size there e, value) same

  -- on a goroutine with this frame, and these callers, the changes are those on its own
  module _ (same : reframed g (frames_of g s) s ≡ s) (act : Actor → List Change) (line : ℕ) where
    abbrev view : GoroutineView
    view = record { frames = []; mode = Mode.Running; started = st.started }

    pub frame-fits : (came : Within) (on_frame : Bool) → on_frame ≡ true
        → HasTriedWithin on_frame came act (frame_view f) (frame_view w)
        → Fits (outcome_in came) act g line s (reframed g (frame_views (slice_set fs (n - 1) w)) s)
    frame-fits Within.Done on_frame t d =
        rw (st.found, ← were.0, ← were.1, views-after fs f w n size there, d.stands g view _ line) (refl, refl)
    frame-fits Within.ZeroDivisor on_frame t d = rw (left-is same d.0)
        (fits-panic act st line PanicKind.DivideByZero (rw (← were.0) (d.1 g view st.callers line)))
    frame-fits Within.Stuck on_frame t d =
        rw (left-is same d.0, st.found, ← were.0, d.1 g view st.callers line) (refl, refl)
    frame-fits Within.Beyond on_frame t d = let h = d.1 in cc
