-- The goroutine whose innermost frame is cleared.
-- For: `tidied` (golf_state/specs/ClearedFrames.antt) and `clear_frame` (src/cleared_slots.rt), `clear_slots`
-- (src/state.rt)
-- By: cases of the goroutine's mode and of its frames; no induction
use Rattle.std.proofs.Common.{◌≡◌, ℕ, true, List, [], ◌∷◌, Option, Some, None, refl, sym, ap, ◌∙◌}
use Rattle.golf_theory.specs.Maps.{find, Rises}
use Rattle.golf_data.specs.declared.value.Value.{Value}
use Rattle.golf_data.specs.declared.goroutine.Leaving.{Leaving}
use Rattle.golf_data.specs.Slots.{cleared_slots}
use Rattle.golf_data.proofs.Clears.{all-stay}
use Rattle.golf_data.specs.declared.code.Code.{Code}
use Rattle.golf_data.specs.declared.goroutine.Mode.{Mode}
use Rattle.golf_model.specs.Views.{FrameView, GoroutineView}
use Rattle.golf_model.specs.State.{State}
use Rattle.golf_model.specs.Changes.{become, apply_all}
use Rattle.golf_model.specs.Wakes.{on_top}
use Rattle.golf_model.specs.ClearedSlots.{mask_at, stays_in, cleared, clears_in, clears}
use Rattle.golf_state.specs.ClearedFrames.{tidied, tidied_in}
use Rattle.golf_state.proofs.PlaceLaws.{put-same}

-- it is the change of the definitions
pub tidied-clears : (code : Code) (g : ℕ) (r : GoroutineView) (s : State) → Rises 0 s.goroutines
    → find g s.goroutines ≡ Some r → become g (tidied code r) s ≡ apply_all (clears code g (find g s.goroutines)) s
tidied-clears code g r s rises h = by-mode r.mode r.frames refl
    ∙ sym (ap (λ (o : Option GoroutineView). apply_all (clears code g o) s) h)
  where
    same : become g r s ≡ s
    same = ap (λ (es : List (ℕ × GoroutineView)). record s { goroutines = es }) (put-same g 0 r s.goroutines rises h)

    by-mode : (m : Mode) (fs : List FrameView) → r.frames ≡ fs
        → become g (tidied_in code r m) s ≡ apply_all (clears_in code g r m fs) s
    by-mode Mode.Running [] e = ap (λ (gs : List FrameView). become g
        (record r { frames = on_top (cleared code) gs }) s) e
        ∙ sym (ap (λ (gs : List FrameView). become g (record r { frames = gs }) s) e) ∙ same
    by-mode Mode.Running (f ∷ fs) e = ap (λ (gs : List FrameView). become g
        (record r { frames = on_top (cleared code) gs }) s) e
    by-mode (Mode.Blocked kind line waits ticket) fs e = same

-- a frame that stands at a place without a mask stays as it is
pub without-mask : (code : Code) (f : FrameView) → f.leaving ≡ Leaving.No → None ≡ mask_at code f.function f.at
    → f ≡ cleared code f
without-mask code f l m = ap (λ (vs : List Value). record f { slots = vs })
    (sym (all-stay (λ i. true) 0 f.slots (λ i l. refl))
    ∙ ap (λ (o : Option ℕ). cleared_slots (stays_in Leaving.No o) f.slots) m
    ∙ sym (ap (λ (x : Leaving). cleared_slots (stays_in x (mask_at code f.function f.at)) f.slots) l))
