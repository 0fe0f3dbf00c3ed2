-- After the slots that are not needed are cleared, the goroutines still match their calls.
-- For: `Done`, Turned.antt.
-- By: cases of the goroutine of the turn; no induction.
use Rattle.std.proofs.Common.{◌≡◌, ℕ, ◌==◌, Bool, true, false, cond, List, [], ◌∷◌, Option, Some, None, refl, ap, sym}
use Rattle.std.proofs.Common.{◌∙◌, subst}
use Rattle.golf_theory.specs.Membership.{Every}
use Rattle.golf_theory.specs.Maps.{find}
use Rattle.golf_theory.proofs.MapFinds.{find-put, find-put_other}
use Rattle.golf_data.specs.declared.code.Code.{Code}
use Rattle.golf_data.specs.declared.goroutine.Mode.{Mode}
use Rattle.golf_model.specs.Views.{FrameView, GoroutineView}
use Rattle.golf_model.specs.State.{State}
use Rattle.golf_model.specs.Changes.{become, apply_all}
use Rattle.golf_model.specs.ClearedSlots.{cleared, clears_in, clears, clearing}
use Rattle.golf_meaning_runs.specs.Books.{RunTypes, Book, calls_after, frames_in, frames_at}
use Rattle.golf_meaning_runs.specs.Books.{left_by, HasLife, FramesMatch, HasMasks}
use Rattle.golf_meaning_runs.proofs.Framing.{cleared-matches}
use Rattle.golf_meaning_runs.proofs.Others.{one-some}
use Rattle.golf_meaning_runs.proofs.Rebooking.{calls-cleared, left-cleared}
use Rattle.golf_meaning_runs.proofs.Turned.{own_calls, started_calls, calls_left, Done}
use Rattle.golf_meaning_runs.specs.Books.{CallHasLeft, begun_by}
use Rattle.golf_meaning_runs.specs.CallRecords.{noting_start}

module _ (code : Code) (types : RunTypes) (masks : HasMasks code) (s : State) (g : ℕ) (b : Book)
    (not_next : g ≡ s.next_goroutine → ⊥) (t : State) (d : Done code types s g b t) where
  module _ (q : GoroutineView) (found : find g t.goroutines ≡ Some q) (runs : q.mode ≡ Mode.Running) (f : FrameView)
      (fs : List FrameView) (frames : q.frames ≡ f ∷ fs) where
    abbrev now : GoroutineView
    now = record q { frames = cleared code f ∷ fs }

    abbrev u : State
    u = become g now t

    now-found : find g u.goroutines ≡ Some now
    now-found = find-put g now t.goroutines q found

    other : (h : ℕ) → (h ≡ g → ⊥) → find h u.goroutines ≡ find h t.goroutines
    other h ne = find-put_other g now t.goroutines h ne

    same-started : (h : ℕ) → (h ≡ g → ⊥) → started_calls code s g b t h ≡ started_calls code s g b u h
    same-started h ne = ap (λ m. begun_by code (frames_at s g) (b g) (frames_in m)) (sym (other h ne))

    same-after : calls_after code s.queue (frames_at s g) (frames_at t g) (b g)
        ≡ calls_after code s.queue (frames_at s g) (frames_at u g) (b g)
    same-after =
        ap (λ z. calls_after code s.queue (frames_at s g) z (b g)) (ap frames_in found ∙ frames)
        ∙ sym (calls-cleared code s.queue (frames_at s g) f fs (b g))
        ∙ ap (λ z. calls_after code s.queue (frames_at s g) z (b g)) (sym (ap frames_in now-found))

    same-calls : own_calls code s g b t ≡ own_calls code s g b u
    same-calls = ap (λ z. noting_start s.next_goroutine z
        (calls_after code s.queue (frames_at s g) (frames_at t g) (b g)))
        (same-started s.next_goroutine (λ e. not_next (sym e)))
        ∙ ap (λ z. noting_start s.next_goroutine (started_calls code s g b u s.next_goroutine) z) same-after

    same-left : calls_left code s g b t ≡ calls_left code s g b u
    same-left =
        ap (λ z. left_by code (frames_at s g) z (b g)) (ap frames_in found ∙ frames)
        ∙ sym (left-cleared code (frames_at s g) f fs (b g))
        ∙ ap (λ z. left_by code (frames_at s g) z (b g)) (sym (ap frames_in now-found))

    now-fits : FramesMatch code types q.mode q.frames (own_calls code s g b t)
        → FramesMatch code types q.mode (cleared code f ∷ fs) (own_calls code s g b u)
    now-fits m =
        subst (λ mode. FramesMatch code types mode (cleared code f ∷ fs) (own_calls code s g b u)) (sym runs)
        (cleared-matches code types masks f fs (own_calls code s g b u)
        (subst (λ ks. FramesMatch code types Mode.Running (f ∷ fs) ks) same-calls
        (subst (λ z. FramesMatch code types Mode.Running z (own_calls code s g b t)) frames
        (subst (λ mode. FramesMatch code types mode q.frames (own_calls code s g b t)) runs m))))

    cleared-done : Done code types s g b u
    cleared-done = record {
      lives = subst (Every (HasLife code types)) same-calls d.lives;
      begun = subst (Every (HasLife code types)) (same-started s.next_goroutine (λ e. not_next (sym e))) d.begun;
      left = subst (Every (CallHasLeft code types)) same-left d.left;
      fits = λ none x e. subst (λ (z : GoroutineView). FramesMatch code types z.mode z.frames (own_calls code s g b u))
          (one-some now x (sym now-found ∙ e)) (now-fits (d.fits none q found));
      others = λ none h x ne e. subst (λ z. FramesMatch code types x.mode x.frames
          (cond (h == s.next_goroutine) z (b h)))
          (same-started h ne) (d.others none h x ne (sym (other h ne) ∙ e));
    }

  by-frames : (q : GoroutineView) → find g t.goroutines ≡ Some q → (mode : Mode) → q.mode ≡ mode → (fs : List FrameView)
      → q.frames ≡ fs → Done code types s g b (apply_all (clears_in code g q mode fs) t)
  by-frames q found Mode.Running runs [] e = d
  by-frames q found Mode.Running runs (f ∷ fs) e = cleared-done q found runs f fs e
  by-frames q found (Mode.Blocked kind line waits ticket) runs fs e = d

  by-goroutine : (m : Option GoroutineView) → find g t.goroutines ≡ m
      → Done code types s g b (apply_all (clears code g m) t)
  by-goroutine None e = d
  by-goroutine (Some q) e = by-frames q e q.mode refl q.frames refl

  pub after-clearing : (nothing : Bool) → Done code types s g b (apply_all (clearing code nothing (Some g) t) t)
  after-clearing true = d
  after-clearing false = by-goroutine (find g t.goroutines) refl
