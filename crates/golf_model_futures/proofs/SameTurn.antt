-- A turn of a state that is cut down is that turn cut down.
-- For: `step`, `turn_changes`, golf_model/specs/Turn.antt; `cut`, golf_model/specs/Collections.antt
-- By: cases of whose turn it is and of the frame on top; no induction
use Rattle.std.proofs.Common.{◌≡◌, ℕ, ◌%◌, ◌/◌, Bool, true, not, ◌||◌, List, [], ◌∷◌, length, Option, Some, None, refl}
use Rattle.std.proofs.Common.{ap, ◌∙◌, slice_get}
use Rattle.std.specs.Prelude.{option_and_then}
use Rattle.std.proofs.lemmas.Bool.{and_parts}
use Rattle.golf_theory.specs.Membership.{Every}
use Rattle.golf_theory.specs.Maps.{find, only}
use Rattle.golf_theory.proofs.MapEntries.{Entry-find}
use Rattle.golf_theory.proofs.MapFinds.{find-only}
use Rattle.golf_theory.proofs.MapKeys.{keys_where-only_same}
use Rattle.golf_model_futures.specs.CutStates.{KeepsFresh}
use Rattle.golf_data.specs.declared.code.Code.{Code}
use Rattle.golf_data.specs.declared.code.CodeLine.{CodeLine}
use Rattle.golf_data.specs.declared.goroutine.Leaving.{Leaving}
use Rattle.golf_model.specs.Views.{FrameView, GoroutineView}
use Rattle.golf_model.specs.State.{State, can_run, runnable, ending, ending_of, not_empty, is_running}
use Rattle.golf_model.specs.Changes.{Change, apply_all}
use Rattle.golf_model.specs.Turn.{line_at, acting, performs, frame_changes, goroutine_changes, turn_of, turn_changes}
use Rattle.golf_model.specs.Turn.{whose_turn, turned, cleared_after, step, goroutine_collects, wants_collection}
use Rattle.golf_model.specs.Turn.{moves_on, clears_nothing}
use Rattle.golf_model.specs.ClearedSlots.{clearing}
use Rattle.golf_model.specs.Refs.{frames_refs, goroutine_refs}
use Rattle.golf_model.specs.Collections.{cut}
use Rattle.golf_model_futures.specs.Invariant.{Closed, Nothing, Unfinalised}
use Rattle.golf_model_futures.proofs.RefLaws.{goroutine-frames, frames-head, frames-tail}
use Rattle.golf_model_futures.proofs.Closing.{closed-ground}
use Rattle.golf_model_futures.proofs.Changing.{Wider, sound-wider}
use Rattle.golf_model_futures.proofs.Clearing.{same-clearing}
use Rattle.golf_model_futures.proofs.Staying.{turn-sound, turn-running, behind-sound}
use Rattle.golf_model_futures.proofs.Cutting.{Kept, Stays, keeps_fresh-all, cut_changes}
use Rattle.golf_model_futures.proofs.SameChanges.{same_changes}

module _ (stays kept : ℕ → Bool) (O G : ℕ → Type 0) (s : State) (c : Closed s O G)
    (sub_o : (o : ℕ) → O o → kept o ≡ true) (sub_g : (g : ℕ) → G g → stays g ≡ true) where
  -- who can run stays
  pub same-runnable : runnable (cut stays kept s) ≡ runnable s
  same-runnable = keys_where-only_same (can_run s.queue) stays s.goroutines
      (λ g r e t. sub_g g (c.running g r e (and_parts (is_running r.mode) _ t).0))

  pub same-whose_turn : (k : ℕ) → whose_turn (cut stays kept s) k ≡ whose_turn s k
  same-whose_turn k = ap (λ (gs : List ℕ). slice_get gs (k % length gs)) same-runnable

  pub same-ending : ending (cut stays kept s) ≡ ending s
  same-ending = ap (λ (gs : List ℕ). ending_of s.recorded (not_empty gs)) same-runnable

  module _ (code : Code) where
    same-performs : (g : ℕ) (r : GoroutineView) (f : FrameView) (fs : List FrameView) (choice : ℕ) (m : Option CodeLine)
        → G g → Every O (frames_refs (f ∷ fs))
        → performs code g r f fs choice (cut stays kept s) m ≡ performs code g r f fs choice s m
    same-performs g r f fs choice None j h = refl
    same-performs g r f fs choice (Some l) j h =
        same_changes stays kept O G s (closed-ground O G s c) sub_o sub_g (acting g r f fs l.line)
        (record { number = j; frame = frames-head O f fs h; callers = frames-tail O f fs h }) code l.instr choice

    same-frame : (g : ℕ) (r : GoroutineView) (f : FrameView) (fs : List FrameView) (choice : ℕ) (leaving : Leaving)
        → G g → Every O (frames_refs (f ∷ fs))
        → frame_changes code g r f fs choice (cut stays kept s) leaving ≡ frame_changes code g r f fs choice s leaving
    same-frame g r f fs choice Leaving.No j h = same-performs g r f fs choice (line_at code f.function f.at) j h
    same-frame g r f fs choice (Leaving.Returning v) j h = refl
    same-frame g r f fs choice (Leaving.Unwinding x) j h = refl

    same-goroutine : (g : ℕ) (r : GoroutineView) (choice : ℕ) (fs : List FrameView) → G g → Every O (frames_refs fs)
        → goroutine_changes code g r choice (cut stays kept s) fs ≡ goroutine_changes code g r choice s fs
    same-goroutine g r choice [] j h = refl
    same-goroutine g r choice (f ∷ fs) j h = same-frame g r f fs choice f.leaving j h

    same-turn_of : (g choice : ℕ) (m : Option GoroutineView) → G g
        → ((r : GoroutineView) → m ≡ Some r → Every O (goroutine_refs r))
        → turn_of code g choice (cut stays kept s) m ≡ turn_of code g choice s m
    same-turn_of g choice None j h = refl
    same-turn_of g choice (Some r) j h = same-goroutine g r choice r.frames j (goroutine-frames O r (h r refl))

    -- the turn of a member
    same-turn : (choice : ℕ) (m : Option ℕ) → ((g : ℕ) → m ≡ Some g → G g)
        → turn_changes code choice (cut stays kept s) m ≡ turn_changes code choice s m
    same-turn choice None h = refl
    same-turn choice (Some g) h =
        ap (turn_of code g choice (cut stays kept s)) (find-only stays s.goroutines g (sub_g g (h g refl)))
        ∙ same-turn_of g choice (find g s.goroutines) (h g refl)
        (λ r e. c.goroutines g r (h g refl) (Entry-find g s.goroutines r e))

    -- whose turn it is is a member
    turn-member : (k g : ℕ) → whose_turn s k ≡ Some g → G g
    turn-member k g h = let r = turn-running s k g h in c.running g r.0 r.1 r.2

    pub same-wants : (k : ℕ) → wants_collection code (cut stays kept s) k ≡ wants_collection code s k
    same-wants k =
        ap (λ (m : Option ℕ). goroutine_collects code (option_and_then (λ g. find g (only stays s.goroutines)) m))
        (same-whose_turn k)
        ∙ go (whose_turn s k) (turn-member k)
      where
        go : (m : Option ℕ) → ((g : ℕ) → m ≡ Some g → G g)
            → goroutine_collects code (option_and_then (λ g. find g (only stays s.goroutines)) m)
            ≡ goroutine_collects code (option_and_then (λ g. find g s.goroutines) m)
        go None h = refl
        go (Some g) h = ap (goroutine_collects code) (find-only stays s.goroutines g (sub_g g (h g refl)))

    pub same-turn_changes : (k : ℕ) → turn_changes code (k / length (runnable (cut stays kept s))) (cut stays kept s)
        (whose_turn (cut stays kept s) k) ≡ turn_changes code (k / length (runnable s)) s (whose_turn s k)
    same-turn_changes k =
        ap (λ (gs : List ℕ). turn_changes code (k / length gs) (cut stays kept s) (whose_turn (cut stays kept s) k))
        same-runnable
        ∙ ap (turn_changes code (k / length (runnable s)) (cut stays kept s)) (same-whose_turn k)
        ∙ same-turn (k / length (runnable s)) (whose_turn s k) (turn-member k)

    same-clears : (k : ℕ) → clears_nothing code (cut stays kept s) k ≡ clears_nothing code s k
    same-clears k =
        ap (λ (b : Bool). b || not (moves_on code (cut stays kept s) k)) (same-wants k)
        ∙ ap (λ (cs : List Change). wants_collection code s k || not (not_empty cs)) (same-turn_changes k)

    -- so are the changes of the cut state, and what is cleared after them
    cut_turned : (k : ℕ) → KeepsFresh stays kept s → turned code (cut stays kept s) k ≡ cut stays kept (turned code s k)
    cut_turned k f =
        let cs = turn_changes code (k / length (runnable s)) s (whose_turn s k) in
        let wider : Wider O (Kept stays kept) G (Stays stays kept) (Unfinalised s) (Unfinalised s) =
        record { objects = sub_o; goroutines = sub_g; finalisable = λ o h. h } in
        ap (λ (ds : List Change). apply_all ds (cut stays kept s)) (same-turn_changes k)
        ∙ cut_changes stays kept (Unfinalised s) s.last_object cs s f.objects f
        (sound-wider s.last_object cs wider (turn-sound code G O s c k))

    cut_behind : (k : ℕ) → KeepsFresh stays kept s → cleared_after code (cut stays kept s) k ≡ cleared_after code s k
    cut_behind k f =
        ap (λ (b : Bool). clearing code b (whose_turn (cut stays kept s) k) (turned code (cut stays kept s) k))
        (same-clears k)
        ∙ ap (λ (m : Option ℕ). clearing code (clears_nothing code s k) m (turned code (cut stays kept s) k))
        (same-whose_turn k)
        ∙ ap (clearing code (clears_nothing code s k) (whose_turn s k)) (cut_turned k f)
        ∙ same-clearing stays kept code (clears_nothing code s k) (whose_turn s k) (turned code s k)
        (λ g h. sub_g g (turn-member k g h))

    -- a step of the cut state is the step, cut
    pub cut_step : (k : ℕ) → KeepsFresh stays kept s → step code (cut stays kept s) k ≡ cut stays kept (step code s k)
    cut_step k f =
        let t = turned code s k in
        let ds = cleared_after code s k in
        let after = keeps_fresh-all stays kept (turn_changes code (k / length (runnable s)) s (whose_turn s k)) s f in
        let wider : Wider O (Kept stays kept) G (Stays stays kept) Nothing Nothing =
        record { objects = sub_o; goroutines = sub_g; finalisable = λ o h. h } in
        ap (λ (es : List Change). apply_all es (turned code (cut stays kept s) k)) (cut_behind k f)
        ∙ ap (apply_all ds) (cut_turned k f)
        ∙ cut_changes stays kept Nothing t.last_object ds t after.objects after
        (sound-wider t.last_object ds wider (behind-sound code G O s c k))
