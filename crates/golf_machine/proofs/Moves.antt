-- Turns that touch the innermost frame alone.
-- For: `MovesFrame` (golf_machine/specs/InnermostTurns.antt) and `turn_inside`, `inner_turn` (src/innermost_turns.rt)
-- By: computing, with cases of the frame's mask; no induction
use Rattle.std.proofs.Common.{◌≡◌, ◌⊎◌, inl, inr, ℕ, ◌-◌, Bool, true, false, List, [], ◌∷◌, length, take}
use Rattle.std.proofs.Common.{Some, None, refl, sym, ap, ◌∙◌, subst}
use Rattle.std.specs.Prelude.{slice_get, slice_set}
use Rattle.golf_theory.specs.Maps.{find, IsRising}
use Rattle.golf_theory.proofs.MapFinds.{find-put, put-put, find-Entry}
use Rattle.golf_theory.proofs.MapKeys.{keys_where-put_same}
use Rattle.golf_data.specs.declared.code.Code.{Code}
use Rattle.golf_data.specs.declared.code.Function.{Function}
use Rattle.golf_data.specs.declared.code.CodeLine.{CodeLine}
use Rattle.golf_data.specs.declared.goroutine.Frame.{Frame}
use Rattle.golf_data.specs.declared.goroutine.Leaving.{Leaving}
use Rattle.golf_data.specs.declared.goroutine.Mode.{Mode}
use Rattle.golf_data.specs.declared.value.Value.{Value}
use Rattle.golf_data.proofs.Clears.{all-stay}
use Rattle.golf_model.specs.Views.{FrameView, GoroutineView, frame_view, frame_views}
use Rattle.golf_model.specs.State.{State, can_run, runnable, not_empty, ending, ending_of}
use Rattle.golf_model.specs.Actors.{Actor}
use Rattle.golf_model.specs.Changes.{Change, apply_all, become}
use Rattle.golf_model.specs.ClearedSlots.{cleared, clears}
use Rattle.golf_model.specs.Turn.{changes, line_at, turn_of, is_collection}
use Rattle.golf_model.specs.Turn.{goroutine_collects}
use Rattle.golf_model.proofs.ViewForms.{frame_views-push}
use Rattle.golf_state.specs.Looked.{reframed, frames_of, opening}
use Rattle.golf_state.specs.ActorChanges.{Runs}
use Rattle.golf_state.proofs.Tops.{split_last, set_last}
use Rattle.golf_machine.proofs.TurnLaws.{frames-are}
use Rattle.golf_machine.specs.Within.{Becomes, HasTriedWithin}
use Rattle.golf_machine.specs.declared.within.Within.{Within}
use Rattle.golf_machine.specs.InnermostTurns.{cleared_in, MovesFrame, HasTurnedInside, HasTurnedOnTop, IsNowhereOnTop}
use Rattle.golf_machine.specs.InnermostTurns.{keeps_all, taken, HasTakenTurn}
use Rattle.golf_machine.specs.declared.innermost_turns.InnerTurn.{InnerTurn}

-- if there is no mask each slot stays
pub no-mask : (fn : Function) (f : FrameView) → None ≡ slice_get fn.live f.at → f ≡ cleared_in fn f
no-mask fn f m = rw (← m, all-stay (λ i. true) 0 f.slots (λ i l. refl))

-- a state with these globals
abbrev pub blank : List Value → State
blank globals = opening globals [] 0

-- the frame that an instruction left, cleared by the masks of its function
module _ (code : Code) (fn : Function) (l : CodeLine) (f : FrameView)
    (there : Some fn ≡ slice_get code.functions f.function) (at : Some l ≡ slice_get fn.body f.at) where
  pub line-there : line_at code f.function f.at ≡ Some l
  line-there = rw (← there) (sym at)

  pub passed : (frame : FrameView) (globals : List Value) (h : FrameView) → f.leaving ≡ Leaving.No
      → is_collection l.instr ≡ false
      → ((choice : ℕ) (s : State) → s.globals ≡ globals → Becomes (λ a. changes code l.instr a choice s) f frame)
      → h ≡ cleared_in fn frame → MovesFrame code globals f h
  passed frame globals h stays plain does is =
      let b = does 0 (blank globals) refl in record {
        line = l;
        frame = frame;
        stays = stays;
        found = line-there;
        plain = plain;
        does = does;
        clears = rw (is, b.leaving ∙ stays, b.function, ← there);
      }

-- an instruction that is not done leaves the frame as it was
pub left-alone : (on_frame : Bool) (came : Within) (act : Actor → List Change) (f h : FrameView)
    → HasTriedWithin on_frame came act f h → (came ≡ Within.ZeroDivisor)
    ⊎ ((came ≡ Within.Stuck) ⊎ (came ≡ Within.Beyond))
    → h ≡ f
left-alone on_frame Within.Done act f h d e = elim e [ inl x ↦ cc | inr y ↦ elim y [ inl x ↦ cc | inr x ↦ cc ] ]
left-alone on_frame Within.ZeroDivisor act f h d e = d.0
left-alone on_frame Within.Stuck act f h d e = d.0
left-alone on_frame Within.Beyond act f h d e = d.0

-- the innermost frame of a list
module _ (fs : List Frame) (f w : Frame) (n : ℕ) (size : n ≡ length fs) (there : slice_get fs (n - 1) ≡ Some f) where
  abbrev pub below : List FrameView
  below = frame_views (take (length fs - 1) fs)

  at-last : slice_get fs (length fs - 1) ≡ Some f
  at-last = ap (λ k. slice_get fs (k - 1)) (sym size) ∙ there

  pub views-are : frame_views fs ≡ frame_view f ∷ below
  views-are = ap frame_views (split_last fs f at-last) ∙ frame_views-push (take (length fs - 1) fs) f

  pub views-after : frame_views (slice_set fs (n - 1) w) ≡ frame_view w ∷ below
  views-after = rw (size, set_last fs f w at-last) (frame_views-push (take (length fs - 1) fs) w)

  pub on-top-same : frame_view w ≡ frame_view f → frame_views (slice_set fs (n - 1) w) ≡ frame_views fs
  on-top-same e = views-after ∙ ap (λ (x : FrameView). x ∷ below) e ∙ sym views-are

  pub on-top-by : (code : Code) (globals : List Value) (passed : InnerTurn)
      → HasTurnedInside passed code globals (frame_view f) (frame_view w)
      → HasTurnedOnTop passed code globals (frame_views fs) (frame_views (slice_set fs (n - 1) w))
  on-top-by code globals InnerTurn.Over d = record {
    first = frame_view f;
    next = frame_view w;
    callers = below;
    were = views-are;
    are = views-after;
    moves = d;
  }
  on-top-by code globals (InnerTurn.At line after) d =
      (on-top-same d.0, record { frame = frame_view f; callers = below; are = views-are; at = d.1 })
  on-top-by code globals InnerTurn.Nowhere d =
      (on-top-same d.0, subst (λ (gs : List FrameView). IsNowhereOnTop code gs) (sym views-are) d.1)

-- the goroutine with this innermost frame
module _ {code : Code} {g : ℕ} {s : State} (r : Runs g s) {f h : FrameView} {callers : List FrameView}
    (are : r.frames ≡ f ∷ callers) (p : MovesFrame code s.globals f h) where
  abbrev with : FrameView → GoroutineView
  with x = record { frames = x ∷ callers; mode = Mode.Running; started = r.started }

  pub found : find g s.goroutines ≡ Some (with f)
  found = rw are at r.found

  turns : (choice : ℕ) → turn_of code g choice s (find g s.goroutines) ≡ Change.Become g (with p.frame) ∷ []
  turns choice = rw (found, p.stays, p.found)
      (rw p.stays at ((p.does choice s refl).stands g (with f) callers p.line.line))

  pub collects-not : goroutine_collects code (find g s.goroutines) ≡ false
  collects-not = rw (found, p.stays, p.found) p.plain

  keeps-not : (choice : ℕ) → keeps_all code g choice s ≡ false
  keeps-not choice = rw (collects-not, turns choice)

  after : apply_all (clears code g (find g (become g (with p.frame) s).goroutines)) (become g (with p.frame) s)
      ≡ become g (with (cleared code p.frame)) s
  after = rw (
    find-put g (with p.frame) s.goroutines (with f) found,
    put-put g (with (cleared code p.frame)) (with p.frame) s.goroutines,
  )

  -- who can run is the same
  pub runnable-same : IsRising s.goroutines → runnable (become g (with h) s) ≡ runnable s
  runnable-same rises = keys_where-put_same (can_run s.queue) g (with h) s.goroutines
      (λ x i. let e = sym (find-Entry s.goroutines g x rises i) ∙ found in let same : x ≡ with f = cc in
      ap (can_run s.queue g) same)

  pub ending-same : IsRising s.goroutines → ending (become g (with h) s) ≡ ending s
  ending-same rises = ap (λ (xs : List ℕ). ending_of s.recorded (not_empty xs)) (runnable-same rises)

  pub reframed-is : reframed g (h ∷ callers) s ≡ become g (with h) s
  reframed-is = rw found

  pub turn-taken : (choice : ℕ) → reframed g (h ∷ callers) s ≡ taken code g choice s
  turn-taken choice = rw (keeps-not choice, turns choice, after, reframed-is)
      (ap (λ (x : FrameView). become g (with x) s) p.clears)

-- what is lent of the goroutine was changed, or left
module _ (code : Code) (g : ℕ) (s : State) (r : Runs g s) (fs hs : List FrameView) (rises : IsRising s.goroutines)
    (e : fs ≡ frames_of g s) (same : reframed g (frames_of g s) s ≡ s) where
  left-is : hs ≡ fs → reframed g hs s ≡ s
  left-is p = rw (p, e) same

  pub turn-by : (passed : InnerTurn) → HasTurnedOnTop passed code s.globals fs hs
      → HasTakenTurn passed code g s (reframed g hs s)
  turn-by InnerTurn.Over p =
      let are = sym (frames-are r) ∙ sym e ∙ p.were in (
        collects-not r are p.moves,
        λ choice. rw p.are (turn-taken r are p.moves choice),
        rw (p.are, reframed-is r are p.moves) (ending-same r are p.moves rises),
        rw (p.are, reframed-is r are p.moves) (runnable-same r are p.moves rises),
        rw (p.are, reframed-is r are p.moves) refl,
      )
  turn-by (InnerTurn.At line after) p = (left-is p.0, rw (← e) p.1)
  turn-by InnerTurn.Nowhere p = (left-is p.0, rw (← e) p.1)
