-- A turn that asks for a collection ends nothing.
-- For: `wants_collection`, golf_model/specs/Turn.antt
-- By: cases of the instruction; no induction
use Rattle.std.proofs.Common.{◌≡◌, ℕ, ◌/◌, Bool, true, false, not, ◌&&◌, ◌||◌, List, [], ◌∷◌, length, Option, Some}
use Rattle.std.proofs.Common.{None, refl, sym, ap, subst, ◌∙◌, ◌==◌}
use Rattle.std.specs.Prelude.{option_and_then}
use Rattle.golf_theory.specs.Membership.{In}
use Rattle.golf_theory.specs.Maps.{find, put, keys_where}
use Rattle.golf_theory.proofs.MapEntries.{Entry-find, Entry-put_same, In-keys_where}
use Rattle.golf_data.specs.declared.code.Code.{Code}
use Rattle.golf_data.specs.declared.code.Instr.{Instr}
use Rattle.golf_data.specs.declared.code.CodeLine.{CodeLine}
use Rattle.golf_data.specs.declared.goroutine.Ending.{Ending}
use Rattle.golf_data.specs.declared.goroutine.Leaving.{Leaving}
use Rattle.golf_model.specs.Views.{FrameView, GoroutineView}
use Rattle.golf_model.specs.State.{State, can_run, not_empty, runnable, ending_of, ending}
use Rattle.golf_model.specs.Changes.{become, apply_all}
use Rattle.golf_model.specs.Actors.{standing, next}
use Rattle.golf_model.specs.ClearedSlots.{clearing}
use Rattle.golf_model.specs.Turn.{turned, line_at, acting, performs, frame_changes, goroutine_changes, turn_of}
use Rattle.golf_model.specs.Turn.{turn_changes, whose_turn, step, is_collection, line_collects, frame_collects}
use Rattle.golf_model.specs.Turn.{frames_collect, goroutine_collects, wants_collection, moves_on}

only-collect : (i : Instr) → is_collection i ≡ true → i ≡ Instr.Collect
only-collect Instr.Collect e = refl
only-collect _ e = cc

member-there : (xs : List ℕ) (g : ℕ) → In g xs → not_empty xs ≡ true
member-there [] g h = absurd h
member-there (x ∷ xs) g h = refl

runs : (a b : Bool) → (true && (a || (true || b))) ≡ true
runs true b = refl
runs false b = refl

unrecorded : (o : Option Ending) (b : Bool) → ending_of o b ≡ None → o ≡ None
unrecorded None b e = refl
unrecorded (Some x) b e = cc

module _ (code : Code) (s : State) (choice : ℕ) (goes : ending s ≡ None) where
  -- whoever runs on keeps the program from ending
  become-goes : (g : ℕ) (r : GoroutineView) (q : GoroutineView) → find g s.goroutines ≡ Some r
      → can_run s.queue g q ≡ true → ending (become g q s) ≡ None
  become-goes g r q e h =
      let there = In-keys_where (can_run s.queue) (put g q s.goroutines) g q
      (Entry-put_same g q s.goroutines r (Entry-find g s.goroutines r e)) h in
      ap (ending_of s.recorded) (member-there (keys_where (can_run s.queue) (put g q s.goroutines)) g there)
      ∙ ap (λ o. ending_of o true) (unrecorded s.recorded (not_empty (runnable s)) goes)

  at-line : (g : ℕ) (r : GoroutineView) (f : FrameView) (callers : List FrameView) (m : Option CodeLine)
      → find g s.goroutines ≡ Some r → line_collects m ≡ true
      → ending (apply_all (performs code g r f callers choice s m) s) ≡ None
  at-line g r f callers None e h = cc
  at-line g r f callers (Some l) e h =
      subst (λ i. ending (apply_all (performs code g r f callers choice s (Some (record { instr = i; line = l.line })))
      s) ≡ None) (sym (only-collect l.instr h))
      (become-goes g r (standing (acting g r f callers l.line) (next f f.operands)) e
      (runs (not (g == 0)) (not_empty s.queue)))

  at-frame : (g : ℕ) (r : GoroutineView) (f : FrameView) (callers : List FrameView) (m : Leaving)
      → find g s.goroutines ≡ Some r → frame_collects code f m ≡ true
      → ending (apply_all (frame_changes code g r f callers choice s m) s) ≡ None
  at-frame g r f callers Leaving.No e h = at-line g r f callers (line_at code f.function f.at) e h
  at-frame g r f callers (Leaving.Returning v) e h = cc
  at-frame g r f callers (Leaving.Unwinding x) e h = cc

  at-frames : (g : ℕ) (r : GoroutineView) (fs : List FrameView) → find g s.goroutines ≡ Some r
      → frames_collect code fs ≡ true → ending (apply_all (goroutine_changes code g r choice s fs) s) ≡ None
  at-frames g r [] e h = cc
  at-frames g r (f ∷ fs) e h = at-frame g r f fs f.leaving e h

  at-goroutine : (g : ℕ) (m : Option GoroutineView) → find g s.goroutines ≡ m → goroutine_collects code m ≡ true
      → ending (apply_all (turn_of code g choice s m) s) ≡ None
  at-goroutine g None e h = cc
  at-goroutine g (Some r) e h = at-frames g r r.frames e h

  at-turn : (m : Option ℕ) → goroutine_collects code (option_and_then (λ g. find g s.goroutines) m) ≡ true
      → ending (apply_all (turn_changes code choice s m) s) ≡ None
  at-turn None h = cc
  at-turn (Some g) h = at-goroutine g (find g s.goroutines) refl h

pub collecting-goes : (code : Code) (s : State) (k : ℕ) → ending s ≡ None → wants_collection code s k ≡ true
    → ending (step code s k) ≡ None
collecting-goes code s k goes h =
    let t = turned code s k in
    ap (λ (b : Bool). ending (apply_all (clearing code (b || not (moves_on code s k)) (whose_turn s k) t) t)) h
    ∙ at-turn code s (k / length (runnable s)) goes (whose_turn s k) h
