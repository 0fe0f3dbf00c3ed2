-- A turn that asks for a collection, and how it is taken back.
-- For: `turn_and_collect`, src/turn_with_collection.rt; `wants_collection`, golf_model/specs/Turn.antt
-- By: cases of the frame on top and of its next instruction; no induction
use Rattle.std.proofs.Common.{◌≡◌, ℕ, ◌+◌, ◌/◌, Bool, true, false, not, ◌||◌, List, [], ◌∷◌, length, Option, Some, None}
use Rattle.std.proofs.Common.{refl, sym, ap, ◌∙◌}
use Rattle.std.specs.Prelude.{option_and_then}
use Rattle.golf_theory.specs.Maps.{find, IsRising}
use Rattle.golf_data.specs.declared.code.Code.{Code}
use Rattle.golf_data.specs.declared.code.Instr.{Instr}
use Rattle.golf_data.specs.declared.code.CodeLine.{CodeLine}
use Rattle.golf_data.specs.declared.goroutine.Ending.{Ending}
use Rattle.golf_data.specs.declared.goroutine.Leaving.{Leaving}
use Rattle.golf_data.specs.declared.goroutine.Mode.{Mode}
use Rattle.golf_model.specs.Views.{FrameView, GoroutineView}
use Rattle.golf_model.specs.State.{State, runnable, ending}
use Rattle.golf_model.specs.Wakes.{on_top}
use Rattle.golf_model.specs.Changes.{Change, apply_all}
use Rattle.golf_model.specs.Actors.{next, stands, goes}
use Rattle.golf_model.specs.ClearedSlots.{clearing}
use Rattle.golf_model.specs.Turn.{turned, changes, line_at, acting, performs, frame_changes, goroutine_changes, turn_of}
use Rattle.golf_model.specs.Turn.{turn_changes, whose_turn, step, is_collection, line_collects, frame_collects}
use Rattle.golf_model.specs.Turn.{frames_collect, goroutine_collects, wants_collection, moves_on}
use Rattle.golf_state.specs.FrameChanges.{went}
use Rattle.golf_state.specs.Looked.{frames_of, frames_in, reframed, runs, is_running_in}
use Rattle.golf_state.specs.ActorChanges.{Stands}
use Rattle.golf_state.proofs.Doings.{actor_of, frames-is, found-after, taken-back}
use Rattle.golf_machine.proofs.TurnLaws.{turn-runs}
use Rattle.golf_machine.specs.Turns.{turned_of}
use Rattle.golf_machine.specs.declared.turns.Turned.{Turned}
use Rattle.golf_machine.specs.declared.turns.Turned.TheVariants as t
use Rattle.golf_model_futures.proofs.OrderedCollecting.{collecting-goes}
use Rattle.golf_world.specs.Steps.{place_in}

only-collect : (i : Instr) → is_collection i ≡ true → i ≡ Instr.Collect
only-collect Instr.Collect e = refl
only-collect _ e = cc

-- its goroutine goes on after the instruction, and nothing else happens
record Goes (g : ℕ) (r : GoroutineView) (f : FrameView) (callers : List FrameView) (cs : List Change) : Type 0 where
  line : ℕ
  is : cs ≡ goes (acting g r f callers line) f.operands

record GoesSome (g : ℕ) (r : GoroutineView) (fs : List FrameView) (cs : List Change) : Type 0 where
  frame : FrameView
  callers : List FrameView
  shape : fs ≡ frame ∷ callers
  goes : Goes g r frame callers cs

module _ (code : Code) (s : State) (choice : ℕ) where
  at-line : (g : ℕ) (r : GoroutineView) (f : FrameView) (callers : List FrameView) (m : Option CodeLine)
      → line_collects m ≡ true → Goes g r f callers (performs code g r f callers choice s m)
  at-line g r f callers None h = cc
  at-line g r f callers (Some l) h = record {
    line = l.line;
    is = ap (λ (i : Instr). changes code i (acting g r f callers l.line) choice s) (only-collect l.instr h);
  }

  at-leaving : (g : ℕ) (r : GoroutineView) (f : FrameView) (callers : List FrameView) (m : Leaving)
      → frame_collects code f m ≡ true → Goes g r f callers (frame_changes code g r f callers choice s m)
  at-leaving g r f callers Leaving.No h = at-line g r f callers (line_at code f.function f.at) h
  at-leaving g r f callers (Leaving.Returning v) h = cc
  at-leaving g r f callers (Leaving.Unwinding x) h = cc

  at-frames : (g : ℕ) (r : GoroutineView) (fs : List FrameView) → frames_collect code fs ≡ true
      → GoesSome g r fs (goroutine_changes code g r choice s fs)
  at-frames g r [] h = cc
  at-frames g r (f ∷ fs) h = record { frame = f; callers = fs; shape = refl; goes = at-leaving g r f fs f.leaving h }

-- the state after a turn of this goroutine that asks for a collection
pub record IsAtCollect (g : ℕ) (s next_state : State) : Type 0 where
  pub after : ℕ
  pub st : Stands g after s
  pub line : ℕ
  pub then : next_state ≡ apply_all (stands (actor_of st line) (next st.frame st.frame.operands)) s

pub at-collect : (code : Code) (s : State) (n g : ℕ) → IsRising s.goroutines → whose_turn s n ≡ Some g
    → wants_collection code s n ≡ true → IsAtCollect g s (step code s n)
at-collect code s n g rises turn wants =
    let runs = turn-runs s n g rises turn in
    let r : GoroutineView = record { frames = runs.frames; mode = Mode.Running; started = runs.started } in
    let found : find g s.goroutines ≡ Some r = runs.found in
    let choice : ℕ = n / length (runnable s) in
    let collects : frames_collect code runs.frames ≡ true =
    sym (ap (λ (m : Option ℕ). goroutine_collects code (option_and_then (λ k. find k s.goroutines) m)) turn
    ∙ ap (goroutine_collects code) found) ∙ wants in
    let t = at-frames code s choice g r runs.frames collects in
    record {
      after = t.frame.at + 1;
      st = record {
        frame = t.frame;
        callers = t.callers;
        started = runs.started;
        found = found ∙ ap (λ (fs : List FrameView). let q : GoroutineView =
            record { frames = fs; mode = Mode.Running; started = runs.started } in Some q) t.shape;
        next = refl;
      };
      line = t.goes.line;
      then = ap (λ (b : Bool). let t : State = turned code s n in apply_all
          (clearing code (b || not (moves_on code s n)) (whose_turn s n) t) t) wants
          ∙ ap (λ (m : Option ℕ). apply_all (turn_changes code choice s m) s) turn
          ∙ ap (λ (o : Option GoroutineView). apply_all (turn_of code g choice s o) s) found
          ∙ ap (λ (cs : List Change). apply_all cs s) t.goes.is;
    }

pub runs_after : (g : ℕ) (s t : State) → IsAtCollect g s t → runs g t ≡ true
runs_after g s t c = ap is_running_in (found-after g c.after s c.st
    (next c.st.frame c.st.frame.operands) c.line t c.then)

-- the frame stands where it stood: that is all that the turn changed
pub put-back-is : (g at : ℕ) (s t : State) → IsAtCollect g s t → at ≡ place_in (frames_of g s) → IsRising t.goroutines
    → reframed g (on_top (went at 0 []) (frames_of g t)) t ≡ s
put-back-is g at s t c here rises =
    let st = c.st in
    let f : FrameView = next st.frame st.frame.operands in
    let place : at ≡ st.frame.at = here ∙ ap place_in (frames-is g c.after s st) in
    let found = found-after g c.after s st f c.line t c.then in
    let frames : on_top (went at 0 []) (frames_of g t) ≡ st.frame ∷ st.callers =
    ap (λ (o : Option GoroutineView). on_top (went at 0 []) (frames_in o)) found
    ∙ ap (λ (k : ℕ). let q : FrameView = record st.frame { at = k } in q ∷ st.callers) place in
    taken-back g c.after s st f c.line t (on_top (went at 0 []) (frames_of g t)) rises c.then frames

-- what a turn tells of collections
loud-by : (turned : Turned) (o : Option Ending) (b : Bool) → turned ≡ t.WantsCollection → turned ≡ turned_of o b
    → b ≡ true
loud-by turned (Some e) b is h = let f : t.WantsCollection ≡ t.Ended e = sym is ∙ h in cc
loud-by turned None true is h = refl
loud-by turned None false is h = let f : t.WantsCollection ≡ t.Went = sym is ∙ h in cc

pub loud : (turned : Turned) (code : Code) (s after : State) (n : ℕ) → turned ≡ t.WantsCollection
    → turned ≡ turned_of (ending after) (wants_collection code s n) → wants_collection code s n ≡ true
loud turned code s after n is h = loud-by turned (ending after) (wants_collection code s n) is h

silent-end : (code : Code) (s : State) (k : ℕ) (b : Bool) (e : Ending) → wants_collection code s k ≡ b → ending s ≡ None
    → ending (step code s k) ≡ Some e → wants_collection code s k ≡ false
silent-end code s k true e w goes h = let n = collecting-goes code s k goes w in cc
silent-end code s k false e w goes h = w

quiet-by : (turned : Turned) (o : Option Ending) (b : Bool) → (turned ≡ t.WantsCollection → ⊥) → turned ≡ turned_of o b
    → ((e : Ending) → o ≡ Some e → b ≡ false) → b ≡ false
quiet-by turned (Some e) b n h ends = ends e refl
quiet-by turned None true n h ends = absurd (n h)
quiet-by turned None false n h ends = refl

pub quiet : (turned : Turned) (code : Code) (s after : State) (n : ℕ) → (turned ≡ t.WantsCollection → ⊥)
    → after ≡ step code s n → ending s ≡ None → turned ≡ turned_of (ending after) (wants_collection code s n)
    → wants_collection code s n ≡ false
quiet turned code s after n other is goes h =
    quiet-by turned (ending after) (wants_collection code s n) other h
    (λ e f. silent-end code s n (wants_collection code s n) e refl goes (sym (ap ending is) ∙ f))
