-- Turns of the one goroutine that can run.
-- For: `HasKeptOn` (golf_machine/specs/Batches.antt) and `keep_on`, `go_on_inside` (src/inner_batches.rt)
-- By: induction over the list of choices, one for each turn
use Rattle.std.proofs.Common.{◌≡◌, ℕ, ◌+◌, ◌/◌, true, false, List, [], ◌∷◌, ◌++◌, length, Option, Some, None, refl}
use Rattle.std.proofs.Common.{sym, ap, ◌∙◌, arith}
use Rattle.std.proofs.Math.Nat.{mod-one}
use Rattle.std.proofs.lemmas.List.{length-append}
use Rattle.golf_theory.specs.Maps.{find, IsRising}
use Rattle.golf_theory.proofs.MapFinds.{find-put, put-put}
use Rattle.golf_theory.proofs.MapOrder.{Rises-put}
use Rattle.golf_data.specs.declared.value.Value.{Value}
use Rattle.golf_data.specs.declared.code.Code.{Code}
use Rattle.golf_data.specs.declared.goroutine.Mode.{Mode}
use Rattle.golf_model.specs.Views.{FrameView, GoroutineView}
use Rattle.golf_model.specs.State.{State, runnable, ending}
use Rattle.golf_model.specs.Changes.{become}
use Rattle.golf_model.specs.Turn.{step, whose_turn, wants_collection}
use Rattle.golf_model.specs.Runs.{Event}
use Rattle.golf_state.specs.Looked.{reframed, frames_of, frames_in, runs}
use Rattle.golf_state.specs.ActorChanges.{Runs}
use Rattle.golf_machine.specs.InnermostTurns.{MovesFrame, MovesOnTop, MoveEach, MoveInside, HasTurnedInside}
use Rattle.golf_machine.specs.declared.innermost_turns.InnerTurn.{InnerTurn}
use Rattle.golf_machine.specs.Batches.{stops_after, steps, GoOn, HasGoneOn, HasKeptInside, HasKeptOn}
use Rattle.golf_machine.specs.Batches.{HasAsked, IsLone}
use Rattle.golf_machine.proofs.Moves.{found, runnable-same, ending-same, reframed-is, turn-taken, collects-not}
use Rattle.golf_machine.proofs.Sequence.{events-after}
use Rattle.golf_machine.proofs.TurnLaws.{step-taken as taken-is, wants-is, frames-are, turn-runs}

-- ---- the frames

-- ---- one frame

inside-more : (code : Code) (globals : List Value) (cs : List ℕ) (c : ℕ) (f k h : FrameView)
    → MoveInside code globals cs f k → MovesFrame code globals k h → MoveInside code globals (cs ++ c ∷ []) f h
inside-more code globals [] c f k h e p = (h, rw (← e) p, refl)
inside-more code globals (d ∷ cs) c f k h e p = (e.0, e.1, inside-more code globals cs c e.0 k h e.2 p)

pub one-inside : {tried : InnerTurn} {code : Code} {globals : List Value} {f k h : FrameView}
    {es later rest : List Event} {n j m c : ℕ} → tried ≡ InnerTurn.Over → HasKeptInside code globals f k es later n j
    → later ≡ Event.Turn c ∷ rest → m ≡ j + 1 → HasTurnedInside tried code globals k h
    → HasKeptInside code globals f h es rest n m
one-inside {code = code} {globals} {f} {k} {h} {rest = rest} {c = c} t w next more p =
    let size = length-append w.taken (c ∷ []) in
    let count = w.count in
    record {
      taken = w.taken ++ c ∷ [];
      order = rw (w.order, next) (events-after w.taken (c ∷ []) rest);
      count = omega (arith, size, count, more);
      moves = inside-more code globals w.taken c f k h w.moves (rw t at p);
    }

-- the frame is the innermost one
on-top : (code : Code) (globals : List Value) (cs : List ℕ) (f h : FrameView) (callers : List FrameView)
    → MoveInside code globals cs f h → MoveEach code globals cs (f ∷ callers) (h ∷ callers)
on-top code globals [] f h callers e = ap (λ (x : FrameView). x ∷ callers) e
on-top code globals (c ∷ cs) f h callers e = (
  e.0 ∷ callers,
  record { first = f; next = e.0; callers = callers; were = refl; are = refl; moves = e.1 },
  on-top code globals cs e.0 h callers e.2,
)

kept-on-top : {code : Code} {globals : List Value} {f h : FrameView} (callers : List FrameView) {es later : List Event}
    {n k : ℕ} → HasKeptInside code globals f h es later n k
    → HasKeptOn code globals (f ∷ callers) (h ∷ callers) es later n k
kept-on-top {code} {globals} {f} {h} callers w = record {
  taken = w.taken;
  order = w.order;
  count = w.count;
  moves = on-top code globals w.taken f h callers w.moves;
}

pub asked-on-top : (code : Code) (globals : List Value) {f h : FrameView} (callers fs hs : List FrameView)
    (o : Option ℕ) (before after : List Event) (given now : ℕ) → fs ≡ f ∷ callers → hs ≡ h ∷ callers
    → HasAsked o (λ es n. HasKeptInside code globals f h before es given n) after now
    → HasAsked o (λ es n. HasKeptOn code globals fs hs before es given n) after now
asked-on-top code globals callers fs hs None before after given now were are a = (rw (were, are) (kept-on-top callers a.0), a.1)
asked-on-top code globals callers fs hs (Some c) before after given now were are a =
    (a.0, rw (were, are) (kept-on-top callers a.1), a.2)

-- ---- the state

-- the goroutine alone can run, and nothing printed is there
pub record IsAlone (g : ℕ) (s : State) : Type 0 where
  pub runs : Runs g s
  pub alone : runnable s ≡ g ∷ []
  pub goes : ending s ≡ None
  pub quiet : s.output ≡ []
  pub rises : IsRising s.goroutines
  pub same : reframed g (frames_of g s) s ≡ s

module _ {code : Code} {g : ℕ} {s : State} (a : IsAlone g s) {ks : List FrameView}
    (p : MovesOnTop code s.globals (frames_of g s) ks) where
  are : a.runs.frames ≡ p.first ∷ p.callers
  are = sym (frames-are a.runs) ∙ p.were

  abbrev with : FrameView → GoroutineView
  with x = record { frames = x ∷ p.callers; mode = Mode.Running; started = a.runs.started }

  abbrev stepped : State
  stepped = become g (with p.next) s

  after-is : reframed g ks s ≡ stepped
  after-is = ap (λ (xs : List FrameView). reframed g xs s) p.are ∙ reframed-is a.runs are p.moves

  turn-is : (c : ℕ) → whose_turn s c ≡ Some g
  turn-is c = rw (a.alone, mod-one c)

  step-taken : (c : ℕ) → reframed g ks s ≡ step code s c
  step-taken c = taken-is code s c g (turn-is c) _ _ _ refl refl
      (ap (λ (xs : List FrameView). reframed g xs s) p.are ∙ turn-taken a.runs are p.moves (c / length (runnable s)))

  ending-is : ending (reframed g ks s) ≡ None
  ending-is = rw (after-is, ending-same a.runs are p.moves a.rises) a.goes

  wants-not : (c : ℕ) → wants_collection code s c ≡ false
  wants-not c = rw (wants-is code s c g (turn-is c)) (collects-not a.runs are p.moves)

  stops-not : (c : ℕ) → stops_after code s c ≡ false
  stops-not c = rw (← (step-taken c), ending-is, wants-not c, after-is, a.quiet)

  found-after : find g stepped.goroutines ≡ Some (with p.next)
  found-after = find-put g (with p.next) s.goroutines (with p.first) (found a.runs are p.moves)

  frames-after : frames_of g stepped ≡ ks
  frames-after = ap frames_in found-after ∙ sym p.are

  reframed-after : (hs : List FrameView) → reframed g hs stepped ≡ reframed g hs s
  reframed-after hs = rw (found-after, found a.runs are p.moves, put-put g _ (with p.next) s.goroutines)

  alone-after : IsAlone g stepped
  alone-after = record {
    runs = record { frames = p.next ∷ p.callers; started = a.runs.started; found = found-after };
    alone = rw (runnable-same a.runs are p.moves a.rises) a.alone;
    goes = ap ending (sym after-is) ∙ ending-is;
    quiet = a.quiet;
    rises = Rises-put 0 g (with p.next) s.goroutines a.rises;
    same = rw (reframed-after (frames_of g stepped), frames-after) after-is;
  }

-- each turn is the goroutine's, and after none the outside is needed
pub alone-steps : (code : Code) (g : ℕ) (s : State) (a : IsAlone g s) (cs : List ℕ) (hs : List FrameView)
    → MoveEach code s.globals cs (frames_of g s) hs
    → (reframed g hs s ≡ steps code s cs) × GoOn code s cs × (ending (reframed g hs s) ≡ None)
alone-steps code g s a [] hs e = rw e (a.same, tt, rw a.same a.goes)
alone-steps code g s a (c ∷ cs) hs e =
    let p = e.1 in
    let rest = alone-steps code g (stepped a p) (alone-after a p) cs hs (rw (frames-after a p) e.2) in
    let there = reframed-after a p hs in
    let is : stepped a p ≡ step code s c = sym (after-is a p) ∙ step-taken a p c in
    (rw (← there, ← is) rest.0, (stops-not a p c, rw (← is) rest.1), rw (← there) rest.2)

-- the goroutine that alone can run is running
lone-runs : (g : ℕ) (s : State) → IsRising s.goroutines → runnable s ≡ g ∷ [] → Runs g s
lone-runs g s rises e = turn-runs s 0 g rises (rw e)

pub lone-is-running : {g : ℕ} {s : State} → IsRising s.goroutines → IsLone g s → runs g s ≡ true
lone-is-running {g} {s} rises lone = rw (lone-runs g s rises lone.alone).found

-- what was asked of the frames that are lent, asked of the state, which goes on
module _ (code : Code) {g : ℕ} {s : State} (rises : IsRising s.goroutines) (lone : IsLone g s) (goes : ending s ≡ None)
    (hs : List FrameView) {fs : List FrameView} (value : fs ≡ frames_of g s) (same : reframed g (frames_of g s) s ≡ s)
    {globals : List Value} (are-those : globals ≡ s.globals) where
  gone : (before after : List Event) (given now : ℕ) → HasKeptOn code globals fs hs before after given now
      → HasGoneOn code s (reframed g hs s) before after given now × (ending (reframed g hs s) ≡ None)
  gone before after given now w =
      let r = alone-steps code g s (record {
        runs = lone-runs g s rises lone.alone;
        alone = lone.alone;
        goes = goes;
        quiet = lone.quiet;
        rises = rises;
        same = same;
      }) w.taken hs (rw (← are-those, ← value) w.moves) in
      (record { taken = w.taken; order = w.order; count = w.count; silent = r.1; state = r.0 }, r.2)

  pub lone-asked : (o : Option ℕ) (before after : List Event) (given now : ℕ)
      → HasAsked o (λ es n. HasKeptOn code globals fs hs before es given n) after now
      → HasAsked o (λ es n. HasGoneOn code s (reframed g hs s) before es given n) after now
      × (ending (reframed g hs s) ≡ None)
  lone-asked None before after given now a = let w = gone before after given now a.0 in ((w.0, a.1), w.1)
  lone-asked (Some c) before after given now a = let w = gone before (Event.Turn c ∷ after) given a.0 a.1 in
      ((a.0, w.0, a.2), w.1)
