-- Whose turn it is, and what the turn is.
-- For: `whose_turn`, `step` (golf_model/specs/Turn.antt) and `turn` (src/turns.rt), `act` (src/goroutine_turn.rt)
-- By: cases of the goroutine's mode and of its first frame; no induction
use Rattle.std.proofs.Common.{◌≡◌, ℕ, ◌+◌, ◌<◌, ◌%◌, ◌/◌, true, not, ◌||◌, ◌==◌, List, [], ◌∷◌, length, Option}
use Rattle.std.proofs.Common.{Some, None, refl, sym, ap, ◌∙◌, arith, ◌^◌}
use Rattle.std.specs.Prelude.{slice_get, option_and_then}
use Rattle.std.proofs.lemmas.Bool.{and_parts}
use Rattle.golf_data.specs.declared.code.Code.{Code}
use Rattle.golf_data.specs.declared.code.CodeLine.{CodeLine}
use Rattle.golf_data.specs.declared.goroutine.Ending.{Ending}
use Rattle.golf_data.specs.declared.goroutine.Mode.{Mode}
use Rattle.golf_theory.specs.Maps.{find, IsRising}
use Rattle.golf_theory.proofs.Lists.{In-slice_get}
use Rattle.golf_theory.proofs.MapEntries.{Entry-keys_where}
use Rattle.golf_theory.proofs.MapFinds.{find-Entry}
use Rattle.std.proofs.lemmas.Option.{slice_get_within}
use Rattle.golf_data.specs.declared.code.Function.{Function}
use Rattle.golf_data.specs.Places.{IsShort, HasPlaces}
use Rattle.golf_model.specs.Views.{FrameView, GoroutineView}
use Rattle.golf_model.specs.State.{State, is_running, not_empty, can_run, runnable, ending, ending_of}
use Rattle.golf_model.specs.Changes.{behind_first}
use Rattle.golf_model.specs.Turn.{whose_turn, step, wants_collection, goroutine_collects}
use Rattle.golf_model.specs.Turn.{line_at}
use Rattle.golf_state.specs.Looked.{frames_of, frames_in}
use Rattle.golf_state.specs.ActorChanges.{Stands, Runs}
use Rattle.golf_state.specs.Outcomes.{StaysIn}
use Rattle.golf_machine.specs.InnermostTurns.{IsAtTop, taken}

-- ---- whose turn it is

awake : (m : Option Ending) (xs : List ℕ) → ending_of m (not_empty xs) ≡ None → 0 < length xs
awake (Some e) xs h = cc
awake None [] h = cc
awake None (x ∷ xs) h = omega arith

pub some_run : (s : State) → ending s ≡ None → 0 < length (runnable s)
some_run s goes = awake s.recorded (runnable s) goes

-- the goroutine at the place that the number gives
pub whose : (s : State) (n g place count : ℕ) → slice_get (runnable s) place ≡ Some g → place ≡ n % count
    → count ≡ length (runnable s) → whose_turn s n ≡ Some g
whose s n g place count at is told = rw (← told, ← is) at

mode-running : (m : Mode) → is_running m ≡ true → m ≡ Mode.Running
mode-running Mode.Running h = refl
mode-running (Mode.Blocked kind line waits ticket) h = cc

-- a goroutine whose turn it is runs
pub turn-runs : (s : State) (n g : ℕ) → IsRising s.goroutines → whose_turn s n ≡ Some g → Runs g s
turn-runs s n g r h =
    let i = Entry-keys_where (can_run s.queue) s.goroutines g
    (In-slice_get (runnable s) (n % length (runnable s)) g h) in
    let x = i.0 in
    let m = mode-running x.mode ((and_parts (is_running x.mode)
    (not (g == 0) || (not_empty x.frames || not_empty s.queue)) i.2).0) in
    record {
      frames = x.frames;
      started = x.started;
      found = find-Entry s.goroutines g x r i.1
          ∙ ap (λ (k : Mode). let y : GoroutineView =
          record { frames = x.frames; mode = k; started = x.started } in Some y) m;
    }

-- ---- the step

module _ (code : Code) (s : State) (n g : ℕ) (turn : whose_turn s n ≡ Some g) where
  pub wants-is : wants_collection code s n ≡ goroutine_collects code (find g s.goroutines)
  wants-is = rw turn

  -- the turn, and what is cleared after it, by the choice that the number was divided into
  pub step-taken : (count choice : ℕ) (t : State) → count ≡ length (runnable s) → choice ≡ n / count
      → t ≡ taken code g choice s → t ≡ step code s n
  step-taken count choice t told e is = rw turn (rw (e, told) at is)

-- ---- the goroutine's frames

pub first-is : {X : Type 0} (xs : List X) (x : X) → Some x ≡ slice_get xs 0 → xs ≡ x ∷ behind_first xs
first-is [] x h = cc
first-is {X} (y ∷ xs) x h = let same : y ≡ x = cc in ap (λ (z : X). z ∷ xs) same

module _ {g : ℕ} {s : State} (r : Runs g s) where
  pub frames-are : frames_of g s ≡ r.frames
  frames-are = ap frames_in r.found

  abbrev pub stands-at : (f : FrameView) → Some f ≡ slice_get (frames_of g s) 0 → Stands g (f.at + 1) s
  stands-at f e = record {
    frame = f;
    callers = behind_first r.frames;
    started = r.started;
    found = rw (first-is r.frames f (rw frames-are at e)) at r.found;
    next = refl;
  }

-- the turn of a goroutine at an instruction
module _ {code : Code} {g after : ℕ} {s : State} (r : Runs g s) {line : CodeLine}
    (top : IsAtTop code (frames_of g s) line after) where
  abbrev pub stands-there : Stands g after s
  stands-there = record {
    frame = top.frame;
    callers = top.callers;
    started = r.started;
    found = rw (sym (frames-are r) ∙ top.are) at r.found;
    next = top.at.2;
  }

  pub stays-there : StaysIn (frames_of g s)
  stays-there = rw top.are top.at.0

-- ---- places

fits-in : (o : Option Function) (at : ℕ) (l : CodeLine) → IsShort o
    → Some l ≡ option_and_then (λ fn. slice_get fn.body at) o → at + 1 < 2 ^ 32
fits-in None at l h e = cc
fits-in (Some fn) at l h e = let w = slice_get_within fn.body at l (sym e) in omega (arith, w, h)

pub place-fits : (code : Code) (f at : ℕ) (l : CodeLine) → HasPlaces code → Some l ≡ line_at code f at → at + 1 < 2 ^ 32
place-fits code f at l h e = fits-in (slice_get code.functions f) at l (h f) e
