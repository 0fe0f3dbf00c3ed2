-- In each state of a run the frames of every goroutine match its calls.
-- For: `RunsAreBooked`, golf_meaning_runs/specs/Books.antt; the law `runs_are_booked`, src/lib.rt.
-- By: induction over the events of the run.
use Rattle.std.proofs.Common.{◌≡◌, ℕ, ◌==◌, ◌/◌, Bool, true, false, cond, List, [], ◌∷◌, length, Option, Some, None}
use Rattle.std.proofs.Common.{refl, ap, sym, ◌∙◌, subst, slice_get, arith}
use Rattle.std.specs.Prelude.{is_some, option_map, option_to_list}
use Rattle.std.proofs.lemmas.Bool.{eqb-true, eqb-false}
use Rattle.golf_theory.specs.Membership.{Every}
use Rattle.golf_theory.specs.Maps.{Entry, find}
use Rattle.golf_theory.proofs.Lists.{Every-append, Every-weaker}
use Rattle.golf_theory.proofs.MapFinds.{find-Entry, Entry-below}
use Rattle.golf_data.specs.declared.code.Code.{Code}
use Rattle.golf_data.specs.declared.code.Function.{Function}
use Rattle.golf_data.specs.declared.goroutine.Ending.{Ending}
use Rattle.golf_data.specs.declared.goroutine.Mode.{Mode}
use Rattle.golf_model.specs.Views.{GoroutineView}
use Rattle.golf_model.specs.State.{State, is_running, not_empty, runnable, ending_of, ending, opened, start}
use Rattle.golf_model.specs.Changes.{apply_all}
use Rattle.golf_model.specs.Collections.{plain_collect}
use Rattle.golf_model.specs.ClearedSlots.{clearing}
use Rattle.golf_model.specs.Turn.{goroutine_changes, turn_of, turn_changes, whose_turn, wants_collection, turned}
use Rattle.golf_model.specs.Turn.{clears_nothing, step, MovesOn}
use Rattle.golf_model.specs.Runs.{Event, has_ended, collected_if, happens_in, happens, run}
use Rattle.golf_model.specs.Futures.{Numbered}
use Rattle.golf_model_futures.proofs.Staying.{turn-running}
use Rattle.golf_model_futures.proofs.Leading.{numbered-start, numbered-turned, numbered-step, numbered-collect}
use Rattle.golf_model_futures.proofs.Stopping.{run-kept}
use Rattle.golf_model_typing.specs.Types.{ValueType, Typing, ValuesFit}
use Rattle.golf_model_typing.specs.Shapes.{HasShapes}
use Rattle.golf_meaning_runs.specs.Books.{RunTypes, Book, turned_book, booked_in, book_from, first_book}
use Rattle.golf_meaning_runs.specs.CallRecords.{Origin, fresh}
use Rattle.golf_meaning_runs.specs.Joins.{IsOutermostOf, OutermostIs}
use Rattle.golf_meaning_runs.specs.Books.{frames_in, frames_at, calls_after}
use Rattle.golf_meaning_runs.proofs.Outermost.{notes-start, after-turn, by-go}
use Rattle.golf_model.specs.Finalisers.{begins_queued}
use Rattle.golf_meaning_runs.specs.Books.{book_of, left_at_turn, left_in, left_from, left_of, IsAnswered}
use Rattle.golf_meaning_runs.specs.Books.{CanBeCalledWith}
use Rattle.golf_meaning_runs.specs.Books.{HasLife, HasParameters, FramesMatch, HasMasks, TypedIn, TypedAlong}
use Rattle.golf_meaning_runs.specs.Books.{RunsAreBooked}
use Rattle.golf_meaning_runs.proofs.Others.{one-some, none-some}
use Rattle.golf_meaning_runs.proofs.Rebooking.{matches-live}
use Rattle.golf_meaning_runs.proofs.Turned.{own_calls, started_calls, Done}
use Rattle.golf_meaning_runs.specs.Books.{CallHasLeft}
use Rattle.golf_meaning_runs.proofs.Clearing.{after-clearing}
use Rattle.golf_meaning_runs.proofs.Booking.{Booked, PassesOn, turn-done}
use Rattle.golf_meaning_runs.proofs.Booking.{first-fits as begun-first}
use Rattle.golf_meaning_runs.proofs.Answered.{is-answered}
use Rattle.golf_meaning_runs.proofs.Counting.{call-takes, passes-on}

-- ---- a turn

runs-so : (m : Mode) → is_running m ≡ true → m ≡ Mode.Running
runs-so Mode.Running e = refl
runs-so (Mode.Blocked kind line waits ticket) e = cc

-- after a turn all calls are those that are written down
from-done : (code : Code) (types : RunTypes) (s : State) (c g : ℕ) (b : Book) → (frames_at s g ≡ [] → g ≡ 0)
    → Booked code types s b → Done code types s g b (step code s c) → Booked code types (step code s c) (turned_book code s c (Some g) b)
from-done code types s c g b first booked d =
    let t = step code s c in record {
      lives = λ h. elim (h == g) as (λ z. Every (HasLife code types)
          (cond z (own_calls code s g b t) (cond (h == s.next_goroutine) (started_calls code s g b t h) (b h)))) [
            | true ↦ d.lives
            | false ↦ elim (h == s.next_goroutine) as (λ z. h == s.next_goroutine ≡ z
                → Every (HasLife code types) (cond z (started_calls code s g b t h) (b h))) [
                  | true ↦ λ e. subst (λ j. Every (HasLife code types) (started_calls code s g b t j))
                      (sym (eqb-true h s.next_goroutine e)) d.begun
                  | false ↦ λ e. booked.lives h
                ] refl
          ];
      outer = λ h. elim (h == g) as (λ z. h == g ≡ z → OutermostIs (IsOutermostOf h)
          (cond z (own_calls code s g b t) (cond (h == s.next_goroutine) (started_calls code s g b t h) (b h)))) [
            | true ↦ λ e.
                let same = eqb-true h g e in
                let P = IsOutermostOf h in
                notes-start P s.next_goroutine (started_calls code s g b t s.next_goroutine)
                (calls_after code s.queue (frames_at s g) (frames_at t g) (b g))
                (after-turn P code s.queue (frames_at s g) (frames_at t g) (b g) (λ none. same ∙ first none)
                (subst (λ j. OutermostIs P (b j)) same (booked.outer h)))
            | false ↦ λ e. elim (h == s.next_goroutine) as (λ z. OutermostIs (IsOutermostOf h)
                (cond z (started_calls code s g b t h) (b h))) [
                  | true ↦ by-go (IsOutermostOf h) code (frames_at s g) (b g) (frames_at t h) (λ f k. tt)
                  | false ↦ booked.outer h
                ]
          ] refl;
      fits = λ none h q found. elim (h == g) as (λ z. h == g ≡ z
          → FramesMatch code types q.mode q.frames
          (cond z (own_calls code s g b t) (cond (h == s.next_goroutine) (started_calls code s g b t h) (b h)))) [
            | true ↦ λ e. d.fits none q (ap (λ j. find j t.goroutines) (sym (eqb-true h g e)) ∙ found)
            | false ↦ λ e. d.others none h q (λ same. eqb-false h g e same) found
          ] refl;
    }

module _ (code : Code) (types : RunTypes) (masks : HasMasks code) (s : State) (c : ℕ) (b : Book) (numbered : Numbered s)
    (going : s.recorded ≡ None) (booked : Booked code types s b) (moves : MovesOn code s c)
    (passes : (g : ℕ) (r : GoroutineView) → Entry s.goroutines g r → r.mode ≡ Mode.Running
    → PassesOn code types s r.frames) where
  abbrev choice : ℕ
  choice = c / length (runnable s)

  fits-a-rule : (g : ℕ) → whose_turn s c ≡ Some g → turn_of code g choice s (find g s.goroutines) ≡ [] → ⊥
  fits-a-rule g e none = false-true (sym (ap not_empty (ap (turn_changes code choice s) e ∙ none)) ∙ moves)
    where
      false-true : false ≡ true → ⊥
      false-true i = cc

  -- of goroutines without frames only goroutine 0 takes turns
  first-by : (g : ℕ) (r : GoroutineView) (b0 : Bool) → g == 0 ≡ b0
      → (cond b0 (begins_queued code r s.queue) [] ≡ [] → ⊥) → g ≡ 0
  first-by g r true e fit = eqb-true g 0 e
  first-by g r false e fit = absurd (fit refl)

  is-first : (g : ℕ) → whose_turn s c ≡ Some g → frames_at s g ≡ [] → g ≡ 0
  is-first g e none =
      let r = turn-running s c g e in
      let found = find-Entry s.goroutines g r.0 numbered.goroutines_rise r.1 in
      let frames : r.0.frames ≡ [] = sym (ap frames_in found) ∙ none in
      first-by g r.0 (g == 0) refl (λ z. fits-a-rule g e (ap (turn_of code g choice s) found
      ∙ ap (λ fs. goroutine_changes code g r.0 choice s fs) frames ∙ z))

  of-goroutine : (g : ℕ) → whose_turn s c ≡ Some g → Done code types s g b (step code s c)
  of-goroutine g e =
      let r = turn-running s c g e in
      let found = find-Entry s.goroutines g r.0 numbered.goroutines_rise r.1 in
      let t = turned code s c in
      let above = numbered-turned code s c numbered in
      let d = turn-done code types masks b s numbered.goroutines_rise numbered.goroutines_below
      (booked.fits going) choice g r.0 found (runs-so r.0.mode r.2) (passes g r.0 r.1 (runs-so r.0.mode r.2))
      (fits-a-rule g e) t above.goroutines_below (ap (λ m. apply_all (turn_changes code choice s m) s) e) in
      subst (λ m. Done code types s g b (apply_all (clearing code (clears_nothing code s c) m t) t)) (sym e)
      (after-clearing code types masks s g b
      (λ same. let below = Entry-below s.next_goroutine s.goroutines g r.0 numbered.goroutines_below r.1 in omega
      (arith, below, same)) t d (clears_nothing code s c))

  turn-by : (m : Option ℕ) → whose_turn s c ≡ m → Booked code types (step code s c) (turned_book code s c m b)
  turn-by None e = absurd (false-true (sym (ap not_empty (ap (turn_changes code choice s) e)) ∙ moves))
    where
      false-true : false ≡ true → ⊥
      false-true i = cc
  turn-by (Some g) e = from-done code types s c g b (is-first g e) booked (of-goroutine g e)

  turn-booked : Booked code types (step code s c) (turned_book code s c (whose_turn s c) b)
  turn-booked = turn-by (whose_turn s c) refl

  left-by : (m : Option ℕ) → whose_turn s c ≡ m → Every (CallHasLeft code types) (left_at_turn code s c m b)
  left-by None e = tt
  left-by (Some g) e = (of-goroutine g e).left

  turn-left : Every (CallHasLeft code types) (left_at_turn code s c (whose_turn s c) b)
  turn-left = left-by (whose_turn s c) refl

-- ---- an event

not-recorded : (m : Option Ending) (awake : Bool) → ending_of m awake ≡ None → m ≡ None
not-recorded None awake e = refl
not-recorded (Some x) awake e = cc

not-ended : (m : Option Ending) → is_some m ≡ false → m ≡ None
not-ended None e = refl
not-ended (Some x) e = cc

-- a collection touches no goroutine
collected-booked : (code : Code) (types : RunTypes) (collects : Bool) (s : State) (b : Book) → Booked code types s b
    → Booked code types (collected_if plain_collect code collects s) b
collected-booked code types true s b h = record { lives = h.lives; fits = h.fits; outer = h.outer }
collected-booked code types false s b h = h

-- a state in which a rule fits each turn, and calls have their arguments
record Well (code : Code) (types : RunTypes) (s : State) : Type 0 where
  moves : (c : ℕ) → ending s ≡ None → MovesOn code s c
  passes : (g : ℕ) (r : GoroutineView) → Entry s.goroutines g r → r.mode ≡ Mode.Running → PassesOn code types s r.frames

event-booked : (code : Code) (types : RunTypes) → HasMasks code → (s : State) (b : Book) → Numbered s
    → Booked code types s b → Well code types s → (ended : Bool) → has_ended s ≡ ended → (e : Event)
    → Booked code types (happens_in plain_collect code ended s e) (booked_in ended code s e b)
event-booked code types masks s b n h well true i e = h
event-booked code types masks s b n h well false i (Event.Turn c) =
    let open_end = not-ended (ending s) i in
    collected-booked code types (wants_collection code s c) (step code s c) (turned_book code s c (whose_turn s c) b)
    (turn-booked code types masks s c b n (not-recorded s.recorded (not_empty (runnable s)) open_end) h
    (well.moves c open_end) well.passes)
event-booked code types masks s b n h well false i Event.Collect = collected-booked code types true s b h

event-left : (code : Code) (types : RunTypes) → HasMasks code → (s : State) (b : Book) → Numbered s
    → Booked code types s b → Well code types s → (ended : Bool) → has_ended s ≡ ended → (e : Event)
    → Every (CallHasLeft code types) (left_in ended code s e b)
event-left code types masks s b n h well true i e = tt
event-left code types masks s b n h well false i (Event.Turn c) =
    let open_end = not-ended (ending s) i in
    turn-left code types masks s c b n (not-recorded s.recorded (not_empty (runnable s)) open_end) h
    (well.moves c open_end) well.passes
event-left code types masks s b n h well false i Event.Collect = tt

-- ---- a run

numbered-run : (code : Code) (es : List Event) (s : State) → Numbered s → Numbered (run code s es)
numbered-run code es s n = run-kept code Numbered (λ t k m. numbered-step code t k m)
    (λ t m. numbered-collect t m) es s n

-- so is each state of a run from this one on
WellAlong : Code → RunTypes → State → List Event → Type 0
WellAlong code types s [] = Well code types s
WellAlong code types s (e ∷ es) = Well code types s × WellAlong code types (happens code s e) es

run-booked : (code : Code) (types : RunTypes) → HasMasks code → (es : List Event) (s : State) (b : Book) → Numbered s
    → Booked code types s b → WellAlong code types s es → Booked code types (run code s es) (book_from code s es b)
unfolding WellAlong
run-booked code types masks [] s b n h well = h
run-booked code types masks (e ∷ es) s b n h well =
    run-booked code types masks es (happens code s e) (booked_in (has_ended s) code s e b)
    (numbered-run code (e ∷ []) s n) (event-booked code types masks s b n h well.0 (has_ended s) refl e) well.1

run-left : (code : Code) (types : RunTypes) → HasMasks code → (es : List Event) (s : State) (b : Book) → Numbered s
    → Booked code types s b → WellAlong code types s es → Every (CallHasLeft code types) (left_from code s es b)
unfolding WellAlong
run-left code types masks [] s b n h well = tt
run-left code types masks (e ∷ es) s b n h well =
    Every-append (CallHasLeft code types) (left_in (has_ended s) code s e b)
    (left_from code (happens code s e) es (booked_in (has_ended s) code s e b))
    (event-left code types masks s b n h well.0 (has_ended s) refl e)
    (run-left code types masks es (happens code s e) (booked_in (has_ended s) code s e b)
    (numbered-run code (e ∷ []) s n) (event-booked code types masks s b n h well.0 (has_ended s) refl e) well.1)

-- ---- the opening state

-- goroutine 1 as it begins
abbrev first_one : Code → Option Function → GoroutineView
first_one code m = record {
  frames = option_to_list (option_map (opened 0 [] true) m);
  mode = Mode.Running;
  started = code.main_line;
}

module _ (code : Code) (types : RunTypes) (masks : HasMasks code) (moves : MovesOn code (start code) 0)
    (takes : CanBeCalledWith code types 0 []) where
  -- without function 0 no rule fits its turn
  some-function : slice_get code.functions 0 ≡ None → ⊥
  some-function e = false-true (sym (ap (λ m. not_empty
      (goroutine_changes code 1 (first_one code m) 0 (start code) (first_one code m).frames)) e) ∙ moves)
    where
      false-true : false ≡ true → ⊥
      false-true i = cc

  module _ (fn : Function) (is : slice_get code.functions 0 ≡ Some fn) where
    begun : FramesMatch code types Mode.Running (opened 0 [] true fn ∷ []) (fresh Origin.Opening 0 [] ∷ [])
    begun = begun-first code types masks Origin.Opening 0 [] fn refl tt tt (refl, refl) is (takes fn is)

    begun-fits : FramesMatch code types Mode.Running (first_one code (slice_get code.functions 0)).frames
        (fresh Origin.Opening 0 [] ∷ [])
    begun-fits = subst (λ m. FramesMatch code types Mode.Running (first_one code m).frames (fresh Origin.Opening 0 [] ∷ []))
        (sym is) begun

    begun-lives : (first : Bool) → Every (HasLife code types) (cond first (fresh Origin.Opening 0 [] ∷ []) [])
    begun-lives true = matches-live code types Mode.Running (opened 0 [] true fn ∷ []) (fresh Origin.Opening 0 [] ∷ []) begun
    begun-lives false = tt

    first-fits : (h : ℕ) (q : GoroutineView) (zeroth first : Bool) → h == 0 ≡ zeroth → h == 1 ≡ first
        → cond zeroth (Some (record { frames = []; mode = Mode.Running; started = 0 }))
        (cond first (Some (first_one code (slice_get code.functions 0))) None) ≡ Some q
        → FramesMatch code types q.mode q.frames (cond first (fresh Origin.Opening 0 [] ∷ []) [])
    first-fits h q true true i j e = absurd
        (let zero_is = eqb-true h 0 i in let one_is = eqb-true h 1 j in omega (arith, zero_is, one_is))
    first-fits h q true false i j e = subst (λ (z : GoroutineView). FramesMatch code types z.mode z.frames [])
        (one-some _ q e) tt
    first-fits h q false true i j e = subst
        (λ (z : GoroutineView). FramesMatch code types z.mode z.frames (fresh Origin.Opening 0 [] ∷ [])) (one-some _ q e) begun-fits
    first-fits h q false false i j e = absurd (none-some q e)

    first-outer : (h : ℕ) (first : Bool) → h == 1 ≡ first
        → OutermostIs (IsOutermostOf h) (cond first (fresh Origin.Opening 0 [] ∷ []) [])
    first-outer h true e = eqb-true h 1 e
    first-outer h false e = tt

    first-booked : Booked code types (start code) first_book
    first-booked = record {
      lives = λ h. begun-lives (h == 1);
      outer = λ h. first-outer h (h == 1) refl;
      fits = λ none h q found. first-fits h q (h == 0) (h == 1) refl refl found;
    }

  start-with : (m : Option Function) → slice_get code.functions 0 ≡ m → Booked code types (start code) first_book
  start-with None e = absurd (some-function e)
  start-with (Some fn) e = first-booked fn e

  start-booked : Booked code types (start code) first_book
  start-booked = start-with (slice_get code.functions 0) refl

module _ (code : Code) (types : Typing) (shapes : HasShapes code types) (parameters : HasParameters code types)
    (later : List (ℕ × ValueType)) where
  abbrev run_types : RunTypes
  run_types = record { typing = types; known = later }

  -- function 0 takes no arguments
  none-taken : CanBeCalledWith code run_types 0 []
  none-taken =
      let x = shapes.first in
      call-takes code types shapes parameters later later (λ o t h. h) 0 []
      (x.0, x.1, subst (λ ts. ValuesFit types.of later [] ts) (sym x.2) tt)

  well-in : (s : State) → TypedIn types later s → ((c : ℕ) → ending s ≡ None → MovesOn code s c) → Well code run_types s
  well-in s h moves = record { moves = moves; passes = passes-on code types shapes parameters h.0 later h.2 s h.1 }

  well-along : (es : List Event) (s : State) → TypedAlong code types later s es
      → ((events : List Event) (c : ℕ) → ending (run code s events) ≡ None → MovesOn code (run code s events) c)
      → WellAlong code run_types s es
  unfolding WellAlong
  well-along [] s h moves = well-in s h (moves [])
  well-along (e ∷ es) s h moves = (
    well-in s h.0 (moves []),
    well-along es (happens code s e) h.1 (λ events. moves (e ∷ events)),
  )

pub runs-are-booked : RunsAreBooked
runs-are-booked code types masks shapes parameters goes events =
    let n = numbered-run code events (start code) (numbered-start code) in
    let t = goes.0 events in
    let all : RunTypes = record { typing = types; known = t.0 } in
    let first = start-booked code all masks (goes.1 [] 0 refl) (none-taken code types shapes parameters t.0) in
    let well = well-along code types shapes parameters t.0 events (start code) t.1 goes.1 in
    let h = run-booked code all masks events (start code) first_book (numbered-start code) first well in
    let left = run-left code all masks events (start code) first_book (numbered-start code) first well in (
      t.0,
      record {
        going = λ e g r entry. h.fits (not-recorded (run code (start code) events).recorded
            (not_empty (runnable (run code (start code) events))) e) g r
            (find-Entry (run code (start code) events).goroutines g r n.goroutines_rise entry);
        always = h.lives;
        first = h.outer;
        left = left;
        answered = λ g. Every-weaker (HasLife code all) (IsAnswered all) (λ k l. is-answered code types shapes t.0 k l)
            (book_of code events g) (h.lives g);
        left_answered = Every-weaker (CallHasLeft code all) (IsAnswered all)
            (λ k l. is-answered code types shapes t.0 k l.life) (left_of code events) left;
      },
    )
