-- Turns that were taken in one go, and one turn more.
-- For: `HasGoneOn` (golf_machine/specs/Batches.antt) and `take_turns` (src/batches.rt)
-- By: induction over the list of choices, one for each turn
use Rattle.std.proofs.Common.{◌≡◌, ℕ, ◌+◌, Bool, true, false, List, [], ◌∷◌, ◌++◌, Option, Some, None, refl, sym, ap}
use Rattle.std.proofs.Common.{◌∙◌, arith}
use Rattle.std.proofs.lemmas.List.{length-append}
use Rattle.std.specs.Prelude.{Result, Ok, Err, IsErr, OnErr}
use Rattle.golf_data.specs.declared.code.Code.{Code}
use Rattle.golf_data.specs.declared.goroutine.Ending.{Ending}
use Rattle.golf_model.specs.State.{State, ending}
use Rattle.golf_model.specs.Turn.{step, wants_collection}
use Rattle.golf_model.specs.Runs.{Event}
use Rattle.golf_machine.specs.Turns.{turned_of}
use Rattle.golf_machine.specs.Batches.{turn_events, needs_outside, stops_after, steps, GoOn, HasGoneOn}
use Rattle.golf_machine.specs.Batches.{HasCome, HasAsked, is_turn_next}
use Rattle.golf_machine.specs.declared.turns.Turned.{Turned}

steps-after : (code : Code) (s : State) (cs ds : List ℕ) → steps code s (cs ++ ds) ≡ steps code (steps code s cs) ds
steps-after code s [] ds = refl
steps-after code s (c ∷ cs) ds = steps-after code (step code s c) cs ds

silent-after : (code : Code) (s : State) (cs ds : List ℕ) → GoOn code s cs → GoOn code (steps code s cs) ds
    → GoOn code s (cs ++ ds)
silent-after code s [] ds g h = h
silent-after code s (c ∷ cs) ds g h = (g.0, silent-after code (step code s c) cs ds g.1 h)

pub events-after : (cs ds : List ℕ) (es : List Event)
    → turn_events cs ++ (turn_events ds ++ es) ≡ turn_events (cs ++ ds) ++ es
events-after [] ds es = refl
events-after (c ∷ cs) ds es = ap (λ (fs : List Event). Event.Turn c ∷ fs) (events-after cs ds es)

-- and then more turns
gone-after : {code : Code} {old s t : State} {es later fs : List Event} {n k m : ℕ} → HasGoneOn code old s es later n k
    → HasGoneOn code s t later fs k m → HasGoneOn code old t es fs n m
gone-after {code} {old} {fs = fs} v w =
    let size = length-append v.taken w.taken in
    let first = v.count in
    let second = w.count in
    record {
      taken = v.taken ++ w.taken;
      order = v.order ∙ ap (λ (xs : List Event). turn_events v.taken ++ xs) w.order ∙ events-after v.taken w.taken fs;
      count = omega (arith, size, first, second);
      silent = silent-after code old v.taken w.taken v.silent (rw (← v.state) w.silent);
      state = rw (steps-after code old v.taken w.taken, ← v.state) w.state;
    }

-- one turn more, after which the outside is not needed
pub one-more : {code : Code} {old s t : State} {es fs : List Event} {n k m c : ℕ}
    → HasGoneOn code old s es (Event.Turn c ∷ fs) n k → m ≡ k + 1 → t ≡ step code s c → stops_after code s c ≡ false
    → HasGoneOn code old t es fs n m
one-more {c = c} w more is quiet = gone-after w
    (record { taken = c ∷ []; order = refl; count = more; silent = (quiet, tt); state = is })

asked-after : {code : Code} {old s : State} {es later : List Event} {n k : ℕ} (o : Option ℕ) (t : State)
    (fs : List Event) (m : ℕ) → HasGoneOn code old s es later n k
    → HasAsked o (λ xs j. HasGoneOn code s t later xs k j) fs m
    → HasAsked o (λ xs j. HasGoneOn code old t es xs n j) fs m
asked-after None t fs m v a = (gone-after v a.0, a.1)
asked-after (Some c) t fs m v a = (a.0, gone-after v a.1, a.2)

pub asked-turn : {c : ℕ} {code : Code} {old s t : State} {es later fs : List Event} {n k m : ℕ} (o : Option ℕ)
    → o ≡ Some c → HasGoneOn code old s es later n k → HasAsked o (λ xs j. HasGoneOn code s t later xs k j) fs m
    → (j : ℕ) × HasGoneOn code old t es (Event.Turn c ∷ fs) n j × (m ≡ j + 1)
asked-turn {t = t} {fs = fs} {m = m} o is v a = rw is at (asked-after o t fs m v a)

pub asked-end : {code : Code} {old s t : State} {es later fs : List Event} {n k m : ℕ} (o : Option ℕ) → o ≡ None
    → HasGoneOn code old s es later n k → HasAsked o (λ xs j. HasGoneOn code s t later xs k j) fs m
    → HasGoneOn code old t es fs n m × (is_turn_next fs ≡ false)
asked-end {t = t} {fs = fs} {m = m} o is v a = rw is at (asked-after o t fs m v a)

-- one number more
abbrev pub last-given : {code : Code} {old s : State} {es fs : List Event} {n k m c : ℕ}
    → HasGoneOn code old s es (Event.Turn c ∷ fs) n k → m ≡ k + 1 → HasCome code old es fs n m
last-given {s = s} {k = k} {c = c} w more = record { state = s; number = c; earlier = k; went = w; one_more = more }

-- what a turn came to, by the state after it
pub stops-is : (code : Code) (s : State) (c : ℕ) {t : State} {turned : Turned} {printed : List ℕ} {b : Bool}
    → t ≡ step code s c → turned ≡ turned_of (ending t) (wants_collection code s c) → printed ≡ t.output
    → b ≡ needs_outside turned printed → stops_after code s c ≡ b
stops-is code s c is h out n = rw (n, h, out, ← is)

went-goes : (turned : Turned) (o : Option Ending) (b : Bool) (printed : List ℕ) → turned ≡ turned_of o b
    → needs_outside turned printed ≡ false → o ≡ None
went-goes turned None b printed h n = refl
went-goes turned (Some e) b printed h n = let f : true ≡ false = rw h at n in cc

-- a turn after which the outside is not needed leaves a program that goes on
pub still-goes : (turned : Turned) (t : State) (b wants : Bool) (printed : List ℕ) → turned ≡ turned_of (ending t) b
    → wants ≡ needs_outside turned printed → wants ≡ false → ending t ≡ None
still-goes turned t b wants printed h n f = went-goes turned (ending t) b printed h (sym n ∙ f)

-- what an error leaves
pub failed : {X E P : Type 0} (r : Result X E) → IsErr r → P → OnErr r P
failed (Ok x) i p = tt
failed (Err e) i p = p
