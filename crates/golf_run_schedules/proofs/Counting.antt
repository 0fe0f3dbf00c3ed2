-- What is still to come, a turn at a time.
-- For: `next`, src/events.rt; `next_number`, src/schedule.rt; `numbers_left`, specs/Events.antt
-- By: cases of the schedule, and arithmetic; induction over the list of choices
use Rattle.std.proofs.lemmas.Option.{slice_get-get_or, slice_get_past}
use Rattle.std.specs.List.{HoldsAt}
use Rattle.std.specs.Option.{option_map}
use Rattle.std.proofs.Common.{◌≡◌, Bor, length, ℕ, zero, suc, ◌+◌, ◌-◌, ◌<◌, ◌≤◌, Bool, refl, ap, ◌∙◌, sym, List, []}
use Rattle.std.proofs.Common.{◌∷◌, ◌++◌, Option, Some, None, take, drop, slice_get, MatchOption, arith, subst, true, false}
use Rattle.golf_model.specs.Runs.{Event}
use Rattle.golf_run_schedules.specs.declared.schedule.Schedule.{Schedule}
use Rattle.golf_run_schedules.specs.Events.{numbers_left, turns_from, collection_if, is_due, EventsLeft, events_left}
use Rattle.golf_run_schedules.specs.Events.{has_turn_next}

-- the next of the written numbers
choice : (cs : List ℕ) (done more : ℕ)
    → MatchOption (slice_get cs done) ((take (suc more) (drop done cs) ≡ [])
    × (Schedule.Choices cs ≡ Schedule.Choices cs))
    (λ c. take (suc more) (drop done cs) ≡ c ∷ take more (drop (suc done) cs))
choice cs done more = first cs done refl
  where
    first : (xs : List ℕ) (k : ℕ) {s : Schedule} → s ≡ s
        → MatchOption (slice_get xs k) ((take (suc more) (drop k xs) ≡ []) × (s ≡ s))
        (λ c. take (suc more) (drop k xs) ≡ c ∷ take more (drop (suc k) xs))
    first [] zero e = (refl, e)
    first [] (suc k) e = (refl, e)
    first (x ∷ xs) zero e = refl
    first (x ∷ xs) (suc k) e = first xs k e

abbrev IsChoice : Schedule → List ℕ → ℕ → ℕ → Option ℕ → Type 0
IsChoice s cs done more o =
    MatchOption o ((numbers_left s done (suc more) ≡ []) × (Schedule.Choices cs ≡ s))
    (λ c. numbers_left s done (suc more) ≡ c ∷ take more (drop (suc done) cs))

pub choice_is : (s : Schedule) (cs : List ℕ) (done more : ℕ) (o : Option ℕ) → s ≡ Schedule.Choices cs
    → o ≡ slice_get cs done → IsChoice s cs done more o
choice_is s cs done more o is at =
    subst (λ t. IsChoice t cs done more o) (sym is)
    (subst (λ p. IsChoice (Schedule.Choices cs) cs done more p) (sym at) (choice cs done more))

-- what a look at a place of a list comes to
pub got : (xs : List ℕ) (i : ℕ) (r : Option (Bor ℕ))
    → MatchOption r (length xs ≤ i) (λ x. (i < length xs) × HoldsAt (λ y. x.now ≡ y) xs i)
    → option_map (λ r. r.now) r ≡ slice_get xs i
got xs i None h = sym (slice_get_past xs i h)
got xs i (Some x) h = ap Some (h.1 x.now) ∙ sym (slice_get-get_or xs i x.now h.0)

-- a turn is left, since not all are done
pub one_left : (done turns : ℕ) → done < turns → turns - done ≡ suc (turns - suc done)
one_left done turns below = omega arith

-- no number is left, so no event is
pub none_left : (schedule : Schedule) (every : Option ℕ) (done turns : ℕ) → done < turns
    → numbers_left schedule done (suc (turns - suc done)) ≡ []
    → turns_from every (done + 1) (numbers_left schedule done (turns - done)) ≡ []
none_left schedule every done turns below none =
    ap (λ n. turns_from every (done + 1) (numbers_left schedule done n)) (one_left done turns below)
    ∙ ap (turns_from every (done + 1)) none

-- a turn, and what is due after it
pub turn_left : (before after : Schedule) (every : Option ℕ) (done turns c : ℕ) → done < turns
    → numbers_left before done (suc (turns - suc done)) ≡ c ∷ numbers_left after (suc done) (turns - suc done)
    → turns_from every (done + 1) (numbers_left before done (turns - done))
    ≡ Event.Turn c ∷ (collection_if (is_due every (done + 1))
    ++ turns_from every ((done + 1) + 1) (numbers_left after (done + 1) (turns - (done + 1))))
turn_left before after every done turns c below next =
    let same : suc done ≡ done + 1 = omega arith in
    ap (λ n. turns_from every (done + 1) (numbers_left before done n)) (one_left done turns below)
    ∙ ap (turns_from every (done + 1)) next
    ∙ ap (λ n. Event.Turn c ∷ (collection_if (is_due every (done + 1))
    ++ turns_from every ((done + 1) + 1) (numbers_left after n (turns - n)))) same

-- the same of all that is to come, if no collection is
pub events_none : (is_next : Bool) (schedule after : Schedule) (every : Option ℕ) (done turns : ℕ) → is_next ≡ false
    → done < turns → numbers_left schedule done (suc (turns - suc done)) ≡ [] → after ≡ schedule
    → (collection_if is_next ++ turns_from every (done + 1) (numbers_left schedule done (turns - done)) ≡ [])
    × (collection_if is_next ++ turns_from every (done + 1) (numbers_left after done (turns - done)) ≡ [])
events_none is_next schedule after every done turns idle below none same =
    let here : collection_if is_next ++ turns_from every (done + 1) (numbers_left schedule done (turns - done)) ≡ [] =
    ap (λ b. collection_if b ++ turns_from every (done + 1) (numbers_left schedule done (turns - done))) idle
    ∙ none_left schedule every done turns below none in (
      here,
      ap (λ s. collection_if is_next ++ turns_from every (done + 1) (numbers_left s done (turns - done))) same
          ∙ here,
    )

pub events_turn : {is_next due : Bool} {c : ℕ} (before after : Schedule) (every : Option ℕ) (done turns : ℕ)
    → is_next ≡ false → done < turns
    → numbers_left before done (suc (turns - suc done)) ≡ c ∷ numbers_left after (suc done) (turns - suc done)
    → due ≡ is_due every (done + 1)
    → collection_if is_next ++ turns_from every (done + 1) (numbers_left before done (turns - done))
    ≡ Event.Turn c ∷ (collection_if due ++ turns_from every ((done + 1) + 1)
    (numbers_left after (done + 1) (turns - (done + 1))))
events_turn {is_next} {due} {c} before after every done turns idle below next is =
    ap (λ b. collection_if b ++ turns_from every (done + 1) (numbers_left before done (turns - done))) idle
    ∙ turn_left before after every done turns c below next
    ∙ ap (λ b. Event.Turn c ∷ (collection_if b
    ++ turns_from every ((done + 1) + 1) (numbers_left after (done + 1) (turns - (done + 1))))) (sym is)

-- ---- turns before which nothing else comes

-- no collection comes next, since turns do
pub none-next : (is_next : Bool) (calm done : ℕ) → done < calm → (is_next ≡ true → calm ≤ done) → is_next ≡ false
none-next false calm done below h = refl
none-next true calm done below h = absurd (omega (arith, below, h refl))

-- no turn is left, so no event is
pub no-events : (every : Option ℕ) (k : ℕ) (cs : List ℕ) → has_turn_next (turns_from every k cs) ≡ false
    → turns_from every k cs ≡ []
no-events every k [] h = refl
no-events every k (c ∷ cs) h = absurd (cc)

pub none-come : (e : EventsLeft) → e.is_collection_next ≡ false → has_turn_next (events_left e) ≡ false
    → events_left e ≡ []
none-come e idle h =
    let k = e.done + 1 in
    let cs = numbers_left e.schedule e.done (e.turns - e.done) in
    let same : events_left e ≡ turns_from e.every k cs = ap (λ b. collection_if b ++ turns_from e.every k cs) idle in
    same ∙ no-events e.every k cs (ap has_turn_next (sym same) ∙ h)
