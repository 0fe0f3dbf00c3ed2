-- The markers before and after their run.
-- For: `equip` and `deal`, src/deal.rt; `EachRuns`, specs/MarkerTurns.antt
-- By: induction over the list of markers
use Rattle.std.proofs.Common.{◌≡◌, ◌≢◌, ℕ, zero, suc, ◌+◌, ◌<◌, ◌≤◌, inl, inr, List, [], ◌∷◌, ◌++◌, All, length, set}
use Rattle.std.proofs.Common.{refl, sym, ap, ◌∙◌, subst, ⊎_elim, arith}
use Rattle.std.proofs.lemmas.List.Sums.{sum_by-cons, sum_by_push}
use Rattle.std.proofs.lemmas.List.{length_push}
use mathlib.Core.Option.{some, some-injective, some-ne-none}
use lib.ListN.{get_elem?}
use Rattle.atomic_table.proofs.Lists.{at_set}
use Rattle.golf_theory.specs.Membership.{In, Every}
use Rattle.golf_theory.proofs.Lists.{In-cases, Every-left, Every-right}
use Rattle.std.proofs.lemmas.Bool.{cases_eq}
use Rattle.golf_marks.specs.declared.marks.MarkSeat.{MarkSeat}
use Rattle.golf_grey.specs.declared.hand.GreyHand.{GreyHand}
use Rattle.golf_theory.proofs.Sums.{total_set, get_or_of}
use Rattle.golf_marks.specs.declared.marks.Marks.{Marks}
use Rattle.golf_marks.specs.Places.{place_count}
use Rattle.golf_marks.specs.Seats.{graph_in, known, parts, IsNewSeatOf}
use Rattle.golf_grey.specs.declared.pool.GreyPool.{GreyPool}
use Rattle.golf_grey.specs.Hands.{capacity_of, places_of, hand_count, IsHandOf, IsNewHand}
use Rattle.golf_grey.proofs.Stages.{exists_at, push_cases, at_end, longer}
use Rattle.golf_mark.specs.declared.marker.Marker.{Marker}
use Rattle.golf_mark.specs.MergedMarkers.{AllRun, IsRooted, marker_parts}
use Rattle.golf_mark.specs.Ready.{IsFreshMarker, AreFreshMarkers, Seeds}
use Rattle.golf_mark.specs.MarkerTurns.{IsMarkerOf, TakesTurns, EachRuns, is_one}

-- each marker of the one list, and its mate in the other
pub mate_before : (marks : Marks) (pool : GreyPool) (before after : List Marker) → EachRuns marks pool before after
    → (k : ℕ) (b : Marker) → get_elem? after k ≡ some b → (a : Marker) × (get_elem? before k ≡ some a)
    × TakesTurns marks pool a b
mate_before marks pool [] [] e k b at = absurd (some-ne-none b (sym at))
mate_before marks pool [] (y ∷ after) e k b at = absurd e
mate_before marks pool (x ∷ xs) [] e k b at = absurd e
mate_before marks pool (x ∷ xs) (y ∷ after) e zero b at =
    (x, refl, subst (λ (m : Marker). TakesTurns marks pool x m) (some-injective y b at) e.0)
mate_before marks pool (x ∷ xs) (y ∷ after) e (suc k) b at = mate_before marks pool xs after e.1 k b at

pub mate_after : (marks : Marks) (pool : GreyPool) (before after : List Marker) → EachRuns marks pool before after
    → (k : ℕ) (a : Marker) → get_elem? before k ≡ some a → (b : Marker) × (get_elem? after k ≡ some b)
    × TakesTurns marks pool a b
mate_after marks pool [] [] e k a at = absurd (some-ne-none a (sym at))
mate_after marks pool [] (y ∷ after) e k a at = absurd e
mate_after marks pool (x ∷ xs) [] e k a at = absurd e
mate_after marks pool (x ∷ xs) (y ∷ after) e zero a at =
    (y, refl, subst (λ (m : Marker). TakesTurns marks pool m y) (some-injective x a at) e.0)
mate_after marks pool (x ∷ xs) (y ∷ after) e (suc k) a at = mate_after marks pool xs after e.1 k a at

pub runs_length : (marks : Marks) (pool : GreyPool) (before after : List Marker) → EachRuns marks pool before after
    → length after ≡ length before
runs_length marks pool [] [] e = refl
runs_length marks pool [] (y ∷ after) e = absurd e
runs_length marks pool (x ∷ xs) [] e = absurd e
runs_length marks pool (x ∷ xs) (y ∷ after) e = omega (arith, runs_length marks pool xs after e.1)

pub runs_parts : (marks : Marks) (pool : GreyPool) (before after : List Marker) → EachRuns marks pool before after
    → marker_parts after ≡ marker_parts before
runs_parts marks pool [] [] e = refl
runs_parts marks pool [] (y ∷ after) e = absurd e
runs_parts marks pool (x ∷ xs) [] e = absurd e
runs_parts marks pool (x ∷ xs) (y ∷ after) e =
    omega (
      arith,
      runs_parts marks pool xs after e.1,
      e.0.keeps.parts,
      sum_by-cons (λ (m : Marker). parts m.scanner.seat) x xs,
      sum_by-cons (λ (m : Marker). parts m.scanner.seat) y after,
    )

-- markers that had taken nothing have attended all that they took
pub all_run : (marks : Marks) (pool : GreyPool) (before after : List Marker) → EachRuns marks pool before after
    → AreFreshMarkers marks pool before → AllRun marks pool after
all_run marks pool before after e fresh k b at =
    let m = mate_before marks pool before after e k b at in
    let f = fresh k m.0 m.1 in
    record {
      fits = m.2.fits;
      attended = m.2.attended (λ p low pos. absurd (omega (arith, pos, f.none (is_one p))));
      number = m.2.keeps.number ∙ f.number;
    }

pub still_rooted : (marks : Marks) (pool : GreyPool) (roots : List ℕ) (before after : List Marker)
    → EachRuns marks pool before after → IsRooted roots before → IsRooted roots after
still_rooted marks pool roots before after e rooted p h =
    let r = rooted p h in
    let m = mate_after marks pool before after e r.0 r.1 r.2 in
    (r.0, m.0, m.1, m.2.keeps.known p r.3)

pub all_fit : (marks : Marks) (pool : GreyPool) (ms : List Marker) → AreFreshMarkers marks pool ms
    → All (IsMarkerOf marks pool) ms
all_fit marks pool ms fresh k d low =
    let m = exists_at ms k low in
    subst (IsMarkerOf marks pool) (sym (get_or_of ms k m.0 d m.1)) (fresh k m.0 m.1).fits

-- one marker has claimed a root
pub all_fresh_set : (marks : Marks) (pool : GreyPool) (ms : List Marker) (root j : ℕ) (a b : Marker)
    → get_elem? ms j ≡ some a → Seeds marks pool root a b → AreFreshMarkers marks pool ms
    → AreFreshMarkers marks pool (set ms j b)
all_fresh_set marks pool ms root j a b at s fresh k m e = ⊎_elim
    (λ (t : (k ≡ j) × (b ≡ m)). subst (λ (x : ℕ × Marker). IsFreshMarker marks pool x.0 x.1) (λ i. (sym t.0 i, t.1 i))
    (record {
      fits = s.fits;
      none = λ f. s.took f ∙ (fresh j a at).none f;
      number = s.keeps.number
          ∙ (fresh j a at).number;
    }))
    (λ (t : (k ≢ j) × (get_elem? ms k ≡ some m)). fresh k m t.1)
    (at_set ms j k b m e)

pub parts_set : (marks : Marks) (pool : GreyPool) (ms : List Marker) (root j : ℕ) (a b : Marker)
    → get_elem? ms j ≡ some a → Seeds marks pool root a b → marker_parts (set ms j b) ≡ marker_parts ms
parts_set marks pool ms root j a b at s =
    omega (arith, total_set (λ (m : Marker). parts m.scanner.seat) ms j a b at, s.keeps.parts)

at_same : (ms : List Marker) (j : ℕ) (a b : Marker) → get_elem? ms j ≡ some a → get_elem? (set ms j b) j ≡ some b
at_same [] j a b at = absurd (some-ne-none a (sym at))
at_same (x ∷ ms) zero a b at = refl
at_same (x ∷ ms) (suc j) a b at = at_same ms j a b at

at_other : (ms : List Marker) (j k : ℕ) (b m : Marker) → k ≢ j → get_elem? ms k ≡ some m
    → get_elem? (set ms j b) k ≡ some m
at_other [] j k b m apart at = absurd (some-ne-none m (sym at))
at_other (x ∷ ms) zero zero b m apart at = absurd (apart refl)
at_other (x ∷ ms) zero (suc k) b m apart at = at
at_other (x ∷ ms) (suc j) zero b m apart at = at
at_other (x ∷ ms) (suc j) (suc k) b m apart at = at_other ms j k b m (λ e. apart (ap suc e)) at

pub rooted_set : (marks : Marks) (pool : GreyPool) (roots : List ℕ) (ms : List Marker) (root j : ℕ) (a b : Marker)
    → get_elem? ms j ≡ some a → Seeds marks pool root a b → IsRooted roots ms
    → IsRooted (roots ++ root ∷ []) (set ms j b)
rooted_set marks pool roots ms root j a b at s rooted p h = elim (In-cases p roots (root ∷ []) h) [
  | inl i ↦
      let r = rooted p i in
      elim (cases_eq r.0 j) [
        | inl same ↦
            let is : r.1 ≡ a = some-injective r.1 a (sym r.2 ∙ (ap (λ (k : ℕ). get_elem? ms k) same ∙ at)) in
            (j, b, at_same ms j a b at, s.keeps.known p (subst (λ (m : Marker). In p (known m.scanner.seat)) is r.3))
        | inr apart ↦ (r.0, r.1, at_other ms j r.0 b r.1 apart r.2, r.3)
      ]
  | inr i ↦ elim i [
    | inl e ↦ (j, b, at_same ms j a b at, subst (λ (q : ℕ). In q (known b.scanner.seat)) (sym e) s.there)
    | inr none ↦ absurd none
  ]
]

-- seats and hands become markers, the last first
pub record IsEquipping (marks : Marks) (pool : GreyPool) (total : ℕ) (seats : List MarkSeat) (hands : List GreyHand)
    (ms : List Marker) : Type 0 where
  pub same : length seats ≡ length hands
  pub all_seats : Every (IsNewSeatOf marks) seats
  pub all_hands : (k : ℕ) (h : GreyHand) → get_elem? hands k ≡ some h → IsHandOf pool h
      × (h.number + k + 1 ≡ hand_count pool)
  pub new_hands : Every IsNewHand hands
  pub count : length ms + length hands ≡ hand_count pool
  pub parts : marker_parts ms + length hands ≡ total
  pub fresh : AreFreshMarkers marks pool ms

-- besides its seat and its hand the marker has nothing, and room for all places
pub record HasRoom (marks : Marks) (pool : GreyPool) (m : Marker) : Type 0 where
  pub deferred : length m.deferred ≡ place_count (graph_in marks)
  pub idle : m.scanner.won.items ≡ []
  pub room : place_count (graph_in marks) ≤ m.scanner.won.spare
  pub budget : m.budget ≤ capacity_of pool
  pub places : places_of pool ≡ place_count (graph_in marks)

pub equipped : {total : ℕ} {seats : List MarkSeat} {hands : List GreyHand} (marks : Marks) (pool : GreyPool)
    (some_seats : List MarkSeat) (some_hands : List GreyHand) (ms : List Marker) (m : Marker)
    → IsEquipping marks pool total seats hands ms → seats ≡ some_seats ++ m.scanner.seat ∷ [] → hands ≡ some_hands
    ++ m.hand ∷ [] → HasRoom marks pool m → IsEquipping marks pool total some_seats some_hands (ms ++ m ∷ [])
equipped {total} {seats} {hands} marks pool some_seats some_hands ms m q seat_is hand_is has =
    let seat_facts = subst (λ (l : List MarkSeat). Every (IsNewSeatOf marks) l) seat_is q.all_seats in
    let seat = (Every-right (IsNewSeatOf marks) some_seats (m.scanner.seat ∷ []) seat_facts).0 in
    let hand_facts = subst (λ (l : List GreyHand). Every IsNewHand l) hand_is q.new_hands in
    let hand = (Every-right IsNewHand some_hands (m.hand ∷ []) hand_facts).0 in
    let mine = q.all_hands (length some_hands) m.hand
    (at_end hands some_hands m.hand (length some_hands) hand_is refl) in
    let seats_long : length seats ≡ length some_seats + 1 = ap length seat_is ∙ length_push some_seats m.scanner.seat in
    let hands_long : length hands ≡ length some_hands + 1 = ap length hand_is ∙ length_push some_hands m.hand in
    let ms_long = length_push ms m in
    record {
      same = omega (arith, q.same, seats_long, hands_long);
      all_seats = Every-left (IsNewSeatOf marks) some_seats (m.scanner.seat ∷ []) seat_facts;
      all_hands = λ k h at. q.all_hands k h (longer hands some_hands m.hand hand_is k h at);
      new_hands = Every-left IsNewHand some_hands (m.hand ∷ []) hand_facts;
      count = omega (arith, q.count, hands_long, ms_long);
      parts = omega (arith, q.parts, hands_long, sum_by_push (λ (x : Marker). parts x.scanner.seat) ms m, seat.parts);
      fresh = λ k x at. ⊎_elim
          (λ (t : (k < length ms) × (get_elem? ms k ≡ some x)). q.fresh k x t.1)
          (λ (t : (k ≡ length ms) × (m ≡ x)). subst (IsFreshMarker marks pool k) t.1 (record {
            fits = record {
              scanner = record {
                seat = seat.seat;
                bounded = omega (arith, ap length seat.claimed);
                room = omega (arith, has.room);
              };
              own = λ p h. absurd (subst (λ (l : List ℕ). In p l) has.idle h);
              hand = mine.0;
              covered = λ p low h. absurd (subst (λ (l : List ℕ). In p l) seat.claimed h);
              budget = omega (arith, has.budget, ap length hand.none_pushed);
              deferred = has.deferred;
              places = has.places;
            };
            none = λ f. hand.none_taken (λ _. f);
            number = omega (arith, mine.1, q.count, hands_long, t.0);
          }))
          (push_cases ms m x k at);
    }
