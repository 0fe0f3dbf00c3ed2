-- One more hand is taken out of a list, and taken apart.
-- For: `take_apart`, src/drain.rt; `new`, src/new_pools.rt
-- By: cases of whether a hand is the one that is taken apart; of a list without an item, induction over the list
use Rattle.std.proofs.Common.{◌≡◌, ◌≢◌, ℕ, zero, suc, ◌+◌, ◌-◌, ◌<◌, List, [], ◌∷◌, ◌++◌, length, length-append, get_or}
use Rattle.std.proofs.Common.{refl, sym, ap, ◌∙◌, subst, arith, ⊎_elim}
use Rattle.std.specs.Prelude.{Some, slice_get, sum_by, remove}
use Rattle.std.proofs.lemmas.Option.{get_or_from_slice_get, slice_get_within}
use Rattle.std.specs.Global.{Vec}
use Rattle.std.proofs.lemmas.List.Sums.{sum_by-remove, sum_by_push}
use Rattle.std.proofs.lemmas.List.Edits.{length-remove}
use mathlib.Core.Option.{some, some-ne-none}
use lib.ListN.{get_elem?}
use Rattle.crossbeam_deque.specs.Handles.{worker_deque, stealer_deque, worker_flavor, stealer_flavor, worker_view}
use Rattle.golf_theory.proofs.Sums.{get_or_of, at_index}
use Rattle.golf_grey.specs.declared.hand.GreyHand.{GreyHand}
use Rattle.golf_grey.specs.Rule.{all_parts}
use Rattle.golf_grey.specs.Hands.{Thief, Owner, GreyPass, IsHandIn, AllHandsIn, FallTo0, IsTaking, IsStage, IsRow}
use Rattle.golf_grey.specs.Hands.{row_weight, pushed, took_weight}
use Rattle.golf_grey.proofs.Stages.{push_at, push_cases, at_low, exists_at}

pub at_slice : {A : Type 0} (xs : List A) (i : ℕ) (x : A) → slice_get xs i ≡ Some x → get_elem? xs i ≡ some x
at_slice xs i x e = at_index xs i x (slice_get_within xs i x e) (sym (get_or_from_slice_get xs i x x e))

-- what stands in a list without one item stood in it
pub stood : {A : Type 0} (xs : List A) (i k : ℕ) (x : A) → get_elem? (remove xs i) k ≡ some x → (j : ℕ)
    × (get_elem? xs j ≡ some x)
stood [] zero k x e = (k, e)
stood [] (suc i) k x e = (k, e)
stood (y ∷ xs) zero k x e = (suc k, e)
stood (y ∷ xs) (suc i) zero x e = (0, e)
stood (y ∷ xs) (suc i) (suc k) x e = let r = stood xs i k x e in (suc r.0, r.1)

-- what stands at another place of a list stands in it without that item
pub stands : {A : Type 0} (xs : List A) (i k : ℕ) (x : A) → get_elem? xs k ≡ some x → k ≢ i → (j : ℕ)
    × (get_elem? (remove xs i) j ≡ some x)
stands [] zero k x e other = (k, e)
stands [] (suc i) k x e other = (k, e)
stands (y ∷ xs) zero zero x e other = absurd (other refl)
stands (y ∷ xs) zero (suc k) x e other = (k, e)
stands (y ∷ xs) (suc i) zero x e other = (0, e)
stands (y ∷ xs) (suc i) (suc k) x e other = let r = stands xs i k x e (λ same. other (ap suc same)) in (suc r.0, r.1)

pub nothing : {A : Type 0} (f : A → ℕ) (xs : List A) → length xs ≡ 0 → sum_by f xs ≡ 0
nothing f [] none = refl
nothing f (x ∷ xs) none = absurd (omega (arith, none))

-- hands by falling number are all hands
pub all_of : (thieves : List Thief) (capacity places : ℕ) (hands : List GreyHand) → length hands ≡ length thieves
    → ((k : ℕ) (h : GreyHand) → get_elem? hands k ≡ some h → IsHandIn thieves capacity places h)
    → FallTo0 (length thieves) hands → AllHandsIn thieves capacity places hands
all_of thieves capacity places hands count fits falls = (
  count,
  fits,
  λ j from low.
      let h = exists_at hands (length thieves - 1 - j) (omega (arith, count, low)) in
      (length thieves - 1 - j, h.0, h.1, omega (arith, falls (length thieves - 1 - j) h.0 h.1, low)),
)

pub taking : (thieves : List Thief) (capacity places : ℕ) (hands rest : List GreyHand) (owners : List Owner)
    (rows : List (Vec GreyPass)) (h : GreyHand) (at : ℕ) → get_elem? rest at ≡ some h → h.number ≡ length owners
    → IsTaking thieves capacity places hands rest owners rows
    → IsTaking thieves capacity places hands (remove rest at) (owners ++ h.own ∷ []) (rows ++ h.passes ∷ [])
taking thieves capacity places hands rest owners rows h at there number t = record {
  count = omega (arith, t.count, len, length-append owners (h.own ∷ []));
  rows_count = omega (arith, t.rows_count, length-append owners (h.own ∷ []), length-append rows (h.passes ∷ []));
  fits = λ k x e. let s = stood rest at k x e in t.fits s.0 x s.1;
  numbers = λ j from low.
      let found = t.numbers j (omega (arith, from, length-append owners (h.own ∷ []))) low in
      let other : found.0 ≢ at = λ same. let x : h ≡ found.1 = sym (get_or_of rest at h h there)
      ∙ ap (λ (i : ℕ). get_or rest i h) (sym same)
      ∙ get_or_of rest found.0 found.1 h found.2 in omega
      (arith, found.3, ap (λ (y : GreyHand). y.number) x, number, from, length-append owners (h.own ∷ [])) in
      let s = stands rest at found.0 found.1 found.2 other in
      (s.0, found.1, s.1, found.3);
  owned = λ j w e. ⊎_elim
      (λ (a : (j < length owners) × (get_elem? owners j ≡ some w)). t.owned j w a.1)
      (λ (a : (j ≡ length owners) × (h.own ≡ w)).
      subst (λ (y : Owner). ((u : Thief) → get_elem? thieves j ≡ some u → (worker_deque y ≡ stealer_deque u)
      × (stealer_flavor u ≡ 0)) × (worker_flavor y ≡ 0) × ((worker_view y).parts + length thieves ≡ all_parts)) a.1 (
        (λ u d. (mine.own u (ap (λ (n : ℕ). get_elem? thieves n) (number ∙ sym a.0) ∙ d), mine.row.fifo j u d)),
        h.fifo,
        mine.parts,
      ))
      (push_cases owners h.own w j e);
  rowed = λ k r e. ⊎_elim
      (λ (a : (k < length rows) × (get_elem? rows k ≡ some r)). t.rowed k r a.1)
      (λ (a : (k ≡ length rows) × (h.passes ≡ r)). subst (λ (y : Vec GreyPass). IsRow thieves y.items) a.1 mine.row)
      (push_cases rows h.passes r k e);
  sums_pushed = λ g. omega (
    arith,
    t.sums_pushed g,
    sum_by-remove (λ (y : GreyHand). sum_by (g y.number) (pushed y)) rest at h low,
    ap (λ (y : GreyHand). sum_by (g y.number) (pushed y)) is,
    push_at (λ j (w : Owner). sum_by (g j) (worker_view w).pushed) owners h.own h.number number,
  );
  sums_taken = λ g. omega (
    arith,
    t.sums_taken g,
    sum_by-remove (λ (y : GreyHand). took_weight g y) rest at h low,
    ap (λ (y : GreyHand). took_weight g y) is,
    push_at (λ j (w : Owner). sum_by (g j) (worker_view w).taken) owners h.own h.number number,
    sum_by_push (λ (r : Vec GreyPass). row_weight g r.items) rows h.passes,
  );
}
  where
    low : at < length rest
    low = at_low rest at h there

    len : length (remove rest at) + 1 ≡ length rest
    len = length-remove rest at low

    mine : IsHandIn thieves capacity places h
    mine = t.fits at h there

    is : get_or rest at h ≡ h
    is = get_or_of rest at h h there

pub taking_none : (thieves : List Thief) (capacity places : ℕ) (hands : List GreyHand)
    → AllHandsIn thieves capacity places hands → IsTaking thieves capacity places hands hands [] []
taking_none thieves capacity places hands all = record {
  count = omega (arith, all.0);
  rows_count = refl;
  fits = all.1;
  numbers = all.2;
  owned = λ j w e. absurd (some-ne-none w (sym e));
  rowed = λ k r e. absurd (some-ne-none r (sym e));
  sums_pushed = λ f. omega arith;
  sums_taken = λ f. omega arith;
}

pub taken_all : (thieves : List Thief) (capacity places : ℕ) (hands rest : List GreyHand) (owners : List Owner)
    (rows : List (Vec GreyPass)) → length rest ≡ 0 → IsTaking thieves capacity places hands rest owners rows
    → IsStage thieves (all_parts - length thieves) (length thieves) owners
taken_all thieves capacity places hands rest owners rows none t = record {
  len = omega (arith, t.count);
  each = λ j u w e d. let o = t.owned j w d in ((o.0 u e).0, o.1, (o.0 u e).1);
  low = λ j w d l. let o = t.owned j w d in omega (arith, o.2);
  high = λ j w d l. absurd (let h = at_low owners j w d in omega (arith, t.count));
}
