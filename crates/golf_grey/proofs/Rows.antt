-- A row of passes still fits after one pass has changed; and how much was taken with a row.
-- For: `steal_at`, src/steal.rt; `IsRow`, `RowKnows` and `taken_with`, specs/Hands.antt
-- By: cases of whether a pass is the one that is changed; for how much was taken, induction over the row
use Rattle.std.proofs.Common.{◌≡◌, ◌≢◌, ◌+◌, ◌<◌, ◌≤◌, ℕ, zero, suc, List, [], ◌∷◌, ◌++◌, length, length-append, set}
use Rattle.std.proofs.Common.{refl, sym, ap, ◌∙◌, subst, arith, ◌⊎◌, inl, inr, ⊎_elim}
use Rattle.std.specs.Prelude.{◌*◌, Option, Some, None, IfNone, sum_by}
use Rattle.std.proofs.Math.ListN.{length-set}
use Rattle.std.proofs.lemmas.List.Sums.{sum_by-append}
use mathlib.Core.Option.{some, some-injective}
use lib.ListN.{get_elem?}
use Rattle.crossbeam_deque.specs.Handles.{view, IsPassOf, stealer_deque}
use Rattle.crossbeam_deque.proofs.Lists.{at_set, set_here}
use Rattle.golf_grey.specs.Hands.{Thief, GreyPass, IsRow, RowKnows, FoundNone, IsStealing, row_weight, sum_at}
use Rattle.golf_grey.specs.Hands.{taken_with}

pub row_set : (thieves : List Thief) (passes : List GreyPass) (j : ℕ) (t : Thief) (p : GreyPass) → IsRow thieves passes
    → get_elem? thieves j ≡ some t → IsPassOf (stealer_deque t) p → (view p).parts ≡ 1 → (view p).pushed ≡ []
    → IsRow thieves (set passes j p)
row_set thieves passes j t p r at mine live empty = record {
  len = length-set passes j p ∙ r.len;
  each = λ k u q e d. ⊎_elim
      (λ (x : (k ≡ j) × (p ≡ q)). let same : t ≡ u = some-injective t u
      (sym at ∙ (ap (λ (n : ℕ). get_elem? thieves n) (sym x.0) ∙ e)) in
      let P : GreyPass → Type 0 = λ y. IsPassOf (stealer_deque u) y × ((view y).parts ≡ 1) × ((view y).pushed ≡ []) in
      subst P x.1 (subst (λ (y : Thief). IsPassOf (stealer_deque y) p) same mine, live, empty))
      (λ (x : (k ≢ j) × (get_elem? passes k ≡ some q)). r.each k u q e x.1)
      (at_set passes j k p q d);
  fifo = r.fifo;
}

pub knows_set : (capacity places : ℕ) (passes : List GreyPass) (j : ℕ) (p : GreyPass) → ((view p).places ≡ places)
    × ((view p).capacity ≡ capacity) × (length (view p).taken ≤ capacity) → RowKnows capacity places passes
    → RowKnows capacity places (set passes j p)
knows_set capacity places passes j p mine all k q e = ⊎_elim
    (λ (x : (k ≡ j) × (p ≡ q)). subst (λ (y : GreyPass). ((view y).places ≡ places) × ((view y).capacity ≡ capacity)
    × (length (view y).taken ≤ capacity)) x.1 mine)
    (λ (x : (k ≢ j) × (get_elem? passes k ≡ some q)). all k q x.1)
    (at_set passes j k p q e)

pub none_so : {A : Type 0} {P Q : Type 0} (o : Option A) → (P → Q) → IfNone o P → IfNone o Q
none_so None f p = f p
none_so (Some x) f p = p

pub none_at : (passes : List GreyPass) (j : ℕ) (old new : GreyPass) → j < length passes → get_elem? passes j ≡ some old
    → FoundNone old new → (p q : GreyPass) → get_elem? passes j ≡ some p → get_elem? (set passes j new) j ≡ some q
    → FoundNone p q
none_at passes j old new low at found p q before after =
    let was : old ≡ p = some-injective old p (sym at ∙ before) in
    let is : new ≡ q = some-injective new q (sym (set_here passes j new low) ∙ after) in
    subst (λ (x : GreyPass × GreyPass). FoundNone x.0 x.1) (λ i. (was i, is i)) found

-- with each pass at most c were taken
pub taken_few : (c : ℕ) (passes : List GreyPass)
    → ((j : ℕ) (p : GreyPass) → get_elem? passes j ≡ some p → length (view p).taken ≤ c)
    → length (taken_with passes) ≤ length passes * c
taken_few c [] all = omega arith
taken_few c (p ∷ ps) all = omega (
  arith,
  length-append (view p).taken (taken_with ps),
  all zero p refl,
  taken_few c ps (λ j q e. all (suc j) q e),
)

-- and with one of them none
pub taken_fewer : (c : ℕ) (passes : List GreyPass) (n : ℕ) → n < length passes
    → ((j : ℕ) (p : GreyPass) → get_elem? passes j ≡ some p → length (view p).taken ≤ c)
    → ((p : GreyPass) → get_elem? passes n ≡ some p → (view p).taken ≡ [])
    → length (taken_with passes) + c ≤ length passes * c
taken_fewer c [] n low all none = absurd (omega arith)
taken_fewer c (p ∷ ps) zero low all none =
    omega (
      arith,
      length-append (view p).taken (taken_with ps),
      ap (λ (l : List ℕ). length l) (none p refl),
      taken_few c ps (λ j q e. all (suc j) q e),
    )
taken_fewer c (p ∷ ps) (suc n) low all none =
    omega (
      arith,
      length-append (view p).taken (taken_with ps),
      all zero p refl,
      taken_fewer c ps n (omega arith) (λ j q e. all (suc j) q e) none,
    )

taken_weighs : (f : ℕ → ℕ) (j : ℕ) (passes : List GreyPass)
    → sum_by f (taken_with passes) ≡ sum_at (λ k (p : GreyPass). sum_by f (view p).taken) j passes
taken_weighs f j [] = refl
taken_weighs f j (p ∷ ps) = omega (arith, sum_by-append f (view p).taken (taken_with ps), taken_weighs f (j + 1) ps)

-- the list of what was taken has the weight of it
pub list_weighs : (f : ℕ → ℕ) (mine : List ℕ) (passes : List GreyPass)
    → sum_by f (mine ++ taken_with passes) ≡ sum_by f mine + row_weight (λ _. f) passes
list_weighs f mine passes = omega (arith, sum_by-append f mine (taken_with passes), taken_weighs f 0 passes)

pub taken_within : (thieves : List Thief) (c b n : ℕ) (mine : List ℕ) (passes : List GreyPass) → IsRow thieves passes
    → n < length thieves → length mine ≤ c → RowKnows c b passes
    → ((p : GreyPass) → get_elem? passes n ≡ some p → (view p).taken ≡ [])
    → length (mine ++ taken_with passes) ≤ length thieves * c
taken_within thieves c b n mine passes r low few knows unused =
    subst (λ (k : ℕ). length (mine ++ taken_with passes) ≤ k * c) r.len
    (omega (
      arith,
      length-append mine (taken_with passes),
      few,
      taken_fewer c passes n (omega (arith, r.len)) (λ j p e. (knows j p e).2) unused,
    ))

below_next : (k j : ℕ) → k < j + 1 → (k ≡ j) ⊎ (k < j)
below_next zero zero low = inl refl
below_next zero (suc j) low = inr (omega arith)
below_next (suc k) zero low = absurd (omega arith)
below_next (suc k) (suc j) low = ⊎_elim (λ (e : k ≡ j). inl (ap suc e)) (λ (l : k < j). inr (omega arith))
    (below_next k j (omega arith))

-- nothing came from the deque j either
pub stealing_next : (thieves : List Thief) (number j : ℕ) (first now next : List GreyPass)
    → IsStealing thieves number j first now → j ≢ number → IsRow thieves next
    → ((g : ℕ → ℕ → ℕ) → row_weight g next ≡ row_weight g now)
    → ((capacity places : ℕ) → RowKnows capacity places now → RowKnows capacity places next)
    → ((k : ℕ) → k ≢ j → get_elem? next k ≡ get_elem? now k)
    → ((p q : GreyPass) → get_elem? now j ≡ some p → get_elem? next j ≡ some q → FoundNone p q)
    → IsStealing thieves number (j + 1) first next
stealing_next thieves number j first now next s apart row took knows others none = record {
  row = row;
  took = λ f. took f ∙ s.took f;
  knows = λ c b all. knows c b (s.knows c b all);
  unused = others number (λ same. apart (sym same)) ∙ s.unused;
  later = λ k from. others k (λ same. absurd (omega (arith, from, same))) ∙ s.later k (omega arith);
  none = λ k p q low other before after. ⊎_elim
      (λ (e : k ≡ j). none p q (s.later j (omega arith) ∙ (ap (λ (n : ℕ). get_elem? first n) (sym e) ∙ before))
      (ap (λ (n : ℕ). get_elem? next n) (sym e) ∙ after))
      (λ (l : k < j). s.none k p q l other before (sym (others k (λ same. absurd (omega (arith, l, same)))) ∙ after))
      (below_next k j low);
}

-- the deque j is the hand's own
pub stealing_skip : (thieves : List Thief) (number j : ℕ) (first now : List GreyPass) → j ≡ number
    → IsStealing thieves number j first now → IsStealing thieves number (j + 1) first now
stealing_skip thieves number j first now own s = record {
  row = s.row;
  took = s.took;
  knows = s.knows;
  unused = s.unused;
  later = λ k from. s.later k (omega arith);
  none = λ k p q low other before after. ⊎_elim (λ (e : k ≡ j). absurd (other (e ∙ own)))
      (λ (l : k < j). s.none k p q l other before after) (below_next k j low);
}
