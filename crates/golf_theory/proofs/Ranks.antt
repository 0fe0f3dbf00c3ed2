-- Places and keys of a map whose keys rise.
-- For: `rank`, specs/Maps.antt
-- By: induction over the list of entries
use Rattle.std.proofs.Common.{◌≡◌, ℕ, zero, suc, ◌+◌, ◌<◌, ◌≤◌, Bool, true, false, cond, List, [], ◌∷◌, length, get_or}
use Rattle.std.proofs.Common.{Option, Some, None, ◌==◌, nat_lt, refl, sym, ap, ◌∙◌, arith, slice_get}
use Rattle.std.specs.List.Sorted.{IsNonDecreasingBy}
use Rattle.std.proofs.lemmas.Bool.{ne_eqb, lt-ltb, le-ltb, ltb-true, ltb-false}
use Rattle.golf_theory.specs.Flags.{kept}
use Rattle.golf_theory.specs.Maps.{find, Rises, AllBelow, rank}
use Rattle.golf_theory.proofs.MapFinds.{find_below}
use Rattle.golf_theory.proofs.MapOrder.{Rises-less}

-- an entry, if it has the key
abbrev pub at_key : {X : Type 0} → ℕ → Option (ℕ × X) → Option X
at_key k None = None
at_key k (Some e) = cond (k == e.0) (Some e.1) None

module _ {X : Type 0} where
  above : (j : ℕ) (es : List (ℕ × X)) (i : ℕ) (d : ℕ × X) → Rises j es → i < length es → j ≤ (get_or es i d).0
  above j [] i d r l = absurd (omega arith)
  above j (e ∷ es) zero d r l = r.0
  above j (e ∷ es) (suc i) d r l = let a = above (suc e.0) es i d r.1 (omega arith) in omega (arith, r.0)

  rising : (j : ℕ) (es : List (ℕ × X)) (m n : ℕ) (d : ℕ × X) → Rises j es → m ≤ n → n < length es
      → (get_or es m d).0 ≤ (get_or es n d).0
  rising j [] m n d r l h = absurd (omega arith)
  rising j (e ∷ es) zero zero d r l h = omega arith
  rising j (e ∷ es) zero (suc n) d r l h = let a = above (suc e.0) es n d r.1 (omega arith) in omega arith
  rising j (e ∷ es) (suc m) zero d r l h = absurd (omega arith)
  rising j (e ∷ es) (suc m) (suc n) d r l h = rising (suc e.0) es m n d r.1 (omega arith) (omega arith)

  pub sorted : (j : ℕ) (es : List (ℕ × X)) → Rises j es → IsNonDecreasingBy (λ (e : ℕ × X). e.0) es
  sorted j es r = λ m n d l h. rising j es m n d r l h

  -- the place that parts the smaller keys from the others
  pub rank-is : (k i : ℕ) (es : List (ℕ × X)) → i ≤ length es → ((m : ℕ) (d : ℕ × X) → m < i → (get_or es m d).0 < k)
      → ((d : ℕ × X) → i < length es → k ≤ (get_or es i d).0) → i ≡ rank k es
  rank-is k zero [] l a b = refl
  rank-is k (suc i) [] l a b = absurd (omega arith)
  rank-is k zero (e ∷ es) l a b = sym (ap (λ t. cond t (suc (rank k es)) 0) (le-ltb e.0 k (b e (omega arith))))
  rank-is k (suc i) (e ∷ es) l a b =
      ap suc (rank-is k i es (omega arith) (λ m d h. a (suc m) d (omega arith)) (λ d h. b d (omega arith)))
      ∙ sym (ap (λ t. cond t (suc (rank k es)) 0) (lt-ltb e.0 k (a 0 e (omega arith))))

  pub rank-within : (k : ℕ) (es : List (ℕ × X)) → rank k es ≤ length es
  rank-within k [] = omega arith
  rank-within k (e ∷ es) = elim (nat_lt e.0 k) as (λ t. cond t (suc (rank k es)) 0 ≤ suc (length es)) [
    | true ↦ let a = rank-within k es in omega arith
    | false ↦ omega arith
  ]

  -- what is found at a key stands at its rank
  pub find-rank : (k j : ℕ) (es : List (ℕ × X)) → Rises j es → find k es ≡ at_key k (slice_get es (rank k es))
  find-rank k j [] r = refl
  find-rank k j (e ∷ es) r =
      elim (nat_lt e.0 k) as (λ t. nat_lt e.0 k ≡ t
      → cond (k == e.0) (Some e.1) (find k es) ≡ at_key k (slice_get (e ∷ es) (cond t (suc (rank k es)) 0))) [
        | true ↦ λ t.
            let l : e.0 < k = ltb-true e.0 k t in
            ap (λ b. cond b (Some e.1) (find k es)) (ne_eqb k e.0 (λ a. omega arith)) ∙ find-rank k (suc e.0) es r.1
        | false ↦ λ t.
            let l : k ≤ e.0 = ltb-false e.0 k t in
            ap (λ (o : Option X). cond (k == e.0) (Some e.1) o) (find_below k (suc e.0) es (omega arith) r.1)
      ] refl

  -- there are no more keys than numbers
  pub few : (k n : ℕ) (es : List (ℕ × X)) → k ≤ n → Rises k es → AllBelow n es → length es + k ≤ n
  few k n [] l r a = omega arith
  few k n (e ∷ es) l r a = let h = few (suc e.0) n es (omega (arith, a.0)) r.1 a.1 in omega (arith, r.0)

  -- keeping by flags
  pub Rises-kept : (j : ℕ) (bs : List Bool) (es : List (ℕ × X)) → Rises j es → Rises j (kept bs es)
  Rises-kept j [] es r = tt
  Rises-kept j (b ∷ bs) [] r = tt
  Rises-kept j (b ∷ bs) (e ∷ es) r = elim b as (λ t. Rises j (cond t (e ∷ kept bs es) (kept bs es))) [
    | true ↦ (r.0, Rises-kept (suc e.0) bs es r.1)
    | false ↦ Rises-less j (suc e.0) (kept bs es) (omega (arith, r.0)) (Rises-kept (suc e.0) bs es r.1)
  ]

  pub AllBelow-kept : (n : ℕ) (bs : List Bool) (es : List (ℕ × X)) → AllBelow n es → AllBelow n (kept bs es)
  AllBelow-kept n [] es a = tt
  AllBelow-kept n (b ∷ bs) [] a = tt
  AllBelow-kept n (b ∷ bs) (e ∷ es) a = elim b as (λ t. AllBelow n (cond t (e ∷ kept bs es) (kept bs es))) [
    | true ↦ (a.0, AllBelow-kept n bs es a.1)
    | false ↦ AllBelow-kept n bs es a.1
  ]
