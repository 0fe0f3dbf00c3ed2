-- A list in rising order of number, as a map by number.
-- For: `find`, `put`, `only`, `rank`, specs/Maps.antt
-- By: induction over the list that is in rising order
use Rattle.std.proofs.Common.{◌≡◌, ℕ, zero, suc, ◌<◌, ◌≤◌, true, false, cond, not, List, [], ◌∷◌, map, Option, Some}
use Rattle.std.proofs.Common.{None, ◌==◌, length, get_or, refl, sym, ap, ◌∙◌, arith, slice_get, slice_set}
use Rattle.std.specs.Prelude.{remove, option_map}
use Rattle.std.specs.List.Sorted.{IsNonDecreasingBy}
use Rattle.std.proofs.lemmas.Bool.{eqb-true, eq-eqb, ne_eqb, lt-ltb, le-ltb}
use Rattle.std.proofs.lemmas.Option.{slice_get-map}
use Rattle.golf_theory.specs.Maps.{find, put, only, Rises, rank}
use Rattle.golf_theory.proofs.Placing.{put_below, only_below}
use Rattle.golf_theory.proofs.Ranks.{at_key, find-rank}

module _ {P X : Type 0} (number : P → ℕ) (value : P → X) where
  abbrev pub keyed : List P → List (ℕ × X)
  keyed ps = map (λ p. (number p, value p)) ps

  behind : (j i : ℕ) (ps : List P) (p : P) → Rises j (keyed ps) → slice_get ps i ≡ Some p → j ≤ number p
  behind j i [] p r h = absurd (cc)
  behind j zero (q ∷ ps) p r h = let same : q ≡ p = cc in omega (arith, r.0, ap number same)
  behind j (suc i) (q ∷ ps) p r h = let a = behind (suc (number q)) i ps p r.1 h in omega (arith, r.0, a)

  -- the item at a place is found by its number
  pub find-keyed : (j i : ℕ) (ps : List P) (p : P) → Rises j (keyed ps) → slice_get ps i ≡ Some p
      → find (number p) (keyed ps) ≡ Some (value p)
  find-keyed j i [] p r h = absurd (cc)
  find-keyed j zero (q ∷ ps) p r h =
      let same : q ≡ p = cc in
      ap (λ b. cond b (Some (value q)) (find (number p) (keyed ps)))
      (eq-eqb (number p) (number q) (ap number (sym same))) ∙ ap (λ (z : P). Some (value z)) same
  find-keyed j (suc i) (q ∷ ps) p r h =
      let a = behind (suc (number q)) i ps p r.1 h in
      ap (λ b. cond b (Some (value q)) (find (number p) (keyed ps)))
      (ne_eqb (number p) (number q) (λ e. omega (arith, a, e))) ∙ find-keyed (suc (number q)) i ps p r.1 h

  -- an item of the same number in its place
  pub set-keyed : (j i : ℕ) (ps : List P) (p q : P) → Rises j (keyed ps) → slice_get ps i ≡ Some p → number q ≡ number p
      → keyed (slice_set ps i q) ≡ put (number p) (value q) (keyed ps)
  set-keyed j i [] p q r h n = absurd (cc)
  set-keyed j zero (x ∷ ps) p q r h n =
      let same : x ≡ p = cc in
      let is : number p ≡ number x = ap number (sym same) in
      ap (λ m. (m, value q) ∷ keyed ps) (n ∙ is)
      ∙ ap (λ (es : List (ℕ × X)). (number x, value q) ∷ es)
      (sym (put_below (number p) (value q) (suc (number x)) (keyed ps) (omega (arith, is)) r.1))
      ∙ ap (λ b. (number x, cond b (value q) (value x)) ∷ put (number p) (value q) (keyed ps))
      (sym (eq-eqb (number p) (number x) is))
  set-keyed j (suc i) (x ∷ ps) p q r h n =
      let a = behind (suc (number x)) i ps p r.1 h in
      ap (λ (es : List (ℕ × X)). (number x, value x) ∷ es) (set-keyed (suc (number x)) i ps p q r.1 h n)
      ∙ ap (λ b. (number x, cond b (value q) (value x)) ∷ put (number p) (value q) (keyed ps))
      (sym (ne_eqb (number p) (number x) (λ e. omega (arith, a, e))))

  -- the item is gone
  pub remove-keyed : (j i : ℕ) (ps : List P) (p : P) → Rises j (keyed ps) → slice_get ps i ≡ Some p
      → keyed (remove ps i) ≡ only (λ h. not (h == number p)) (keyed ps)
  remove-keyed j i [] p r h = absurd (cc)
  remove-keyed j zero (x ∷ ps) p r h =
      let same : x ≡ p = cc in
      let is : number x ≡ number p = ap number same in
      let rest : List (ℕ × X) = only (λ h. not (h == number p)) (keyed ps) in
      sym (only_below (number p) (suc (number x)) (keyed ps) (omega (arith, is)) r.1)
      ∙ ap (λ b. cond (not b) ((number x, value x) ∷ rest) rest) (sym (eq-eqb (number x) (number p) is))
  remove-keyed j (suc i) (x ∷ ps) p r h =
      let a = behind (suc (number x)) i ps p r.1 h in
      let rest : List (ℕ × X) = only (λ h. not (h == number p)) (keyed ps) in
      ap (λ (es : List (ℕ × X)). (number x, value x) ∷ es) (remove-keyed (suc (number x)) i ps p r.1 h)
      ∙ ap (λ b. cond (not b) ((number x, value x) ∷ rest) rest)
      (sym (ne_eqb (number x) (number p) (λ e. omega (arith, a, e))))

  at_number : (k : ℕ) (v : X) (o : Option P) → at_key k (option_map (λ p. (number p, value p)) o) ≡ Some v → (p : P)
      × (o ≡ Some p) × (number p ≡ k) × (value p ≡ v)
  at_number k v None h = absurd (cc)
  at_number k v (Some p) h =
      elim (k == number p) as (λ b. k == number p ≡ b → cond b (Some (value p)) None ≡ Some v → (q : P)
      × (Some p ≡ Some q) × (number q ≡ k) × (value q ≡ v)) [
        | true ↦ λ t i. (p, refl, sym (eqb-true k (number p) t), cc)
        | false ↦ λ t i. absurd (cc)
      ] refl h

  -- what is found stands at the rank of its number
  pub found-keyed : (k j : ℕ) (ps : List P) (v : X) → Rises j (keyed ps) → find k (keyed ps) ≡ Some v → (p : P)
      × (slice_get ps (rank k (keyed ps)) ≡ Some p) × (number p ≡ k) × (value p ≡ v)
  found-keyed k j ps v r h =
      at_number k v (slice_get ps (rank k (keyed ps)))
      (sym (ap (at_key k) (slice_get-map (λ p. (number p, value p)) ps (rank k (keyed ps))))
      ∙ sym (find-rank k j (keyed ps) r) ∙ h)

  above : (j i : ℕ) (ps : List P) (d : P) → Rises j (keyed ps) → i < length ps → j ≤ number (get_or ps i d)
  above j i [] d r l = absurd (omega arith)
  above j zero (p ∷ ps) d r l = r.0
  above j (suc i) (p ∷ ps) d r l = let a = above (suc (number p)) i ps d r.1 (omega arith) in omega (arith, r.0, a)

  rising : (j m n : ℕ) (ps : List P) (d : P) → Rises j (keyed ps) → m ≤ n → n < length ps
      → number (get_or ps m d) ≤ number (get_or ps n d)
  rising j m n [] d r l h = absurd (omega arith)
  rising j zero zero (p ∷ ps) d r l h = omega arith
  rising j zero (suc n) (p ∷ ps) d r l h = let a = above (suc (number p)) n ps d r.1 (omega arith) in omega (arith, a)
  rising j (suc m) zero (p ∷ ps) d r l h = absurd (omega arith)
  rising j (suc m) (suc n) (p ∷ ps) d r l h = rising (suc (number p)) m n ps d r.1 (omega arith) (omega arith)

  pub sorted-keyed : (j : ℕ) (ps : List P) → Rises j (keyed ps) → IsNonDecreasingBy number ps
  sorted-keyed j ps r = λ m n d l h. rising j m n ps d r l h

  -- the place that parts the smaller numbers from the others
  pub rank-keyed : (k i : ℕ) (ps : List P) → i ≤ length ps → ((m : ℕ) (d : P) → m < i → number (get_or ps m d) < k)
      → ((d : P) → i < length ps → k ≤ number (get_or ps i d)) → i ≡ rank k (keyed ps)
  rank-keyed k zero [] l a b = refl
  rank-keyed k (suc i) [] l a b = absurd (omega arith)
  rank-keyed k zero (p ∷ ps) l a b = sym (ap (λ t. cond t (suc (rank k (keyed ps))) 0)
      (le-ltb (number p) k (b p (omega arith))))
  rank-keyed k (suc i) (p ∷ ps) l a b =
      ap suc (rank-keyed k i ps (omega arith) (λ m d h. a (suc m) d (omega arith)) (λ d h. b d (omega arith)))
      ∙ sym (ap (λ t. cond t (suc (rank k (keyed ps))) 0) (lt-ltb (number p) k (a 0 p (omega arith))))
