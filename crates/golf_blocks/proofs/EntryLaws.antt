-- Entries by the rank of their keys.
-- For: `put_entry`, `take_entry` (src/entries.rt)
-- By: induction over the list of entries
use Rattle.std.proofs.Common.{◌≡◌, ℕ, suc, true, false, cond, not, List, [], ◌∷◌, Some, ◌==◌, nat_lt, refl, sym}
use Rattle.std.proofs.Common.{ap, ◌∙◌, arith, slice_get}
use Rattle.std.specs.Prelude.{insert as insert_item, remove}
use Rattle.std.proofs.lemmas.Bool.{eq-eqb, ne_eqb, ltb-true, ltb-false}
use Rattle.golf_theory.specs.Maps.{insert, only, Rises, rank}
use Rattle.golf_theory.proofs.Placing.{only_below}

module _ {X : Type 0} where
  -- one more entry stands at its rank
  pub insert-rank : (k : ℕ) (v : X) (es : List (ℕ × X)) → insert_item es (rank k es) (k, v) ≡ insert k v es
  insert-rank k v [] = refl
  insert-rank k v (e ∷ es) = elim (nat_lt e.0 k) as (λ t. insert_item (e ∷ es) (cond t (suc (rank k es)) 0) (k, v)
      ≡ cond t (e ∷ insert k v es) ((k, v) ∷ e ∷ es)) [
        | true ↦ ap (λ (z : List (ℕ × X)). e ∷ z) (insert-rank k v es)
        | false ↦ refl
      ]

  -- an entry that is there stands at its rank
  pub only-there : (j k : ℕ) (es : List (ℕ × X)) (x : ℕ × X) → Rises j es → slice_get es (rank k es) ≡ Some x → x.0 ≡ k
      → remove es (rank k es) ≡ only (λ h. not (h == k)) es
  only-there j k [] x r i s = absurd (cc)
  only-there j k (e ∷ es) x r i s =
      elim (nat_lt e.0 k) as (λ t. nat_lt e.0 k ≡ t → slice_get (e ∷ es) (cond t (suc (rank k es)) 0) ≡ Some x
      → remove (e ∷ es) (cond t (suc (rank k es)) 0) ≡ cond (not (e.0 == k)) (e ∷ only (λ h. not (h == k)) es)
      (only (λ h. not (h == k)) es)) [
        | true ↦ λ t i.
            let l = ltb-true e.0 k t in
            ap (λ (z : List (ℕ × X)). e ∷ z) (only-there (suc e.0) k es x r.1 i s)
            ∙ sym (ap (λ b. cond (not b) (e ∷ only (λ h. not (h == k)) es) (only (λ h. not (h == k)) es))
            (ne_eqb e.0 k (λ q. omega (arith, l, q))))
        | false ↦ λ t i.
            let here : e ≡ x = cc in
            let same : e.0 ≡ k = ap (λ (y : ℕ × X). y.0) here ∙ s in
            sym (ap (λ b. cond (not b) (e ∷ only (λ h. not (h == k)) es) (only (λ h. not (h == k)) es))
            (eq-eqb e.0 k same)
            ∙ only_below k (suc e.0) es (omega (arith, same)) r.1)
      ] refl i

  pub only-absent : (j k : ℕ) (es : List (ℕ × X)) → Rises j es
      → ((x : ℕ × X) → slice_get es (rank k es) ≡ Some x → x.0 ≡ k → ⊥) → es ≡ only (λ h. not (h == k)) es
  only-absent j k [] r h = refl
  only-absent j k (e ∷ es) r h =
      elim (nat_lt e.0 k) as (λ t. nat_lt e.0 k ≡ t
      → ((x : ℕ × X) → slice_get (e ∷ es) (cond t (suc (rank k es)) 0) ≡ Some x → x.0 ≡ k → ⊥) → e
      ∷ es ≡ cond (not (e.0 == k)) (e ∷ only (λ h. not (h == k)) es) (only (λ h. not (h == k)) es)) [
        | true ↦ λ t i.
            let l = ltb-true e.0 k t in
            ap (λ (z : List (ℕ × X)). e ∷ z) (only-absent (suc e.0) k es r.1 i)
            ∙ sym (ap (λ b. cond (not b) (e ∷ only (λ h. not (h == k)) es) (only (λ h. not (h == k)) es))
            (ne_eqb e.0 k (λ q. omega (arith, l, q))))
        | false ↦ λ t i.
            let l = ltb-false e.0 k t in
            let other : e.0 ≡ k → ⊥ = i e refl in
            sym (ap (λ b. cond (not b) (e ∷ only (λ h. not (h == k)) es) (only (λ h. not (h == k)) es))
            (ne_eqb e.0 k other)
            ∙ ap (λ (z : List (ℕ × X)). e ∷ z) (only_below k (suc e.0) es (omega (arith, l)) r.1))
      ] refl h
