-- Two rising maps that are compared entry by entry.
-- For: `is_same_entry`, src/heaps.rt; the goroutines of a state, in the crate above
-- By: induction over the list of entries
use Rattle.std.proofs.Common.{◌≡◌, ℕ, zero, suc, ◌≤◌, Bool, cond, List, [], ◌∷◌, Option, Some, None, option_map, refl}
use Rattle.std.proofs.Common.{sym, ap, ◌∙◌, arith, slice_get}
use Rattle.std.specs.Bool.{Decides}
use Rattle.std.proofs.lemmas.Bool.{eq-eqb, ne_eqb}
use Rattle.std.proofs.lemmas.Option.{slice_get-map}
use Rattle.golf_theory.specs.Maps.{find, keys, Rises}

module _ {X : Type 0} where
  abbrev entry_of : ℕ → X → ℕ × X
  entry_of k x = (k, x)

  -- a key of a rising map is at least the bound of the map
  key-above : (j : ℕ) (es : List (ℕ × X)) (n k : ℕ) → Rises j es → slice_get (keys es) n ≡ Some k → j ≤ k
  key-above j [] n k r h = cc
  key-above j (e ∷ es) zero k r h = let same : e.0 ≡ k = cc h in let l = r.0 in omega arith
  key-above j (e ∷ es) (suc n) k r h = let l = r.0 in let m = key-above (suc e.0) es n k r.1 h in omega arith

  -- the entry at a place has the value that is found under its key
  entry-at : (j : ℕ) (es : List (ℕ × X)) (n k : ℕ) → Rises j es → slice_get (keys es) n ≡ Some k
      → slice_get es n ≡ option_map (entry_of k) (find k es)
  entry-at j [] n k r h = cc
  entry-at j (e ∷ es) zero k r h =
      let same : k ≡ e.0 = cc h in
      ap (λ z. Some (z, e.1)) (sym same) ∙ ap (λ b. option_map (entry_of k) (cond b (Some e.1) (find k es)))
      (sym (eq-eqb k e.0 same))
  entry-at j (e ∷ es) (suc n) k r h =
      entry-at (suc e.0) es n k r.1 h
      ∙ ap (λ b. option_map (entry_of k) (cond b (Some e.1) (find k es)))
      (sym (ne_eqb k e.0 (λ a. let l = key-above (suc e.0) es n k r.1 h in omega arith)))

  value-of : (k l : ℕ) (a b : Option X) → option_map (entry_of k) a ≡ option_map (entry_of l) b → a ≡ b
  value-of k l None None e = refl
  value-of k l (Some x) (Some y) e = let h : entry_of k x ≡ entry_of l y = cc e in ap (λ (z : ℕ × X). Some z.1) h
  value-of k l None (Some y) e = cc e
  value-of k l (Some x) None e = cc e

  -- the same entries have the same key
  pub keys-same : (es fs : List (ℕ × X)) (n k l : ℕ) → slice_get (keys es) n ≡ Some k → slice_get (keys fs) n ≡ Some l
      → slice_get es n ≡ slice_get fs n → k ≡ l
  keys-same es fs n k l ke kf e =
      let h : Some k ≡ Some l = sym ke ∙ slice_get-map (λ e. e.0) es n ∙ ap (option_map (λ e. e.0)) e
      ∙ sym (slice_get-map (λ e. e.0) fs n) ∙ kf in
      cc h

  -- two entries are the same exactly when their keys are the same, and the values that are found under them
  pub entry-decides : (j : ℕ) (es fs : List (ℕ × X)) (n k l : ℕ) (r : Bool) → Rises j es → Rises j fs
      → slice_get (keys es) n ≡ Some k → slice_get (keys fs) n ≡ Some l
      → Decides r ((k ≡ l) × (find k es ≡ find l fs)) → Decides r (slice_get es n ≡ slice_get fs n)
  entry-decides j es fs n k l r p q ke lf d =
      let a = entry-at j es n k p ke in
      let b = entry-at j fs n l q lf in (
        λ t. let h = d.0 t in a ∙ ap (λ z. option_map (entry_of z) (find k es)) h.0 ∙ ap (option_map (entry_of l)) h.1
            ∙ sym b,
        λ e. d.1 (keys-same es fs n k l ke lf e, value-of k l (find k es) (find l fs) (sym a ∙ e ∙ b)),
      )
