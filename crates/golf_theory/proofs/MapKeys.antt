-- The keys of a map after each operation, and those whose values have a property.
-- For: `keys` and `keys_where`, specs/Maps.antt
-- By: induction over the list of entries
use Rattle.std.proofs.Common.{◌≡◌, ℕ, Bool, true, false, cond, not, List, [], ◌∷◌, ◌++◌, filter, ◌==◌, inl, inr, refl}
use Rattle.std.proofs.Common.{sym, ap, ◌∙◌}
use Rattle.std.proofs.lemmas.Bool.{eqb-true, eqb-false, eq-eqb, ne_eqb}
use Rattle.golf_theory.specs.Maps.{Entry, put, add, only, keys_where, keys, map_values}

module _ {X : Type 0} where
  pub keys-put : (g : ℕ) (v : X) (es : List (ℕ × X)) → keys (put g v es) ≡ keys es
  keys-put g v [] = refl
  keys-put g v (e ∷ es) = ap (λ (r : List ℕ). e.0 ∷ r) (keys-put g v es)

  pub keys-add : (g : ℕ) (v : X) (es : List (ℕ × X)) → keys (add g v es) ≡ keys es ++ g ∷ []
  keys-add g v [] = refl
  keys-add g v (e ∷ es) = ap (λ (r : List ℕ). e.0 ∷ r) (keys-add g v es)

  pub keys-only : (p : ℕ → Bool) (es : List (ℕ × X)) → keys (only p es) ≡ filter p (keys es)
  keys-only p [] = refl
  keys-only p (e ∷ es) =
      elim (p e.0) as (λ b. keys (cond b (e ∷ only p es) (only p es)) ≡ cond b (e.0 ∷ filter p (keys es))
      (filter p (keys es))) [
        | true ↦ ap (λ (r : List ℕ). e.0 ∷ r) (keys-only p es)
        | false ↦ keys-only p es
      ]

  pub keys_where-only : (p : ℕ → X → Bool) (q : ℕ → Bool) (es : List (ℕ × X))
      → keys_where p (only q es) ≡ filter q (keys_where p es)
  keys_where-only p q [] = refl
  keys_where-only p q (e ∷ es) =
      elim (q e.0) as (λ b. q e.0 ≡ b → keys_where p (cond b (e ∷ only q es) (only q es)) ≡ filter q
      (cond (p e.0 e.1) (e.0 ∷ keys_where p es) (keys_where p es))) [
        | true ↦ λ t. elim (p e.0 e.1) as (λ c. cond c (e.0 ∷ keys_where p (only q es)) (keys_where p (only q es))
            ≡ filter q (cond c (e.0 ∷ keys_where p es) (keys_where p es))) [
              | true ↦ ap (λ (r : List ℕ). e.0 ∷ r) (keys_where-only p q es)
                  ∙ ap (λ b. cond b (e.0 ∷ filter q (keys_where p es)) (filter q (keys_where p es))) (sym t)
              | false ↦ keys_where-only p q es
            ]
        | false ↦ λ t. keys_where-only p q es
            ∙ elim (p e.0 e.1) as (λ c. filter q (keys_where p es) ≡ filter q
            (cond c (e.0 ∷ keys_where p es) (keys_where p es))) [
              | true ↦ ap (λ b. cond b (e.0 ∷ filter q (keys_where p es)) (filter q (keys_where p es))) (sym t)
              | false ↦ refl
            ]
      ] refl

  -- a cut of keys that do not pass anyway is not seen
  pub keys_where-only_same : (p : ℕ → X → Bool) (q : ℕ → Bool) (es : List (ℕ × X))
      → ((k : ℕ) (x : X) → Entry es k x → p k x ≡ true → q k ≡ true) → keys_where p (only q es) ≡ keys_where p es
  keys_where-only_same p q [] h = refl
  keys_where-only_same p q (e ∷ es) h =
      let rest = keys_where-only_same p q es (λ k x i. h k x (inr i)) in
      elim (q e.0) as (λ b. q e.0 ≡ b → keys_where p (cond b (e ∷ only q es) (only q es)) ≡ cond (p e.0 e.1)
      (e.0 ∷ keys_where p es) (keys_where p es)) [
        | true ↦ λ t. ap (λ (r : List ℕ). cond (p e.0 e.1) (e.0 ∷ r) r) rest
        | false ↦ λ t. rest ∙ elim (p e.0 e.1) as (λ c. p e.0 e.1 ≡ c
            → keys_where p es ≡ cond c (e.0 ∷ keys_where p es) (keys_where p es)) [
              | true ↦ λ u. cc (h e.0 e.1 (inl (refl, refl)) u)
              | false ↦ λ u. refl
            ] refl
      ] refl

  pub keys_where-same : (p q : ℕ → X → Bool) (es : List (ℕ × X)) → ((k : ℕ) (x : X) → Entry es k x → p k x ≡ q k x)
      → keys_where p es ≡ keys_where q es
  keys_where-same p q [] h = refl
  keys_where-same p q (e ∷ es) h =
      ap (λ b. cond b (e.0 ∷ keys_where p es) (keys_where p es)) (h e.0 e.1 (inl (refl, refl)))
      ∙ ap (λ (r : List ℕ). cond (q e.0 e.1) (e.0 ∷ r) r) (keys_where-same p q es (λ k x i. h k x (inr i)))

  pub keys_where-add : (p : ℕ → X → Bool) (g : ℕ) (v : X) (es : List (ℕ × X)) → p g v ≡ true
      → keys_where p (add g v es) ≡ keys_where p es ++ g ∷ []
  keys_where-add p g v [] t = ap (λ b. cond b (g ∷ []) []) t
  keys_where-add p g v (e ∷ es) t =
      elim (p e.0 e.1) as (λ b. cond b (e.0 ∷ keys_where p (add g v es)) (keys_where p (add g v es)) ≡ cond b
      (e.0 ∷ keys_where p es) (keys_where p es) ++ g ∷ []) [
        | true ↦ ap (λ (z : List ℕ). e.0 ∷ z) (keys_where-add p g v es t)
        | false ↦ keys_where-add p g v es t
      ]

  -- a value that passes or fails as the one before it did
  pub keys_where-put_same : (p : ℕ → X → Bool) (g : ℕ) (v : X) (es : List (ℕ × X))
      → ((x : X) → Entry es g x → p g x ≡ p g v) → keys_where p (put g v es) ≡ keys_where p es
  keys_where-put_same p g v [] h = refl
  keys_where-put_same p g v (e ∷ es) h =
      ap (λ b. cond b (e.0 ∷ keys_where p (put g v es)) (keys_where p (put g v es))) here
      ∙ ap (λ (r : List ℕ). cond (p e.0 e.1) (e.0 ∷ r) r) (keys_where-put_same p g v es (λ x i. h x (inr i)))
    where
      here : p e.0 (cond (g == e.0) v e.1) ≡ p e.0 e.1
      here = elim (g == e.0) as (λ b. g == e.0 ≡ b → p e.0 (cond b v e.1) ≡ p e.0 e.1) [
        | true ↦ λ t. let same : g ≡ e.0 = eqb-true g e.0 t in ap (λ z. p z v) (sym same)
            ∙ sym (h e.1 (inl (same, refl))) ∙ ap (λ z. p z e.1) same
        | false ↦ λ t. refl
      ] refl

  -- a value that does not pass takes its key away
  pub keys_where-put_out : (p : ℕ → X → Bool) (g : ℕ) (v : X) (es : List (ℕ × X)) → p g v ≡ false
      → keys_where p (put g v es) ≡ filter (λ k. not (k == g)) (keys_where p es)
  keys_where-put_out p g v [] t = refl
  keys_where-put_out p g v (e ∷ es) t =
      elim (g == e.0) as (λ b. g == e.0 ≡ b → cond (p e.0 (cond b v e.1)) (e.0 ∷ keys_where p (put g v es))
      (keys_where p (put g v es)) ≡ filter other (cond (p e.0 e.1) (e.0 ∷ keys_where p es) (keys_where p es))) [
        | true ↦ λ u.
            let same : g ≡ e.0 = eqb-true g e.0 u in
            ap (λ b. cond b (e.0 ∷ keys_where p (put g v es)) (keys_where p (put g v es)))
            (ap (λ n. p n v) (sym same) ∙ t)
            ∙ keys_where-put_out p g v es t
            ∙ elim (p e.0 e.1) as (λ b. filter other (keys_where p es) ≡ filter other
            (cond b (e.0 ∷ keys_where p es) (keys_where p es))) [
              | true ↦ ap (λ b. cond (not b) (e.0 ∷ filter other (keys_where p es)) (filter other (keys_where p es)))
                  (sym (eq-eqb e.0 g (sym same)))
              | false ↦ refl
            ]
        | false ↦ λ u. elim (p e.0 e.1) as (λ b. cond b (e.0 ∷ keys_where p (put g v es)) (keys_where p (put g v es))
            ≡ filter other (cond b (e.0 ∷ keys_where p es) (keys_where p es))) [
              | true ↦ ap (λ (z : List ℕ). e.0 ∷ z) (keys_where-put_out p g v es t)
                  ∙ ap (λ b. cond (not b) (e.0 ∷ filter other (keys_where p es)) (filter other (keys_where p es)))
                  (sym (ne_eqb e.0 g (λ a. eqb-false g e.0 u (sym a))))
              | false ↦ keys_where-put_out p g v es t
            ]
      ] refl
    where
      other : ℕ → Bool
      other k = not (k == g)

module _ {X Y : Type 0} (f : ℕ → X → Y) where
  pub keys-map_values : (es : List (ℕ × X)) → keys (map_values f es) ≡ keys es
  keys-map_values [] = refl
  keys-map_values (e ∷ es) = ap (λ (r : List ℕ). e.0 ∷ r) (keys-map_values es)
