-- A cut of a map, a map over all its values, a change and an addition are the same in either order.
-- For: `only` and `map_values`, specs/Maps.antt; `cut_laws`, src/lib.rt
-- By: induction over the list of entries
use Rattle.std.proofs.Common.{◌≡◌, ℕ, Bool, true, false, cond, ◌&&◌, List, [], ◌∷◌, ◌==◌, inl, inr, refl, sym, ap, ◌∙◌}
use Rattle.std.proofs.lemmas.Bool.{eqb-true, ne_eqb}
use Rattle.golf_theory.specs.Maps.{Entry, put, add, only, map_values}

module _ {X : Type 0} (p : ℕ → Bool) where
  pub only-put : (g : ℕ) (v : X) (es : List (ℕ × X)) → only p (put g v es) ≡ put g v (only p es)
  only-put g v [] = refl
  only-put g v (e ∷ es) =
      elim (p e.0) as (λ b. cond b ((e.0, cond (g == e.0) v e.1) ∷ only p (put g v es)) (only p (put g v es)) ≡ put g v
      (cond b (e ∷ only p es) (only p es))) [
        | true ↦ ap (λ r. (e.0, cond (g == e.0) v e.1) ∷ r) (only-put g v es)
        | false ↦ only-put g v es
      ]

  -- a change at a key that is cut is not seen
  pub only-put_out : (g : ℕ) (v : X) (es : List (ℕ × X)) → p g ≡ false → only p (put g v es) ≡ only p es
  only-put_out g v [] f = refl
  only-put_out g v (e ∷ es) f =
      elim (p e.0) as (λ b. p e.0 ≡ b → cond b ((e.0, cond (g == e.0) v e.1) ∷ only p (put g v es))
      (only p (put g v es)) ≡ cond b (e ∷ only p es) (only p es)) [
        | true ↦ λ t. ap (λ c. (e.0, cond c v e.1) ∷ only p (put g v es)) (ne_eqb g e.0 (λ a. cc (ap p a)))
            ∙ ap (λ (r : List (ℕ × X)). e ∷ r) (only-put_out g v es f)
        | false ↦ λ t. only-put_out g v es f
      ] refl

  pub only-add : (g : ℕ) (v : X) (es : List (ℕ × X)) → p g ≡ true → only p (add g v es) ≡ add g v (only p es)
  only-add g v [] t = ap (λ b. cond b ((g, v) ∷ []) []) t
  only-add g v (e ∷ es) t =
      elim (p e.0) as (λ b. cond b (e ∷ only p (add g v es)) (only p (add g v es)) ≡ add g v
      (cond b (e ∷ only p es) (only p es))) [
        | true ↦ ap (λ r. e ∷ r) (only-add g v es t)
        | false ↦ only-add g v es t
      ]

  -- one cut after another keeps what passes both tests
  pub only-only : (q : ℕ → Bool) (es : List (ℕ × X)) → only p (only q es) ≡ only (λ k. q k && p k) es
  only-only q [] = refl
  only-only q (e ∷ es) =
      elim (q e.0) as (λ b. only p (cond b (e ∷ only q es) (only q es)) ≡ cond (b && p e.0)
      (e ∷ only (λ k. q k && p k) es) (only (λ k. q k && p k) es)) [
        | true ↦ ap (λ (r : List (ℕ × X)). cond (p e.0) (e ∷ r) r) (only-only q es)
        | false ↦ only-only q es
      ]

  pub only-swap : (q : ℕ → Bool) (es : List (ℕ × X)) → only p (only q es) ≡ only q (only p es)
  only-swap q [] = refl
  only-swap q (e ∷ es) =
      elim (q e.0) as (λ b. q e.0 ≡ b → only p (cond b (e ∷ only q es) (only q es)) ≡ only q
      (cond (p e.0) (e ∷ only p es) (only p es))) [
        | true ↦ λ t. elim (p e.0) as (λ c. cond c (e ∷ only p (only q es)) (only p (only q es)) ≡ only q
            (cond c (e ∷ only p es) (only p es))) [
              | true ↦ ap (λ (r : List (ℕ × X)). e ∷ r) (only-swap q es)
                  ∙ ap (λ b. cond b (e ∷ only q (only p es)) (only q (only p es))) (sym t)
              | false ↦ only-swap q es
            ]
        | false ↦ λ t. only-swap q es ∙ elim (p e.0) as (λ c. only q (only p es) ≡ only q
            (cond c (e ∷ only p es) (only p es))) [
              | true ↦ ap (λ b. cond b (e ∷ only q (only p es)) (only q (only p es))) (sym t)
              | false ↦ refl
            ]
      ] refl

  pub only-all : (es : List (ℕ × X)) → ((k : ℕ) (x : X) → Entry es k x → p k ≡ true) → only p es ≡ es
  only-all [] h = refl
  only-all (e ∷ es) h = ap (λ b. cond b (e ∷ only p es) (only p es)) (h e.0 e.1 (inl (refl, refl)))
      ∙ ap (λ (r : List (ℕ × X)). e ∷ r) (only-all es (λ k x i. h k x (inr i)))

  -- tests that agree on the keys that are there cut the same
  pub only-same : (q : ℕ → Bool) (es : List (ℕ × X)) → ((k : ℕ) (x : X) → Entry es k x → p k ≡ q k)
      → only p es ≡ only q es
  only-same q [] h = refl
  only-same q (e ∷ es) h =
      ap (λ b. cond b (e ∷ only p es) (only p es)) (h e.0 e.1 (inl (refl, refl)))
      ∙ ap (λ (r : List (ℕ × X)). cond (q e.0) (e ∷ r) r) (only-same q es (λ k x i. h k x (inr i)))

module _ {X Y : Type 0} (f : ℕ → X → Y) where
  pub only-map_values : (p : ℕ → Bool) (es : List (ℕ × X)) → only p (map_values f es) ≡ map_values f (only p es)
  only-map_values p [] = refl
  only-map_values p (e ∷ es) =
      elim (p e.0) as (λ b. cond b ((e.0, f e.0 e.1) ∷ only p (map_values f es)) (only p (map_values f es))
      ≡ map_values f (cond b (e ∷ only p es) (only p es))) [
        | true ↦ ap (λ (r : List (ℕ × Y)). (e.0, f e.0 e.1) ∷ r) (only-map_values p es)
        | false ↦ only-map_values p es
      ]

  pub map_values-put : (g : ℕ) (v : X) (es : List (ℕ × X)) → map_values f (put g v es) ≡ put g (f g v) (map_values f es)
  map_values-put g v [] = refl
  map_values-put g v (e ∷ es) =
      elim (g == e.0) as (λ b. g == e.0 ≡ b → map_values f ((e.0, cond b v e.1) ∷ put g v es) ≡
      ((e.0, cond b (f g v) (f e.0 e.1)) ∷ put g (f g v) (map_values f es))) [
        | true ↦ λ t. ap (λ z. (e.0, f z v) ∷ map_values f (put g v es)) (sym (eqb-true g e.0 t))
            ∙ ap (λ (r : List (ℕ × Y)). (e.0, f g v) ∷ r) (map_values-put g v es)
        | false ↦ λ t. ap (λ (r : List (ℕ × Y)). (e.0, f e.0 e.1) ∷ r) (map_values-put g v es)
      ] refl

  pub map_values-same : (h : ℕ → X → Y) (es : List (ℕ × X)) → ((k : ℕ) (x : X) → Entry es k x → f k x ≡ h k x)
      → map_values f es ≡ map_values h es
  map_values-same h [] a = refl
  map_values-same h (e ∷ es) a =
      ap (λ (z : Y). (e.0, z) ∷ map_values f es) (a e.0 e.1 (inl (refl, refl)))
      ∙ ap (λ (r : List (ℕ × Y)). (e.0, h e.0 e.1) ∷ r) (map_values-same h es (λ k x i. a k x (inr i)))

-- a map that leaves each value as it is
pub map_values-still : {X : Type 0} (f : ℕ → X → X) (es : List (ℕ × X)) → ((k : ℕ) (x : X) → Entry es k x → f k x ≡ x)
    → map_values f es ≡ es
map_values-still f [] a = refl
map_values-still f (e ∷ es) a =
    ap (λ z. (e.0, z) ∷ map_values f es) (a e.0 e.1 (inl (refl, refl)))
    ∙ ap (λ (r : List _). e ∷ r) (map_values-still f es (λ k x i. a k x (inr i)))
