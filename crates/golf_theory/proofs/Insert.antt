-- What is found and the order of keys in a map with one more entry, which is inserted at its place.
-- For: `insert`, specs/Maps.antt
-- By: induction over the list of entries
use Rattle.std.proofs.Common.{◌≡◌, ℕ, suc, ◌<◌, ◌≤◌, Bool, true, false, cond, List, [], ◌∷◌, Some, None, ◌==◌, ◌⊎◌, inl}
use Rattle.std.proofs.Common.{inr, refl, sym, ap, ◌∙◌, arith, nat_lt}
use Rattle.std.proofs.lemmas.Bool.{eq-eqb, ne_eqb, ltb-true, ltb-false, le-ltb, cases_eq}
use Rattle.golf_theory.specs.Maps.{Entry, find, insert, only, Rises, AllBelow}
use Rattle.golf_theory.proofs.MapOrder.{Rises-only}

apart : (m k : ℕ) → k ≤ m → (k == m) ≡ false → suc k ≤ m
apart m k h u = elim (cases_eq k m) [ inl e ↦ cc (eq-eqb k m e) | inr n ↦ omega arith ]

module _ {X : Type 0} where
  pub Entry-insert : (g : ℕ) (v : X) (es : List (ℕ × X)) (k : ℕ) (x : X) → Entry (insert g v es) k x
      → ((k ≡ g) × (x ≡ v)) ⊎ Entry es k x
  Entry-insert g v [] k x (inl h) = inl h
  Entry-insert g v [] k x (inr h) = absurd h
  Entry-insert g v (e ∷ es) k x h =
      elim (nat_lt e.0 g) as (λ b. Entry (cond b (e ∷ insert g v es) ((g, v) ∷ e ∷ es)) k x → ((k ≡ g) × (x ≡ v))
      ⊎ Entry (e ∷ es) k x) [
        | true ↦ λ i. elim i [
          | inl a ↦ inr (inl a)
          | inr a ↦
              elim (Entry-insert g v es k x a) [ inl b ↦ inl b | inr b ↦ inr (inr b) ]
        ]
        | false ↦ λ i. elim i [ inl a ↦ inl a | inr a ↦ inr a ]
      ] h

  pub Entry-insert_old : (g : ℕ) (v : X) (es : List (ℕ × X)) (k : ℕ) (x : X) → Entry es k x → Entry (insert g v es) k x
  Entry-insert_old g v [] k x h = absurd h
  Entry-insert_old g v (e ∷ es) k x h =
      elim (nat_lt e.0 g) as (λ b. Entry (cond b (e ∷ insert g v es) ((g, v) ∷ e ∷ es)) k x) [
        | true ↦ elim h [ inl a ↦ inl a | inr a ↦ inr (Entry-insert_old g v es k x a) ]
        | false ↦ inr h
      ]

  pub Entry-insert_new : (g : ℕ) (v : X) (es : List (ℕ × X)) → Entry (insert g v es) g v
  Entry-insert_new g v [] = inl (refl, refl)
  Entry-insert_new g v (e ∷ es) =
      elim (nat_lt e.0 g) as (λ b. Entry (cond b (e ∷ insert g v es) ((g, v) ∷ e ∷ es)) g v) [
        | true ↦ inr (Entry-insert_new g v es)
        | false ↦ inl (refl, refl)
      ]

  pub find-insert_other : (g : ℕ) (v : X) (es : List (ℕ × X)) (k : ℕ) → (k ≡ g → ⊥) → find k (insert g v es) ≡ find k es
  find-insert_other g v [] k n = ap (λ b. cond b (Some v) None) (ne_eqb k g n)
  find-insert_other g v (e ∷ es) k n =
      elim (nat_lt e.0 g) as (λ b. find k (cond b (e ∷ insert g v es) ((g, v) ∷ e ∷ es)) ≡ cond (k == e.0) (Some e.1)
      (find k es)) [
        | true ↦ ap (cond (k == e.0) (Some e.1)) (find-insert_other g v es k n)
        | false ↦ ap (λ b. cond b (Some v) (cond (k == e.0) (Some e.1) (find k es))) (ne_eqb k g n)
      ]

  pub find-insert : (g : ℕ) (v : X) (es : List (ℕ × X)) → find g es ≡ None → find g (insert g v es) ≡ Some v
  find-insert g v [] h = ap (λ b. cond b (Some v) None) (eq-eqb g g refl)
  find-insert g v (e ∷ es) h =
      elim (nat_lt e.0 g) as (λ b. find g (cond b (e ∷ insert g v es) ((g, v) ∷ e ∷ es)) ≡ Some v) [
        | true ↦ elim (g == e.0) as (λ b. cond b (Some e.1) (find g es) ≡ None
            → cond b (Some e.1) (find g (insert g v es)) ≡ Some v) [
              | true ↦ λ i. cc
              | false ↦ λ i. find-insert g v es i
            ] h
        | false ↦ ap (λ b. cond b (Some v) (cond (g == e.0) (Some e.1) (find g es))) (eq-eqb g g refl)
      ]

  -- a key that is not there gets its place
  pub Rises-insert : (j g : ℕ) (v : X) (es : List (ℕ × X)) → j ≤ g → find g es ≡ None → Rises j es
      → Rises j (insert g v es)
  Rises-insert j g v [] l n r = (l, tt)
  Rises-insert j g v (e ∷ es) l n r =
      elim (nat_lt e.0 g) as (λ b. nat_lt e.0 g ≡ b → Rises j (cond b (e ∷ insert g v es) ((g, v) ∷ e ∷ es))) [
        | true ↦ λ t. let low = ltb-true e.0 g
            t in elim (g == e.0) as (λ b. cond b (Some e.1) (find g es) ≡ None → Rises j (e ∷ insert g v es)) [
              | true ↦ λ i. cc
              | false ↦ λ i. (r.0, Rises-insert (suc e.0) g v es (omega arith) i r.1)
            ] n
        | false ↦ λ t. let high = ltb-false e.0 g
            t in elim (g == e.0) as (λ b. g == e.0 ≡ b → cond b (Some e.1) (find g es) ≡ None
            → Rises j ((g, v) ∷ e ∷ es)) [
              | true ↦ λ u i. cc
              | false ↦ λ u i. (l, (apart e.0 g high u, r.1))
            ] refl n
      ] refl

  pub AllBelow-insert : (n g : ℕ) (v : X) (es : List (ℕ × X)) → g < n → AllBelow n es → AllBelow n (insert g v es)
  AllBelow-insert n g v [] l a = (l, tt)
  AllBelow-insert n g v (e ∷ es) l a =
      elim (nat_lt e.0 g) as (λ b. AllBelow n (cond b (e ∷ insert g v es) ((g, v) ∷ e ∷ es))) [
        | true ↦ (a.0, AllBelow-insert n g v es l a.1)
        | false ↦ (l, a)
      ]

  insert-first : (j g : ℕ) (v : X) (es : List (ℕ × X)) → g ≤ j → Rises j es → insert g v es ≡ (g, v) ∷ es
  insert-first j g v [] l r = refl
  insert-first j g v (e ∷ es) l r = ap (λ b. cond b (e ∷ insert g v es) ((g, v) ∷ e ∷ es)) (le-ltb e.0 g (omega arith))

  -- a cut and an insertion, in either order, if keys rise
  pub only-insert : (p : ℕ → Bool) (j g : ℕ) (v : X) (es : List (ℕ × X)) → p g ≡ true → Rises j es
      → only p (insert g v es) ≡ insert g v (only p es)
  only-insert p j g v [] t r = ap (λ b. cond b ((g, v) ∷ []) []) t
  only-insert p j g v (e ∷ es) t r =
      elim (nat_lt e.0 g) as (λ b. nat_lt e.0 g ≡ b
      → only p (cond b (e ∷ insert g v es) ((g, v) ∷ e ∷ es)) ≡ insert g v
      (cond (p e.0) (e ∷ only p es) (only p es))) [
        | true ↦ λ u. elim (p e.0) as (λ c. cond c (e ∷ only p (insert g v es)) (only p (insert g v es)) ≡ insert g v
            (cond c (e ∷ only p es) (only p es))) [
              | true ↦ ap (λ (z : List (ℕ × X)). e ∷ z) (only-insert p (suc e.0) g v es t r.1)
                  ∙ sym (ap (λ b. cond b (e ∷ insert g v (only p es)) ((g, v) ∷ e ∷ only p es)) u)
              | false ↦ only-insert p (suc e.0) g v es t r.1
            ]
        | false ↦ λ u.
            let high = ltb-false e.0 g u in
            ap (λ b. cond b ((g, v) ∷ only p (e ∷ es)) (only p (e ∷ es))) t
            ∙ elim (p e.0) as (λ c. (g, v) ∷ cond c (e ∷ only p es) (only p es) ≡ insert g v
            (cond c (e ∷ only p es) (only p es))) [
              | true ↦ sym (ap (λ b. cond b (e ∷ insert g v (only p es)) ((g, v) ∷ e ∷ only p es)) u)
              | false ↦ sym (insert-first (suc e.0) g v (only p es) (omega arith) (Rises-only (suc e.0) p es r.1))
            ]
      ] refl
