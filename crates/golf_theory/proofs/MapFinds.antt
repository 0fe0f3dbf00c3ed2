-- What is found in a map after each operation.
-- For: `find`, specs/Maps.antt; `map_laws`, src/lib.rt
-- By: induction over the list of entries
use Rattle.std.proofs.Common.{◌≡◌, ℕ, suc, ◌<◌, ◌≤◌, Bool, true, false, cond, List, [], ◌∷◌, Option, Some, None, ◌==◌}
use Rattle.std.proofs.Common.{◌⊎◌, inl, inr, refl, sym, ap, ◌∙◌, arith}
use Rattle.std.proofs.lemmas.Bool.{eqb-true, eqb-false, eq-eqb, ne_eqb}
use Rattle.golf_theory.specs.Maps.{Entry, find, put, add, only, map_values, Rises, IsRising, AllBelow}
use Rattle.golf_theory.proofs.MapEntries.{Entry-find, Entry-only}

module _ {X : Type 0} where
  none_or : (m : Option X) → (m ≡ None) ⊎ ((x : X) × (m ≡ Some x))
  none_or None = inl refl
  none_or (Some x) = inr (x, refl)

  -- a key is there or is not
  pub cases_find : (k : ℕ) (es : List (ℕ × X)) → (find k es ≡ None) ⊎ ((x : X) × (find k es ≡ Some x))
  cases_find k es = none_or (find k es)

  pub find-none : (k : ℕ) (es : List (ℕ × X)) → ((x : X) → Entry es k x → ⊥) → find k es ≡ None
  find-none k es n = elim (cases_find k es) [ inl e ↦ e | inr r ↦ absurd (n r.0 (Entry-find k es r.0 r.1)) ]

  pub none-find : (k : ℕ) (es : List (ℕ × X)) (x : X) → find k es ≡ None → Entry es k x → ⊥
  none-find k [] x f h = h
  none-find k (e ∷ es) x f h =
      elim (k == e.0) as (λ b. k == e.0 ≡ b → cond b (Some e.1) (find k es) ≡ None → ⊥) [
        | true ↦ λ t i. cc
        | false ↦ λ t i. elim h [ inl a ↦ eqb-false k e.0 t a.0 | inr a ↦ none-find k es x i a ]
      ] refl f

  pub find-put : (g : ℕ) (v : X) (es : List (ℕ × X)) (old : X) → find g es ≡ Some old → find g (put g v es) ≡ Some v
  find-put g v [] old h = cc
  find-put g v (e ∷ es) old h =
      elim (g == e.0) as (λ b. cond b (Some e.1) (find g es) ≡ Some old
      → cond b (Some (cond b v e.1)) (find g (put g v es)) ≡ Some v) [
        | true ↦ λ i. refl
        | false ↦ λ i. find-put g v es old i
      ] h

  pub find-put_other : (g : ℕ) (v : X) (es : List (ℕ × X)) (k : ℕ) → (k ≡ g → ⊥) → find k (put g v es) ≡ find k es
  find-put_other g v [] k n = refl
  find-put_other g v (e ∷ es) k n =
      elim (k == e.0) as (λ b. k == e.0 ≡ b → cond b (Some (cond (g == e.0) v e.1)) (find k (put g v es)) ≡ cond b
      (Some e.1) (find k es)) [
        | true ↦ λ t. ap (λ b. Some (cond b v e.1)) (ne_eqb g e.0 (λ u. n (eqb-true k e.0 t ∙ sym u)))
        | false ↦ λ t. find-put_other g v es k n
      ] refl

  -- a key that is not there stays away
  pub put-none : (g : ℕ) (v : X) (es : List (ℕ × X)) → find g es ≡ None → put g v es ≡ es
  put-none g v [] h = refl
  put-none g v (e ∷ es) h =
      elim (g == e.0) as (λ b. cond b (Some e.1) (find g es) ≡ None → (e.0, cond b v e.1) ∷ put g v es ≡ e ∷ es) [
        | true ↦ λ i. cc
        | false ↦ λ i. ap (λ (r : List (ℕ × X)). e ∷ r) (put-none g v es i)
      ] h

  pub put-put : (g : ℕ) (v w : X) (es : List (ℕ × X)) → put g v (put g w es) ≡ put g v es
  put-put g v w [] = refl
  put-put g v w (e ∷ es) =
      elim (g == e.0) as (λ b. (e.0, cond b v (cond b w e.1))
      ∷ put g v (put g w es) ≡ ((e.0, cond b v e.1) ∷ put g v es)) [
        | true ↦ ap (λ (r : List (ℕ × X)). (e.0, v) ∷ r) (put-put g v w es)
        | false ↦ ap (λ (r : List (ℕ × X)). e ∷ r) (put-put g v w es)
      ]

  -- values of two keys are put in either order
  pub put-swap : (g h : ℕ) (v w : X) (es : List (ℕ × X)) → (g ≡ h → ⊥) → put g v (put h w es) ≡ put h w (put g v es)
  put-swap g h v w [] n = refl
  put-swap g h v w (e ∷ es) n =
      elim (g == e.0) as (λ b. g == e.0 ≡ b → (e.0, cond b v (cond (h == e.0) w e.1))
      ∷ put g v (put h w es) ≡ ((e.0, cond (h == e.0) w (cond b v e.1)) ∷ put h w (put g v es))) [
        | true ↦ λ t.
            ap (λ (r : List (ℕ × X)). (e.0, v) ∷ r) (put-swap g h v w es n)
            ∙ ap (λ b. (e.0, cond b w v) ∷ put h w (put g v es))
            (sym (ne_eqb h e.0 (λ u. n (eqb-true g e.0 t ∙ sym u))))
        | false ↦ λ t. ap (λ (r : List (ℕ × X)). (e.0, cond (h == e.0) w e.1) ∷ r) (put-swap g h v w es n)
      ] refl

  pub find-add : (g : ℕ) (v : X) (es : List (ℕ × X)) → find g es ≡ None → find g (add g v es) ≡ Some v
  find-add g v [] h = ap (λ b. cond b (Some v) None) (eq-eqb g g refl)
  find-add g v (e ∷ es) h =
      elim (g == e.0) as (λ b. cond b (Some e.1) (find g es) ≡ None
      → cond b (Some e.1) (find g (add g v es)) ≡ Some v) [
        | true ↦ λ i. cc
        | false ↦ λ i. find-add g v es i
      ] h

  pub find-add_other : (g : ℕ) (v : X) (es : List (ℕ × X)) (k : ℕ) → (k ≡ g → ⊥) → find k (add g v es) ≡ find k es
  find-add_other g v [] k n = ap (λ b. cond b (Some v) None) (ne_eqb k g n)
  find-add_other g v (e ∷ es) k n = ap (cond (k == e.0) (Some e.1)) (find-add_other g v es k n)

  pub find-add_old : (g : ℕ) (v : X) (es : List (ℕ × X)) (k : ℕ) (x : X) → find k es ≡ Some x
      → find k (add g v es) ≡ Some x
  find-add_old g v [] k x h = cc
  find-add_old g v (e ∷ es) k x h =
      elim (k == e.0) as (λ b. cond b (Some e.1) (find k es) ≡ Some x
      → cond b (Some e.1) (find k (add g v es)) ≡ Some x) [
        | true ↦ λ i. i
        | false ↦ λ i. find-add_old g v es k x i
      ] h

  pub find-only : (p : ℕ → Bool) (es : List (ℕ × X)) (k : ℕ) → p k ≡ true → find k (only p es) ≡ find k es
  find-only p [] k t = refl
  find-only p (e ∷ es) k t =
      elim (p e.0) as (λ b. p e.0 ≡ b → find k (cond b (e ∷ only p es) (only p es)) ≡ cond (k == e.0) (Some e.1)
      (find k es)) [
        | true ↦ λ u. ap (cond (k == e.0) (Some e.1)) (find-only p es k t)
        | false ↦ λ u. find-only p es k t ∙ sym
            (ap (λ b. cond b (Some e.1) (find k es)) (ne_eqb k e.0 (λ e'. cc (ap p e'))))
      ] refl

  pub find-only_out : (p : ℕ → Bool) (es : List (ℕ × X)) (k : ℕ) → p k ≡ false → find k (only p es) ≡ None
  find-only_out p es k f = find-none k (only p es) (λ x h. cc ((Entry-only p es k x h).0))

  -- in a map whose keys rise, an entry is what is found
  pub find_below : (k j : ℕ) (es : List (ℕ × X)) → k < j → Rises j es → find k es ≡ None
  find_below k j [] l r = refl
  find_below k j (e ∷ es) l r = ap (λ b. cond b (Some e.1) (find k es)) (ne_eqb k e.0 (λ a. omega arith))
      ∙ find_below k (suc e.0) es (omega arith) r.1

  pub Entry-above : (j : ℕ) (es : List (ℕ × X)) (k : ℕ) (x : X) → Rises j es → Entry es k x → j ≤ k
  Entry-above j [] k x r h = absurd h
  Entry-above j (e ∷ es) k x r (inl h) = let same = h.0 in omega arith
  Entry-above j (e ∷ es) k x r (inr h) = let l = Entry-above (suc e.0) es k x r.1 h in omega arith

  find-rises : (j : ℕ) (es : List (ℕ × X)) (k : ℕ) (x : X) → Rises j es → Entry es k x → find k es ≡ Some x
  find-rises j [] k x r h = absurd h
  find-rises j (e ∷ es) k x r (inl h) = ap (λ b. cond b (Some e.1) (find k es)) (eq-eqb k e.0 h.0) ∙ ap Some (sym h.1)
  find-rises j (e ∷ es) k x r (inr h) =
      ap (λ b. cond b (Some e.1) (find k es))
      (ne_eqb k e.0 (λ a. let l = Entry-above (suc e.0) es k x r.1 h in omega arith))
      ∙ find-rises (suc e.0) es k x r.1 h

  pub find-Entry : (es : List (ℕ × X)) (k : ℕ) (x : X) → IsRising es → Entry es k x → find k es ≡ Some x
  find-Entry es k x r h = find-rises 0 es k x r h

  -- so a key has one value
  pub Entry-one : (es : List (ℕ × X)) (k : ℕ) (x y : X) → IsRising es → Entry es k x → Entry es k y → x ≡ y
  Entry-one es k x y r h i = let a = find-Entry es k x r h in let b = find-Entry es k y r i in cc

  -- a key above all is not there
  pub Entry-below : (n : ℕ) (es : List (ℕ × X)) (k : ℕ) (x : X) → AllBelow n es → Entry es k x → k < n
  Entry-below n [] k x a h = absurd h
  Entry-below n (e ∷ es) k x a (inl h) = let same = h.0 in omega arith
  Entry-below n (e ∷ es) k x a (inr h) = Entry-below n es k x a.1 h

  pub find_above : (n : ℕ) (es : List (ℕ × X)) (k : ℕ) → AllBelow n es → n ≤ k → find k es ≡ None
  find_above n es k a l = find-none k es (λ x h. let m = Entry-below n es k x a h in omega arith)

module _ {X Y : Type 0} (f : ℕ → X → Y) where
  pub find-map_values : (es : List (ℕ × X)) (k : ℕ) (x : X) → find k es ≡ Some x
      → find k (map_values f es) ≡ Some (f k x)
  find-map_values [] k x h = cc
  find-map_values (e ∷ es) k x h =
      elim (k == e.0) as (λ b. k == e.0 ≡ b → cond b (Some e.1) (find k es) ≡ Some x
      → cond b (Some (f e.0 e.1)) (find k (map_values f es)) ≡ Some (f k x)) [
        | true ↦ λ t i. ap (λ z. Some (f z e.1)) (sym (eqb-true k e.0 t)) ∙ ap (λ z. Some (f k z)) (cc)
        | false ↦ λ t i. find-map_values es k x i
      ] refl h

  pub find-map_values_none : (es : List (ℕ × X)) (k : ℕ) → find k es ≡ None → find k (map_values f es) ≡ None
  find-map_values_none [] k h = refl
  find-map_values_none (e ∷ es) k h =
      elim (k == e.0) as (λ b. cond b (Some e.1) (find k es) ≡ None
      → cond b (Some (f e.0 e.1)) (find k (map_values f es)) ≡ None) [
        | true ↦ λ i. cc
        | false ↦ λ i. find-map_values_none es k i
      ] h
