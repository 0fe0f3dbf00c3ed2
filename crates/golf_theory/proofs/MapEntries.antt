-- The entries of a map after each operation, and before it.
-- For: `Entry`, specs/Maps.antt; `order_laws`, src/lib.rt
-- By: induction over the list of entries
use Rattle.std.proofs.Common.{◌≡◌, ℕ, Bool, true, false, cond, List, [], ◌∷◌, Some, ◌==◌, ◌⊎◌, inl, inr, refl, sym, ap}
use Rattle.std.proofs.Common.{◌∙◌, subst}
use Rattle.std.proofs.lemmas.Bool.{eqb-true, eq-eqb, ne_eqb}
use Rattle.golf_theory.specs.Membership.{In, Every}
use Rattle.golf_theory.specs.Maps.{Entry, find, put, add, only, keys_where, keys, map_values}

module _ {X : Type 0} where
  pub Entry-find : (k : ℕ) (es : List (ℕ × X)) (x : X) → find k es ≡ Some x → Entry es k x
  Entry-find k [] x h = cc
  Entry-find k (e ∷ es) x h =
      elim (k == e.0) as (λ b. k == e.0 ≡ b → cond b (Some e.1) (find k es) ≡ Some x → Entry (e ∷ es) k x) [
        | true ↦ λ t i. inl (eqb-true k e.0 t, cc)
        | false ↦ λ t i. inr (Entry-find k es x i)
      ] refl h

  pub Entry-put : (g : ℕ) (v : X) (es : List (ℕ × X)) (k : ℕ) (x : X) → Entry (put g v es) k x → ((k ≡ g) × (x ≡ v))
      ⊎ Entry es k x
  Entry-put g v [] k x h = absurd h
  Entry-put g v (e ∷ es) k x (inr h) = elim (Entry-put g v es k x h) [ inl a ↦ inl a | inr a ↦ inr (inr a) ]
  Entry-put g v (e ∷ es) k x (inl h) =
      elim (g == e.0) as (λ b. g == e.0 ≡ b → x ≡ cond b v e.1 → ((k ≡ g) × (x ≡ v)) ⊎ Entry (e ∷ es) k x) [
        | true ↦ λ t i. inl (h.0 ∙ sym (eqb-true g e.0 t), i)
        | false ↦ λ t i. inr (inl (h.0, i))
      ] refl h.1

  -- an entry at another key stays
  pub Entry-put_other : (g : ℕ) (v : X) (es : List (ℕ × X)) (k : ℕ) (x : X) → (k ≡ g → ⊥) → Entry es k x
      → Entry (put g v es) k x
  Entry-put_other g v [] k x n h = absurd h
  Entry-put_other g v (e ∷ es) k x n (inr h) = inr (Entry-put_other g v es k x n h)
  Entry-put_other g v (e ∷ es) k x n (inl h) =
      inl (h.0, h.1 ∙ ap (λ b. cond b v e.1) (sym (ne_eqb g e.0 (λ t. n (h.0 ∙ sym t)))))

  -- a key that is there gets the value
  pub Entry-put_same : (g : ℕ) (v : X) (es : List (ℕ × X)) (x : X) → Entry es g x → Entry (put g v es) g v
  Entry-put_same g v [] x h = absurd h
  Entry-put_same g v (e ∷ es) x (inr h) = inr (Entry-put_same g v es x h)
  Entry-put_same g v (e ∷ es) x (inl h) = inl (h.0, ap (λ b. cond b v e.1) (sym (eq-eqb g e.0 h.0)))

  pub Entry-add : (g : ℕ) (v : X) (es : List (ℕ × X)) (k : ℕ) (x : X) → Entry (add g v es) k x → ((k ≡ g) × (x ≡ v))
      ⊎ Entry es k x
  Entry-add g v [] k x (inl h) = inl h
  Entry-add g v [] k x (inr h) = absurd h
  Entry-add g v (e ∷ es) k x (inl h) = inr (inl h)
  Entry-add g v (e ∷ es) k x (inr h) = elim (Entry-add g v es k x h) [ inl a ↦ inl a | inr a ↦ inr (inr a) ]

  pub Entry-add_old : (g : ℕ) (v : X) (es : List (ℕ × X)) (k : ℕ) (x : X) → Entry es k x → Entry (add g v es) k x
  Entry-add_old g v [] k x h = absurd h
  Entry-add_old g v (e ∷ es) k x (inl h) = inl h
  Entry-add_old g v (e ∷ es) k x (inr h) = inr (Entry-add_old g v es k x h)

  pub Entry-add_new : (g : ℕ) (v : X) (es : List (ℕ × X)) → Entry (add g v es) g v
  Entry-add_new g v [] = inl (refl, refl)
  Entry-add_new g v (e ∷ es) = inr (Entry-add_new g v es)

  pub Entry-only : (p : ℕ → Bool) (es : List (ℕ × X)) (k : ℕ) (x : X) → Entry (only p es) k x → (p k ≡ true)
      × Entry es k x
  Entry-only p [] k x h = absurd h
  Entry-only p (e ∷ es) k x h =
      elim (p e.0) as (λ b. p e.0 ≡ b → Entry (cond b (e ∷ only p es) (only p es)) k x → (p k ≡ true)
      × Entry (e ∷ es) k x) [
        | true ↦ λ t i. elim i [
          | inl a ↦ (ap p a.0 ∙ t, inl a)
          | inr a ↦
              let r = Entry-only p es k x a in (r.0, inr r.1)
        ]
        | false ↦ λ t i. let r = Entry-only p es k x i in (r.0, inr r.1)
      ] refl h

  pub Entry-only_old : (p : ℕ → Bool) (es : List (ℕ × X)) (k : ℕ) (x : X) → p k ≡ true → Entry es k x
      → Entry (only p es) k x
  Entry-only_old p [] k x t h = absurd h
  Entry-only_old p (e ∷ es) k x t h =
      elim (p e.0) as (λ b. p e.0 ≡ b → Entry (cond b (e ∷ only p es) (only p es)) k x) [
        | true ↦ λ u. elim h [ inl a ↦ inl a | inr a ↦ inr (Entry-only_old p es k x t a) ]
        | false ↦ λ u. elim h [ inl a ↦ cc (sym (ap p a.0)) | inr a ↦ Entry-only_old p es k x t a ]
      ] refl

  -- entries and keys
  pub In-keys : (es : List (ℕ × X)) (k : ℕ) (x : X) → Entry es k x → In k (keys es)
  In-keys [] k x h = absurd h
  In-keys (e ∷ es) k x (inl h) = inl h.0
  In-keys (e ∷ es) k x (inr h) = inr (In-keys es k x h)

  pub Entry-keys : (es : List (ℕ × X)) (k : ℕ) → In k (keys es) → (x : X) × Entry es k x
  Entry-keys [] k h = absurd h
  Entry-keys (e ∷ es) k (inl h) = (e.1, inl (h, refl))
  Entry-keys (e ∷ es) k (inr h) = let r = Entry-keys es k h in (r.0, inr r.1)

  pub In-keys_where : (p : ℕ → X → Bool) (es : List (ℕ × X)) (k : ℕ) (x : X) → Entry es k x → p k x ≡ true
      → In k (keys_where p es)
  In-keys_where p [] k x h t = absurd h
  In-keys_where p (e ∷ es) k x h t =
      elim (p e.0 e.1) as (λ b. p e.0 e.1 ≡ b → In k (cond b (e.0 ∷ keys_where p es) (keys_where p es))) [
        | true ↦ λ u. elim h [ inl a ↦ inl a.0 | inr a ↦ inr (In-keys_where p es k x a t) ]
        | false ↦ λ u. elim h [ inl a ↦ cc (ap (λ z. p z x) a.0 ∙ ap (p e.0) a.1) | inr a ↦ In-keys_where p es k x a t ]
      ] refl

  pub Entry-keys_where : (p : ℕ → X → Bool) (es : List (ℕ × X)) (k : ℕ) → In k (keys_where p es) → (x : X)
      × Entry es k x × (p k x ≡ true)
  Entry-keys_where p [] k h = absurd h
  Entry-keys_where p (e ∷ es) k h =
      elim (p e.0 e.1) as (λ b. p e.0 e.1 ≡ b → In k (cond b (e.0 ∷ keys_where p es) (keys_where p es)) → (x : X)
      × Entry (e ∷ es) k x × (p k x ≡ true)) [
        | true ↦ λ u i. elim i [
          | inl a ↦ (e.1, inl (a, refl), ap (λ z. p z e.1) a ∙ u)
          | inr a ↦
              let r = Entry-keys_where p es k a in (r.0, inr r.1, r.2)
        ]
        | false ↦ λ u i. let r = Entry-keys_where p es k i in (r.0, inr r.1, r.2)
      ] refl h

module _ {X Y : Type 0} (f : ℕ → X → Y) where
  pub Entry-map_values : (es : List (ℕ × X)) (k : ℕ) (x : X) → Entry es k x → Entry (map_values f es) k (f k x)
  Entry-map_values [] k x h = absurd h
  Entry-map_values (e ∷ es) k x (inl h) = inl (h.0, ap (λ z. f z x) h.0 ∙ ap (f e.0) h.1)
  Entry-map_values (e ∷ es) k x (inr h) = inr (Entry-map_values es k x h)

  pub Entry-map_values_back : (es : List (ℕ × X)) (k : ℕ) (y : Y) → Entry (map_values f es) k y → (x : X) × Entry es k x
      × (y ≡ f k x)
  Entry-map_values_back [] k y h = absurd h
  Entry-map_values_back (e ∷ es) k y (inl h) = (e.1, inl (h.0, refl), h.1 ∙ ap (λ z. f z e.1) (sym h.0))
  Entry-map_values_back (e ∷ es) k y (inr h) = let r = Entry-map_values_back es k y h in (r.0, inr r.1, r.2)

-- what each entry has
pub Entry-Every : {X : Type 0} (P : ℕ → X → Type 0) (es : List (ℕ × X)) → Every (λ e. P e.0 e.1) es → (k : ℕ) (x : X)
    → Entry es k x → P k x
Entry-Every P [] a k x h = absurd h
Entry-Every P (e ∷ es) a k x (inl h) = subst (λ z. P k z) (sym h.1) (subst (λ z. P z e.1) (sym h.0) a.0)
Entry-Every P (e ∷ es) a k x (inr h) = Entry-Every P es a.1 k x h

pub Every-Entry : {X : Type 0} (P : ℕ → X → Type 0) (es : List (ℕ × X)) → ((k : ℕ) (x : X) → Entry es k x → P k x)
    → Every (λ e. P e.0 e.1) es
Every-Entry P [] h = tt
Every-Entry P (e ∷ es) h = (h e.0 e.1 (inl (refl, refl)), Every-Entry P es (λ k x i. h k x (inr i)))
