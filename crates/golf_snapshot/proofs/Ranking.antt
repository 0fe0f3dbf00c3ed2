-- Places of entries in a map whose keys rise, and what stands at a place.
-- For: `rank`, `Rises`, golf_theory/specs/Maps.antt.
-- By: induction over the list of entries.
use Rattle.std.proofs.Common.{◌≡◌, ℕ, zero, suc, ◌<◌, ◌≤◌, cond, List, [], ◌∷◌, map, Option, Some, None, ◌⊎◌, inl, inr}
use Rattle.std.proofs.Common.{refl, sym, ap, ◌∙◌, arith, slice_get}
use Rattle.std.specs.Prelude.{option_map, unwrap_or}
use Rattle.std.proofs.lemmas.Bool.{lt-ltb, le-ltb}
use Rattle.std.proofs.lemmas.Option.{slice_get-map}
use Rattle.golf_theory.specs.Membership.{In}
use Rattle.golf_theory.specs.Maps.{Entry, Rises, rank}
use Rattle.golf_theory.proofs.MapFinds.{Entry-above}

module _ {X : Type 0} where
  pub Entry-at : (es : List (ℕ × X)) (k : ℕ) (e : ℕ × X) → slice_get es k ≡ Some e → Entry es e.0 e.1
  Entry-at [] k e h = cc
  Entry-at (d ∷ es) zero e h = let s : d ≡ e =
      cc in inl (ap (λ (x : ℕ × X). x.0) (sym s), ap (λ (x : ℕ × X). x.1) (sym s))
  Entry-at (d ∷ es) (suc k) e h = inr (Entry-at es k e h)

  -- an entry stands at the rank of its key
  pub at-rank : (j : ℕ) (es : List (ℕ × X)) (o : ℕ) (x : X) → Rises j es → Entry es o x
      → slice_get es (rank o es) ≡ Some (o, x)
  at-rank j [] o x r h = absurd h
  at-rank j (e ∷ es) o x r (inl h) =
      let l : o ≤ e.0 = omega (arith, h.0) in
      ap (λ t. slice_get (e ∷ es) (cond t (suc (rank o es)) 0)) (le-ltb e.0 o l)
      ∙ ap (λ (k : ℕ). Some (k, e.1)) (sym h.0) ∙ ap (λ (y : X). Some (o, y)) (sym h.1)
  at-rank j (e ∷ es) o x r (inr h) =
      let l = Entry-above (suc e.0) es o x r.1 h in
      let m : e.0 < o = omega (arith, l) in
      ap (λ t. slice_get (e ∷ es) (cond t (suc (rank o es)) 0)) (lt-ltb e.0 o m) ∙ at-rank (suc e.0) es o x r.1 h

  -- the rank of a key is the place of its entry
  pub rank-at : (j : ℕ) (es : List (ℕ × X)) (k o : ℕ) (x : X) → Rises j es → slice_get es k ≡ Some (o, x)
      → rank o es ≡ k
  rank-at j [] k o x r h = cc
  rank-at j (e ∷ es) zero o x r h =
      let s : e ≡ (o, x) = cc in
      let l : o ≤ e.0 = (let t = ap (λ (y : ℕ × X). y.0) s in omega (arith, t)) in
      ap (λ t. cond t (suc (rank o es)) 0) (le-ltb e.0 o l)
  rank-at j (e ∷ es) (suc k) o x r h =
      let l = Entry-above (suc e.0) es o x r.1 (Entry-at es k (o, x) h) in
      let m : e.0 < o = omega (arith, l) in
      ap (λ t. cond t (suc (rank o es)) 0) (lt-ltb e.0 o m) ∙ ap suc (rank-at (suc e.0) es k o x r.1 h)

-- a list has a member at a place, or ends before it
pub cases_at : {X : Type 0} (xs : List X) (k : ℕ) → ((x : X) × (slice_get xs k ≡ Some x)) ⊎ (slice_get xs k ≡ None)
cases_at [] k = inr refl
cases_at (x ∷ xs) zero = inl (x, refl)
cases_at (x ∷ xs) (suc k) = cases_at xs k

pub In-place : {X : Type 0} (xs : List X) (x : X) → In x xs → (k : ℕ) × (slice_get xs k ≡ Some x)
In-place [] x h = absurd h
In-place (y ∷ xs) x (inl h) = (0, ap Some (sym h))
In-place (y ∷ xs) x (inr h) = let r = In-place xs x h in (suc r.0, r.1)

-- the row of a place
pub row-at : {X : Type 0} (f : X → List ℕ) (xs : List X) (k : ℕ) (x : X) → slice_get xs k ≡ Some x
    → unwrap_or (slice_get (map f xs) k) [] ≡ f x
row-at f xs k x h = ap (λ o. unwrap_or o []) (slice_get-map f xs k ∙ ap (option_map f) h)

pub no_row-at : {X : Type 0} (f : X → List ℕ) (xs : List X) (k : ℕ) → slice_get xs k ≡ None
    → unwrap_or (slice_get (map f xs) k) [] ≡ []
no_row-at f xs k h = ap (λ o. unwrap_or o []) (slice_get-map f xs k ∙ ap (option_map f) h)

-- the members of an entry list are its entries
pub Entry-In : {X : Type 0} (es : List (ℕ × X)) (e : ℕ × X) → In e es → Entry es e.0 e.1
Entry-In [] e h = absurd h
Entry-In {X = X} (d ∷ es) e (inl h) = inl (ap (λ (x : ℕ × X). x.0) h, ap (λ (x : ℕ × X). x.1) h)
Entry-In (d ∷ es) e (inr h) = inr (Entry-In es e h)

pub In-Entry : {X : Type 0} (es : List (ℕ × X)) (k : ℕ) (x : X) → Entry es k x → In (k, x) es
In-Entry [] k x h = absurd h
In-Entry {X = X} (e ∷ es) k x (inl h) = inl (ap (λ (n : ℕ). (n, x)) h.0 ∙ ap (λ (y : X). (e.0, y)) h.1)
In-Entry (e ∷ es) k x (inr h) = inr (In-Entry es k x h)

-- two entries that are the same have the same key
pub same-key : {X : Type 0} (a b : ℕ × X) → ◌≡◌ {A = Option (ℕ × X)} (Some a) (Some b) → a.0 ≡ b.0
same-key {X = X} a b e = let t : a ≡ b = cc in ap (λ (x : ℕ × X). x.0) t
