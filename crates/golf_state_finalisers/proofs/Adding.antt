-- Entries that are put after others one after another.
-- For: `put_all` (src/walks.rt)
-- By: induction over the list of entries
use Rattle.std.proofs.Common.{◌≡◌, ℕ, zero, suc, ◌+◌, ◌≤◌, List, [], ◌∷◌, ◌++◌, length, take, drop, Some, refl, sym, ap}
use Rattle.std.proofs.Common.{◌∙◌, subst, arith, slice_get, append_assoc, add-one}
use Rattle.golf_theory.specs.Maps.{Rises, IsRising, AllBelow}

module _ {X : Type 0} where
  at-least : (j : ℕ) (us : List (ℕ × X)) (e : ℕ × X) (vs : List (ℕ × X)) → Rises j (us ++ e ∷ vs) → j ≤ e.0
  at-least j [] e vs r = r.0
  at-least j (u ∷ us) e vs r = let more = at-least (suc u.0) us e vs r.1 in omega (arith, r.0, more)

  before-below : (j : ℕ) (us : List (ℕ × X)) (e : ℕ × X) (vs : List (ℕ × X)) → Rises j (us ++ e ∷ vs) → AllBelow e.0 us
  before-below j [] e vs r = tt
  before-below j (u ∷ us) e vs r =
      let more = at-least (suc u.0) us e vs r.1 in (omega (arith, more), before-below (suc u.0) us e vs r.1)

  split-at : (xs : List X) (i : ℕ) (x : X) → slice_get xs i ≡ Some x → xs ≡ take i xs ++ x ∷ drop (suc i) xs
  split-at [] i x h = absurd (cc)
  split-at (y ∷ xs) zero x h = let same : y ≡ x = cc in ap (λ (z : X). z ∷ xs) same
  split-at (y ∷ xs) (suc i) x h = ap (λ (zs : List X). y ∷ zs) (split-at xs i x h)

  pub take-more : (xs : List X) (i : ℕ) (x : X) → slice_get xs i ≡ Some x → take (i + 1) xs ≡ take i xs ++ x ∷ []
  take-more xs i x h = rw add-one (more xs i h)
    where
      more : (ys : List X) (n : ℕ) → slice_get ys n ≡ Some x → take (suc n) ys ≡ take n ys ++ x ∷ []
      more [] n h = absurd (cc)
      more (y ∷ ys) zero h = let same : y ≡ x = cc in ap (λ (z : X). z ∷ []) same
      more (y ∷ ys) (suc n) h = ap (λ (zs : List X). y ∷ zs) (more ys n h)

-- those before the next one have smaller keys
pub below-next : (us ps : List (ℕ × ℕ)) (i : ℕ) (p : ℕ × ℕ) → slice_get ps i ≡ Some p → IsRising (us ++ ps)
    → AllBelow p.0 (us ++ take i ps)
below-next us ps i p h r =
    before-below 0 (us ++ take i ps) p (drop (suc i) ps)
    (subst (λ (es : List (ℕ × ℕ)). IsRising es)
    (ap (λ (es : List (ℕ × ℕ)). us ++ es) (split-at ps i p h) ∙ sym (append_assoc us (take i ps) (p ∷ drop (suc i) ps))) r)
