-- What stands at a place of a list.
-- For: `names_mean` and `main_fits`, src/lib.rt
-- By: induction over the list
use Rattle.std.proofs.Common.{◌≡◌, ◌⊎◌, inl, inr, ℕ, zero, suc, ◌+◌, List, [], ◌∷◌, ◌++◌, length, map, flat_map, Some}
use Rattle.std.proofs.Common.{refl, sym, ap, ◌∙◌, subst, slice_get, slice_set, arith, length-append}
use Rattle.std.specs.Option.{option_map}
use Rattle.std.proofs.lemmas.Grind.{flat_map-append}
use Rattle.std.proofs.lemmas.Option.{slice_get-map}

-- the first element after others
pub get-behind : {X : Type 0} (xs : List X) (x : X) (ys : List X) (n : ℕ) → n ≡ length xs
    → slice_get (xs ++ (x ∷ ys)) n ≡ Some x
get-behind [] x ys n e = subst (λ k. slice_get (x ∷ ys) k ≡ Some x) (sym e) refl
get-behind (y ∷ xs) x ys zero e = absurd (omega (arith, e))
get-behind (y ∷ xs) x ys (suc n) e = get-behind xs x ys n (omega (arith, e))

pub get-next : {X : Type 0} (x : X) (xs : List X) (k : ℕ) → slice_get (x ∷ xs) (k + 1) ≡ slice_get xs k
get-next x xs k = let e : k + 1 ≡ suc k = omega arith in ap (slice_get (x ∷ xs)) e

pub get-mapped : {X Y : Type 0} (f : X → Y) (xs : List X) (k : ℕ) (x : X) → slice_get xs k ≡ Some x
    → slice_get (map f xs) k ≡ Some (f x)
get-mapped f xs k x e = slice_get-map f xs k ∙ ap (option_map f) e

pub mapped-get : {X Y : Type 0} (f : X → Y) (xs : List X) (k : ℕ) (y : Y) → slice_get (map f xs) k ≡ Some y → (x : X)
    × (slice_get xs k ≡ Some x) × (f x ≡ y)
mapped-get f [] zero y e = cc
mapped-get f [] (suc k) y e = cc
mapped-get f (x ∷ xs) zero y e = let q : f x ≡ y = cc in (x, refl, q)
mapped-get f (x ∷ xs) (suc k) y e = mapped-get f xs k y e

pub some-same : {X : Type 0} (x y : X) → Some x ≡ Some y → x ≡ y
some-same x y e = cc

-- what stands in a list with one element exchanged
pub get-set : {X : Type 0} (xs : List X) (i : ℕ) (v : X) (k : ℕ) (x : X) → slice_get (slice_set xs i v) k ≡ Some x
    → ((k ≡ i) × (x ≡ v)) ⊎ (slice_get xs k ≡ Some x)
get-set [] i v k x e = inr e
get-set (y ∷ ys) zero v zero x e = let q : x ≡ v = cc in inl (refl, q)
get-set (y ∷ ys) zero v (suc k) x e = inr e
get-set (y ∷ ys) (suc i) v zero x e = inr e
get-set (y ∷ ys) (suc i) v (suc k) x e =
    elim (get-set ys i v k x e) [ inl h ↦ inl (ap (λ n. suc n) h.0, h.1) | inr h ↦ inr h ]

-- one list more

pub flat-push : {X A : Type 0} (f : X → List A) (xs : List X) (x : X) (new : List A) → flat_map f (x ∷ []) ≡ new
    → flat_map f (xs ++ x ∷ []) ≡ flat_map f xs ++ new
flat-push f xs x new e = flat_map-append f xs (x ∷ []) ∙ ap (λ bs. flat_map f xs ++ bs) e

pub count-push : {X A : Type 0} (f : X → List A) (xs : List X) (x : X) (n k : ℕ) → n ≡ length (flat_map f xs)
    → length (flat_map f (x ∷ [])) ≡ k → n + k ≡ length (flat_map f (xs ++ x ∷ []))
count-push f xs x n k e h = let g = ap length (flat_map-append f xs (x ∷ []))
    ∙ length-append (flat_map f xs) (flat_map f (x ∷ [])) in omega (arith, e, h, g)
