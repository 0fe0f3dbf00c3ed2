-- Lists of flags, one place after another, and flags that a test gives.
-- For: `either`, `retained` and `unflagged`, src/markings.rt
-- By: induction over the list of flags, and over the list of entries
use Rattle.std.proofs.Common.{◌≡◌, ℕ, zero, suc, ◌+◌, ◌<◌, ◌≤◌, Bool, false, ◌||◌, ◌&&◌, cond, List, [], ◌∷◌}
use Rattle.std.proofs.Common.{◌++◌, length, map, filter, take, get_or, Some, refl, ap, arith, slice_get, inl, inr}
use Rattle.std.proofs.lemmas.Bool.{cases_Bool}
use Rattle.std.proofs.lemmas.List.{take_all}
use Rattle.std.proofs.lemmas.List.Sums.{sum_by-cons, count_by_more_yes, count_by_more_no}
use Rattle.golf_theory.specs.Maps.{keys, keys_where}
use Rattle.golf_theory.specs.Membership.{In, is_in}
use Rattle.golf_theory.proofs.Lists.{In-filter, In-filter_old}
use Rattle.golf_theory.proofs.Tests.{same_test, In-from, is_in-from}
use Rattle.golf_theory.specs.Flags.{left_out}
use Rattle.golf_theory.proofs.Flagged.{left_out-at}
use Rattle.golf_reclaim.specs.Flags.{count_set, either}

-- ---- one place more

pub ruleset one_more = (count_by_more_yes, count_by_more_no)

either-next : (xs ys : List Bool) (i : ℕ) (y d : Bool) → i < length xs → slice_get ys i ≡ Some y
    → either (take (suc i) xs) (take (suc i) ys) ≡ either (take i xs) (take i ys) ++ (get_or xs i d || y) ∷ []
either-next [] ys i y d l e = absurd (omega arith)
either-next (b ∷ bs) [] i y d l e = cc
either-next (b ∷ bs) (c ∷ cs) zero y d l e = let same : c ≡ y = cc in ap (λ z. (b || z) ∷ []) same
either-next (b ∷ bs) (c ∷ cs) (suc i) y d l e =
    ap (λ (z : List Bool). (b || c) ∷ z) (either-next bs cs i y d (omega arith) e)

pub either-more : {y b : Bool} {old new : List Bool} (xs ys : List Bool) (i : ℕ) (d : Bool) → i < length xs
    → slice_get ys i ≡ Some y → b ≡ (get_or xs i d || y) → old ≡ either (take i xs) (take i ys) → new ≡ old ++ b ∷ []
    → new ≡ either (take (i + 1) xs) (take (i + 1) ys)
either-more xs ys i d l e is so made = let next : i + 1 ≡ suc i = omega arith in
    rw (made, so, is, next, either-next xs ys i _ d l e)

pub left_out-more : {X : Type 0} {x : X} {b : Bool} {old new : List X} (flags : List Bool) (xs : List X) (i : ℕ)
    (d : Bool) → i < length flags → slice_get xs i ≡ Some x → get_or flags i d ≡ b
    → old ≡ left_out (take i flags) (take i xs) → new ≡ old ++ cond b [] (x ∷ [])
    → new ≡ left_out (take (i + 1) flags) (take (i + 1) xs)
left_out-more flags xs i d l e is so made = rw (made, so, left_out-at flags xs i _ d _ l e is)

-- ---- all places

pub either-all : (xs ys : List Bool) (i : ℕ) (all : List Bool) → length xs ≤ i → length ys ≤ i
    → all ≡ either (take i xs) (take i ys) → all ≡ either xs ys
either-all xs ys i all l m e = rw (take_all i xs l, take_all i ys m) at e

pub either-long : (xs ys : List Bool) → length xs ≡ length ys → length (either xs ys) ≡ length xs
either-long [] ys e = refl
either-long (x ∷ xs) [] e = absurd (omega (arith, e))
either-long (x ∷ xs) (y ∷ ys) e = ap suc (either-long xs ys (omega (arith, e)))

-- ---- flags that a test gives

pub flags-are : {X : Type 0} (f : X → Bool) (xs : List X) (flags : List Bool) → length flags ≡ length xs
    → ((k : ℕ) (x : X) → slice_get xs k ≡ Some x → get_or flags k false ≡ f x) → flags ≡ map f xs
flags-are f [] [] l h = refl
flags-are f [] (b ∷ bs) l h = absurd (omega (arith, l))
flags-are f (x ∷ xs) [] l h = absurd (omega (arith, l))
flags-are f (x ∷ xs) (b ∷ bs) l h = rw (
  ← (h zero x refl),
  ← (flags-are f xs bs (omega (arith, l))
      (λ k y e. h (suc k) y e)),
)

pub counted : {X : Type 0} (p : ℕ → Bool) (es : List (ℕ × X))
    → count_set (map (λ e. p e.0) es) ≡ length (filter p (keys es))
counted p [] = refl
counted {X = X} p (e ∷ es) = rw (sum_by-cons (λ (b : Bool). cond b 1 0) (p e.0) (map (λ (d : ℕ × X). p d.0) es))
    (let rest = counted p es in elim (cases_Bool (p e.0)) [ inl t ↦ rw t (omega arith) | inr f ↦ rw f (omega arith) ])

pub either-map : {X : Type 0} (f g : X → Bool) (xs : List X) → either (map f xs) (map g xs) ≡ map (λ x. f x || g x) xs
either-map f g [] = refl
either-map f g (x ∷ xs) = rw (either-map f g xs)

pub map-filter-swap : {X Y : Type 0} (f : X → Y) (p : Y → Bool) (xs : List X)
    → filter p (map f xs) ≡ map f (filter (λ x. p (f x)) xs)
map-filter-swap f p [] = refl
map-filter-swap f p (x ∷ xs) = elim (cases_Bool (p (f x))) [
  | inl t ↦ rw (t, map-filter-swap f p xs)
  | inr e ↦ rw (e, map-filter-swap f p xs)
]

pub filter-both : {X : Type 0} (p q : X → Bool) (xs : List X) → filter p (filter q xs) ≡ filter (λ x. q x && p x) xs
filter-both p q [] = refl
filter-both p q (x ∷ xs) = elim (cases_Bool (q x)) [
  | inl t ↦ rw (t, filter-both p q xs)
  | inr e ↦ rw (e, filter-both p q xs)
]

pub keys_where-filter : {X : Type 0} (p : ℕ → X → Bool) (es : List (ℕ × X))
    → map (λ e. e.0) (filter (λ e. p e.0 e.1) es) ≡ keys_where p es
keys_where-filter p [] = refl
keys_where-filter p (e ∷ es) = elim (cases_Bool (p e.0 e.1)) [
  | inl t ↦ rw (t, keys_where-filter p es)
  | inr f ↦ rw (f, keys_where-filter p es)
]

-- of the numbers of a list, those that pass are those in the filtered list
pub among-those : (p : ℕ → Bool) (ks : List ℕ) (o : ℕ) → In o ks → is_in o (filter p ks) ≡ p o
among-those p ks o h = same_test (is_in o (filter p ks)) (p o)
    (λ t. (In-filter p o ks (In-from o (filter p ks) t)).1)
    (λ t. is_in-from o (filter p ks) (In-filter_old p o ks t h))
