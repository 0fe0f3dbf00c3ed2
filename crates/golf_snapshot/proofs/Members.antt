-- Whether a goroutine is among some.
-- For: `is_among`, src/among.rt.
-- By: induction over the list of goroutines; the rest by the laws of binary search.
use Rattle.std.proofs.Common.{◌≡◌, ◌≤◌, ℕ, zero, suc, List, [], ◌∷◌, map, get_or, Result, Ok, Err, inl, inr, refl, sym}
use Rattle.std.proofs.Common.{ap, subst, ◌∙◌, arith, nat_cmp}
use Rattle.std.specs.Prelude.{is_ok}
use Rattle.std.specs.List.Sorted.{IsNonDecreasing, IsNonDecreasingBy, IsBinarySearchResult}
use Rattle.std.proofs.lemmas.Bool.{cases_lt}
use Rattle.std.proofs.lemmas.List.Sorted.{searched}
use Rattle.std.proofs.lemmas.List.{length-map}
use Rattle.std.specs.Ordering.{ordering_index}
use Rattle.std.proofs.lemmas.Option.{slice_get_within, get_or_from_slice_get}
use Rattle.golf_theory.specs.Membership.{In, is_in}
use Rattle.golf_theory.proofs.Lists.{In-get_or}
use Rattle.golf_theory.proofs.Tests.{is_in-from, is_in-out}
use Rattle.golf_base.specs.declared.ids.GoroutineId.{GoroutineId}
use Rattle.golf_snapshot.proofs.Ranking.{In-place}

-- a search finds a number that is there
found-number : (xs : List ℕ) (n : ℕ) (r : Result ℕ ℕ) → IsNonDecreasing xs
    → IsBinarySearchResult (λ y. nat_cmp y n) xs r → is_ok r ≡ is_in n xs
found-number xs n (Ok i) rises h =
    let f = searched xs n (Ok i) h (λ i j l m. rises i j 0 l m) in
    sym (is_in-from n xs (subst (λ k. In k xs) f.1 (In-get_or xs i 0 f.0)))
found-number xs n (Err i) rises h =
    let f = searched xs n (Err i) h (λ i j l m. rises i j 0 l m) in
    sym (is_in-out n xs (λ m.
    let p = In-place xs n m in
    let at : get_or xs p.0 0 ≡ n = get_or_from_slice_get xs p.0 n 0 p.1 in
    let within = slice_get_within xs p.0 n p.1 in
    elim (cases_lt p.0 i) [
      | inl l ↦ let b = f.1 p.0 l in omega (arith, at, b)
      | inr g ↦ let b = f.2 p.0 g within in omega (arith, at, b)
    ]))

-- beyond the end the default stands in both lists
number-at : (gs : List GoroutineId) (k d : ℕ)
    → get_or (map (λ (g : GoroutineId). g.0) gs) k d ≡ (get_or gs k (record { 0 = d })).0
number-at [] k d = refl
number-at (g ∷ gs) zero d = refl
number-at (g ∷ gs) (suc k) d = number-at gs k d

-- a search for a goroutine is a search for its number
search-numbers : (gs : List GoroutineId) (n : ℕ) (r : Result ℕ ℕ)
    → IsBinarySearchResult (λ (g : GoroutineId). nat_cmp g.0 n) gs r
    → IsBinarySearchResult (λ y. nat_cmp y n) (map (λ (g : GoroutineId). g.0) gs) r
search-numbers gs n (Ok i) h = λ d. ap (λ (y : ℕ). nat_cmp y n) (number-at gs i d) ∙ h (record { 0 = d })
search-numbers gs n (Err i) h = λ up.
    let parted = h (λ j k d le l.
    subst (λ (y : ℕ). ordering_index (nat_cmp y n) ≤ ordering_index (nat_cmp (get_or gs k d).0 n)) (number-at gs j d.0)
    (subst (λ (y : ℕ). ordering_index (nat_cmp (get_or (map (λ (g : GoroutineId). g.0) gs) j d.0) n) ≤ ordering_index
    (nat_cmp y n)) (number-at gs k d.0) (up j k d.0 le
    (omega (arith, l, length-map gs (λ (g : GoroutineId). g.0)))))) in (
      λ k d a l. ap (λ (y : ℕ). nat_cmp y n) (number-at gs k d) ∙ parted.0 k (record { 0 = d }) a l,
      λ k d a l. ap (λ (y : ℕ). nat_cmp y n) (number-at gs k d)
          ∙ parted.1 k (record { 0 = d }) a (omega (arith, l, length-map gs (λ (g : GoroutineId). g.0))),
    )

-- what the search finds
pub found-among : (gs : List GoroutineId) (n : ℕ) (r : Result ℕ ℕ) → IsNonDecreasingBy (λ (g : GoroutineId). g.0) gs
    → IsBinarySearchResult (λ (g : GoroutineId). nat_cmp g.0 n) gs r
    → is_ok r ≡ is_in n (map (λ (g : GoroutineId). g.0) gs)
found-among gs n r rises h = found-number (map (λ (g : GoroutineId). g.0) gs) n r
    (λ i j d le l.
    subst (λ (y : ℕ). y ≤ get_or (map (λ (g : GoroutineId). g.0) gs) j d) (sym (number-at gs i d))
    (subst (λ (y : ℕ). (get_or gs i (record { 0 = d })).0 ≤ y) (sym (number-at gs j d))
    (rises i j (record { 0 = d }) le (omega (arith, l, length-map gs (λ (g : GoroutineId). g.0))))))
    (search-numbers gs n r h)
