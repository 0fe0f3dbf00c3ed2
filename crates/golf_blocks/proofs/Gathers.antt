-- Lists that stand one after another.
-- For: `gather` (specs/Gather.antt)
-- By: induction over the list of lists
use Rattle.std.proofs.Common.{◌≡◌, ℕ, zero, suc, ◌+◌, ◌<◌, ◌≤◌, Bool, true, false, cond, List, [], ◌∷◌, ◌++◌, length}
use Rattle.std.proofs.Common.{filter, take, drop, Some, refl, sym, ap, ◌∙◌, arith, append_assoc, length-append, add-one}
use Rattle.std.proofs.Common.{slice_get, slice_set}
use Rattle.std.proofs.lemmas.List.{append-nil, length-set}
use Rattle.golf_blocks.specs.Gather.{gather}
use Rattle.golf_blocks.proofs.Middles.{get-middle}

module _ {X Y : Type 0} (f : X → List Y) where
  pub gather-append : (xs ys : List X) → gather f (xs ++ ys) ≡ gather f xs ++ gather f ys
  gather-append [] ys = refl
  gather-append (x ∷ xs) ys = ap (λ (zs : List Y). f x ++ zs) (gather-append xs ys)
      ∙ sym (append_assoc (f x) (gather f xs) (gather f ys))

  -- what stands before one, it, and what stands after it
  pub gather-split : (xs : List X) (i : ℕ) (x : X) → slice_get xs i ≡ Some x → gather f xs ≡ gather f (take i xs)
      ++ (f x ++ gather f (drop (suc i) xs))
  gather-split [] i x h = absurd (cc)
  gather-split (z ∷ xs) zero x h = let same : z ≡ x = cc in ap (λ (w : X). f w ++ gather f xs) same
  gather-split (z ∷ xs) (suc i) x h =
      ap (λ (ys : List Y). f z ++ ys) (gather-split xs i x h)
      ∙ sym (append_assoc (f z) (gather f (take i xs)) (f x ++ gather f (drop (suc i) xs)))

  -- with another one in its place
  pub gather-set : (xs : List X) (i : ℕ) (x y : X) → slice_get xs i ≡ Some x
      → gather f (slice_set xs i y) ≡ gather f (take i xs) ++ (f y ++ gather f (drop (suc i) xs))
  gather-set [] i x y h = absurd (cc)
  gather-set (z ∷ xs) zero x y h = refl
  gather-set (z ∷ xs) (suc i) x y h =
      ap (λ (ys : List Y). f z ++ ys) (gather-set xs i x y h)
      ∙ sym (append_assoc (f z) (gather f (take i xs)) (f y ++ gather f (drop (suc i) xs)))

  -- with one of the same list in its place
  pub gather-same : (xs : List X) (i : ℕ) (x y : X) → slice_get xs i ≡ Some x → f y ≡ f x
      → gather f (slice_set xs i y) ≡ gather f xs
  gather-same xs i x y h e =
      gather-set xs i x y h ∙ ap (λ (ys : List Y). gather f (take i xs) ++ (ys ++ gather f (drop (suc i) xs))) e
      ∙ sym (gather-split xs i x h)

  -- ---- how long the first lists are

  pub gather-step : (xs : List X) (i : ℕ) (x : X) → slice_get xs i ≡ Some x
      → length (gather f (take (suc i) xs)) ≡ length (gather f (take i xs)) + length (f x)
  gather-step [] i x h = absurd (cc)
  gather-step (z ∷ xs) zero x h =
      let same : z ≡ x = cc in
      let n = length-append (f z) (gather f (take zero xs)) in
      let m = ap (λ (w : X). length (f w)) same in
      let none : length (gather f (take zero xs)) ≡ 0 = refl in
      omega (arith, n, m, none)
  gather-step (z ∷ xs) (suc i) x h =
      let r = gather-step xs i x h in
      omega (arith, r, length-append (f z) (gather f (take (suc i) xs)), length-append (f z) (gather f (take i xs)))

  pub gather-all : (xs : List X) (i : ℕ) → length xs ≤ i → gather f (take i xs) ≡ gather f xs
  gather-all [] zero l = refl
  gather-all [] (suc i) l = refl
  gather-all (x ∷ xs) zero l = absurd (omega (arith, l))
  gather-all (x ∷ xs) (suc i) l = ap (λ (ys : List Y). f x ++ ys) (gather-all xs i (omega (arith, l)))

  pub gather-less : (xs : List X) (i : ℕ) → length (gather f (take i xs)) ≤ length (gather f xs)
  gather-less [] zero = omega arith
  gather-less [] (suc i) = omega arith
  gather-less (x ∷ xs) zero = omega arith
  gather-less (x ∷ xs) (suc i) =
      let h = gather-less xs i in
      omega (arith, h, length-append (f x) (gather f (take i xs)), length-append (f x) (gather f xs))

  -- another one in its place makes the difference of the two
  pub gather-change : (xs : List X) (i n : ℕ) (x y : X) → i < n → slice_get xs i ≡ Some x
      → length (gather f (take n (slice_set xs i y))) + length (f x) ≡ length (gather f (take n xs)) + length (f y)
  gather-change [] i n x y l h = absurd (cc)
  gather-change (z ∷ xs) i zero x y l h = absurd (omega (arith, l))
  gather-change (z ∷ xs) zero (suc n) x y l h =
      let same : z ≡ x = cc in
      let m = ap (λ (w : X). length (f w)) same in
      omega (arith, m, length-append (f y) (gather f (take n xs)), length-append (f z) (gather f (take n xs)))
  gather-change (z ∷ xs) (suc i) (suc n) x y l h =
      let r = gather-change xs i n x y (omega (arith, l)) h in
      omega (
        arith,
        r,
        length-append (f z) (gather f (take n (slice_set xs i y))),
        length-append (f z) (gather f (take n xs)),
      )

  pub gather-before : (xs : List X) (i n : ℕ) (y : X) → n ≤ i
      → gather f (take n (slice_set xs i y)) ≡ gather f (take n xs)
  gather-before [] i zero y l = refl
  gather-before [] i (suc n) y l = refl
  gather-before (z ∷ xs) i zero y l = refl
  gather-before (z ∷ xs) zero (suc n) y l = absurd (omega (arith, l))
  gather-before (z ∷ xs) (suc i) (suc n) y l =
      ap (λ (ys : List Y). f z ++ ys) (gather-before xs i n y (omega (arith, l)))

  -- one of a list, by its place among all
  pub gather-get : (xs : List X) (i j : ℕ) (x : X) → slice_get xs i ≡ Some x → j < length (f x)
      → slice_get (gather f xs) (length (gather f (take i xs)) + j) ≡ slice_get (f x) j
  gather-get xs i j x h l =
      ap (λ (ys : List Y). slice_get ys (length (gather f (take i xs)) + j)) (gather-split xs i x h)
      ∙ get-middle (gather f (take i xs)) (f x) (gather f (drop (suc i) xs)) j
      (length (gather f (take i xs)) + j) l refl

module _ {X Y : Type 0} (f : X → List Y) where
  pub gather-next : (xs : List X) (i : ℕ) (x : X) → slice_get xs i ≡ Some x
      → length (gather f (take (i + 1) xs)) ≡ length (gather f (take i xs)) + length (f x)
  gather-next xs i x h = rw add-one (gather-step f xs i x h)

  -- all of a list, one more
  pub gather-more : (xs : List X) (i : ℕ) (x : X) → slice_get xs i ≡ Some x
      → gather f (take (i + 1) xs) ≡ gather f (take i xs) ++ f x
  gather-more xs i x h = rw add-one (more xs i x h)
    where
      more : (xs : List X) (i : ℕ) (x : X) → slice_get xs i ≡ Some x → gather f (take (suc i) xs) ≡ gather f (take i xs)
          ++ f x
      more [] i x h = absurd (cc)
      more (z ∷ xs) zero x h = let same : z ≡ x = cc in append-nil (f z) ∙ ap (λ (w : X). f w) same
      more (z ∷ xs) (suc i) x h = ap (λ (ys : List Y). f z ++ ys) (more xs i x h)
          ∙ sym (append_assoc (f z) (gather f (take i xs)) (f x))

  -- the lists that pass a test are all that are not empty
  pub gather-full : (p : X → Bool) → ((x : X) → p x ≡ false → f x ≡ []) → (xs : List X)
      → gather f (filter p xs) ≡ gather f xs
  gather-full p none [] = refl
  gather-full p none (x ∷ xs) = elim (p x) as (λ b. p x ≡ b → gather f (cond b (x ∷ filter p xs) (filter p xs)) ≡ f x
      ++ gather f xs) [
        | true ↦ λ t. ap (λ (ys : List Y). f x ++ ys) (gather-full p none xs)
        | false ↦ λ t. gather-full p none xs ∙ sym (ap (λ (ys : List Y). ys ++ gather f xs) (none x t))
      ] refl

module _ {X Y : Type 0} (f : X → List Y) where
  pub gather-swap : (xs : List X) (i : ℕ) (x y : X) → slice_get xs i ≡ Some x → i < length xs
      → length (gather f (slice_set xs i y)) + length (f x) ≡ length (gather f xs) + length (f y)
  gather-swap xs i x y h l =
      let c = gather-change f xs i (length xs) x y l h in
      let a = ap (λ (ys : List Y). length ys)
      (gather-all f (slice_set xs i y) (length xs) (omega (arith, length-set xs i y))) in
      let b = ap (λ (ys : List Y). length ys) (gather-all f xs (length xs) (omega arith)) in
      omega (arith, a, b, c)
