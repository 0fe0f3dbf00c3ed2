-- Lists of which some items have a flag, one place after another.
-- For: `kept`, `left_out`, specs/Flags.antt
-- By: induction over the list of items, with their flags
use Rattle.std.proofs.Common.{◌≡◌, ℕ, zero, suc, ◌+◌, ◌<◌, ◌≤◌, Bool, true, false, cond, not, ◌||◌, List, [], ◌∷◌, ◌++◌}
use Rattle.std.proofs.Common.{length, map, filter, take, get_or, Some, inl, inr, refl, ap, ◌∙◌, arith, slice_get}
use Rattle.std.proofs.lemmas.List.{take_all}
use Rattle.golf_theory.specs.Flags.{kept, left_out}
use Rattle.golf_theory.specs.Maps.{keys, only, Rises}
use Rattle.golf_theory.specs.Membership.{In, is_in}
use Rattle.golf_theory.proofs.MapCuts.{only-same}
use Rattle.golf_theory.proofs.MapEntries.{Entry-keys}
use Rattle.golf_theory.proofs.MapFinds.{Entry-above}
use Rattle.golf_theory.proofs.Tests.{is_in-out}
use Rattle.std.proofs.lemmas.Bool.{eq-eqb, ne_eqb}

-- ---- one place more

left_out-next : {X : Type 0} (flags : List Bool) (xs : List X) (i : ℕ) (x : X) (d : Bool) → i < length flags
    → slice_get xs i ≡ Some x → left_out (take (suc i) flags) (take (suc i) xs) ≡ left_out (take i flags) (take i xs)
    ++ cond (get_or flags i d) [] (x ∷ [])
left_out-next [] xs i x d l e = absurd (omega arith)
left_out-next (b ∷ bs) [] i x d l e = cc
left_out-next {X = X} (b ∷ bs) (y ∷ ys) zero x d l e = let same : y ≡ x = cc in ap (λ (z : X). cond b [] (z ∷ [])) same
left_out-next {X = X} (b ∷ bs) (y ∷ ys) (suc i) x d l e = let rest = left_out-next bs ys i x d (omega arith) e in
    elim b as (λ c. cond c (left_out (take (suc i) bs) (take (suc i) ys))
    (y ∷ left_out (take (suc i) bs) (take (suc i) ys)) ≡ cond c (left_out (take i bs) (take i ys))
    (y ∷ left_out (take i bs) (take i ys)) ++ cond (get_or bs i d) [] (x ∷ [])) [
      | true ↦ rest
      | false ↦ ap (λ (z : List X). y ∷ z) rest
    ]

pub left_out-at : {X : Type 0} (flags : List Bool) (xs : List X) (i : ℕ) (x : X) (d b : Bool) → i < length flags
    → slice_get xs i ≡ Some x → get_or flags i d ≡ b
    → left_out (take (i + 1) flags) (take (i + 1) xs) ≡ left_out (take i flags) (take i xs) ++ cond b [] (x ∷ [])
left_out-at flags xs i x d b l e is =
    let next : i + 1 ≡ suc i = omega arith in
    ap (λ k. left_out (take k flags) (take k xs)) next ∙ left_out-next flags xs i x d l e
    ∙ ap (λ c. left_out (take i flags) (take i xs) ++ cond c [] (x ∷ [])) is

-- ---- all places

pub left_out-all : {X : Type 0} (flags : List Bool) (xs : List X) (i : ℕ) (all : List X) → length flags ≤ i
    → length xs ≤ i → all ≡ left_out (take i flags) (take i xs) → all ≡ left_out flags xs
left_out-all {X = X} flags xs i all l m e = e ∙ ap (λ (z : List Bool). left_out z (take i xs)) (take_all i flags l)
    ∙ ap (λ (z : List X). left_out flags z) (take_all i xs m)

pub left_out-short : {X : Type 0} (flags : List Bool) (xs : List X) → length (left_out flags xs) ≤ length xs
left_out-short [] xs = omega arith
left_out-short (b ∷ bs) [] = omega arith
left_out-short (b ∷ bs) (x ∷ xs) = let rest = left_out-short bs xs in
    elim b as (λ c. length (cond c (left_out bs xs) (x ∷ left_out bs xs)) ≤ length (x ∷ xs)) [
      | true ↦ omega (arith, rest)
      | false ↦ omega (arith, rest)
    ]

pub In-left_out : {X : Type 0} (flags : List Bool) (xs : List X) (x : X) → In x (left_out flags xs) → In x xs
In-left_out [] xs x h = absurd h
In-left_out (b ∷ bs) [] x h = h
In-left_out {X = X} (b ∷ bs) (y ∷ ys) x h =
    elim b as (λ c. In x (cond c (left_out bs ys) (y ∷ left_out bs ys)) → In x (y ∷ ys)) [
      | true ↦ λ i. inr (In-left_out bs ys x i)
      | false ↦ λ i. elim i [ inl e ↦ inl e | inr j ↦ inr (In-left_out bs ys x j) ]
    ] h

-- ---- flags that a test gives

pub left_out-filter : {X Y : Type 0} (f : X → Bool) (h : X → Y) (xs : List X)
    → left_out (map f xs) (map h xs) ≡ map h (filter (λ x. not (f x)) xs)
left_out-filter f h [] = refl
left_out-filter {Y = Y} f h (x ∷ xs) = let rest = left_out-filter f h xs in
    elim (f x) as (λ b. cond b (left_out (map f xs) (map h xs)) (h x ∷ left_out (map f xs) (map h xs)) ≡ map h
    (cond (not b) (x ∷ filter (λ y. not (f y)) xs) (filter (λ y. not (f y)) xs))) [
      | true ↦ rest
      | false ↦ ap (λ (z : List Y). h x ∷ z) rest
    ]

-- the entries that pass, and those that do not
pub kept-only : {X : Type 0} (p : ℕ → Bool) (es : List (ℕ × X)) → kept (map (λ e. p e.0) es) es ≡ only p es
kept-only p [] = refl
kept-only {X = X} p (e ∷ es) = let rest = kept-only p es in
    elim (p e.0) as (λ b. cond b (e ∷ kept (map (λ (d : ℕ × X). p d.0) es) es) (kept (map (λ (d : ℕ × X). p d.0) es) es)
    ≡ cond b (e ∷ only p es) (only p es)) [
      | true ↦ ap (λ (z : List (ℕ × X)). e ∷ z) rest
      | false ↦ rest
    ]

pub left_out-only : {X : Type 0} (p : ℕ → Bool) (es : List (ℕ × X))
    → left_out (map (λ e. p e.0) es) es ≡ only (λ k. not (p k)) es
left_out-only p [] = refl
left_out-only {X = X} p (e ∷ es) = let rest = left_out-only p es in
    elim (p e.0) as (λ b. cond b (left_out (map (λ (d : ℕ × X). p d.0) es) es)
    (e ∷ left_out (map (λ (d : ℕ × X). p d.0) es) es) ≡ cond (not b) (e ∷ only (λ k. not (p k)) es)
    (only (λ k. not (p k)) es)) [
      | true ↦ rest
      | false ↦ ap (λ (z : List (ℕ × X)). e ∷ z) rest
    ]

-- ---- by the keys that are left out

module _ {X : Type 0} where
  left-above : (j k : ℕ) (flags : List Bool) (es : List (ℕ × X)) → Rises j es → k < j
      → is_in k (left_out flags (keys es)) ≡ false
  left-above j k flags es r l = is_in-out k (left_out flags (keys es)) (λ h.
      let e = Entry-keys es k (In-left_out flags (keys es) k h) in
      let a = Entry-above j es k e.0 r e.1 in
      omega (arith, a, l))

  -- whatever else is left out below
  without-first : (n : ℕ) (ks : List ℕ) (es : List (ℕ × X)) → Rises (suc n) es
      → only (λ h. not (is_in h (n ∷ ks))) es ≡ only (λ h. not (is_in h ks)) es
  without-first n ks es r = only-same (λ h. not (is_in h (n ∷ ks))) (λ h. not (is_in h ks)) es (λ k x i.
      let a = Entry-above (suc n) es k x r i in
      ap (λ b. not (b || is_in k ks)) (ne_eqb k n (λ e. omega (arith, e, a))))

  pub only-left : (j : ℕ) (flags : List Bool) (es : List (ℕ × X)) → Rises j es → length flags ≡ length es
      → only (λ h. not (is_in h (left_out flags (keys es)))) es ≡ kept flags es
  only-left j [] [] r l = refl
  only-left j [] (e ∷ es) r l = absurd (omega (arith, l))
  only-left j (b ∷ bs) [] r l = refl
  only-left j (true ∷ bs) (e ∷ es) r l =
      ap (λ t. cond (not t) (e ∷ only (λ h. not (is_in h (left_out bs (keys es)))) es)
      (only (λ h. not (is_in h (left_out bs (keys es)))) es)) (left-above (suc e.0) e.0 bs es r.1 (omega arith))
      ∙ ap (λ (z : List (ℕ × X)). e ∷ z) (only-left (suc e.0) bs es r.1 (omega (arith, l)))
  only-left j (false ∷ bs) (e ∷ es) r l =
      ap (λ t. cond (not (t || is_in e.0 (left_out bs (keys es))))
      (e ∷ only (λ h. not (is_in h (e.0 ∷ left_out bs (keys es)))) es)
      (only (λ h. not (is_in h (e.0 ∷ left_out bs (keys es)))) es)) (eq-eqb e.0 e.0 refl)
      ∙ without-first e.0 (left_out bs (keys es)) es r.1
      ∙ only-left (suc e.0) bs es r.1 (omega (arith, l))
