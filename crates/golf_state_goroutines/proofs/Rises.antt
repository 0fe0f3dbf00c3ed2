-- Goroutines in rising order of number.
-- For: `RisesFrom` (golf_state_goroutines/specs/RisingLists.antt) and `leading`, `put_in`, `leave_out`
-- (src/rising_lists.rt)
-- By: induction over the list of goroutines or of their numbers
use Rattle.std.proofs.Common.{◌≡◌, ℕ, zero, suc, ◌+◌, ◌<◌, ◌≤◌, Bool, true, false, cond, not, List, [], ◌∷◌, length}
use Rattle.std.proofs.Common.{get_or, Some, nat_lt, refl, sym, ap, ◌∙◌, arith, slice_get}
use Rattle.std.specs.Prelude.{insert, remove}
use Rattle.std.specs.List.Sorted.{IsNonDecreasingBy}
use Rattle.std.proofs.lemmas.Bool.{eq-eqb, ne_eqb, lt-ltb, le-ltb, ltb-true, ltb-false}
use Rattle.std.specs.Prelude.{option_map}
use Rattle.std.proofs.lemmas.Option.{slice_get_read, slice_get-map, slice_get-get_or, get_or_from_slice_get}
use Rattle.golf_base.specs.declared.ids.GoroutineId.{GoroutineId}
use Rattle.golf_theory.specs.Maps.{keys_where, Rises}
use Rattle.golf_theory.specs.Stored.{placed, without}
use Rattle.golf_state_goroutines.specs.RunBlocks.{numbers}
use Rattle.golf_state_goroutines.specs.RisingLists.{RisesFrom, leading}

-- ---- keys rise

RisesFrom-less : (j k : ℕ) (ns : List ℕ) → j ≤ k → RisesFrom k ns → RisesFrom j ns
RisesFrom-less j k [] l r = tt
RisesFrom-less j k (x ∷ ns) l r = (omega (arith, r.0), r.1)

pub Rises-keys_where : {X : Type 0} (p : ℕ → X → Bool) (k : ℕ) (es : List (ℕ × X)) → Rises k es
    → RisesFrom k (keys_where p es)
Rises-keys_where p k [] r = tt
Rises-keys_where p k (e ∷ es) r = elim (p e.0 e.1) as (λ b. RisesFrom k
    (cond b (e.0 ∷ keys_where p es) (keys_where p es))) [
      | true ↦ (r.0, Rises-keys_where p (suc e.0) es r.1)
      | false ↦ RisesFrom-less k (suc e.0) (keys_where p es) (omega (arith, r.0)) (Rises-keys_where p (suc e.0) es r.1)
    ]

-- ---- the search

above : (k : ℕ) (xs : List GoroutineId) (i : ℕ) (d : GoroutineId) → RisesFrom k (numbers xs) → i < length xs
    → k ≤ (get_or xs i d).0
above k [] i d r l = absurd (omega arith)
above k (x ∷ xs) zero d r l = r.0
above k (x ∷ xs) (suc i) d r l = let a = above (suc x.0) xs i d r.1 (omega arith) in omega (arith, r.0)

rising : (k : ℕ) (xs : List GoroutineId) (m n : ℕ) (d : GoroutineId) → RisesFrom k (numbers xs) → m ≤ n → n < length xs
    → (get_or xs m d).0 ≤ (get_or xs n d).0
rising k [] m n d r l h = absurd (omega arith)
rising k (x ∷ xs) zero zero d r l h = omega arith
rising k (x ∷ xs) zero (suc n) d r l h = let a = above (suc x.0) xs n d r.1 (omega arith) in omega arith
rising k (x ∷ xs) (suc m) zero d r l h = absurd (omega arith)
rising k (x ∷ xs) (suc m) (suc n) d r l h = rising (suc x.0) xs m n d r.1 (omega arith) (omega arith)

pub sorted : (k : ℕ) (xs : List GoroutineId) → RisesFrom k (numbers xs)
    → IsNonDecreasingBy (λ (g : GoroutineId). g.0) xs
sorted k xs r = λ m n d l h. rising k xs m n d r l h

pub leading-is : (bound i : ℕ) (xs : List GoroutineId) → i ≤ length xs
    → ((m : ℕ) (d : GoroutineId) → m < i → (get_or xs m d).0 < bound)
    → ((d : GoroutineId) → i < length xs → bound ≤ (get_or xs i d).0) → i ≡ leading bound (numbers xs)
leading-is bound zero [] l a b = refl
leading-is bound (suc i) [] l a b = absurd (omega arith)
leading-is bound zero (x ∷ xs) l a b = sym
    (ap (λ t. cond t (suc (leading bound (numbers xs))) 0) (le-ltb x.0 bound (b x (omega arith))))
leading-is bound (suc i) (x ∷ xs) l a b =
    ap suc (leading-is bound i xs (omega arith) (λ m d h. a (suc m) d (omega arith)) (λ d h. b d (omega arith)))
    ∙ sym (ap (λ t. cond t (suc (leading bound (numbers xs))) 0) (lt-ltb x.0 bound (a 0 x (omega arith))))

-- the numbers just before and just after a place decide whether it is the one
pub leading-at : (bound i : ℕ) (xs : List GoroutineId) (e : GoroutineId) → RisesFrom 0 (numbers xs) → i ≤ length xs
    → ((n : ℕ) → n + 1 ≡ i → (get_or xs n e).0 < bound)
    → (i < length xs → bound ≤ (get_or xs i e).0) → i ≡ leading bound (numbers xs)
leading-at bound i xs e r l a b = leading-is bound i xs l (below i l a) (λ d h. omega (arith, b h, same i d h))
  where
    same : (n : ℕ) (d : GoroutineId) → n < length xs → (get_or xs n d).0 ≡ (get_or xs n e).0
    same n d h = ap (λ (g : GoroutineId). g.0)
        (get_or_from_slice_get xs n (get_or xs n e) d (slice_get-get_or xs n e h))

    below : (j : ℕ) → j ≤ length xs → ((n : ℕ) → n + 1 ≡ j → (get_or xs n e).0 < bound)
        → (m : ℕ) (d : GoroutineId) → m < j → (get_or xs m d).0 < bound
    below zero l a m d h = absurd (omega (arith, h))
    below (suc n) l a m d h =
        let s = rising 0 xs m n d r (omega (arith, h)) (omega (arith, l)) in
        omega (arith, s, same n d (omega (arith, l)), a n (omega arith))

pub at-number : (xs : List GoroutineId) (i : ℕ) (x : GoroutineId) → i < length xs → x ≡ get_or xs i x
    → slice_get (numbers xs) i ≡ Some x.0
at-number xs i x l h = slice_get-map (λ (g : GoroutineId). g.0) xs i
    ∙ ap (option_map (λ (g : GoroutineId). g.0)) (slice_get_read xs (length xs) i x refl l h)

-- ---- taken out, and put in

pub without-above : (k g : ℕ) (ns : List ℕ) → g < k → RisesFrom k ns → without g ns ≡ ns
without-above k g [] l r = refl
without-above k g (x ∷ ns) l r =
    ap (λ b. cond (not b) (x ∷ without g ns) (without g ns)) (ne_eqb x g (λ e. omega (arith, e, l, r.0)))
    ∙ ap (λ (zs : List ℕ). x ∷ zs) (without-above (suc x) g ns (omega (arith, l, r.0)) r.1)

pub without-there : (k g : ℕ) (ns : List ℕ) → RisesFrom k ns → slice_get ns (leading g ns) ≡ Some g
    → without g ns ≡ remove ns (leading g ns)
without-there k g [] r h = absurd (cc)
without-there k g (x ∷ ns) r h = elim (nat_lt x g) as (λ t. nat_lt x g ≡ t
    → slice_get (x ∷ ns) (cond t (suc (leading g ns)) 0) ≡ Some g
    → without g (x ∷ ns) ≡ remove (x ∷ ns) (cond t (suc (leading g ns)) 0)) [
      | true ↦ λ t i.
          let l = ltb-true x g t in
          ap (λ b. cond (not b) (x ∷ without g ns) (without g ns)) (ne_eqb x g (λ e. omega (arith, e, l)))
          ∙ ap (λ (zs : List ℕ). x ∷ zs) (without-there (suc x) g ns r.1 i)
      | false ↦ λ t i.
          let same : x ≡ g = cc in
          ap (λ b. cond (not b) (x ∷ without g ns) (without g ns)) (eq-eqb x g same)
          ∙ without-above (suc x) g ns (omega (arith, same)) r.1
    ] refl h

pub without-absent : (k g : ℕ) (ns : List ℕ) → RisesFrom k ns → (slice_get ns (leading g ns) ≡ Some g → ⊥)
    → without g ns ≡ ns
without-absent k g [] r h = refl
without-absent k g (x ∷ ns) r h = elim (nat_lt x g) as (λ t. nat_lt x g ≡ t
    → (slice_get (x ∷ ns) (cond t (suc (leading g ns)) 0) ≡ Some g → ⊥) → without g (x ∷ ns) ≡ x ∷ ns) [
      | true ↦ λ t i.
          let l = ltb-true x g t in
          ap (λ b. cond (not b) (x ∷ without g ns) (without g ns)) (ne_eqb x g (λ e. omega (arith, e, l)))
          ∙ ap (λ (zs : List ℕ). x ∷ zs) (without-absent (suc x) g ns r.1 i)
      | false ↦ λ t i.
          let l = ltb-false x g t in
          ap (λ b. cond (not b) (x ∷ without g ns) (without g ns)) (ne_eqb x g (λ e. i (ap Some e)))
          ∙ ap (λ (zs : List ℕ). x ∷ zs) (without-above (suc x) g ns (greater x g l (λ e. i (ap Some e))) r.1)
    ] refl h
  where
    greater : (x g : ℕ) → g ≤ x → (x ≡ g → ⊥) → g < suc x
    greater x g l d = omega (arith, l)

pub placed-leading : (g : ℕ) (ns : List ℕ) → placed g ns ≡ insert ns (leading (g + 1) ns) g
placed-leading g [] = refl
placed-leading g (x ∷ ns) = elim (nat_lt x (g + 1)) as (λ t. nat_lt x (g + 1) ≡ t
    → placed g (x ∷ ns) ≡ insert (x ∷ ns) (cond t (suc (leading (g + 1) ns)) 0) g) [
      | true ↦ λ t.
          let l = ltb-true x (g + 1) t in
          ap (λ b. cond b (g ∷ x ∷ ns) (x ∷ placed g ns)) (le-ltb g x (omega (arith, l)))
          ∙ ap (λ (zs : List ℕ). x ∷ zs) (placed-leading g ns)
      | false ↦ λ t.
          let l = ltb-false x (g + 1) t in
          ap (λ b. cond b (g ∷ x ∷ ns) (x ∷ placed g ns)) (lt-ltb g x (omega (arith, l)))
    ] refl
