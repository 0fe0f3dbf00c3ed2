-- What concerns one number in a list of three parts, of which the first has smaller numbers and the last greater ones.
-- For: `running_in` (golf_state_goroutines/specs/RunBlocks.antt)
-- By: induction over the first part, and over the second
use Rattle.std.proofs.Common.{◌≡◌, ℕ, suc, ◌≤◌, Bool, true, false, cond, not, List, [], ◌∷◌, ◌++◌}
use Rattle.std.proofs.Common.{length, filter, ◌==◌, nat_lt, refl, ap, ◌∙◌, arith}
use Rattle.std.proofs.lemmas.Bool.{ne_eqb, lt-ltb, le-ltb}
use Rattle.golf_theory.specs.Stored.{placed, without}
use Rattle.golf_state_goroutines.specs.RisingLists.{RisesFrom}
use Rattle.golf_state_goroutines.specs.Goroutines.{AllUnder, IsNone}
use Rattle.golf_state_goroutines.proofs.Rises.{without-above}

filter-append : {X : Type 0} (p : X → Bool) (xs ys : List X) → filter p (xs ++ ys) ≡ filter p xs ++ filter p ys
filter-append p [] ys = refl
filter-append {X} p (x ∷ xs) ys = elim (p x) as (λ b. cond b (x ∷ filter p (xs ++ ys)) (filter p (xs ++ ys)) ≡ cond b
    (x ∷ filter p xs) (filter p xs) ++ filter p ys) [
      | true ↦ ap (λ (zs : List X). x ∷ zs) (filter-append p xs ys)
      | false ↦ filter-append p xs ys
    ]

pub filter-length : {X : Type 0} (p : X → Bool) (xs : List X) → length (filter p xs) ≤ length xs
filter-length p [] = omega arith
filter-length p (x ∷ xs) = let h = filter-length p
    xs in elim (p x) as (λ b. length (cond b (x ∷ filter p xs) (filter p xs)) ≤ suc (length xs)) [
      | true ↦ omega (arith, h)
      | false ↦ omega (arith, h)
    ]

pub without-under : (g : ℕ) (xs : List ℕ) → AllUnder g xs → without g xs ≡ xs
without-under g [] u = refl
without-under g (x ∷ xs) u =
    ap (λ b. cond (not b) (x ∷ without g xs) (without g xs)) (ne_eqb x g (λ e. omega (arith, u.0, e)))
    ∙ ap (λ (zs : List ℕ). x ∷ zs) (without-under g xs u.1)

pub without-middle : (g : ℕ) (us ms bs : List ℕ) → AllUnder g us → RisesFrom (suc g) bs
    → without g (us ++ (ms ++ bs)) ≡ us ++ (without g ms ++ bs)
without-middle g us ms bs u r =
    filter-append (λ x. not (x == g)) us (ms ++ bs)
    ∙ ap (λ (zs : List ℕ). zs ++ without g (ms ++ bs)) (without-under g us u)
    ∙ ap (λ (zs : List ℕ). us ++ zs) (filter-append (λ x. not (x == g)) ms bs
    ∙ ap (λ (zs : List ℕ). without g ms ++ zs) (without-above (suc g) g bs (omega arith) r))

placed-left : (g : ℕ) (ms bs : List ℕ) → RisesFrom (suc g) bs → placed g (ms ++ bs) ≡ placed g ms ++ bs
placed-left g [] [] r = refl
placed-left g [] (b ∷ bs) r = ap (λ t. cond t (g ∷ b ∷ bs) (b ∷ placed g bs)) (lt-ltb g b (omega (arith, r.0)))
placed-left g (x ∷ ms) bs r = elim (nat_lt g x) as (λ t. cond t (g ∷ x ∷ (ms ++ bs)) (x ∷ placed g (ms ++ bs)) ≡ cond t
    (g ∷ x ∷ ms) (x ∷ placed g ms) ++ bs) [
      | true ↦ refl
      | false ↦ ap (λ (zs : List ℕ). x ∷ zs) (placed-left g ms bs r)
    ]

pub placed-middle : (g : ℕ) (us ms bs : List ℕ) → AllUnder g us → RisesFrom (suc g) bs
    → placed g (us ++ (ms ++ bs)) ≡ us ++ (placed g ms ++ bs)
placed-middle g [] ms bs u r = placed-left g ms bs r
placed-middle g (a ∷ us) ms bs u r =
    ap (λ t. cond t (g ∷ a ∷ (us ++ (ms ++ bs))) (a ∷ placed g (us ++ (ms ++ bs)))) (le-ltb g a (omega (arith, u.0)))
    ∙ ap (λ (zs : List ℕ). a ∷ zs) (placed-middle g us ms bs u.1 r)

-- a number above all others comes last
pub placed-last : (g : ℕ) (ns : List ℕ) → AllUnder g ns → placed g ns ≡ ns ++ g ∷ []
placed-last g [] u = refl
placed-last g (x ∷ ns) u =
    ap (λ t. cond t (g ∷ x ∷ ns) (x ∷ placed g ns)) (le-ltb g x (omega (arith, u.0)))
    ∙ ap (λ (zs : List ℕ). x ∷ zs) (placed-last g ns u.1)

pub under-none : (g : ℕ) (ns : List ℕ) → AllUnder g ns → IsNone g ns
under-none g [] u = tt
under-none g (x ∷ ns) u = (λ e. omega (arith, u.0, e), under-none g ns u.1)
