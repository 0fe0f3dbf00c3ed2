-- A part that is taken out of a list, where another one stays.
-- For: `lines_of`, src/bodies.rt
-- By: induction over the list
use Rattle.std.proofs.Common.{◌≡◌, ℕ, zero, suc, ◌+◌, Option, Some, None, List, [], ◌∷◌, drop, length, refl, ap, subst, arith}
use Rattle.std.proofs.Common.{slice_get, slice_set}

same : {X : Type 0} (x m : X) → ◌≡◌ {A = Option X} (Some x) (Some m) → x ≡ m
same x m e = cc

behind : {X : Type 0} (ms : List X) (n : ℕ) (m e : X) → slice_get ms n ≡ Some m
    → drop n ms ≡ m ∷ drop (suc n) (slice_set ms n e)
behind [] n m e is = absurd (cc)
behind (x ∷ xs) zero m e is = ap (λ y. y ∷ xs) (same x m is)
behind (x ∷ xs) (suc n) m e is = behind xs n m e is

-- the items from its place on are the part and those behind it
pub taken : {X : Type 0} (ms : List X) (n : ℕ) (m e : X) → slice_get ms n ≡ Some m
    → drop n ms ≡ m ∷ drop (n + 1) (slice_set ms n e)
taken ms n m e is =
    let one : suc n ≡ n + 1 = omega arith in
    subst (λ (k : ℕ). drop n ms ≡ m ∷ drop k (slice_set ms n e)) one (behind ms n m e is)

pub long : {X : Type 0} (ms : List X) (n : ℕ) (e : X) → length (slice_set ms n e) ≡ length ms
long [] n e = refl
long (x ∷ xs) zero e = refl
long (x ∷ xs) (suc n) e = ap suc (long xs n e)
