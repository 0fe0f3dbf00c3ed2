-- What stands at a place of a list that got longer, or in which a place was set.
-- For: `slice_get` and `slice_set` of std, in golf_model_typing/proofs/Calls.antt and Calculating.antt.
-- By: induction over the list.
use Rattle.std.proofs.Common.{◌≡◌, ℕ, zero, suc, List, [], ◌∷◌, ◌++◌, Some, refl, slice_get, slice_set}

-- after the front of a list stands what stood there
pub slice_get-left : {X : Type 0} (xs ys : List X) (i : ℕ) (x : X) → slice_get xs i ≡ Some x
    → slice_get (xs ++ ys) i ≡ Some x
slice_get-left [] ys i x h = cc
slice_get-left (y ∷ xs) ys zero x h = h
slice_get-left (y ∷ xs) ys (suc i) x h = slice_get-left xs ys i x h

-- what is put there
pub slice_set-same : {X : Type 0} (xs : List X) (i : ℕ) (v w : X) → slice_get xs i ≡ Some w
    → slice_get (slice_set xs i v) i ≡ Some v
slice_set-same [] i v w h = cc
slice_set-same (x ∷ xs) zero v w h = refl
slice_set-same (x ∷ xs) (suc i) v w h = slice_set-same xs i v w h
