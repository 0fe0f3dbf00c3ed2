-- What is left, by the deques that it lay in.
-- For: `left_in`, specs/Hands.antt
-- By: induction over what is left
use Rattle.std.proofs.Common.{◌≡◌, ℕ, zero, suc, ◌+◌, List, [], ◌∷◌, ◌++◌, length, refl, ap, arith}
use Rattle.std.specs.Prelude.{sum_by, replicate}
use Rattle.std.proofs.lemmas.List.Sums.{sum_by-cons}
use Rattle.golf_grey.specs.Hands.{left_in}

pub length_same : (s n : ℕ) → length (replicate n s) ≡ n
length_same s zero = refl
length_same s (suc n) = ap suc (length_same s n)

pub left_append : (g : ℕ → ℕ → ℕ) (ss xs ts ys : List ℕ) → length ss ≡ length xs
    → left_in g (ss ++ ts) (xs ++ ys) ≡ left_in g ss xs + left_in g ts ys
left_append g [] [] ts ys e = omega arith
left_append g [] (x ∷ xs) ts ys e = absurd (omega arith)
left_append g (s ∷ ss) [] ts ys e = absurd (omega arith)
left_append g (s ∷ ss) (x ∷ xs) ts ys e = omega (arith, left_append g ss xs ts ys (omega arith))

-- all from one deque
pub left_from : (g : ℕ → ℕ → ℕ) (s : ℕ) (xs : List ℕ) → left_in g (replicate (length xs) s) xs ≡ sum_by (g s) xs
left_from g s [] = refl
left_from g s (x ∷ xs) = omega (arith, sum_by-cons (g s) x xs, left_from g s xs)

-- one weight for all deques
pub left_all : (f : ℕ → ℕ) (ss xs : List ℕ) → length ss ≡ length xs → left_in (λ _. f) ss xs ≡ sum_by f xs
left_all f [] [] e = refl
left_all f [] (x ∷ xs) e = absurd (omega arith)
left_all f (s ∷ ss) [] e = absurd (omega arith)
left_all f (s ∷ ss) (x ∷ xs) e = omega (arith, sum_by-cons f x xs, left_all f ss xs (omega arith))
