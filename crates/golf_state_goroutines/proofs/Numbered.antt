-- The list of goroutines as a list of numbers.
-- For: `numbers` (golf_state_goroutines/specs/RunBlocks.antt) and `put_in`, `leave_out` (src/rising_lists.rt)
-- By: induction over the list of goroutines, and over how many of them are taken or dropped
use Rattle.std.proofs.Common.{◌≡◌, ℕ, zero, suc, List, [], ◌∷◌, ◌++◌, take, drop, refl, ap, ◌∙◌}
use Rattle.std.specs.Prelude.{insert, remove}
use Rattle.std.proofs.lemmas.List.{map-append}
use Rattle.golf_base.specs.declared.ids.GoroutineId.{GoroutineId}
use Rattle.golf_state_goroutines.specs.RunBlocks.{numbers}

numbers-take : (n : ℕ) (xs : List GoroutineId) → numbers (take n xs) ≡ take n (numbers xs)
numbers-take zero xs = refl
numbers-take (suc n) [] = refl
numbers-take (suc n) (x ∷ xs) = ap (λ (ys : List ℕ). x.0 ∷ ys) (numbers-take n xs)

numbers-drop : (n : ℕ) (xs : List GoroutineId) → numbers (drop n xs) ≡ drop n (numbers xs)
numbers-drop zero xs = refl
numbers-drop (suc n) [] = refl
numbers-drop (suc n) (x ∷ xs) = numbers-drop n xs

pub numbers-insert : (xs : List GoroutineId) (i : ℕ) (g : GoroutineId)
    → numbers (insert xs i g) ≡ insert (numbers xs) i g.0
numbers-insert xs i g =
    map-append (λ (h : GoroutineId). h.0) (take i xs) (g ∷ drop i xs)
    ∙ ap (λ (ys : List ℕ). ys ++ g.0 ∷ numbers (drop i xs)) (numbers-take i xs)
    ∙ ap (λ (ys : List ℕ). take i (numbers xs) ++ g.0 ∷ ys) (numbers-drop i xs)

pub numbers-remove : (xs : List GoroutineId) (i : ℕ) → numbers (remove xs i) ≡ remove (numbers xs) i
numbers-remove xs i =
    map-append (λ (h : GoroutineId). h.0) (take i xs) (drop (suc i) xs)
    ∙ ap (λ (ys : List ℕ). ys ++ numbers (drop (suc i) xs)) (numbers-take i xs)
    ∙ ap (λ (ys : List ℕ). take i (numbers xs) ++ ys) (numbers-drop (suc i) xs)
