-- Lists of which only the flagged items stay.
-- For: `retain_goroutines`, `queue_finalisers` (src/state.rt)
-- By: induction over the list of flags, with the list of items
use Rattle.std.proofs.Common.{◌≡◌, ℕ, Bool, true, false, cond, List, [], ◌∷◌, map, refl, ap}
use Rattle.golf_theory.specs.Flags.{kept}
use Rattle.golf_state_goroutines.specs.Ready.{AllReady}
use Rattle.golf_data.specs.declared.goroutine.Goroutine.{Goroutine}

-- ---- what is kept

pub map-kept : {X Y : Type 0} (f : X → Y) (flags : List Bool) (xs : List X)
    → map f (kept flags xs) ≡ kept flags (map f xs)
map-kept f [] xs = refl
map-kept f (b ∷ bs) [] = refl
map-kept {X} {Y} f (b ∷ bs) (x ∷ xs) = let rest = map-kept f bs xs in
    elim b as (λ c. map f (cond c (x ∷ kept bs xs) (kept bs xs)) ≡ cond c (f x ∷ kept bs (map f xs))
    (kept bs (map f xs))) [
      | true ↦ ap (λ (ys : List Y). f x ∷ ys) rest
      | false ↦ rest
    ]

pub ready-kept : (flags : List Bool) (ps : List (ℕ × Goroutine)) → AllReady ps → AllReady (kept flags ps)
ready-kept [] ps a = tt
ready-kept (b ∷ bs) [] a = tt
ready-kept (b ∷ bs) (p ∷ ps) a = let rest = ready-kept bs ps a.1 in
    elim b as (λ c. AllReady (cond c (p ∷ kept bs ps) (kept bs ps))) [
      | true ↦ (a.0, rest)
      | false ↦ rest
    ]
