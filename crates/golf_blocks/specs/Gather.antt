-- Lists that stand one after another.
use Rattle.std.specs.Prelude.{Bool, true, false, List, [], ◌∷◌, ◌++◌}

-- the lists of all these, one after another
abbrev pub gather : {X Y : Type 0} → (X → List Y) → List X → List Y
gather f [] = []
gather f (x ∷ xs) = f x ++ gather f xs

-- whether there is an item
abbrev pub not_empty : {X : Type 0} → List X → Bool
not_empty [] = false
not_empty (x ∷ xs) = true
