-- Lists of which some items have a flag: a list of Bools beside the items, in their order.
use Rattle.std.specs.Prelude.{Bool, cond, List, [], ◌∷◌}

-- the entries whose flag is true; entries behind the last flag are left out
abbrev pub kept : {X : Type 0} → List Bool → List X → List X
kept [] xs = []
kept (b ∷ bs) [] = []
kept (b ∷ bs) (x ∷ xs) = cond b (x ∷ kept bs xs) (kept bs xs)

-- the entries whose flag is false; entries behind the last flag are left out
abbrev pub left_out : {X : Type 0} → List Bool → List X → List X
left_out [] xs = []
left_out (b ∷ bs) [] = []
left_out (b ∷ bs) (x ∷ xs) = cond b (left_out bs xs) (x ∷ left_out bs xs)
