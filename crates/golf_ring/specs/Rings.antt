-- A queue in memory.
use Rattle.std.specs.Prelude.{List, [], Option, Some, None}

-- what lies in a box, or nothing if there is no box
abbrev pub items_in : {D X : Type 0} → (D → List X) → Option D → List X
items_in items None = []
items_in items (Some ring) = items ring
