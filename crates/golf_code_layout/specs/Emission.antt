-- Structured code as a flat list of parts; one part begins a block and one ends it.
use Rattle.std.specs.Prelude.{◌≡◌, Result, Ok, Err, List, [], ◌∷◌, ◌++◌}
use Rattle.golf_base.specs.declared.Memory.{Memory}
use Rattle.golf_code_layout.specs.Piece.{Piece}
use Rattle.golf_code_layout.specs.declared.emitted.Emitted.{Emitted}
use Rattle.golf_code_layout.specs.declared.emitted.Emitted.TheVariants as emit

-- these parts, and then those of a piece
abbrev pub onto : List Emitted → Piece → List Emitted
onto ms Piece.Empty = ms
onto ms (Piece.Op i line) = ms ++ emit.Op i line ∷ []
onto ms (Piece.Then p q) = onto (onto ms p) q
onto ms (Piece.Exit line k) = ms ++ emit.Exit line k ∷ []
onto ms (Piece.Unless line k) = ms ++ emit.Unless line k ∷ []
onto ms (Piece.Choose line cases otherwise) = ms ++ emit.Choose line cases otherwise ∷ []
onto ms (Piece.Block p) = onto (ms ++ emit.Block ∷ []) p ++ emit.End ∷ []
onto ms (Piece.Again p) = onto (ms ++ emit.Again ∷ []) p ++ emit.End ∷ []

-- the parts of a piece
abbrev pub flat : Piece → List Emitted
flat p = onto [] p

-- The clause of the generator's calls: the parts grow by a piece. Without memory it says nothing.

abbrev pub Adds : {A : Type 0} → Result A Memory → Piece → List Emitted → List Emitted → Type 0
Adds (Ok a) p old new = new ≡ onto old p
Adds (Err fault) p old new = Unit {0}

-- the parts grow by one part
abbrev pub GrowsByPart : {A : Type 0} → Result A Memory → Emitted → List Emitted → List Emitted → Type 0
GrowsByPart (Ok a) m old new = new ≡ old ++ m ∷ []
GrowsByPart (Err fault) m old new = Unit {0}
