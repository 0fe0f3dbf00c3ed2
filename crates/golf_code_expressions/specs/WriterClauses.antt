-- The clauses of the calls that write code. Without memory they say nothing.
use Rattle.std.specs.Prelude.{◌≡◌, List, Result, Ok, Err}
use Rattle.golf_base.specs.declared.Memory.{Memory}
use Rattle.golf_check_types.specs.declared.facts.Fact.{Fact}
use Rattle.golf_code_layout.specs.Piece.{Piece}
use Rattle.golf_code_layout.specs.Emission.{onto}
use Rattle.golf_code_expressions.specs.declared.writer.Draft.{Draft}
use Rattle.golf_code_expressions.specs.declared.writer.Writer.{Writer}

-- the draft with a piece added
abbrev pub with_piece : Draft → Piece → Draft
with_piece d p = record d { emitted = onto d.emitted p }

-- a piece was added
abbrev pub Extends : {A : Type 0} → Result A Memory → Piece → Writer → Writer → Type 0
Extends (Ok a) p old new = new.draft ≡ with_piece old.draft p
Extends (Err e) p old new = Unit {0}

-- a piece was added, and these facts are left
abbrev pub Writes : {A : Type 0} → Result A Memory → Piece → List Fact → Writer → Writer → Type 0
Writes (Ok a) p left old new = new ≡ record { facts = left; draft = with_piece old.draft p }
Writes (Err e) p left old new = Unit {0}
