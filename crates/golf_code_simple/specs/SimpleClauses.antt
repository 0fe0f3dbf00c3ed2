-- The clause of the calls that write statements without functions. Without memory it says nothing.
use Rattle.std.specs.Prelude.{◌≡◌, Result, Ok, Err}
use Rattle.golf_base.specs.declared.Memory.{Memory}
use Rattle.golf_code_facts.specs.Statements.{PieceBy}
use Rattle.golf_code_expressions.specs.declared.writer.Writer.{Writer}
use Rattle.golf_code_expressions.specs.WriterClauses.{with_piece}

-- the code of a statement was added, and the facts after it are left
abbrev pub WritesSimple : {A : Type 0} → Result A Memory → PieceBy → Writer → Writer → Type 0
WritesSimple (Ok a) x old new = new ≡ record { facts = x.left; draft = with_piece old.draft x.piece }
WritesSimple (Err e) x old new = Unit {0}
