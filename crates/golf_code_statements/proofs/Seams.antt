-- Code for which no function is made, and one statement after another.
-- For: `Lays` and `after`, golf_code_statements/specs/Lays.antt.
-- By: computing; no induction.
use Rattle.std.proofs.Common.{◌≡◌, ℕ, ◌+◌, List, [], ◌++◌, length, ap, sym, ◌∙◌, append_assoc, append-nil}
use Rattle.std.proofs.Common.{length-append, arith}
use Rattle.std.specs.Prelude.{Result, Ok, Err}
use Rattle.golf_base.specs.declared.Memory.{Memory}
use Rattle.golf_check_types.specs.declared.facts.Fact.{Fact}
use Rattle.golf_code_layout.specs.Piece.{Piece}
use Rattle.golf_code_of.specs.declared.surroundings.Making.{Making}
use Rattle.golf_code_of.specs.Statements.{laid}
use Rattle.golf_code_layout.specs.declared.emitted.Emitted.{Emitted}
use Rattle.golf_code_layout.specs.Emission.{onto}
use Rattle.golf_code_facts.specs.Statements.{LaidBy, by}
use Rattle.golf_code_expressions.specs.declared.writer.Draft.{Draft}
use Rattle.golf_code_expressions.specs.declared.writer.Writer.{Writer}
use Rattle.golf_code_expressions.specs.WriterClauses.{with_piece, Writes}
use Rattle.golf_code_statements.specs.Lays.{after, Lays}

-- with these parts, these functions that are made, and so many before the next one
abbrev pub drafted : Draft → List Emitted → List Making → ℕ → Draft
drafted d ms made n = record d { emitted = ms; made = made; functions = n }

abbrev pub written : List Fact → Draft → Writer
written fs d = record { facts = fs; draft = d }

pub nothing_made : (d : Draft) (ms : List Emitted)
    → record d { emitted = ms } ≡ drafted d ms (d.made ++ []) (d.functions + 0)
nothing_made d ms =
    ap (λ made. drafted d ms made d.functions) (sym (append-nil d.made))
    ∙ ap (drafted d ms (d.made ++ [])) (let e : d.functions ≡ d.functions + 0 = omega arith in e)

-- code for which no function is made
pub quiet : (w : Writer) (p : Piece) (left : List Fact)
    → written left (with_piece w.draft p) ≡ after w (by (laid p) left)
quiet w p left = ap (written left) (nothing_made w.draft (onto w.draft.emitted p))

-- the same after any answer
pub as_lays : {A : Type 0} (r : Result A Memory) (x : LaidBy) (p : Piece) (left : List Fact) (old new : Writer)
    → written left (with_piece old.draft p) ≡ after old x → Writes r p left old new → Lays r x old new
as_lays (Ok a) x p left old new e h = h ∙ e
as_lays (Err k) x p left old new e h = tt

-- what one statement makes, and then another
pub made_twice : (d : Draft) (ms : List Emitted) (xs ys : List Making)
    → drafted d ms ((d.made ++ xs) ++ ys) (d.functions + length xs + length ys) ≡ drafted d ms (d.made ++ (xs ++ ys))
    (d.functions + length (xs ++ ys))
made_twice d ms xs ys =
    ap (λ made. drafted d ms made (d.functions + length xs + length ys)) (append_assoc d.made xs ys)
    ∙ ap (drafted d ms (d.made ++ (xs ++ ys)))
    (let e : d.functions + length xs + length ys ≡ d.functions + length (xs ++ ys) = omega
    (arith, length-append xs ys) in e)
