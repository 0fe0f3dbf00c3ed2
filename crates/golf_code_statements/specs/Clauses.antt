-- The clauses of a `select` on flat parts: one after another, each at the end of the code before it.
use Rattle.std.specs.Prelude.{ℕ, zero, suc, List, [], ◌∷◌, ◌++◌, length, Option, Some, None}
use Rattle.golf_code_layout.specs.Piece.{Piece}
use Rattle.golf_code_of.specs.Selects.{in_clause}
use Rattle.golf_code_layout.specs.declared.emitted.Emitted.{Emitted}
use Rattle.golf_code_layout.specs.declared.emitted.Emitted.TheVariants as emit
use Rattle.golf_code_layout.specs.Emission.{onto}
use Rattle.golf_code_facts.specs.Statements.{LaidBy}
use Rattle.golf_code_facts.specs.Selects.{ClauseBy}
use Rattle.golf_code_expressions.specs.declared.writer.Writer.{Writer}
use Rattle.golf_code_statements.specs.declared.targets.Targets.{Targets}
use Rattle.golf_code_statements.specs.Lays.{around, after}

-- the first number if there is one, else the second
abbrev pub first_of : Option ℕ → Option ℕ → Option ℕ
first_of None later = later
first_of (Some k) later = Some k

-- n blocks begin
abbrev pub opened : ℕ → List Emitted → List Emitted
opened zero ms = ms
opened (suc n) ms = opened n ms ++ emit.Block ∷ []

-- a block ends
abbrev pub ended : Writer → Writer
ended w = record { facts = w.facts; draft = record w.draft { emitted = w.draft.emitted ++ emit.End ∷ [] } }

-- the code goes on at a target
abbrev pub leaving : ℕ → ℕ → Writer → Writer
leaving line k w = record {
  facts = w.facts;
  draft = record w.draft { emitted = onto w.draft.emitted (Piece.Exit line k) };
}

-- a clause with this code, which `later` clauses follow
abbrev pub with_clause : ℕ → ℕ → LaidBy → Writer → Writer
with_clause line later x w = leaving line later (after (ended w) x)

abbrev pub with_clauses : List ClauseBy → Targets → Writer → Writer
with_clauses [] u w = w
with_clauses (c ∷ cs) u w = with_clauses cs u
    (with_clause c.line (length cs) (c.lay (in_clause (length cs) (around w u)) w.facts) w)
