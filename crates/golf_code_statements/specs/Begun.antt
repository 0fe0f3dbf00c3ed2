-- A function that is begun, after the code of the callee.
use Rattle.std.specs.Prelude.{ℕ, List, [], ◌∷◌, length, map}
use Rattle.golf_syntax_trees.specs.declared.expressions.Expr.{Expr}
use Rattle.golf_data.specs.declared.code.Instr.{Instr}
use Rattle.golf_check_types.specs.declared.facts.Fact.{Fact}
use Rattle.golf_check_types.specs.declared.operands.Operand.{Operand}
use Rattle.golf_code_layout.specs.Piece.{all}
use Rattle.golf_code_of.specs.declared.tables.Tables.{Tables}
use Rattle.golf_code_of.specs.Calls.{pushes, makings, beginning}
use Rattle.golf_code_facts.specs.Facts.{skip_all}
use Rattle.golf_code_facts.specs.Expressions.{taking, arguments}
use Rattle.golf_code_facts.specs.Statements.{LaidBy, by}

-- the code of the arguments, and the instruction; `next` is the number of the next function that is made
abbrev pub begun : Tables → ℕ → (ℕ → ℕ → Instr) → ℕ → Operand → List Expr → List Fact → LaidBy
begun t l begin next m xs fs =
    let ys = arguments l (map (taking t) xs) fs in
    by (record { piece = all (pushes ys ∷ beginning l begin next m ys ∷ []); made = makings l m ys })
    (skip_all (length xs) fs)
