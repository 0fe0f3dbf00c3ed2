-- What begins a function, and what is made for it.
-- For: `begin_callee`, src/begins.rt; `begun`, golf_code_statements/specs/Begun.antt.
-- By: computing; induction over the list of arguments for their number.
use Rattle.std.proofs.Common.{◌≡◌, ℕ, suc, ◌+◌, List, [], ◌∷◌, map, length, refl, ap, sym, ◌∙◌, arith}
use Rattle.golf_syntax_trees.specs.declared.expressions.Expr.{Expr}
use Rattle.golf_data.specs.declared.code.Instr.{Instr}
use Rattle.golf_check_types.specs.declared.facts.Fact.{Fact}
use Rattle.golf_check_types.specs.declared.operands.Operand.TheVariants as operand
use Rattle.golf_code_layout.specs.Piece.{all, op}
use Rattle.golf_code_of.specs.declared.tables.Tables.{Tables}
use Rattle.golf_code_of.specs.Calls.{ArgumentCode, pushes}
use Rattle.golf_code_facts.specs.Facts.{skip, skip_all}
use Rattle.golf_code_facts.specs.Expressions.{taking, arguments}
use Rattle.golf_code_expressions.specs.declared.writer.Writer.{Writer}
use Rattle.golf_code_expressions.specs.WriterClauses.{with_piece}
use Rattle.golf_code_statements.specs.Begun.{begun}
use Rattle.golf_code_statements.specs.Lays.{after}
use Rattle.golf_code_statements.proofs.Seams.{written, quiet}

-- as many arguments as expressions
pub as_many : (t : Tables) (l : ℕ) (xs : List Expr) (fs : List Fact)
    → length (arguments l (map (taking t) xs) fs) ≡ length xs
as_many t l [] fs = refl
as_many t l (x ∷ xs) fs = ap (λ n. suc n) (as_many t l xs (skip fs))

module _ (w : Writer) (l : ℕ) (begin : ℕ → ℕ → Instr) (xs : List Expr) where
  abbrev ys : List ArgumentCode
  ys = arguments l (map (taking w.draft.tables.now) xs) w.facts

  -- a function of the file, with so many operands more than arguments
  abbrev calls : Instr → Writer
  calls i = written (skip_all (length xs) w.facts) (with_piece w.draft (all (pushes ys ∷ op l i ∷ [])))

  pub function_begun : (k : ℕ) → calls (begin (k + 1) (length xs + 0)) ≡ after w
      (begun w.draft.tables.now l begin w.draft.functions (operand.Function k) xs w.facts)
  function_begun k =
      ap (λ n. calls (begin (k + 1) n)) (let e : length xs + 0 ≡ length ys = omega
      (arith, as_many w.draft.tables.now l xs w.facts) in e)
      ∙ quiet w (all (pushes ys ∷ op l (begin (k + 1) (length ys)) ∷ [])) (skip_all (length xs) w.facts)

  pub method_begun : (k : ℕ) → calls (begin (k + 1) (length xs + 1)) ≡ after w
      (begun w.draft.tables.now l begin w.draft.functions (operand.Method k) xs w.facts)
  method_begun k =
      ap (λ n. calls (begin (k + 1) (n + 1))) (sym (as_many w.draft.tables.now l xs w.facts))
      ∙ quiet w (all (pushes ys ∷ op l (begin (k + 1) (length ys + 1)) ∷ [])) (skip_all (length xs) w.facts)
