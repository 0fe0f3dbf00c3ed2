-- What code knows after a statement is what the checker knows there.
-- For: `WalksAgree` (golf_code_of/specs/Laws.antt) and `walks_agree` (src/lib.rt)
-- By: the steps of both, kind by kind, since the code carries along what is known
use Rattle.std.proofs.Common.{◌≡◌, ℕ, List, map, Option, Some, None, refl, sym, ap, ◌∙◌}
use Rattle.std.proofs.lemmas.Simd.{map-map}
use Rattle.golf_syntax_trees.specs.declared.statements.Simple.{Simple}
use Rattle.golf_syntax_trees.specs.declared.statements.Header.{Header}
use Rattle.golf_syntax_trees.specs.declared.statements.Header.TheVariants as header
use Rattle.golf_syntax_trees.specs.declared.statements.Stmt.{Stmt}
use Rattle.golf_syntax_trees.specs.declared.statements.Clause.{Clause}
use Rattle.golf_syntax_trees.specs.declared.statements.Clause.TheOpen.{Stmt-F, Clause-F}
use Rattle.golf_syntax_trees.specs.declared.statements.Clause.TheOpen as F
use Rattle.golf_syntax_trees.specs.declared.statements.Clause.TheFolds.{map-Stmt, map-Clause}
use Rattle.golf_syntax_trees.proofs.StatementInduction.{carried, carried-clause}
use Rattle.golf_check_types.specs.Statements as W
use Rattle.golf_check_types.specs.Statements.{Walk, walk, walk_clause, clause_step, stmt_step}
use Rattle.golf_code_of.specs.declared.tables.Tables.{Tables}
use Rattle.golf_code_of.specs.Statements.{StatementPart, optional}
use Rattle.golf_code_of.specs.Loops.{header_part}
use Rattle.golf_code_of.specs.Selects.{ClausePart}
use Rattle.golf_code_of.specs.StatementCode.{stmt_part, clause_part, stmt_part_step, clause_part_step}
use Rattle.golf_code_of.specs.Laws.{WalksAgree}

module _ (t : Tables) where
  optional-walk : (o : Option Simple) → (optional t o).walk ≡ W.optional o
  optional-walk None = refl
  optional-walk (Some x) = refl

  abbrev walks : List StatementPart → List Walk
  walks xs = map (λ (x : StatementPart). x.walk) xs

  header-walk : (l : ℕ) (h : Header) (xs : List StatementPart)
      → (header_part t l h xs).walk ≡ W.header_walk l h (walks xs)
  header-walk l (header.Steps first test post) xs =
      ap (λ w. W.then w (W.behind_optional l test (W.then (W.counted (optional t post).walk) (W.loop_body (walks xs)))))
      (optional-walk first)
      ∙ ap (λ w. W.then (W.optional first) (W.behind_optional l test (W.then (W.counted w) (W.loop_body (walks xs)))))
      (optional-walk post)
  header-walk l header.Forever xs = refl
  header-walk l (header.While test) xs = refl
  header-walk l (header.Range names over) xs = refl

  carries : (y : Stmt-F ClausePart StatementPart) → (stmt_part_step t y).walk ≡ stmt_step
      (map-Stmt ClausePart StatementPart (ℕ → Walk) Walk (λ c. c.walk) (λ x. x.walk) y)
  carries (F.If l first test body) = ap (λ w. W.in_block (W.then w (W.behind_test l test (W.block (walks body)))))
      (optional-walk first)
  carries (F.IfElse l first test body otherwise) =
      ap (λ w. W.in_block (W.then (W.then w (W.behind_test l test (W.block (walks body)))) otherwise.walk))
      (optional-walk first)
  carries (F.For l h body) = ap W.in_block (header-walk l h body)
  carries (F.Select l cs) = ap W.in_order (sym (map-map (λ (w : ℕ → Walk). w l) (λ (c : ClausePart). c.walk) cs))
  carries (F.Var v) = refl
  carries (F.Simple x) = refl
  carries (F.Go l f xs) = refl
  carries (F.Defer l f xs) = refl
  carries (F.Return l e) = refl
  carries (F.Break l) = refl
  carries (F.Continue l) = refl
  carries (F.Block l body) = refl

  carries-clause : (y : Clause-F ClausePart StatementPart)
      → (clause_part_step t y).walk ≡ clause_step
      (map-Clause ClausePart StatementPart (ℕ → Walk) Walk (λ c. c.walk) (λ x. x.walk) y)
  carries-clause (F.Case k c body) = refl
  carries-clause (F.Default k body) = refl

  pub statement : (x : Stmt) → (stmt_part t x).walk ≡ walk x
  unfolding stmt_part clause_part walk walk_clause
  statement = carried ClausePart StatementPart (clause_part_step t) (stmt_part_step t)
      (ℕ → Walk) Walk clause_step stmt_step
      (λ c. c.walk) (λ x. x.walk) carries-clause carries

  clause : (c : Clause) → (clause_part t c).walk ≡ walk_clause c
  unfolding stmt_part clause_part walk walk_clause
  clause = carried-clause ClausePart StatementPart (clause_part_step t) (stmt_part_step t)
      (ℕ → Walk) Walk clause_step stmt_step
      (λ c. c.walk) (λ x. x.walk) carries-clause carries

pub walks-agree : WalksAgree
walks-agree = record { statements = statement; clauses = clause }
