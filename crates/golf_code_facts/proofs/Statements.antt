-- The code of every statement by its facts is its code.
-- For: `stmt_by`, golf_code_facts/specs/StatementCode.antt; the law `statements_follow`, src/lib.rt.
-- By: induction over the tree of a statement, and over the list of statements of a body.
use Rattle.std.proofs.Common.{◌≡◌, ℕ, List, [], ◌∷◌, ◌++◌, map, refl, sym, ap, subst, ◌∙◌}
use Rattle.golf_syntax_trees.specs.declared.statements.Stmt.{Stmt, roll-Stmt}
use Rattle.golf_syntax_trees.specs.declared.statements.Clause.{Clause, roll-Clause}
use Rattle.golf_syntax_trees.specs.declared.statements.Clause.TheOpen.{Stmt-F}
use Rattle.golf_syntax_trees.specs.declared.statements.Clause.TheOpen as F
use Rattle.golf_syntax_trees.specs.declared.statements.Clause.TheFolds.{fold-roll-Stmt, fold-roll-Clause, map-Stmt}
use Rattle.golf_syntax_trees.specs.declared.statements.Clause.TheFolds.{map-Clause}
use Rattle.golf_syntax_trees.proofs.StatementInduction.{KnownClause, KnownStmt, bare_clauses, bare_stmts, ClauseLayer}
use Rattle.golf_syntax_trees.proofs.StatementInduction.{StmtLayer, bare_clause, bare_stmt, every-stmt}
use Rattle.golf_data.specs.declared.code.Instr.{Instr}
use Rattle.golf_check_types.specs.Statements.{Walk}
use Rattle.golf_code_of.specs.declared.tables.Tables.{Tables}
use Rattle.golf_code_of.specs.Statements.{in_order, block, then_part, optional, behind_test}
use Rattle.golf_code_of.specs.Selects.{select_part}
use Rattle.golf_code_of.specs.StatementCode.{stmt_part, clause_part}
use Rattle.golf_code_of.proofs.StmtCodes.{part_layer, clause_layer, part-rolls, clause-rolls}
use Rattle.golf_code_of.proofs.Walks.{walks-agree}
use Rattle.golf_code_facts.specs.Statements.{LayBy, in_order as in_order_by, optional_by, after_test, then_lay}
use Rattle.golf_code_facts.specs.Selects.{ClauseBy, select_lay}
use Rattle.golf_code_facts.specs.StatementCode.{stmt_by, clause_by, stmt_by_step, clause_by_step}
use Rattle.golf_code_facts.specs.Laws.{StatementsFollow}
use Rattle.golf_code_facts.proofs.Simple.{on_simple, on_var, on_return, optional_piece, optional-lay, on_optional}
use Rattle.golf_code_facts.proofs.Parts.{Follows, on_piece, on_then, on_or_else, on_after, on_block, on_end, on_test}
use Rattle.golf_code_facts.proofs.Parts.{on_begin}
use Rattle.golf_code_facts.proofs.Loops.{on_for}
use Rattle.golf_code_facts.proofs.Selects.{ClauseFollows, EachClause, parts, lays, on_case, on_default, on_select}
use Rattle.std.specs.Prelude.{Option}
use Rattle.golf_syntax_trees.specs.declared.statements.Simple.{Simple}
use Rattle.golf_syntax_trees.specs.declared.expressions.Expr.{Expr}

module _ (t : Tables) where
  abbrev Q : Clause → Type 0
  Q c = ClauseFollows (clause_part t c) (clause_by t c)

  abbrev P : Stmt → Type 0
  P x = Follows (stmt_part t x) (stmt_by t x)

  -- statements one after the other
  bodies : (xs : List (KnownStmt P)) → Follows (in_order (map (stmt_part t) (bare_stmts P xs)))
      (in_order_by (map (stmt_by t) (bare_stmts P xs)))
  bodies [] = record { code = λ a s rest. refl }
  bodies (x ∷ xs) = record {
    code = λ a s rest.
        (on_then (stmt_part t x.0) (in_order (map (stmt_part t) (bare_stmts P xs))) (stmt_by t x.0)
        (in_order_by (map (stmt_by t) (bare_stmts P xs))) x.1 (bodies xs)).code a s rest;
  }

  abbrev each : KnownClause Q → EachClause
  each c = record { part = clause_part t c.0; by = clause_by t c.0; follows = c.1 }

  parts-are : (cs : List (KnownClause Q)) → parts (map each cs) ≡ map (clause_part t) (bare_clauses Q cs)
  parts-are [] = refl
  parts-are (c ∷ cs) = ap (λ ps. clause_part t c.0 ∷ ps) (parts-are cs)

  lays-are : (cs : List (KnownClause Q)) → lays (map each cs) ≡ map (clause_by t) (bare_clauses Q cs)
  lays-are [] = refl
  lays-are (c ∷ cs) = ap (λ ps. clause_by t c.0 ∷ ps) (lays-are cs)

  -- a condition, and the body after it
  on_branch : (l : ℕ) (first : Option Simple) (test : Expr) (body : List (KnownStmt P))
      → Follows (then_part t l first test (map (stmt_part t) (bare_stmts P body)))
      (then_lay t l first test (map (stmt_by t) (bare_stmts P body)))
  on_branch l first test body =
      let xs = map (stmt_part t) (bare_stmts P body) in
      let ks = map (stmt_by t) (bare_stmts P body) in
      on_after (optional t first) (behind_test t l test (block xs)) (optional_piece t first) (optional_by t first)
      (after_test t l test (in_order_by ks))
      (on_optional t first) (optional-lay t first)
      (on_test (block xs) (in_order_by ks) (on_block (in_order xs) (in_order_by ks) (bodies body)) t l test)

  abbrev lay-of : Stmt-F Clause Stmt → LayBy
  lay-of z = stmt_by_step t (map-Stmt Clause Stmt ClauseBy LayBy (clause_by t) (stmt_by t) z)

  at : (y : StmtLayer Q P) → Follows (part_layer t (bare_stmt Q P y)) (lay-of (bare_stmt Q P y))
  at (F.Var v) = on_piece _ _ _ (on_var t v.line v.name v.content)
  at (F.Simple x) = on_piece _ _ _ (on_simple t x.line x.kind)
  at (F.Go l f xs) = on_begin t l Instr.Go f xs
  at (F.Defer l f xs) = on_begin t l Instr.Defer f xs
  at (F.Return l e) = on_piece _ _ _ (on_return t l e)
  at (F.Break l) = record { code = λ a s rest. refl }
  at (F.Continue l) = record { code = λ a s rest. refl }
  at (F.Block l body) = on_block _ _ (bodies body)
  at (F.If l first test body) = on_block _ _ (on_end _ _ (on_branch l first test body))
  at (F.IfElse l first test body otherwise) =
      on_block _ _ (on_or_else _ _ _ _ (on_branch l first test body) otherwise.1 l)
  at (F.For l h body) = on_for t l _ _ (bodies body) h
  at (F.Select l cs) = subst (λ ps. Follows (select_part l ps) (select_lay l (map (clause_by t) (bare_clauses Q cs))))
      (parts-are cs) (subst (λ ks. Follows (select_part l (parts (map each cs))) (select_lay l ks)) (lays-are cs)
      (on_select l (map each cs)))

  at-clause : (y : ClauseLayer Q P) → ClauseFollows (clause_layer t (bare_clause Q P y))
      (clause_by_step t (map-Clause Clause Stmt ClauseBy LayBy (clause_by t) (stmt_by t) (bare_clause Q P y)))
  at-clause (F.Case k c body) = on_case _ _ (bodies body) t k c
  at-clause (F.Default k body) = on_default _ _ (bodies body) k

  rolled : (y : StmtLayer Q P) → P (roll-Stmt (bare_stmt Q P y))
  unfolding stmt_by clause_by
  rolled y =
      subst (λ p. Follows p (stmt_by t (roll-Stmt (bare_stmt Q P y)))) (sym (part-rolls t (bare_stmt Q P y)))
      (subst (λ k. Follows (part_layer t (bare_stmt Q P y)) k)
      (sym (fold-roll-Stmt ClauseBy LayBy (clause_by_step t) (stmt_by_step t) (bare_stmt Q P y))) (at y))

  clause-rolled : (y : ClauseLayer Q P) → Q (roll-Clause (bare_clause Q P y))
  unfolding stmt_by clause_by
  clause-rolled y =
      subst (λ p. ClauseFollows p (clause_by t (roll-Clause (bare_clause Q P y))))
      (sym (clause-rolls t (bare_clause Q P y)))
      (subst (λ k. ClauseFollows (clause_layer t (bare_clause Q P y)) k)
      (sym (fold-roll-Clause ClauseBy LayBy (clause_by_step t) (stmt_by_step t) (bare_clause Q P y))) (at-clause y))

  pub statement : (x : Stmt) → P x
  statement = every-stmt Q P clause-rolled rolled

  -- the statements of a body
  pub body : (xs : List Stmt) → Follows (in_order (map (stmt_part t) xs)) (in_order_by (map (stmt_by t) xs))
  body [] = record { code = λ a s rest. refl }
  body (x ∷ xs) = record {
    code = λ a s rest.
        (on_then (stmt_part t x) (in_order (map (stmt_part t) xs)) (stmt_by t x) (in_order_by (map (stmt_by t) xs))
        (statement x) (body xs)).code a s rest;
  }

pub statements-follow : StatementsFollow
statements-follow t x a s rest = ap (λ (w : Walk). stmt_by t x a ((w s).facts ++ rest))
    (sym (walks-agree.statements t x)) ∙ (statement t x).code a s rest
