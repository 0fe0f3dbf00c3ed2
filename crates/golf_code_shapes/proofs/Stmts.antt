-- The code of every well-formed statement that breaks no rule leads on: one step for each kind of statement.
-- For: `statements_fit`, src/lib.rt
-- By: induction over the tree of a statement
use Rattle.std.proofs.Common.{◌≡◌, ℕ, true, not, List, [], ◌∷◌, map, Option, Some, None, refl, sym, subst}
use Rattle.std.proofs.lemmas.Bool.{and_parts}
use Rattle.std.specs.List.{list_all}
use Rattle.golf_data.specs.declared.code.Instr.{Instr}
use Rattle.golf_syntax_trees.specs.declared.statements.Simple.{Simple}
use Rattle.golf_syntax_trees.specs.declared.statements.SimpleKind.{SimpleKind}
use Rattle.golf_syntax_trees.specs.declared.statements.SimpleKind.TheVariants as simple
use Rattle.golf_syntax_trees.specs.declared.statements.Header.{Header}
use Rattle.golf_syntax_trees.specs.declared.statements.Header.TheVariants as header
use Rattle.golf_syntax_trees.specs.declared.statements.Stmt.{Stmt, roll-Stmt}
use Rattle.golf_syntax_trees.specs.declared.statements.Clause.{Clause, roll-Clause}
use Rattle.golf_syntax_trees.specs.declared.statements.Clause.TheOpen as F
use Rattle.golf_syntax_trees.specs.declared.statements.Clause.TheFolds.{fold-roll-Stmt, fold-roll-Clause, map-Stmt}
use Rattle.golf_syntax_trees.specs.declared.statements.Clause.TheFolds.{map-Clause}
use Rattle.golf_syntax_trees.proofs.StatementInduction.{KnownClause, KnownStmt, bare_clauses, bare_stmts, ClauseLayer}
use Rattle.golf_syntax_trees.proofs.StatementInduction.{StmtLayer, bare_clause, bare_stmt, every-stmt}
use Rattle.golf_syntax_trees.specs.Simple.{simple_form, header_simple, header_expr, post_simple, all_of, header_good}
use Rattle.golf_syntax_trees.specs.Simple.{comm_good}
use Rattle.golf_syntax_trees.specs.Statements.{StmtForm, ClauseForm, stmts_good, stmt_form_step, clause_form_step}
use Rattle.golf_syntax_trees.specs.Statements.{stmt_form, clause_form}
use Rattle.golf_check_types.specs.declared.scopes.Scope.{Scope}
use Rattle.golf_check_types.specs.Statements as W
use Rattle.golf_model_typing.specs.Types.{FunctionTypes, Types}
use Rattle.golf_code_of.specs.declared.tables.Tables.{Tables}
use Rattle.golf_code_of.specs.Statements as C
use Rattle.golf_code_of.specs.Statements.{StatementPart, block, in_order, in_block, optional}
use Rattle.golf_code_of.specs.Loops.{for_part, header_part, in_loop}
use Rattle.golf_code_of.specs.Loops as L
use Rattle.golf_code_of.specs.StatementCode.{stmt_part, clause_part}
use Rattle.golf_code_of.proofs.StmtCodes.{part_layer, clause_layer, part-rolls, clause-rolls}
use Rattle.golf_code_of.proofs.Walks.{statement}
use Rattle.golf_code_shapes.specs.StatementFlow.{StatementFits}
use Rattle.golf_code_shapes.specs.Laws.{StatementsFit}
use Rattle.golf_code_shapes.proofs.Flows.{Right, EachRight, right-order, right-block, right-then, right-simple}
use Rattle.golf_code_shapes.proofs.Simples.{right-var, right-return}
use Rattle.golf_code_shapes.proofs.SimpleStatements.{right-kind, optional-piece, right-optional}
use Rattle.golf_code_shapes.proofs.Branches.{simply, right-ends, right-or-else, right-forever, right-while}
use Rattle.golf_code_shapes.proofs.Branches.{right-stepping, right-break, right-continue}
use Rattle.golf_code_shapes.proofs.Begins.{right-begin}
use Rattle.golf_code_shapes.proofs.RangeLoops.{right-range}
use Rattle.golf_code_shapes.proofs.Choices.{ClauseFits, EachClause, right-case, right-default, right-select}

-- a post statement declares nothing
quiet-kind : (l : ℕ) (x : SimpleKind) (s : Scope) → not (simple_form x).defines ≡ true
    → (W.simple_kind l x s).declares ≡ []
quiet-kind l (simple.Define n e) s h = cc
quiet-kind l (simple.DefineReceived n m e) s h = cc
quiet-kind l _ s h = refl

quiet-post : (o : Option Simple) (s : Scope) → all_of post_simple o ≡ true → (W.optional o s).declares ≡ []
quiet-post None s h = refl
quiet-post (Some x) s h = quiet-kind x.line x.kind s
    (and_parts (header_simple x) (not (simple_form x.kind).defines) h).1

module _ (types : Types) (t : Tables) (ft : FunctionTypes) where
  abbrev R : StatementPart → Type 0
  R = Right types t ft

  abbrev Q : Clause → Type 0
  Q c = (clause_form c).good ≡ true → ClauseFits types t ft (clause_part t c)

  abbrev P : Stmt → Type 0
  P x = (stmt_form x).good ≡ true → R (stmt_part t x)

  abbrev parts : List (KnownStmt P) → List StatementPart
  parts xs = map (stmt_part t) (bare_stmts P xs)

  abbrev forms : List (KnownStmt P) → List StmtForm
  forms xs = map stmt_form (bare_stmts P xs)

  each : (xs : List (KnownStmt P)) → stmts_good (forms xs) ≡ true → EachRight types t ft (parts xs)
  each [] h = tt
  each (x ∷ xs) h = let b = and_parts (stmt_form x.0).good (stmts_good (forms xs)) h in (x.1 b.0, each xs b.1)

  order : (xs : List (KnownStmt P)) → stmts_good (forms xs) ≡ true → R (in_order (parts xs))
  order xs h = right-order types t ft (parts xs) (each xs h)

  body : (xs : List (KnownStmt P)) → stmts_good (forms xs) ≡ true → R (block (parts xs))
  body xs h = right-block types t ft (in_order (parts xs)) (order xs h)

  clauses : (cs : List (KnownClause Q)) → list_all (λ (c : ClauseForm). c.good) (map clause_form (bare_clauses Q cs))
      ≡ true → EachClause types t ft (map (clause_part t) (bare_clauses Q cs))
  clauses [] h = tt
  clauses (c ∷ cs) h = let b = and_parts (clause_form c.0).good
      (list_all (λ (d : ClauseForm). d.good) (map clause_form (bare_clauses Q cs))) h in (c.1 b.0, clauses cs b.1)

  optional-is : (o : Option Simple) → optional t o ≡ simply (W.optional o) (optional-piece types t ft o)
  optional-is None = refl
  optional-is (Some x) = refl

  loop : (l : ℕ) (h : Header) (xs : List (KnownStmt P)) → header_good h ≡ true → stmts_good (forms xs) ≡ true
      → R (for_part t l h (parts xs))
  loop l header.Forever xs g b = right-block types t ft (header_part t l header.Forever (parts xs))
      (right-forever types t ft l (block (parts xs)) (λ s. refl) (body xs b))
  loop l (header.While e) xs g b = right-block types t ft (header_part t l (header.While e) (parts xs))
      (right-while types t ft l e (block (parts xs)) (λ s. refl) (body xs b))
  loop l (header.Range names e) xs g b = right-range types t ft l names e (parts xs) (body xs b)
  loop l (header.Steps first test post) xs g b =
      let posts = (and_parts (all_of header_expr test) (all_of post_simple post)
      (and_parts (all_of header_simple first) _ g).1).1 in
      let w = W.optional post in
      let p = optional-piece types t ft post in
      let inner = right-stepping types t ft l test w p (right-optional types t ft post) (λ s. quiet-post post s posts)
      (block (parts xs)) (λ s. refl) (body xs b) in
      right-block types t ft (header_part t l (header.Steps first test post) (parts xs))
      (right-then types t ft (optional t first) (L.stepping t l test (optional t post) (in_loop 2 0 (block (parts xs))))
      (subst R (sym (optional-is first)) (right-simple types t ft (W.optional first) (optional-piece types t ft first)
      (right-optional types t ft first)))
      (subst (λ q. R (L.stepping t l test q (in_loop 2 0 (block (parts xs))))) (sym (optional-is post)) inner))

  at : (y : StmtLayer Q P) → (stmt_form_step
      (map-Stmt Clause Stmt ClauseForm StmtForm clause_form stmt_form (bare_stmt Q P y))).good ≡ true
      → R (part_layer t (bare_stmt Q P y))
  at (F.Var v) g = right-simple types t ft (W.var_content v.line v.name v.content) _
      (right-var types t ft v.line v.name v.content)
  at (F.Simple x) g = right-simple types t ft (W.simple_walk x) _ (right-kind types t ft x.line x.kind)
  at (F.Go l f xs) g = right-begin types t ft Instr.Go (λ full k sh f n h. h) l f xs
  at (F.Defer l f xs) g = right-begin types t ft Instr.Defer (λ full k sh f n h. h) l f xs
  at (F.Return l e) g = right-return types t ft l e
  at (F.Break l) g = right-break types t ft l
  at (F.Continue l) g = right-continue types t ft l
  at (F.Block l xs) g = body xs g
  at (F.If l first test xs) g =
      let b = (and_parts (header_expr test) (stmts_good (forms xs)) (and_parts (all_of header_simple first) _ g).1).1 in
      subst (λ q. R (in_block (C.ends_here (C.then q (C.behind_test t l test (block (parts xs)))))))
      (sym (optional-is first))
      (right-ends types t ft (W.optional first) (optional-piece types t ft first)
      (right-optional types t ft first) l test (block (parts xs)) (λ s. refl) (body xs b))
  at (F.IfElse l first test xs o) g =
      let rest = and_parts (header_expr test) _ (and_parts (all_of header_simple first) _ g).1 in
      let b = and_parts (stmts_good (forms xs)) _ rest.1 in
      let other = (and_parts (stmt_form o.0).good _ b.1).0 in
      subst (λ q. R (in_block (C.or_else l (C.then q (C.behind_test t l test (block (parts xs)))) (stmt_part t o.0))))
      (sym (optional-is first))
      (right-or-else types t ft (W.optional first) (optional-piece types t ft first)
      (right-optional types t ft first) l test (block (parts xs)) (λ s. refl) (body xs b.0) (stmt_part t o.0)
      (o.1 other))
  at (F.For l h xs) g = let b = and_parts (header_good h) (stmts_good (forms xs)) g in loop l h xs b.0 b.1
  at (F.Select l cs) g = right-select types t ft l (map (clause_part t) (bare_clauses Q cs))
      (clauses cs (and_parts (list_all (λ (c : ClauseForm). c.good) (map clause_form (bare_clauses Q cs))) _ g).0)

  clause-at : (y : ClauseLayer Q P) → (clause_form_step
      (map-Clause Clause Stmt ClauseForm StmtForm clause_form stmt_form (bare_clause Q P y))).good ≡ true
      → ClauseFits types t ft (clause_layer t (bare_clause Q P y))
  clause-at (F.Case k c xs) g = right-case types t ft k c (parts xs)
      (order xs (and_parts (comm_good c) (stmts_good (forms xs)) g).1)
  clause-at (F.Default k xs) g = right-default types t ft k (parts xs) (order xs g)

  rolled : (y : StmtLayer Q P) → P (roll-Stmt (bare_stmt Q P y))
  rolled y g =
      let good = subst (λ (f : StmtForm). f.good ≡ true)
      (fold-roll-Stmt ClauseForm StmtForm clause_form_step stmt_form_step (bare_stmt Q P y)) g in
      subst R (sym (part-rolls t (bare_stmt Q P y))) (at y good)

  clause-rolled : (y : ClauseLayer Q P) → Q (roll-Clause (bare_clause Q P y))
  clause-rolled y g =
      let good = subst (λ (f : ClauseForm). f.good ≡ true)
      (fold-roll-Clause ClauseForm StmtForm clause_form_step stmt_form_step (bare_clause Q P y)) g in
      subst (ClauseFits types t ft) (sym (clause-rolls t (bare_clause Q P y))) (clause-at y good)

  pub right-stmt : (x : Stmt) → P x
  right-stmt = every-stmt Q P clause-rolled rolled

pub statements-fit : StatementsFit
statements-fit types t ft x good = subst (λ w. StatementFits types t ft w (stmt_part t x).lay) (statement t x)
    (right-stmt types t ft x good)
