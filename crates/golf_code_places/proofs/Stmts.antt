-- The code of every statement is light: one step for each kind of statement.
-- For: `bodies_are_small`, src/lib.rt
-- By: induction over the tree of a statement
use Rattle.std.proofs.Common.{◌≡◌, ℕ, ◌+◌, ◌≤◌, List, [], ◌∷◌, ◌++◌, length, map, Option, Some, None, refl, sym, subst}
use Rattle.std.proofs.Common.{arith, length-append}
use Rattle.std.proofs.lemmas.List.{length-map}
use Rattle.golf_data.specs.declared.code.Instr.{Instr}
use Rattle.golf_lex_tokens.specs.declared.token.Punctuation.TheVariants as punctuations
use Rattle.golf_lex_tokens.specs.declared.token.Keyword.TheVariants as keywords
use Rattle.golf_syntax_trees.specs.declared.expressions.Expr.{Expr}
use Rattle.golf_syntax_trees.specs.declared.statements.Simple.{Simple}
use Rattle.golf_syntax_trees.specs.declared.statements.Header.{Header}
use Rattle.golf_syntax_trees.specs.declared.statements.Header.TheVariants as header
use Rattle.golf_syntax_trees.specs.declared.statements.Stmt.{Stmt, roll-Stmt}
use Rattle.golf_syntax_trees.specs.declared.statements.Clause.{Clause, roll-Clause}
use Rattle.golf_syntax_trees.specs.declared.statements.Clause.TheOpen as F
use Rattle.golf_syntax_trees.specs.declared.statements.Clause.TheFolds.{fold-roll-Stmt, fold-roll-Clause, map-Stmt}
use Rattle.golf_syntax_trees.specs.declared.statements.Clause.TheFolds.{map-Clause}
use Rattle.golf_syntax_trees.proofs.StatementInduction.{KnownClause, KnownStmt, bare_clauses, bare_stmts, ClauseLayer}
use Rattle.golf_syntax_trees.proofs.StatementInduction.{StmtLayer, bare_clause, bare_stmt, every-stmt}
use Rattle.golf_syntax_trees.specs.Words.{Word, punctuation, keyword, separated}
use Rattle.golf_syntax_trees.specs.Expressions.{parens, print_expr}
use Rattle.golf_syntax_trees.specs.Simple.{print_simple, print_range_names, print_header, print_comm}
use Rattle.golf_syntax_trees.specs.Simple as G
use Rattle.golf_syntax_trees.specs.Statements as words
use Rattle.golf_syntax_trees.specs.Statements.{print_call, ClauseWords, print_block, print_stmt_step, print_clause_step}
use Rattle.golf_syntax_trees.specs.Statements.{print_stmt, print_clause}
use Rattle.golf_check_types.specs.Scopes.{begun}
use Rattle.golf_code_of.specs.declared.tables.Tables.{Tables}
use Rattle.golf_code_of.specs.Statements.{StatementPart, block, in_order, in_block, optional, behind_test, then}
use Rattle.golf_code_of.specs.Loops.{header_part, in_loop, stepping}
use Rattle.golf_code_of.specs.StatementCode.{stmt_part, clause_part}
use Rattle.golf_code_of.proofs.StmtCodes.{part_layer, clause_layer, part-rolls, clause-rolls}
use Rattle.golf_code_places.proofs.Words.{total, line-length, separated-length, separated-total, clause_total}
use Rattle.golf_code_places.proofs.Words.{clauses-length}
use Rattle.golf_code_places.proofs.Light.{Light, EachLight, light-then, light-order, light-block, light-var}
use Rattle.golf_code_places.proofs.Light.{light-return, light-returns, light-begin, light-simple, optional_words}
use Rattle.golf_code_places.proofs.Light.{light-optional, light-test, light-ends, light-or-else}
use Rattle.golf_code_places.proofs.Loops.{light-loop, light-forever, light-while, test_words, light-stepping}
use Rattle.golf_code_places.proofs.Loops.{light-range}
use Rattle.golf_code_places.proofs.Selects.{ClauseLight, EachClauseLight, light-case, light-default, light-select}

-- How many words the parts of statements have.

call-words : (f : Expr) (xs : List Expr)
    → length (print_expr f) + (total (map print_expr xs) + length xs) ≤ length (print_call f xs)
call-words f xs =
    let few = separated-length punctuations.Comma (map print_expr xs) in
    let count = length-map xs print_expr in
    let inner = length-append (separated punctuations.Comma (map print_expr xs))
    (punctuation punctuations.CloseParen ∷ []) in
    let whole = length-append (print_expr f) (parens (separated punctuations.Comma (map print_expr xs)) []) in
    omega (arith, few, count, inner, whole)

pub block-words : (ws : List (List Word)) → total ws + 2 ≤ length (print_block ws)
block-words ws =
    let few = separated-total punctuations.Semicolon ws in
    let inner = length-append (separated punctuations.Semicolon ws) (punctuation punctuations.CloseBrace ∷ []) in
    omega (arith, few, inner)

abbrev first_words : Option Simple → List Word
first_words o = G.optional (λ (x : Simple). print_simple x ++ punctuation punctuations.Semicolon ∷ []) o

first-length : (o : Option Simple) → optional_words o ≤ length (first_words o)
first-length None = omega arith
first-length (Some x) = let w = length-append (print_simple x) (punctuation punctuations.Semicolon ∷ []) in omega
    (arith, w)

optional-length : (o : Option Simple) → optional_words o ≡ length (G.optional print_simple o)
optional-length None = refl
optional-length (Some x) = refl

test-length : (o : Option Expr) → test_words o ≡ length (G.optional print_expr o)
test-length None = refl
test-length (Some x) = refl

module _ (t : Tables) where
  abbrev Q : Clause → Type 0
  Q c = ClauseLight (clause_total (print_clause c)) (clause_part t c)

  abbrev P : Stmt → Type 0
  P x = Light (length (print_stmt x)) (stmt_part t x)

  abbrev parts : List (KnownStmt P) → List StatementPart
  parts xs = map (stmt_part t) (bare_stmts P xs)

  abbrev texts : List (KnownStmt P) → List (List Word)
  texts xs = map print_stmt (bare_stmts P xs)

  each : (xs : List (KnownStmt P)) → EachLight (parts xs) (texts xs)
  each [] = tt
  each (x ∷ xs) = (x.1, each xs)

  order : (xs : List (KnownStmt P)) → Light (total (texts xs)) (in_order (parts xs))
  order xs = light-order (parts xs) (texts xs) (each xs)

  body : (xs : List (KnownStmt P)) → Light (total (texts xs)) (block (parts xs))
  body xs = light-block (parts xs) (texts xs) (each xs)

  abbrev clause-words : List (KnownClause Q) → List ClauseWords
  clause-words cs = map print_clause (bare_clauses Q cs)

  clauses : (cs : List (KnownClause Q)) → EachClauseLight (map (clause_part t) (bare_clauses Q cs)) (clause-words cs)
  clauses [] = tt
  clauses (c ∷ cs) = (c.1, clauses cs)

  -- a loop, whose words are those of the header and of the body, and one more
  loop : (l : ℕ) (h : Header) (xs : List (KnownStmt P)) (k : ℕ) → length (print_header h) + total (texts xs) + 3 ≤ k
      → Light k (in_block (header_part t l h (parts xs)))
  loop l header.Forever xs k more a s = light-forever l (in_loop 1 0 (block (parts xs))) (total (texts xs)) k
      (light-loop 1 0 (block (parts xs)) _ (body xs)) (omega (arith, more)) a (begun s)
  loop l (header.While e) xs k more a s =
      light-while t l e (in_loop 1 0 (block (parts xs))) (total (texts xs)) k
      (light-loop 1 0 (block (parts xs)) _ (body xs)) (omega (arith, more)) a (begun s)
  loop l (header.Steps first test post) xs k more a s =
      let f = optional-length first in
      let e = test-length test in
      let p = optional-length post in
      let inner = length-append (G.optional print_expr test)
      (punctuation punctuations.Semicolon ∷ G.optional print_simple post) in
      let whole = length-append (G.optional print_simple first)
      (punctuation punctuations.Semicolon ∷ (G.optional print_expr test ++ punctuation punctuations.Semicolon
      ∷ G.optional print_simple post)) in
      light-then (optional t first) (stepping t l test (optional t post) (in_loop 2 0 (block (parts xs))))
      (optional_words first) (test_words test + optional_words post + total (texts xs) + 1) k
      (light-optional t first _ (omega arith))
      (light-stepping t l test (optional t post) (in_loop 2 0 (block (parts xs))) (optional_words post)
      (total (texts xs)) _ (light-optional t post _ (omega arith)) (light-loop 2 0 (block (parts xs)) _ (body xs))
      (omega arith))
      (omega (arith, f, e, p, inner, whole, more)) a (begun s)
  loop l (header.Range names e) xs k more a s =
      let w = length-append (print_range_names names) (keyword keywords.Range ∷ print_expr e) in
      light-range t l names e (parts xs) (total (texts xs)) k (body xs) (omega (arith, w, more)) a (begun s)

  -- an `if` up to the end of its body
  abbrev front : ℕ → Option Simple → Expr → List (KnownStmt P) → StatementPart
  front l first test xs = then (optional t first) (behind_test t l test (block (parts xs)))

  abbrev front-words : Option Simple → Expr → List (KnownStmt P) → ℕ
  front-words first test xs = optional_words first + (length (print_expr test) + total (texts xs))

  head : (l : ℕ) (first : Option Simple) (test : Expr) (xs : List (KnownStmt P))
      → Light (front-words first test xs) (front l first test xs)
  head l first test xs =
      light-then (optional t first) (behind_test t l test (block (parts xs))) (optional_words first)
      (length (print_expr test) + total (texts xs)) _
      (light-optional t first _ (omega arith))
      (light-test t l test (block (parts xs)) (total (texts xs)) _ (body xs) (omega arith)) (omega arith)

  at : (y : StmtLayer Q P) → Light (length
      (print_stmt_step (map-Stmt Clause Stmt ClauseWords (List Word) print_clause print_stmt (bare_stmt Q P y))))
      (part_layer t (bare_stmt Q P y))
  at (F.Var v) = light-var t v.line v.name v.content _ (omega arith)
  at (F.Simple x) = light-simple t x
  at (F.Go l f xs) = light-begin t l Instr.Go f xs _ (let w = call-words f xs in omega (arith, w))
  at (F.Defer l f xs) = light-begin t l Instr.Defer f xs _ (let w = call-words f xs in omega (arith, w))
  at (F.Return l None) = light-return t l 1 (omega arith)
  at (F.Return l (Some e)) = light-returns t l e _ (omega arith)
  at (F.Break l) = λ a s. omega arith
  at (F.Continue l) = λ a s. omega arith
  at (F.Block l xs) = λ a s.
      let w = block-words (texts xs) in
      let line = line-length l (print_block (texts xs)) in
      let h = body xs a s in
      omega (arith, w, line, h)
  at (F.If l first test xs) = λ a s.
      let f = first-length first in
      let w = block-words (texts xs) in
      let inner = length-append (print_expr test) (print_block (texts xs)) in
      let whole = length-append (first_words first) (print_expr test ++ print_block (texts xs)) in
      let h = light-ends (front l first test xs) (front-words first test xs) (head l first test xs) a (begun s) in
      omega (arith, f, w, inner, whole, h)
  at (F.IfElse l first test xs o) = λ a s.
      let f = first-length first in
      let w = block-words (texts xs) in
      let last = length-append (print_block (texts xs)) (keyword keywords.Else ∷ print_stmt o.0) in
      let inner = length-append (print_expr test) (print_block (texts xs) ++ keyword keywords.Else ∷ print_stmt o.0) in
      let whole = length-append (first_words first)
      (print_expr test ++ (print_block (texts xs) ++ keyword keywords.Else ∷ print_stmt o.0)) in
      light-or-else l (front l first test xs) (stmt_part t o.0) (front-words first test xs) (length (print_stmt o.0)) _
      (head l first test xs) o.1 (omega (arith, f, w, last, inner, whole)) a (begun s)
  at (F.For l h xs) =
      let w = block-words (texts xs) in
      let whole = length-append (print_header h) (print_block (texts xs)) in
      loop l h xs _ (omega (arith, w, whole))
  at (F.Select l cs) =
      let few = clauses-length (clause-words cs) in
      let inner = length-append (words.clauses (clause-words cs)) (punctuation punctuations.CloseBrace ∷ []) in
      light-select l (map (clause_part t) (bare_clauses Q cs)) (clause-words cs) _ (clauses cs)
      (omega (arith, few, inner))

  clause-at : (y : ClauseLayer Q P) → ClauseLight
      (clause_total (print_clause_step (map-Clause Clause Stmt ClauseWords (List Word) print_clause print_stmt
      (bare_clause Q P y)))) (clause_layer t (bare_clause Q P y))
  clause-at (F.Case k c xs) = light-case t k c (parts xs) (total (texts xs)) _ (order xs)
      (let w = length-append (print_comm c) (punctuation punctuations.Colon ∷ []) in omega (arith, w))
  clause-at (F.Default k xs) = light-default k (parts xs) (total (texts xs)) _ (order xs) (omega arith)

  rolled : (y : StmtLayer Q P) → P (roll-Stmt (bare_stmt Q P y))
  rolled y =
      subst (λ ws. Light (length ws) (stmt_part t (roll-Stmt (bare_stmt Q P y))))
      (sym (fold-roll-Stmt ClauseWords (List Word) print_clause_step print_stmt_step (bare_stmt Q P y)))
      (subst (Light (length (print_stmt_step
      (map-Stmt Clause Stmt ClauseWords (List Word) print_clause print_stmt (bare_stmt Q P y)))))
      (sym (part-rolls t (bare_stmt Q P y))) (at y))

  clause-rolled : (y : ClauseLayer Q P) → Q (roll-Clause (bare_clause Q P y))
  clause-rolled y =
      subst (λ ws. ClauseLight (clause_total ws) (clause_part t (roll-Clause (bare_clause Q P y))))
      (sym (fold-roll-Clause ClauseWords (List Word) print_clause_step print_stmt_step (bare_clause Q P y)))
      (subst (ClauseLight (clause_total (print_clause_step
      (map-Clause Clause Stmt ClauseWords (List Word) print_clause print_stmt (bare_clause Q P y)))))
      (sym (clause-rolls t (bare_clause Q P y))) (clause-at y))

  pub stmt-light : (x : Stmt) → P x
  stmt-light = every-stmt Q P clause-rolled rolled
