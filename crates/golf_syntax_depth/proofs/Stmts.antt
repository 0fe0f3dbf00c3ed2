-- A statement rises by its depth over its words.
-- For: Files
-- By: induction over the tree of a statement
use Rattle.std.proofs.Common.{ℕ, ◌+◌, ◌≤◌, max, List, [], ◌∷◌, ◌++◌, map, Option, Some, None, refl, sym, subst, arith}
use Rattle.std.proofs.Math.Nat.{le-max_left, le-max_right, max-le}
use Rattle.golf_lex_tokens.specs.declared.token.Punctuation.TheVariants as punctuations
use Rattle.golf_lex_tokens.specs.declared.token.Keyword.{Keyword}
use Rattle.golf_lex_tokens.specs.declared.token.Keyword.TheVariants as keywords
use Rattle.golf_syntax_trees.specs.declared.expressions.Expr.{Expr}
use Rattle.golf_syntax_trees.specs.declared.statements.Simple.{Simple}
use Rattle.golf_syntax_trees.specs.declared.statements.Stmt.{Stmt, roll-Stmt}
use Rattle.golf_syntax_trees.specs.declared.statements.Clause.{Clause, roll-Clause}
use Rattle.golf_syntax_trees.specs.declared.statements.Clause.TheOpen as F
use Rattle.golf_syntax_trees.specs.declared.statements.Clause.TheFolds.{fold-Clause, fold-roll-Stmt, fold-roll-Clause}
use Rattle.golf_syntax_trees.specs.declared.statements.Clause.TheFolds.{map-Stmt, map-Clause}
use Rattle.golf_syntax_trees.proofs.StatementInduction.{KnownClause, KnownStmt, bare_clauses, bare_stmts, ClauseLayer}
use Rattle.golf_syntax_trees.proofs.StatementInduction.{StmtLayer, bare_clause, bare_stmt, every-stmt}
use Rattle.golf_syntax_trees.specs.Words.{Word, punctuation, keyword, on_line, separated, closed}
use Rattle.golf_syntax_trees.specs.Expressions.{braces, print_expr}
use Rattle.golf_syntax_trees.specs.Simple.{print_simple, print_header, print_comm, optional}
use Rattle.golf_syntax_trees.specs.Statements.{print_call, ClauseWords, clauses, print_block, print_stmt_step}
use Rattle.golf_syntax_trees.specs.Statements.{print_clause_step, print_stmt, print_clause}
use Rattle.golf_syntax_depth.specs.Depths.{largest, of_option, depth, simple_depth, comm_depth, call_depth}
use Rattle.golf_syntax_depth.specs.Depths.{stmt_depth_step, clause_depth_step, stmt_depth}
use Rattle.golf_syntax_depth.proofs.Peaks.{Rises, AllRise, Plain, Separates, empty, lower, loose, joined, plain-before}
use Rattle.golf_syntax_depth.proofs.Peaks.{separator, separated-rises, closed-rises, on-line}
use Rattle.golf_syntax_depth.proofs.Exprs.{expr-adds, after-left, in-parens, in-braces, arguments-rise}
use Rattle.golf_syntax_depth.proofs.Simples.{expr-rises, simple-rises, var-rises, optional-rises, header-rises}
use Rattle.golf_syntax_depth.proofs.Simples.{comm-rises}

semicolon : Separates (punctuation punctuations.Semicolon)
semicolon c cs = refl

pub block-rises : (xs : List (List Word)) (ds : List ℕ) → AllRise xs ds → Rises (print_block xs) (1 + largest ds)
block-rises xs ds all = loose (in-braces (separated punctuations.Semicolon xs)
    (separated-rises punctuations.Semicolon semicolon xs ds all))

-- the first statement of an `if`, with its semicolon
first-rises : (o : Option Simple) → Rises
    (optional (λ (x : Simple). print_simple x ++ punctuation punctuations.Semicolon ∷ []) o) (of_option simple_depth o)
first-rises None = empty
first-rises (Some x) =
    lower (simple_depth x) (le-max_left (simple_depth x) 0)
    (joined (print_simple x) (punctuation punctuations.Semicolon ∷ []) (simple-rises x)
    (separator (punctuation punctuations.Semicolon) semicolon))

call-rises : (f : Expr) (xs : List Expr) → Rises (print_call f xs) (call_depth f xs)
call-rises f xs = loose (after-left (print_expr f) _ (expr-adds f) (in-parens _ (arguments-rise xs)))

-- a clause whose words up to the colon and whose statements rise, together by d
pub record ClauseRises (c : ClauseWords) (d : ℕ) : Type 0 where
  pub front : ℕ
  pub each : List ℕ
  pub opening : Rises c.opening front
  pub body : AllRise c.body each
  pub few : d ≤ max front (largest each)

abbrev AllClauses : List ClauseWords → List ℕ → Type 0
AllClauses [] [] = Unit {0}
AllClauses [] (d ∷ ds) = ⊥
AllClauses (c ∷ cs) [] = ⊥
AllClauses (c ∷ cs) (d ∷ ds) = ClauseRises c d × AllClauses cs ds

clauses-rise : (cs : List ClauseWords) (ds : List ℕ) → AllClauses cs ds → Rises (clauses cs) (largest ds)
clauses-rise [] [] all = empty
clauses-rise [] (d ∷ ds) all = absurd all
clauses-rise (c ∷ cs) [] all = absurd all
clauses-rise (c ∷ []) (d ∷ []) all =
    lower (max d 0) (max-le all.0.few (omega arith))
    (joined c.opening (separated punctuations.Semicolon c.body) all.0.opening
    (separated-rises punctuations.Semicolon semicolon c.body all.0.each all.0.body))
clauses-rise (c ∷ []) (d ∷ e ∷ ds) all = absurd all.1
clauses-rise (c ∷ b ∷ cs) (d ∷ []) all = absurd all.1
clauses-rise (c ∷ b ∷ cs) (d ∷ e ∷ ds) all =
    lower (max d (largest (e ∷ ds))) (one-more d all.0.front (largest all.0.each) (largest (e ∷ ds)) all.0.few)
    (joined c.opening (closed c.body ++ clauses (b ∷ cs)) all.0.opening
    (joined (closed c.body) (clauses (b ∷ cs)) (closed-rises c.body all.0.each all.0.body)
    (clauses-rise (b ∷ cs) (e ∷ ds) all.1)))
  where
    one-more : (d front each rest : ℕ) → d ≤ max front each → max d rest ≤ max front (max each rest)
    one-more d front each rest few =
        let f = le-max_left front (max each rest) in
        let r = le-max_right front (max each rest) in
        let e = le-max_left each rest in
        let m = le-max_right each rest in
        let inner : max front each ≤ max front (max each rest) = max-le f (omega (arith, r, e)) in
        max-le (omega (arith, few, inner)) (omega (arith, r, m))

abbrev clause_depth : Clause → ℕ
clause_depth = fold-Clause ℕ ℕ clause_depth_step stmt_depth_step

abbrev Q : Clause → Type 0
Q c = ClauseRises (print_clause c) (clause_depth c)

abbrev P : Stmt → Type 0
P x = Rises (print_stmt x) (stmt_depth x)

abbrev texts : List (KnownStmt P) → List (List Word)
texts xs = map print_stmt (bare_stmts P xs)

abbrev depths : List (KnownStmt P) → List ℕ
depths xs = map stmt_depth (bare_stmts P xs)

body : (xs : List (KnownStmt P)) → AllRise (texts xs) (depths xs)
body [] = tt
body (x ∷ xs) = (x.1, body xs)

every-clause-rises : (cs : List (KnownClause Q))
    → AllClauses (map print_clause (bare_clauses Q cs)) (map clause_depth (bare_clauses Q cs))
every-clause-rises [] = tt
every-clause-rises (c ∷ cs) = (c.1, every-clause-rises cs)

-- a keyword before a text, on a line
led : (l : ℕ) (k : Keyword) (ws : List Word) {d : ℕ} → Plain (keyword k) → Rises ws d
    → Rises (on_line l (keyword k ∷ ws)) d
led l k ws plain a = on-line l (keyword k ∷ ws) (plain-before (keyword k) ws plain a)

at : (y : StmtLayer Q P) → Rises (print_stmt_step
    (map-Stmt Clause Stmt ClauseWords (List Word) print_clause print_stmt (bare_stmt Q P y)))
    (stmt_depth_step (map-Stmt Clause Stmt ℕ ℕ clause_depth stmt_depth (bare_stmt Q P y)))
at (F.Var v) = var-rises v
at (F.Simple x) = simple-rises x
at (F.Go l f xs) = led l keywords.Go (print_call f xs) (λ c cs. refl) (call-rises f xs)
at (F.Defer l f xs) = led l keywords.Defer (print_call f xs) (λ c cs. refl) (call-rises f xs)
at (F.Return l value) = led l keywords.Return (optional print_expr value) (λ c cs. refl)
    (optional-rises print_expr depth expr-rises value)
at (F.Break l) = led l keywords.Break [] (λ c cs. refl) empty
at (F.Continue l) = led l keywords.Continue [] (λ c cs. refl) empty
at (F.Block l xs) = on-line l (print_block (texts xs)) (block-rises (texts xs) (depths xs) (body xs))
at (F.If l first test xs) =
    led l keywords.If (optional (λ (x : Simple). print_simple x ++ punctuation punctuations.Semicolon ∷ []) first
    ++ (print_expr test ++ print_block (texts xs))) (λ c cs. refl)
    (joined (optional (λ (x : Simple). print_simple x ++ punctuation punctuations.Semicolon ∷ []) first)
    (print_expr test ++ print_block (texts xs)) (first-rises first)
    (joined (print_expr test) (print_block (texts xs)) (expr-rises test)
    (block-rises (texts xs) (depths xs) (body xs))))
at (F.IfElse l first test xs otherwise) =
    led l keywords.If (optional (λ (x : Simple). print_simple x ++ punctuation punctuations.Semicolon ∷ []) first
    ++ (print_expr test ++ (print_block (texts xs) ++ keyword keywords.Else ∷ print_stmt otherwise.0)))
    (λ c cs. refl)
    (joined (optional (λ (x : Simple). print_simple x ++ punctuation punctuations.Semicolon ∷ []) first)
    (print_expr test ++ (print_block (texts xs) ++ keyword keywords.Else ∷ print_stmt otherwise.0))
    (first-rises first)
    (joined (print_expr test) (print_block (texts xs) ++ keyword keywords.Else ∷ print_stmt otherwise.0)
    (expr-rises test)
    (joined (print_block (texts xs)) (keyword keywords.Else ∷ print_stmt otherwise.0)
    (block-rises (texts xs) (depths xs) (body xs))
    (plain-before (keyword keywords.Else) (print_stmt otherwise.0) (λ c cs. refl) otherwise.1))))
at (F.For l header xs) =
    led l keywords.For (print_header header ++ print_block (texts xs)) (λ c cs. refl)
    (joined (print_header header) (print_block (texts xs)) (header-rises header)
    (block-rises (texts xs) (depths xs) (body xs)))
at (F.Select l cs) =
    led l keywords.Select (braces (clauses (map print_clause (bare_clauses Q cs))) []) (λ c cs. refl)
    (loose (in-braces (clauses (map print_clause (bare_clauses Q cs))) (clauses-rise _ _ (every-clause-rises cs))))

at-clause : (y : ClauseLayer Q P) → ClauseRises
    (print_clause_step (map-Clause Clause Stmt ClauseWords (List Word) print_clause print_stmt (bare_clause Q P y)))
    (clause_depth_step (map-Clause Clause Stmt ℕ ℕ clause_depth stmt_depth (bare_clause Q P y)))
at-clause (F.Case l c xs) = record {
  front = max (comm_depth c) 0;
  each = depths xs;
  opening = led l keywords.Case (print_comm c ++ punctuation punctuations.Colon ∷ []) (λ c cs. refl)
      (joined (print_comm c) (punctuation punctuations.Colon ∷ []) (comm-rises c)
      (plain-before (punctuation punctuations.Colon) [] (λ c cs. refl) empty));
  body = body xs;
  few =
      let first = le-max_left (max (comm_depth c) 0) (largest (depths xs)) in
      let second = le-max_right (max (comm_depth c) 0) (largest (depths xs)) in
      let inner = le-max_left (comm_depth c) 0 in
      max-le (omega (arith, first, inner)) second;
}
at-clause (F.Default l xs) = record {
  front = 0;
  each = depths xs;
  opening = led l keywords.Default (punctuation punctuations.Colon ∷ []) (λ c cs. refl)
      (plain-before (punctuation punctuations.Colon) [] (λ c cs. refl) empty);
  body = body xs;
  few = le-max_right 0 (largest (depths xs));
}

rolled : (y : StmtLayer Q P) → P (roll-Stmt (bare_stmt Q P y))
rolled y =
    subst (λ ws. Rises ws (stmt_depth (roll-Stmt (bare_stmt Q P y))))
    (sym (fold-roll-Stmt ClauseWords (List Word) print_clause_step print_stmt_step (bare_stmt Q P y)))
    (subst (Rises (print_stmt_step (map-Stmt Clause Stmt ClauseWords (List Word) print_clause print_stmt
    (bare_stmt Q P y)))) (sym (fold-roll-Stmt ℕ ℕ clause_depth_step stmt_depth_step (bare_stmt Q P y))) (at y))

clause-rolled : (y : ClauseLayer Q P) → Q (roll-Clause (bare_clause Q P y))
clause-rolled y =
    subst (λ c. ClauseRises c (clause_depth (roll-Clause (bare_clause Q P y))))
    (sym (fold-roll-Clause ClauseWords (List Word) print_clause_step print_stmt_step (bare_clause Q P y)))
    (subst (ClauseRises (print_clause_step
    (map-Clause Clause Stmt ClauseWords (List Word) print_clause print_stmt (bare_clause Q P y))))
    (sym (fold-roll-Clause ℕ ℕ clause_depth_step stmt_depth_step (bare_clause Q P y))) (at-clause y))

pub stmt-rises : (x : Stmt) → Rises (print_stmt x) (stmt_depth x)
stmt-rises = every-stmt Q P clause-rolled rolled

pub all-stmts-rise : (xs : List Stmt) → AllRise (map print_stmt xs) (map stmt_depth xs)
all-stmts-rise [] = tt
all-stmts-rise (x ∷ xs) = (stmt-rises x, all-stmts-rise xs)
