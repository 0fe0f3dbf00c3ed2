-- How statements are read (Go specification, "Statements", "Blocks").
use Rattle.std.specs.Prelude.{ℕ, suc, ◌+◌, ◌*◌, Bool, true, false, cond, List, [], ◌∷◌, ◌++◌, length, Option, Some}
use Rattle.std.specs.Prelude.{None}
use Rattle.golf_lex_tokens.specs.declared.token.Token.{Token}
use Rattle.golf_lex_tokens.specs.declared.token.TokenKind.{TokenKind}
use Rattle.golf_lex_tokens.specs.declared.token.TokenKind.TheVariants as kinds
use Rattle.golf_lex_tokens.specs.declared.token.Punctuation.TheVariants as punctuations
use Rattle.golf_lex_tokens.specs.declared.token.Keyword.{Keyword}
use Rattle.golf_lex_tokens.specs.declared.token.Keyword.TheVariants as keywords
use Rattle.golf_syntax_trees.specs.declared.expressions.Expr.{Expr, out-Expr}
use Rattle.golf_syntax_trees.specs.declared.expressions.Expr.TheOpen as F
use Rattle.golf_syntax_trees.specs.declared.expressions.Expr.TheOpen.{Expr-F}
use Rattle.golf_syntax_trees.specs.declared.expressions.Element.{Element}
use Rattle.golf_syntax_trees.specs.declared.statements.Stmt.{Stmt}
use Rattle.golf_syntax_trees.specs.declared.statements.Stmt.TheVariants as st
use Rattle.golf_syntax_trees.specs.declared.statements.Clause.{Clause}
use Rattle.golf_syntax_trees.specs.declared.statements.Clause.TheVariants as cl
use Rattle.golf_syntax_expressions.specs.Plan.{◌>>=◌, Plan, Done, Ask, reads, given, run}
use Rattle.golf_syntax_expressions.specs.Front.{after, after_keyword}
use Rattle.golf_syntax_expressions.specs.ExpressionReader.{Level, Prefixed, expr_at}
use Rattle.golf_syntax_expressions.specs.SimpleStatementReader.{simple_at}
use Rattle.golf_syntax_statements.specs.VariableReader.{var_at}
use Rattle.golf_syntax_statements.specs.HeaderReader.{Test, test_at, header_at}
use Rattle.golf_syntax_statements.specs.CommunicationReader.{comm_at}
pub use Rattle.golf_syntax_trees.specs.Parts.{call_in, call_of}

-- A mode is what is read: a statement; statements with semicolons between, up to the closing brace; the clauses of a
-- `select`, up to its brace, with or without a `default` before; the statements of a clause. Lists hold what was read
-- before.
pub data StatementMode : Type 0 where
  OfStmt : StatementMode
  Body : List Stmt → StatementMode
  Clauses : Bool → List Clause → StatementMode
  CaseBody : List Stmt → StatementMode

abbrev pub StatementTree : StatementMode → Type 0
StatementTree OfStmt = Stmt
StatementTree (Body done) = List Stmt
StatementTree (Clauses seen done) = List Clause
StatementTree (CaseBody done) = List Stmt

abbrev pub StmtPlan : Type 0 → Type 0
StmtPlan A = Plan Token StatementMode StatementTree A

abbrev pub just : {A : Type 0} → A → List Token → StmtPlan A
just a ts = Done (Some (a, ts))

abbrev pub found : {A : Type 0} → A × List Token → StmtPlan A
found x = Done (Some x)

abbrev pub GoesFrom : Type 0 → Type 0
GoesFrom A = List Stmt × List Token → StmtPlan A

-- statements in braces, after the opening one
abbrev pub body : {A : Type 0} → List Token → Option (List Token) → GoesFrom A → StmtPlan A
body ts (Some us) more = more ([], us)
body ts None more = Ask (Body []) ts more

abbrev pub block : {A : Type 0} → List Token → GoesFrom A → StmtPlan A
block ts more = given (after punctuations.OpenBrace ts) (λ us. body us (after punctuations.CloseBrace us) more)

-- a call after `go` or `defer`
unfoldable pub call_at : List Token → Option ((Expr × List Expr) × List Token)
call_at ts = expr_at (Prefixed false) ts >>= λ e. call_of e.0 >>= λ c. Some (c, e.1)

abbrev pub returned : ℕ → List Token → Option (Expr × List Token) → Option (Stmt × List Token)
returned l ts None = Some (st.Return l None, ts)
returned l ts (Some e) = Some (st.Return l (Some e.0), e.1)

-- whether a statement of this kind can come after `else`
abbrev pub is_branch_kind : TokenKind → Bool
is_branch_kind (kinds.Keyword keywords.If) = true
is_branch_kind (kinds.Punctuation punctuations.OpenBrace) = true
is_branch_kind _ = false

abbrev pub is_branch : List Token → Bool
is_branch [] = false
is_branch (t ∷ ts) = is_branch_kind t.kind

abbrev pub else_plan : ℕ → Test → List Stmt → List Token → Option (List Token) → StmtPlan Stmt
else_plan l x done ts None = just (st.If l x.0 x.1 done) ts
else_plan l x done ts (Some us) = cond (is_branch us) (Ask OfStmt us (λ s. just (st.IfElse l x.0 x.1 done s.0) s.1))
    (Done None)

abbrev pub if_plan : ℕ → List Token → StmtPlan Stmt
if_plan l ts = given (test_at ts) (λ x. block x.1 (λ b. else_plan l x.0 b.0 b.1 (after_keyword keywords.Else b.1)))

abbrev pub for_plan : ℕ → List Token → StmtPlan Stmt
for_plan l ts = given (header_at ts) (λ h. block h.1 (λ b. just (st.For l h.0 b.0) b.1))

abbrev pub select_plan : ℕ → List Token → StmtPlan Stmt
select_plan l ts = given (after punctuations.OpenBrace ts)
    (λ us. Ask (Clauses false []) us (λ c. just (st.Select l c.0) c.1))

abbrev pub simple_plan : List Token → StmtPlan Stmt
simple_plan ts = Done (simple_at false ts >>= λ x. Some (st.Simple x.0, x.1))

-- a statement by its keyword
abbrev pub keyword_plan : ℕ → Keyword → List Token → List Token → StmtPlan Stmt
keyword_plan l keywords.Var ts all = Done (var_at l ts >>= λ v. Some (st.Var v.0, v.1))
keyword_plan l keywords.Go ts all = Done (call_at ts >>= λ c. Some (st.Go l c.0.0 c.0.1, c.1))
keyword_plan l keywords.Defer ts all = Done (call_at ts >>= λ c. Some (st.Defer l c.0.0 c.0.1, c.1))
keyword_plan l keywords.Return ts all = Done (returned l ts (expr_at (Level false 1) ts))
keyword_plan l keywords.Break ts all = just (st.Break l) ts
keyword_plan l keywords.Continue ts all = just (st.Continue l) ts
keyword_plan l keywords.If ts all = if_plan l ts
keyword_plan l keywords.For ts all = for_plan l ts
keyword_plan l keywords.Select ts all = select_plan l ts
keyword_plan l _ ts all = simple_plan all

abbrev pub kind_plan : ℕ → TokenKind → List Token → List Token → StmtPlan Stmt
kind_plan l (kinds.Keyword k) ts all = keyword_plan l k ts all
kind_plan l (kinds.Punctuation punctuations.OpenBrace) ts all =
    body ts (after punctuations.CloseBrace ts) (λ b. just (st.Block l b.0) b.1)
kind_plan l _ ts all = simple_plan all

abbrev pub one_plan : List Token → StmtPlan Stmt
one_plan [] = Done None
one_plan (t ∷ ts) = kind_plan t.line t.kind ts (t ∷ ts)

-- after a statement in braces: a semicolon and more, or the closing brace
abbrev pub body_behind : List Stmt → List Token → Option (List Token) → StmtPlan (List Stmt)
body_behind done ts (Some us) = Ask (Body done) us found
body_behind done ts None = given (after punctuations.CloseBrace ts) (just done)

-- after a statement of a clause: a semicolon and more, or the brace that closes the `select`, which stays
abbrev pub case_behind : List Stmt → List Token → Option (List Token) → StmtPlan (List Stmt)
case_behind done ts (Some us) = Ask (CaseBody done) us found
case_behind done ts None = given (after punctuations.CloseBrace ts) (λ us. just done ts)

abbrev pub begins_kind : TokenKind → Bool
begins_kind (kinds.Keyword keywords.Case) = true
begins_kind (kinds.Keyword keywords.Default) = true
begins_kind _ = false

-- whether a clause begins here
abbrev pub begins_clause : List Token → Bool
begins_clause [] = false
begins_clause (t ∷ ts) = begins_kind t.kind

abbrev pub case_plan : List Stmt → List Token → StmtPlan (List Stmt)
case_plan done ts = cond (begins_clause ts) (just done ts)
    (Ask OfStmt ts (λ s. case_behind (done ++ s.0 ∷ []) s.1 (after punctuations.Semicolon s.1)))

-- the statements of a clause, after its colon, and the clauses after them
abbrev pub clause_body : Bool → List Clause → (List Stmt → Clause) → List Token → Option (List Token)
    → StmtPlan (List Clause)
clause_body seen done wrap ts (Some us) = Ask (Clauses seen (done ++ wrap [] ∷ [])) ts found
clause_body seen done wrap ts None = Ask (CaseBody []) ts (λ b. Ask (Clauses seen (done ++ wrap b.0 ∷ [])) b.1 found)

abbrev pub clause_plan : Bool → List Clause → (List Stmt → Clause) → List Token → StmtPlan (List Clause)
clause_plan seen done wrap ts = given (after punctuations.Colon ts)
    (λ us. clause_body seen done wrap us (after punctuations.CloseBrace us))

-- A `select` has at most one `default`.
abbrev pub clauses_from : Bool → List Clause → ℕ → TokenKind → List Token → StmtPlan (List Clause)
clauses_from seen done l (kinds.Keyword keywords.Case) ts =
    given (comm_at ts) (λ c. clause_plan seen done (cl.Case l c.0) c.1)
clauses_from seen done l (kinds.Keyword keywords.Default) ts =
    cond seen (Done None) (clause_plan true done (cl.Default l) ts)
clauses_from seen done l (kinds.Punctuation punctuations.CloseBrace) ts = just done ts
clauses_from seen done l _ ts = Done None

abbrev pub clauses_plan : Bool → List Clause → List Token → StmtPlan (List Clause)
clauses_plan seen done [] = Done None
clauses_plan seen done (t ∷ ts) = clauses_from seen done t.line t.kind ts

abbrev pub stmt_plan : (m : StatementMode) → List Token → StmtPlan (StatementTree m)
stmt_plan OfStmt ts = one_plan ts
stmt_plan (Body done) ts = Ask OfStmt ts (λ s. body_behind (done ++ s.0 ∷ []) s.1 (after punctuations.Semicolon s.1))
stmt_plan (Clauses seen done) ts = clauses_plan seen done ts
stmt_plan (CaseBody done) ts = case_plan done ts

-- a mode that has taken no token asks only for modes of lower rank
abbrev pub rank : StatementMode → ℕ
rank OfStmt = 0
rank (Body done) = 1
rank (Clauses seen done) = 0
rank (CaseBody done) = 1

-- what is read at the front in a mode, and the tokens after it
unfoldable pub stmt_at : (m : StatementMode) → List Token → Option (StatementTree m × List Token)
stmt_at m ts = reads stmt_plan (suc (2 * length ts + rank m)) m ts

-- statements in braces
abbrev pub block_at : List Token → Option (List Stmt × List Token)
block_at ts = run stmt_at (block ts found)
