-- The words that statements print, and which statements are well formed.
use Rattle.std.specs.Prelude.{ℕ, ◌+◌, Bool, true, false, ◌&&◌, cond, nat_le, List, [], ◌∷◌, ◌++◌, map}
use Rattle.std.specs.List.{list_all}
use Rattle.golf_lex_tokens.specs.declared.token.Punctuation.TheVariants as punctuations
use Rattle.golf_lex_tokens.specs.declared.token.Keyword.TheVariants as keywords
use Rattle.golf_syntax_trees.specs.declared.expressions.Expr.{Expr}
use Rattle.golf_syntax_trees.specs.declared.statements.Stmt.{Stmt}
use Rattle.golf_syntax_trees.specs.declared.statements.Clause.{Clause}
use Rattle.golf_syntax_trees.specs.declared.statements.Clause.TheOpen.{Stmt-F, Clause-F, Var, Simple, Go, Defer, Return}
use Rattle.golf_syntax_trees.specs.declared.statements.Clause.TheOpen.{Break, Continue, Block, If, IfElse, For, Select}
use Rattle.golf_syntax_trees.specs.declared.statements.Clause.TheOpen.{Case, Default}
use Rattle.golf_syntax_trees.specs.declared.statements.Clause.TheFolds.{fold-Stmt, fold-Clause}
use Rattle.golf_syntax_trees.specs.Words.{Word, punctuation, keyword, on_line, separated, closed}
use Rattle.golf_syntax_trees.specs.Expressions.{parens, braces, print_expr, form, all_good}
use Rattle.golf_syntax_trees.specs.Simple.{print_simple, simple_form, print_var, content_good, optional, all_of}
use Rattle.golf_syntax_trees.specs.Simple.{print_header, header_expr, header_simple, header_good, print_comm, comm_good}

-- a call, as `go` and `defer` take it
abbrev pub print_call : Expr → List Expr → List Word
print_call f arguments = print_expr f ++ parens (separated punctuations.Comma (map print_expr arguments)) []

abbrev pub call_good : Expr → List Expr → Bool
call_good f arguments = ((form f).good && all_good (map form arguments)) && nat_le 7 (form f).top

-- a clause: its words up to the colon, and its statements
pub record ClauseWords : Type 0 where
  pub opening : List Word
  pub body : List (List Word)

-- Clauses: each statement has a semicolon after it, except for one right before the brace that ends all clauses.
abbrev pub clauses : List ClauseWords → List Word
clauses [] = []
clauses (c ∷ []) = c.opening ++ separated punctuations.Semicolon c.body
clauses (c ∷ d ∷ cs) = c.opening ++ (closed c.body ++ clauses (d ∷ cs))

abbrev pub print_block : List (List Word) → List Word
print_block body = braces (separated punctuations.Semicolon body) []

abbrev pub print_stmt_step : Stmt-F ClauseWords (List Word) → List Word
print_stmt_step (Var v) = print_var v
print_stmt_step (Simple x) = print_simple x
print_stmt_step (Go l f arguments) = on_line l (keyword keywords.Go ∷ print_call f arguments)
print_stmt_step (Defer l f arguments) = on_line l (keyword keywords.Defer ∷ print_call f arguments)
print_stmt_step (Return l value) = on_line l (keyword keywords.Return ∷ optional print_expr value)
print_stmt_step (Break l) = on_line l (keyword keywords.Break ∷ [])
print_stmt_step (Continue l) = on_line l (keyword keywords.Continue ∷ [])
print_stmt_step (Block l body) = on_line l (print_block body)
print_stmt_step (If l first test body) =
    on_line l (keyword keywords.If ∷ (optional (λ x. print_simple x ++ punctuation punctuations.Semicolon ∷ []) first
    ++ (print_expr test ++ print_block body)))
print_stmt_step (IfElse l first test body otherwise) =
    on_line l (keyword keywords.If ∷ (optional (λ x. print_simple x ++ punctuation punctuations.Semicolon ∷ []) first
    ++ (print_expr test ++ (print_block body ++ keyword keywords.Else ∷ otherwise))))
print_stmt_step (For l header body) = on_line l (keyword keywords.For ∷ (print_header header ++ print_block body))
print_stmt_step (Select l cs) = on_line l (keyword keywords.Select ∷ braces (clauses cs) [])

abbrev pub print_clause_step : Clause-F ClauseWords (List Word) → ClauseWords
print_clause_step (Case l c body) = record {
  opening = on_line l
      (keyword keywords.Case ∷ (print_comm c ++ punctuation punctuations.Colon ∷ []));
  body = body;
}
print_clause_step (Default l body) = record {
  opening = on_line l
      (keyword keywords.Default ∷ punctuation punctuations.Colon ∷ []);
  body = body;
}

-- the words of a statement
abbrev pub print_stmt : Stmt → List Word
print_stmt = fold-Stmt ClauseWords (List Word) print_clause_step print_stmt_step

abbrev pub print_clause : Clause → ClauseWords
print_clause = fold-Clause ClauseWords (List Word) print_clause_step print_stmt_step

-- The form of a statement: whether it can come after `else`, and whether it is well formed.
pub record StmtForm : Type 0 where
  pub branch : Bool
  pub good : Bool

pub record ClauseForm : Type 0 where
  pub default : Bool
  pub good : Bool

abbrev pub stmts_good : List StmtForm → Bool
stmts_good fs = list_all (λ f. f.good) fs

abbrev pub defaults : List ClauseForm → ℕ
defaults [] = 0
defaults (c ∷ cs) = cond c.default 1 0 + defaults cs

abbrev pub no_branch : Bool → StmtForm
no_branch good = record { branch = false; good = good }

abbrev pub branch : Bool → StmtForm
branch good = record { branch = true; good = good }

-- A `select` has at most one `default`.
abbrev pub stmt_form_step : Stmt-F ClauseForm StmtForm → StmtForm
stmt_form_step (Var v) = no_branch (content_good v.content)
stmt_form_step (Simple x) = no_branch (simple_form x.kind).good
stmt_form_step (Go l f arguments) = no_branch (call_good f arguments)
stmt_form_step (Defer l f arguments) = no_branch (call_good f arguments)
stmt_form_step (Return l value) = no_branch (all_of (λ e. (form e).good) value)
stmt_form_step (Break l) = no_branch true
stmt_form_step (Continue l) = no_branch true
stmt_form_step (Block l body) = branch (stmts_good body)
stmt_form_step (If l first test body) = branch (all_of header_simple first && (header_expr test && stmts_good body))
stmt_form_step (IfElse l first test body otherwise) =
    branch (all_of header_simple first && (header_expr test
    && (stmts_good body && (otherwise.good && otherwise.branch))))
stmt_form_step (For l header body) = no_branch (header_good header && stmts_good body)
stmt_form_step (Select l cs) = no_branch (list_all (λ c. c.good) cs && nat_le (defaults cs) 1)

abbrev pub clause_form_step : Clause-F ClauseForm StmtForm → ClauseForm
clause_form_step (Case l c body) = record { default = false; good = comm_good c && stmts_good body }
clause_form_step (Default l body) = record { default = true; good = stmts_good body }

abbrev pub stmt_form : Stmt → StmtForm
stmt_form = fold-Stmt ClauseForm StmtForm clause_form_step stmt_form_step

abbrev pub clause_form : Clause → ClauseForm
clause_form = fold-Clause ClauseForm StmtForm clause_form_step stmt_form_step
