-- How the reader of statements goes on, with the constructs that wait (this repository).
use Rattle.std.specs.Prelude.{ℕ, Bool, true, cond, List, [], ◌∷◌, ◌++◌, Option, Some, None}
use Rattle.std.specs.Borrow.{Bor}
use Rattle.golf_lex_tokens.specs.declared.token.Token.{Token}
use Rattle.golf_lex_tokens.specs.declared.token.TokenKind.{TokenKind}
use Rattle.golf_lex_tokens.specs.declared.token.TokenKind.TheVariants as kinds
use Rattle.golf_lex_tokens.specs.declared.token.Punctuation.TheVariants as punctuations
use Rattle.golf_lex_tokens.specs.declared.token.Keyword.TheVariants as keywords
use Rattle.golf_syntax_trees.specs.declared.statements.Communication.{Communication}
use Rattle.golf_syntax_trees.specs.declared.statements.Stmt.{Stmt, out-Stmt}
use Rattle.golf_syntax_trees.specs.declared.statements.Stmt.TheVariants as st
use Rattle.golf_syntax_trees.specs.declared.statements.Clause.{Clause}
use Rattle.golf_syntax_trees.specs.declared.statements.Clause.TheVariants as cl
use Rattle.golf_syntax_trees.specs.declared.statements.Clause.TheOpen.{Stmt-F}
use Rattle.golf_syntax_trees.specs.declared.statements.Clause.TheOpen as F
pub use Rattle.golf_syntax_trees.specs.Parts.{statements_in, statements_of}
use Rattle.golf_syntax_expressions.specs.Plan.{◌>>=◌, run, moved_by, waited_by}
use Rattle.golf_syntax_expressions.specs.Front.{after, after_keyword}
use Rattle.golf_syntax_statements.specs.CommunicationReader.{comm_at}
use Rattle.golf_syntax_statements.specs.declared.pending.Owner.{Owner}
use Rattle.golf_syntax_statements.specs.declared.pending.Owner.TheVariants as owners
use Rattle.golf_syntax_statements.specs.declared.pending.Select.{Select}
use Rattle.golf_syntax_statements.specs.declared.pending.Head.{Head}
use Rattle.golf_syntax_statements.specs.declared.pending.Pending.{Pending}
use Rattle.golf_syntax_statements.specs.declared.pending.Pending.TheVariants as pendings
use Rattle.golf_syntax_statements.specs.declared.pending.Move.{Move}
use Rattle.golf_syntax_statements.specs.declared.pending.Move.TheVariants as moves
use Rattle.golf_syntax_statements.specs.StatementReader.{OfStmt, Body, Clauses, CaseBody, GoesFrom, just, else_plan}
use Rattle.golf_syntax_statements.specs.StatementReader.{stmt_at}

abbrev pub FoundStatement : Type 0
FoundStatement = Option (Stmt × List Token)

-- what is read after the closing brace of statements
abbrev pub owned : Owner → GoesFrom Stmt
owned (owners.Block l) b = just (st.Block l b.0) b.1
owned (owners.If l i e) b = else_plan l (i, e) b.0 b.1 (after_keyword keywords.Else b.1)
owned (owners.For l h) b = just (st.For l h b.0) b.1

unfoldable pub closed_at : Owner → List Stmt × List Token → FoundStatement
closed_at o b = run stmt_at (owned o b)

-- after a statement in braces
abbrev pub body_at : Owner → List Stmt → List Token → Option (List Token) → FoundStatement
body_at o done ts (Some us) = stmt_at (Body done) us >>= closed_at o
body_at o done ts None = after punctuations.CloseBrace ts >>= λ us. closed_at o (done, us)

-- a clause: `case` and its communication, or `default`
abbrev pub clause_of : ℕ → Option Communication → List Stmt → Clause
clause_of l (Some c) b = cl.Case l c b
clause_of l None b = cl.Default l b

abbrev pub defaults : Bool → Option Communication → Bool
defaults has_default (Some c) = has_default
defaults has_default None = true

-- a `select` with one more clause
abbrev pub grown : Select → Head → List Stmt → Select
grown s h b = record {
  line = s.line;
  has_default = defaults s.has_default h.communication;
  clauses = s.clauses
      ++ clause_of h.line h.communication b ∷ [];
}

-- the clauses of a `select` from here on
unfoldable pub selected : Select → List Token → FoundStatement
selected s ts = stmt_at (Clauses s.has_default s.clauses) ts >>= λ c. Some (st.Select s.line c.0, c.1)

-- the statements of a clause from here on, and the clauses after them
unfoldable pub clause_at : Select → Head → List Stmt → List Token → FoundStatement
clause_at s h done ts = stmt_at (CaseBody done) ts >>= λ b. selected (grown s h b.0) b.1

-- after a statement of a clause
abbrev pub case_at : Select → Head → List Stmt → List Token → Option (List Token) → FoundStatement
case_at s h done ts (Some us) = clause_at s h done us
case_at s h done ts None = after punctuations.CloseBrace ts >>= λ us. selected (grown s h done) ts

-- after the colon of a clause; the closing brace of the `select` can follow at once
abbrev pub headed_by : Select → Head → List Token → Option (List Token) → FoundStatement
headed_by s h ts (Some us) = selected (grown s h []) ts
headed_by s h ts None = clause_at s h [] ts

unfoldable pub headed_at : Select → Head → List Token → FoundStatement
headed_at s h ts = headed_by s h ts (after punctuations.CloseBrace ts)

-- after the head of a clause: its colon
abbrev pub colon_at : Select → Head → List Token → FoundStatement
colon_at s h ts = after punctuations.Colon ts >>= headed_at s h

-- The clauses of a `select` by their first token; a `select` has at most one `default`.
abbrev pub selected_by : Select → ℕ → TokenKind → List Token → FoundStatement
selected_by s l (kinds.Keyword keywords.Case) ts =
    comm_at ts >>= λ c. colon_at s (record { line = l; communication = Some c.0 }) c.1
selected_by s l (kinds.Keyword keywords.Default) ts =
    cond s.has_default None (colon_at s (record { line = l; communication = None }) ts)
selected_by s l (kinds.Punctuation punctuations.CloseBrace) ts = Some (st.Select s.line s.clauses, ts)
selected_by s l _ ts = None

-- what is found once the waiting construct has its statement
abbrev pub pending_at : Pending → Stmt × List Token → FoundStatement
pending_at (pendings.Body o done) x = body_at o (done ++ x.0 ∷ []) x.1 (after punctuations.Semicolon x.1)
pending_at (pendings.Else l i e b) x = Some (st.IfElse l i e b x.0, x.1)
pending_at (pendings.Clause s h done) x = case_at s h (done ++ x.0 ∷ []) x.1 (after punctuations.Semicolon x.1)

-- what is found by this move
abbrev pub move_at : Move → List Token → FoundStatement
move_at (moves.Found s) ts = Some (s, ts)
move_at moves.Seek ts = stmt_at OfStmt ts
move_at (moves.Wait f) ts = stmt_at OfStmt ts >>= pending_at f
move_at (moves.Clauses s) ts = selected s ts
move_at (moves.Headed s h) ts = colon_at s h ts

abbrev pub moved : Option (Move × Bor (List Token)) → FoundStatement
moved o = moved_by move_at o

-- what is found once all waiting constructs have theirs, the last one first
abbrev pub waited : List Pending → FoundStatement → FoundStatement
waited fs o = waited_by pending_at fs o

-- how many moves there can be before a token is taken or a waiting construct goes on
abbrev pub weight : Move → ℕ
weight (moves.Found s) = 0
weight moves.Seek = 1
weight (moves.Wait f) = 4
weight (moves.Clauses s) = 1
weight (moves.Headed s h) = 1
