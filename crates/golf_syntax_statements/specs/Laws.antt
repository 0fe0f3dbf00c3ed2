-- The laws of readers, as statements: a reader of variables, headers, communications or statements finds exactly what
-- is printed at the front (this repository).
use Rattle.std.specs.Prelude.{◌≡◌, ◌⊎◌, true, List, [], ◌∷◌, ◌++◌, Some}
use Rattle.golf_lex_tokens.specs.declared.token.Token.{Token}
use Rattle.golf_lex_tokens.specs.declared.token.TokenKind.TheVariants as kinds
use Rattle.golf_lex_tokens.specs.declared.token.Punctuation.TheVariants as punctuations
use Rattle.golf_lex_tokens.specs.declared.token.Keyword.TheVariants as keywords
use Rattle.golf_syntax_trees.specs.declared.statements.Var.{Var}
use Rattle.golf_syntax_trees.specs.declared.statements.Header.{Header}
use Rattle.golf_syntax_trees.specs.declared.statements.Communication.{Communication}
use Rattle.golf_syntax_trees.specs.declared.statements.Stmt.{Stmt}
use Rattle.golf_syntax_trees.specs.Words.{punctuation, SpellsWords}
use Rattle.golf_syntax_trees.specs.Expressions.{print_expr}
use Rattle.golf_syntax_trees.specs.Simple.{print_var, content_good, optional, all_of, print_simple, print_header}
use Rattle.golf_syntax_trees.specs.Simple.{header_simple, header_expr, header_good, print_comm, comm_good}
use Rattle.golf_syntax_trees.specs.Statements.{print_stmt, stmt_form}
use Rattle.golf_syntax_expressions.specs.Front.{after}
use Rattle.golf_syntax_statements.specs.VariableReader.{var_at}
use Rattle.golf_syntax_statements.specs.HeaderReader.{Test, test_at, header_at}
use Rattle.golf_syntax_statements.specs.CommunicationReader.{comm_at}
use Rattle.golf_syntax_statements.specs.StatementReader.{OfStmt, stmt_at}

-- a semicolon or a closing brace follows
abbrev pub EndsStatement : List Token → Type 0
EndsStatement ts = (us : List Token) × ((after punctuations.Semicolon ts ≡ Some us)
    ⊎ (after punctuations.CloseBrace ts ≡ Some us))

-- the body of an `if` or a `for` begins here
abbrev pub BeginsBody : List Token → Type 0
BeginsBody ts = (us : List Token) × (after punctuations.OpenBrace ts ≡ Some us)

-- a well-formed variable is printed, on the line of its keyword, at the front of these tokens and before the rest
pub record IsVarIn (word : Token) (ts : List Token) (x : Var × List Token) : Type 0 where
  pub var : word.kind ≡ kinds.Keyword keywords.Var
  pub words : SpellsWords (print_var x.0) (word ∷ ts) x.1
  pub good : content_good x.0.content ≡ true

pub record IsTestIn (ts : List Token) (x : Test × List Token) : Type 0 where
  pub words : SpellsWords (optional (λ y. print_simple y ++ punctuation punctuations.Semicolon ∷ []) x.0.0
      ++ print_expr x.0.1) ts x.1
  pub first : all_of header_simple x.0.0 ≡ true
  pub good : header_expr x.0.1 ≡ true

pub record IsHeaderIn (ts : List Token) (x : Header × List Token) : Type 0 where
  pub words : SpellsWords (print_header x.0) ts x.1
  pub good : header_good x.0 ≡ true

pub record IsCommIn (ts : List Token) (x : Communication × List Token) : Type 0 where
  pub words : SpellsWords (print_comm x.0) ts x.1
  pub good : comm_good x.0 ≡ true

pub record IsStmtIn (ts : List Token) (x : Stmt × List Token) : Type 0 where
  pub words : SpellsWords (print_stmt x.0) ts x.1
  pub good : (stmt_form x.0).good ≡ true

abbrev pub VarsFound : Type 0
VarsFound = (word : Token) (ts : List Token) (x : Var × List Token) → word.kind ≡ kinds.Keyword keywords.Var
    → var_at word.line ts ≡ Some x → IsVarIn word ts x

abbrev pub VarsRead : Type 0
VarsRead = (word : Token) (ts : List Token) (x : Var × List Token) → IsVarIn word ts x → EndsStatement x.1
    → var_at word.line ts ≡ Some x

abbrev pub TestsFound : Type 0
TestsFound = (ts : List Token) (x : Test × List Token) → test_at ts ≡ Some x → IsTestIn ts x

abbrev pub TestsRead : Type 0
TestsRead = (ts : List Token) (x : Test × List Token) → IsTestIn ts x → BeginsBody x.1 → test_at ts ≡ Some x

abbrev pub HeadersFound : Type 0
HeadersFound = (ts : List Token) (x : Header × List Token) → header_at ts ≡ Some x → IsHeaderIn ts x

abbrev pub HeadersRead : Type 0
HeadersRead = (ts : List Token) (x : Header × List Token) → IsHeaderIn ts x → BeginsBody x.1 → header_at ts ≡ Some x

abbrev pub CommsFound : Type 0
CommsFound = (ts : List Token) (x : Communication × List Token) → comm_at ts ≡ Some x → IsCommIn ts x

abbrev pub CommsRead : Type 0
CommsRead = (ts us : List Token) (x : Communication × List Token) → IsCommIn ts x
    → after punctuations.Colon x.1 ≡ Some us → comm_at ts ≡ Some x

abbrev pub StatementsFound : Type 0
StatementsFound = (ts : List Token) (x : Stmt × List Token) → stmt_at OfStmt ts ≡ Some x → IsStmtIn ts x

abbrev pub StatementsRead : Type 0
StatementsRead = (ts : List Token) (x : Stmt × List Token) → IsStmtIn ts x → EndsStatement x.1
    → stmt_at OfStmt ts ≡ Some x
