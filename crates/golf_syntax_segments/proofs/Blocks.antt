-- What statements, imports and declarations print has its brackets in pairs.
-- For: `print_stmt`, golf_syntax_trees/specs/Statements.antt; `files_are_segments`, src/laws.rt
-- By: induction over the tree of a statement; for imports and declarations, cases of their parts
use Rattle.std.proofs.Common.{ℕ, Bool, true, false, List, [], ◌∷◌, ◌++◌, map, refl, sym, subst}
use Rattle.std.specs.Prelude.{Option, Some, None}
use Rattle.golf_lex_tokens.specs.declared.token.Punctuation.TheVariants as punctuations
use Rattle.golf_syntax_trees.specs.declared.types.TypeExpr.{TypeExpr}
use Rattle.golf_syntax_trees.specs.declared.expressions.Expr.{Expr}
use Rattle.golf_syntax_trees.specs.declared.statements.Simple.{Simple}
use Rattle.golf_syntax_trees.specs.declared.statements.Stmt.{Stmt, roll-Stmt}
use Rattle.golf_syntax_trees.specs.declared.statements.Clause.{Clause, roll-Clause}
use Rattle.golf_syntax_trees.specs.declared.statements.Clause.TheOpen as F
use Rattle.golf_syntax_trees.specs.declared.statements.Clause.TheFolds.{fold-roll-Stmt, fold-roll-Clause, map-Stmt}
use Rattle.golf_syntax_trees.specs.declared.statements.Clause.TheFolds.{map-Clause}
use Rattle.golf_syntax_trees.proofs.StatementInduction.{KnownClause, bare_clauses, ClauseLayer, StmtLayer, bare_clause}
use Rattle.golf_syntax_trees.proofs.StatementInduction.{bare_stmt, every-stmt}
use Rattle.golf_syntax_trees.specs.declared.declarations.Const.{Const}
use Rattle.golf_syntax_trees.specs.declared.declarations.Const.TheVariants as const
use Rattle.golf_syntax_trees.specs.declared.declarations.Import.{Import}
use Rattle.golf_syntax_trees.specs.declared.declarations.Import.TheVariants as imports
use Rattle.golf_syntax_trees.specs.declared.declarations.Field.{Field}
use Rattle.golf_syntax_trees.specs.declared.declarations.Receiver.{Receiver}
use Rattle.golf_syntax_trees.specs.declared.declarations.Func.{Func}
use Rattle.golf_syntax_trees.specs.declared.declarations.Decl.{Decl}
use Rattle.golf_syntax_trees.specs.declared.declarations.Decl.TheVariants as d
use Rattle.golf_syntax_trees.specs.Words as words
use Rattle.golf_syntax_trees.specs.Words.{Word}
use Rattle.golf_syntax_trees.specs.Types.{print_type}
use Rattle.golf_syntax_trees.specs.Expressions.{print_expr}
use Rattle.golf_syntax_trees.specs.Simple.{print_simple, optional}
use Rattle.golf_syntax_trees.specs.Statements.{print_call, ClauseWords, clauses, print_block, print_stmt_step}
use Rattle.golf_syntax_trees.specs.Statements.{print_clause_step, print_stmt, print_clause}
use Rattle.golf_syntax_trees.specs.Declarations.{print_const, text, print_import, print_field, print_receiver}
use Rattle.golf_syntax_trees.specs.Declarations.{print_func, print_decl}
use Rattle.golf_syntax_segments.proofs.Nested.{Nested, none, semicolon, append, weaken, on-line, one, parens, braces}
use Rattle.golf_syntax_segments.proofs.Nested.{Each, each-print, each-known, commas, semicolons, all-closed}
use Rattle.golf_syntax_segments.proofs.Trees.{type-nested, expr-inside, simple-nested, var-nested, optional-nested}
use Rattle.golf_syntax_segments.proofs.Trees.{header-nested, comm-nested}

abbrev StmtIs : Stmt → Type 0
StmtIs x = Nested true (print_stmt x)

abbrev WordsAre : ClauseWords → Type 0
WordsAre c = Nested true c.opening × Each c.body

abbrev ClauseIs : Clause → Type 0
ClauseIs c = WordsAre (print_clause c)

abbrev EachClause : List ClauseWords → Type 0
EachClause [] = Unit {0}
EachClause (c ∷ cs) = WordsAre c × EachClause cs

each-clause : (cs : List (KnownClause ClauseIs)) → EachClause (map print_clause (bare_clauses ClauseIs cs))
each-clause [] = tt
each-clause (c ∷ cs) = (c.1, each-clause cs)

clauses-nested : (cs : List ClauseWords) → EachClause cs → Nested true (clauses cs)
clauses-nested [] e = none true
clauses-nested (c ∷ []) e = append true _ _ e.0.0 (semicolons c.body e.0.1)
clauses-nested (c ∷ b ∷ cs) e = append true _ _ e.0.0
    (append true _ _ (all-closed c.body e.0.1) (clauses-nested (b ∷ cs) e.1))

call-nested : (f : Expr) (xs : List Expr) → Nested true (print_call f xs)
call-nested f xs = append true _ _ (expr-inside f)
    (parens true _ _ (commas _ (each-print Expr print_expr expr-inside xs)) (none true))

block-nested : (b : Bool) (body : List (List Word)) → Each body → Nested b (print_block body)
block-nested b body e = braces b _ _ (semicolons body e) (none b)

in-front : (x : Simple) → Nested true (print_simple x ++ words.punctuation punctuations.Semicolon ∷ [])
in-front x = append true _ _ (weaken false _ (simple-nested x)) (semicolon None _ (none true))

front-nested : (o : Option Simple) → Nested true
    (optional (λ x. print_simple x ++ words.punctuation punctuations.Semicolon ∷ []) o)
front-nested o = optional-nested Simple (λ x. print_simple x ++ words.punctuation punctuations.Semicolon ∷ []) in-front
    o

stmt-at : (y : StmtLayer ClauseIs StmtIs)
    → Nested true (print_stmt_step (map-Stmt Clause Stmt ClauseWords (List Word) print_clause print_stmt
    (bare_stmt ClauseIs StmtIs y)))
stmt-at (F.Var v) = weaken false _ (var-nested v)
stmt-at (F.Simple x) = weaken false _ (simple-nested x)
stmt-at (F.Go l f xs) = on-line true l _ (one true _ _ refl (call-nested f xs))
stmt-at (F.Defer l f xs) = on-line true l _ (one true _ _ refl (call-nested f xs))
stmt-at (F.Return l e) = on-line true l _ (one true _ _ refl (optional-nested Expr print_expr expr-inside e))
stmt-at (F.Break l) = on-line true l _ (one true _ _ refl (none true))
stmt-at (F.Continue l) = on-line true l _ (one true _ _ refl (none true))
stmt-at (F.Block l b) = on-line true l _ (block-nested true _ (each-known Stmt true print_stmt b))
stmt-at (F.If l i e b) = on-line true l _
    (one true _ _ refl (append true _ _ (front-nested i)
    (append true _ _ (expr-inside e) (block-nested true _ (each-known Stmt true print_stmt b)))))
stmt-at (F.IfElse l i e b o) =
    on-line true l _ (one true _ _ refl (append true _ _ (front-nested i)
    (append true _ _ (expr-inside e) (append true _ _ (block-nested true _ (each-known Stmt true print_stmt b))
    (one true _ _ refl o.1)))))
stmt-at (F.For l h b) = on-line true l _
    (one true _ _ refl (append true _ _ (header-nested h) (block-nested true _ (each-known Stmt true print_stmt b))))
stmt-at (F.Select l cs) = on-line true l _
    (one true _ _ refl (braces true _ _ (clauses-nested _ (each-clause cs)) (none true)))

clause-at : (y : ClauseLayer ClauseIs StmtIs)
    → WordsAre (print_clause_step (map-Clause Clause Stmt ClauseWords (List Word) print_clause print_stmt
    (bare_clause ClauseIs StmtIs y)))
clause-at (F.Case l c b) = (
  on-line true l _
      (one true _ _ refl (append true _ _ (comm-nested c) (one true _ _ refl (none true)))),
  each-known Stmt true print_stmt b,
)
clause-at (F.Default l b) = (
  on-line true l _ (one true _ _ refl (one true _ _ refl (none true))),
  each-known Stmt true print_stmt b,
)

stmt-rolled : (y : StmtLayer ClauseIs StmtIs) → StmtIs (roll-Stmt (bare_stmt ClauseIs StmtIs y))
stmt-rolled y = subst (Nested true) (sym
    (fold-roll-Stmt ClauseWords (List Word) print_clause_step print_stmt_step (bare_stmt ClauseIs StmtIs y)))
    (stmt-at y)

clause-rolled : (y : ClauseLayer ClauseIs StmtIs) → ClauseIs (roll-Clause (bare_clause ClauseIs StmtIs y))
clause-rolled y = subst WordsAre (sym (fold-roll-Clause ClauseWords (List Word) print_clause_step print_stmt_step
    (bare_clause ClauseIs StmtIs y))) (clause-at y)

pub stmt-nested : (x : Stmt) → Nested true (print_stmt x)
stmt-nested = every-stmt ClauseIs StmtIs clause-rolled stmt-rolled

text-nested : (b : Bool) (bytes : List ℕ) → Nested b (text bytes)
text-nested b bytes = one b _ _ refl (none b)

pub import-nested : (i : Import) → Nested false (print_import i)
import-nested (imports.One l path) = on-line false l _ (one false _ _ refl (text-nested false path))
import-nested (imports.Group l paths) = on-line false l _
    (one false _ _ refl (parens false _ _ (semicolons _ (each-print (List ℕ) text (text-nested true) paths))
    (none false)))

const-nested : (c : Const) → Nested false (print_const c)
const-nested (const.Integer digits) = one false _ _ refl (none false)
const-nested (const.Negative digits) = one false _ _ refl (one false _ _ refl (none false))
const-nested (const.Text bytes) = one false _ _ refl (none false)
const-nested const.True = one false _ _ refl (none false)
const-nested const.False = one false _ _ refl (none false)

more-names : (ns : List (List ℕ)) → Nested true (words.behind punctuations.Comma (map (λ n. words.name n ∷ []) ns))
more-names [] = none true
more-names (n ∷ ns) = one true _ _ refl (one true _ _ refl (more-names ns))

field-nested : (f : Field) → Nested true (print_field f)
field-nested f = one true _ _ refl (append true _ _ (more-names f.more) (weaken false _ (type-nested f.of_type)))

receiver-nested : (o : Option Receiver) → Nested false (optional print_receiver o)
receiver-nested None = none false
receiver-nested (Some r) = parens false _ _ (one true _ _ refl (one true _ _ refl (one true _ _ refl (none true))))
    (none false)

result-nested : (o : Option TypeExpr) → Nested false (optional print_type o)
result-nested None = none false
result-nested (Some t) = type-nested t

func-nested : (f : Func) → Nested false (print_func f)
func-nested f =
    on-line false f.line _ (one false _ _ refl
    (append false _ _ (receiver-nested f.receiver)
    (one false _ _ refl (parens false _ _ (commas _ (each-print Field print_field field-nested f.parameters))
    (append false _ _ (result-nested f.result)
    (block-nested false _ (each-print Stmt print_stmt stmt-nested f.body)))))))

pub decl-nested : (x : Decl) → Nested false (print_decl x)
decl-nested (d.Const l n value) = on-line false l _
    (one false _ _ refl (one false _ _ refl (one false _ _ refl (const-nested value))))
decl-nested (d.Var v) = var-nested v
decl-nested (d.Struct l n fields) =
    on-line false l _ (one false _ _ refl (one false _ _ refl
    (one false _ _ refl (braces false _ _ (semicolons _ (each-print Field print_field field-nested fields))
    (none false)))))
decl-nested (d.Func f) = func-nested f
