-- Terminating statements (Go specification, "Terminating statements", cut down to the statements of the language).
use Rattle.std.specs.Prelude.{Bool, true, false, not, ◌&&◌, ◌||◌, List, [], ◌∷◌, None, codes}
use Rattle.std.specs.Str.{bytes_eq}
use Rattle.std.specs.List.{list_all}
use Rattle.golf_syntax_trees.specs.declared.expressions.Expr.{Expr}
use Rattle.golf_syntax_trees.specs.declared.expressions.Expr.TheOpen.{Expr-F, Name, Parens, Call}
use Rattle.golf_syntax_trees.specs.declared.expressions.Expr.TheFolds.{fold-Expr}
use Rattle.golf_syntax_trees.specs.declared.statements.SimpleKind.{SimpleKind}
use Rattle.golf_syntax_trees.specs.declared.statements.SimpleKind.TheVariants as simple
use Rattle.golf_syntax_trees.specs.declared.statements.Header.{Header}
use Rattle.golf_syntax_trees.specs.declared.statements.Header.TheVariants as header
use Rattle.golf_syntax_trees.specs.declared.statements.Stmt.{Stmt}
use Rattle.golf_syntax_trees.specs.declared.statements.Clause.{Clause}
use Rattle.golf_syntax_trees.specs.declared.statements.Clause.TheOpen as S
use Rattle.golf_syntax_trees.specs.declared.statements.Clause.TheOpen.{Stmt-F, Clause-F}
use Rattle.golf_syntax_trees.specs.declared.statements.Clause.TheFolds.{fold-Stmt, fold-Clause}
use Rattle.golf_check_types.specs.declared.endings.Panics.{Panics}
use Rattle.golf_check_types.specs.declared.endings.Terminates.{Terminates}

-- whether an expression is the name `panic`, and whether it is a call of it
abbrev pub panics_step : Expr-F Panics Panics → Panics
panics_step (Name n) = record { named = bytes_eq n (codes "panic"); called = false }
panics_step (Parens e) = e
panics_step (Call f xs) = record { named = false; called = f.named }
panics_step _ = record { named = false; called = false }

abbrev pub panics : Expr → Panics
panics = fold-Expr Panics Panics panics_step (λ x. x.value)

abbrev pub simple_ends : SimpleKind → Bool
simple_ends (simple.Expression e) = (panics e).called
simple_ends _ = false

abbrev pub neither : Terminates
neither = record { ends = false; breaks = false }

-- for statements in order: whether the last one is terminating, and whether one has a break
abbrev pub along : Terminates → List Terminates → Terminates
along found [] = found
along found (e ∷ es) = along (record { ends = e.ends; breaks = found.breaks || e.breaks }) es

abbrev pub of_all : List Terminates → Terminates
of_all es = along neither es

-- whether a header has neither a condition nor a `range`
abbrev pub is_endless : Header → Bool
is_endless header.Forever = true
is_endless (header.Steps first None post) = true
is_endless _ = false

-- Whether a statement is terminating, and whether it has a `break` that leaves the statement around it.
abbrev pub ending_step : Stmt-F Terminates Terminates → Terminates
ending_step (S.Simple x) = record { ends = simple_ends x.kind; breaks = false }
ending_step (S.Return l e) = record { ends = true; breaks = false }
ending_step (S.Break l) = record { ends = false; breaks = true }
ending_step (S.Block l body) = of_all body
ending_step (S.If l first test body) = record { ends = false; breaks = (of_all body).breaks }
ending_step (S.IfElse l first test body otherwise) =
    record { ends = (of_all body).ends && otherwise.ends; breaks = (of_all body).breaks || otherwise.breaks }
ending_step (S.For l h body) = record { ends = is_endless h && not (of_all body).breaks; breaks = false }
ending_step (S.Select l cs) = record { ends = list_all (λ c. c.ends && not c.breaks) cs; breaks = false }
ending_step _ = neither

abbrev pub clause_step : Clause-F Terminates Terminates → Terminates
clause_step (S.Case l c body) = of_all body
clause_step (S.Default l body) = of_all body

abbrev pub ending : Stmt → Terminates
ending = fold-Stmt Terminates Terminates clause_step ending_step

abbrev pub clause_ending : Clause → Terminates
clause_ending = fold-Clause Terminates Terminates clause_step ending_step
