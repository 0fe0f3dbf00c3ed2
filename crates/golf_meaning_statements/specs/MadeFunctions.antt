-- The meaning of function 0, which runs the initialisers of the globals and calls `main`, and of the functions that are
-- made for `go` and `defer` of a built-in operation (Go specification, "Package initialization").
use Rattle.std.specs.Prelude.{◌≡◌, ℕ, ◌+◌, Bool, List, [], ◌∷◌, length, Some, None}
use Rattle.golf_syntax_trees.specs.declared.expressions.Expr.{Expr}
use Rattle.golf_syntax_trees.specs.declared.declarations.Decl.{Decl}
use Rattle.golf_syntax_trees.specs.declared.declarations.Decl.TheVariants as d
use Rattle.golf_syntax_trees.specs.declared.statements.VarContent.{VarContent}
use Rattle.golf_syntax_trees.specs.declared.statements.VarContent.TheVariants as content
use Rattle.golf_data.specs.declared.value.Value.{Value}
use Rattle.golf_data.specs.declared.code.Instr.{Instr}
use Rattle.golf_check_types.specs.declared.scopes.FileScope.{FileScope}
use Rattle.golf_check_types.specs.declared.scopes.Scope.{Scope}
use Rattle.golf_check_types.specs.Files.{outside}
use Rattle.golf_code_of.specs.declared.tables.Tables.{Tables}
use Rattle.golf_code_of.specs.declared.surroundings.Making.{Making}
use Rattle.golf_code_of.specs.Files.{function, made_function, entry_body}
use Rattle.golf_meaning_flat.specs.Worlds.{Answer, Halt, Told, Part, halted}
use Rattle.golf_meaning_flat.specs.Laws.{HasRules, Agree}
use Rattle.golf_meaning_source.specs.Operations.{Gives, gives, both, then_do, Taking, visible}
use Rattle.golf_meaning_source.specs.Exprs.{operation}
use Rattle.golf_meaning_source.specs.ExpressionMeaning.{meant}
use Rattle.golf_meaning_statements.specs.Functions.{begins, CodeMeaning}

-- what is done, and then nothing is returned
abbrev pub then_returns : Part (List Value) → Told
then_returns (Part.Gives vs w) = halted (Halt.Returned None) w.operations
then_returns (Part.Stops h os) = halted h os

-- a function that is made does the one operation that its statement names, on its arguments
abbrev pub MadeMeaning : Taking → Making → List Value → List Answer → ℕ → Told
MadeMeaning taking m arguments answers n =
    then_returns (operation taking (length m.parameters) m.operation [] arguments (begins answers))

-- the value of an expression is stored in the global of this number
abbrev pub set_global : Taking → Tables → Scope → ℕ → ℕ → Expr → Gives
set_global taking t s g l e = then_do (((meant taking t e).does l s).value []) (visible taking (Instr.StoreGlobal g) [])

-- the initialiser of that global
abbrev pub initial_does : Taking → Tables → Scope → ℕ → ℕ → VarContent → Gives
initial_does taking t s g l (content.Zero of_type) = gives []
initial_does taking t s g l (content.Typed of_type e) = set_global taking t s g l e
initial_does taking t s g l (content.Untyped e) = set_global taking t s g l e

-- the initialisers in source order; g is the number of globals declared above
abbrev pub initials_do : Taking → Tables → FileScope → ℕ → List Decl → Gives
initials_do taking t f g [] = gives []
initials_do taking t f g (d.Var v ∷ xs) =
    both (initial_does taking t (record (outside f) { initialises = Some g }) g v.line v.content)
    (initials_do taking t f (g + 1) xs)
initials_do taking t f g (x ∷ xs) = initials_do taking t f g xs

-- function 0: the initialisers, and then the call of `main`
abbrev pub EntryMeaning : Taking → Tables → FileScope → ℕ → List Decl → List Answer → ℕ → Told
EntryMeaning taking t f main xs answers n =
    then_returns (both (initials_do taking t f 0 xs) (visible taking (Instr.Call main 0) [] []) (begins answers))

-- the code of a made function agrees with the operation that its statement names, if that lacks no rule
abbrev pub MadeFunctionsAgree : Type 0
MadeFunctionsAgree = (taking : Taking) (gives : List Bool) (m : Making) (arguments : List Value) (answers : List Answer)
    → length arguments ≡ length m.parameters → HasRules (MadeMeaning taking m arguments answers)
    → Agree (MadeMeaning taking m arguments answers) (CodeMeaning taking.gives (made_function gives m) arguments answers)

-- the code of function 0 agrees with the initialisers and the call of `main`, if these lack no rule
abbrev pub EntryAgrees : Type 0
EntryAgrees = (taking : Taking) (t : Tables) (gives : List Bool) (f : FileScope) (main line : ℕ) (xs : List Decl)
    (answers : List Answer) → HasRules (EntryMeaning taking t f main xs answers)
    → Agree (EntryMeaning taking t f main xs answers)
    (CodeMeaning taking.gives (function gives 0 0 line (entry_body t f main line xs)) [] answers)
