-- The laws of the globals of a file, as statements (Go specification, "Variable declarations", "Package
-- initialization").
use Rattle.std.specs.Prelude.{◌≡◌, ℕ, ◌<◌, List, [], Option}
use Rattle.golf_syntax_trees.specs.declared.expressions.Expr.{Expr}
use Rattle.golf_syntax_trees.specs.declared.declarations.Decl.{Decl}
use Rattle.golf_syntax_trees.specs.declared.declarations.File.{File}
use Rattle.golf_check_types.specs.declared.types.GoType.{GoType}
use Rattle.golf_check_types.specs.declared.scopes.Imports.{Imports}
use Rattle.golf_check_types.specs.declared.scopes.FileScope.{FileScope}
use Rattle.golf_check_types.specs.Scopes.{type_at}
use Rattle.golf_check_types.specs.Judgments.{judge}
use Rattle.golf_check_types.specs.Files.{outside, file_scope, walk_faults, Typed}
use Rattle.golf_code_of.specs.Files.{tables_of}
use Rattle.golf_code_shapes.specs.FileLaws.{initial_scope, scope_of, DeclarationsAreKnown, NamesFit}
use Rattle.golf_code_shapes.specs.NameLaws.{WellNamed}

-- the globals below this number have the same types
abbrev pub SameBelow : ℕ → List (Option GoType) → List (Option GoType) → Type 0
SameBelow g xs ys = (k : ℕ) → k < g → type_at xs k ≡ type_at ys k

-- An initialiser of a global that breaks no rule has the same judgment in each scope in which the globals above it have
-- the same types.
abbrev pub FormsStay : Type 0
FormsStay = (f : FileScope) (globals : List (Option GoType)) (g : ℕ) → SameBelow g globals f.globals
    → (e : Expr) (l : ℕ) → (judge e l (initial_scope f g)).faults ≡ []
    → judge e l (outside (record f { globals = globals })) ≡ judge e l (initial_scope f g)

abbrev pub DeclarationsKnown : Type 0
DeclarationsKnown = (i : Imports) (xs : List Decl) → WellNamed i xs → walk_faults (file_scope i xs) 0 xs ≡ []
    → DeclarationsAreKnown (file_scope i xs) 0 xs

-- the names of a file that breaks no rule fit
abbrev pub NamesFitAll : Type 0
NamesFitAll = (file : File) → Typed file → NamesFit (tables_of file.declarations) (scope_of file) file.declarations
