-- The law of the code of a whole file, as a statement: the code has shapes if the names fit.
use Rattle.std.specs.List.{list_all}
use Rattle.golf_theory.specs.Membership.{Every}
use Rattle.std.specs.Prelude.{◌≡◌, ℕ, ◌+◌, true, List, [], ◌∷◌, ◌++◌, length, map, Option, Some, None, slice_get}
use Rattle.golf_syntax_trees.specs.declared.statements.VarContent.{VarContent}
use Rattle.golf_syntax_trees.specs.declared.statements.VarContent.TheVariants as content
use Rattle.golf_syntax_trees.specs.declared.declarations.Receiver.{Receiver}
use Rattle.golf_syntax_trees.specs.declared.declarations.Func.{Func}
use Rattle.golf_syntax_trees.specs.declared.declarations.Decl.{Decl}
use Rattle.golf_syntax_trees.specs.declared.declarations.Decl.TheVariants as d
use Rattle.golf_syntax_trees.specs.declared.declarations.File.{File}
use Rattle.golf_syntax_trees.specs.Declarations.{decl_good}
use Rattle.golf_check_types.specs.declared.types.GoType.{GoType}
use Rattle.golf_check_types.specs.declared.scopes.FileScope.{FileScope}
use Rattle.golf_check_types.specs.declared.scopes.Scope.{Scope}
use Rattle.golf_check_types.specs.Types.{type_given}
use Rattle.golf_check_types.specs.Written.{write_at}
use Rattle.golf_check_types.specs.Expressions.{given_by}
use Rattle.golf_check_types.specs.Judgments.{judge_at}
use Rattle.golf_check_types.specs.declared.operands.Operand.{Operand}
use Rattle.golf_check_types.specs.declared.scopes.Member.{Member}
use Rattle.golf_check_types.specs.Scopes.{file_operand, member}
use Rattle.golf_check_types.specs.Files.{outside, file_scope, with_imports, no_imports, globals_above, receiver_type}
use Rattle.golf_check_types.specs.Files.{all_typed_names, Typed}
use Rattle.golf_model_typing.specs.Types.{Shape, Signature, Types}
use Rattle.golf_model_typing.specs.Shapes.{HasShapes}
use Rattle.golf_code_of.specs.declared.tables.Tables.{Tables}
use Rattle.golf_code_of.specs.declared.surroundings.Making.{Making}
use Rattle.golf_code_of.specs.Files.{functions_from, main_number, tables_of, giving, CodeOf}
use Rattle.golf_code_shapes.specs.Types.{known_types}
use Rattle.golf_code_shapes.specs.Sound.{IsKnown, NameFits, MemberFits}
use Rattle.golf_code_shapes.specs.FunctionLaws.{function_signature, made_signature}

-- The types of the code of a file.

-- function 0 takes nothing and gives nothing
abbrev pub entry_signature : Signature
entry_signature = record { params = []; locals = []; result = None }

abbrev pub own_signatures : Tables → Scope → List Decl → List Signature
own_signatures t file [] = []
own_signatures t file (d.Func f ∷ xs) = function_signature t file f ∷ own_signatures t file xs
own_signatures t file (x ∷ xs) = own_signatures t file xs

abbrev pub made_in : Tables → FileScope → List Decl → List Making
made_in t f xs = (functions_from t (giving f) (outside f) (length f.functions + 1) xs).made

abbrev pub types_of_code : Tables → FileScope → List Decl → Types
types_of_code t f xs = record {
  structs = map known_types f.fields;
  globals = known_types f.globals;
  functions = entry_signature ∷ (own_signatures t (outside f) xs ++ map made_signature (made_in t f xs));
  texts = length t.texts;
}

-- What is asked of the names of a file: they mean what the types of the code say.

-- the scope in which the global of this number is initialised
abbrev pub initial_scope : FileScope → ℕ → Scope
initial_scope f g = record (outside f) { initialises = Some g }

abbrev pub initial_type : ℕ → VarContent → Scope → Option GoType
initial_type l (content.Zero w) s = (write_at l s w).type
initial_type l (content.Typed w e) s = (write_at l s w).type
initial_type l (content.Untyped e) s = type_given (given_by (judge_at l s e))

-- the global of this number has the type of its initial value
pub record GlobalIsKnown (f : FileScope) (g l : ℕ) (c : VarContent) : Type 0 where
  pub of_type : GoType
  pub begins : initial_type l c (initial_scope f g) ≡ Some of_type
  pub known : slice_get f.globals g ≡ Some (Some of_type)

-- receiver and parameters have types
pub record ParametersAreKnown (file : Scope) (f : Func) : Type 0 where
  pub receiver : (r : Receiver) → f.receiver ≡ Some r → IsKnown (receiver_type file r.type_name)
  pub parameters : Every (λ (p : List ℕ × Option GoType). IsKnown p.1) (all_typed_names file f.parameters)

abbrev pub DeclarationIsKnown : FileScope → ℕ → Decl → Type 0
DeclarationIsKnown f g (d.Var v) = GlobalIsKnown f g v.line v.content
DeclarationIsKnown f g (d.Func x) = ParametersAreKnown (outside f) x
DeclarationIsKnown f g _ = Unit {0}

-- the declarations from here on; g is the number of globals declared above
abbrev pub DeclarationsAreKnown : FileScope → ℕ → List Decl → Type 0
DeclarationsAreKnown f g [] = Unit {0}
DeclarationsAreKnown f g (x ∷ xs) = DeclarationIsKnown f g x × DeclarationsAreKnown f (globals_above g x) xs

pub record NamesFit (t : Tables) (f : FileScope) (xs : List Decl) : Type 0 where
  pub names : (n : List ℕ) (m : Operand) → file_operand f n ≡ Some m → NameFits (types_of_code t f xs) t f m
  pub members : (k : ℕ) (n : List ℕ) (m : Member) → member f k n ≡ Some m → MemberFits (types_of_code t f xs) t f k m
  pub declarations : DeclarationsAreKnown f 0 xs
  pub main : (callee : Signature) × (slice_get (types_of_code t f xs).functions (main_number f) ≡ Some callee)
      × (callee.params ≡ []) × (callee.result ≡ None)

-- the names of a file
abbrev pub scope_of : File → FileScope
scope_of file = file_scope (with_imports no_imports file.imports) file.declarations

abbrev pub types_of_file : File → Types
types_of_file file = types_of_code (tables_of file.declarations) (scope_of file) file.declarations

-- a well-formed file that breaks no rule, and whose names fit, has code that has shapes
abbrev pub FilesFit : Type 0
FilesFit = (file : File) → Typed file → list_all decl_good file.declarations ≡ true
    → NamesFit (tables_of file.declarations) (scope_of file) file.declarations
    → (shapes : List (List Shape)) × HasShapes (CodeOf file) (record { of = types_of_file file; shapes = shapes })
