-- The laws of the functions of a file, as statements.
use Rattle.std.specs.Prelude.{◌≡◌, ℕ, Bool, true, List, [], ◌++◌, map, Option, Some, None}
use Rattle.std.specs.Option.{option_map}
use Rattle.golf_theory.specs.Membership.{Every}
use Rattle.golf_syntax_trees.specs.declared.declarations.Receiver.{Receiver}
use Rattle.golf_syntax_trees.specs.declared.declarations.Func.{Func}
use Rattle.golf_syntax_trees.specs.Statements.{stmts_good, stmt_form}
use Rattle.golf_check_types.specs.declared.types.GoType.{GoType}
use Rattle.golf_check_types.specs.declared.scopes.FileScope.{FileScope}
use Rattle.golf_check_types.specs.declared.scopes.Scope.{Scope}
use Rattle.golf_check_types.specs.Statements as W
use Rattle.golf_check_types.specs.Statements.{behind}
use Rattle.golf_check_types.specs.Files.{outside, result_type, receiver_walk, receiver_type, parameter_walk}
use Rattle.golf_check_types.specs.Files.{all_typed_names, func_walk, body_scope}
use Rattle.golf_model_typing.specs.Types.{Shape, Signature, Types, with_shapes}
use Rattle.golf_model_typing.specs.Shapes.{FunctionFits}
use Rattle.golf_code_of.specs.declared.tables.Tables.{Tables}
use Rattle.golf_code_of.specs.declared.surroundings.Making.{Making}
use Rattle.golf_code_of.specs.Files.{body_part, body_laid, function_of, made_function}
use Rattle.golf_code_shapes.specs.Types.{value_type, known_types}
use Rattle.golf_code_shapes.specs.Sound.{IsKnown, FileFits}
use Rattle.golf_code_shapes.specs.StatementFlow.{IsMaking, MadeFit}

-- the scope outside a function, with its result
abbrev pub result_scope : Scope → Func → Scope
result_scope file f = record file { result = result_type file f.result }

-- the types of the slots of receiver and parameters
abbrev pub parameter_slots : Scope → Func → List (Option GoType)
parameter_slots file f =
    let s = result_scope file f in
    let r = receiver_walk f.line file f.receiver s in
    r.slots ++ (W.in_order (map (parameter_walk f.line) (all_typed_names file f.parameters)) (behind s r)).slots

-- the types of a function: its parameters, its other slots in the order in which they are handed out, and its result
abbrev pub function_signature : Tables → Scope → Func → Signature
function_signature t file f = record {
  params = known_types (parameter_slots file f);
  locals = known_types ((body_part t f).walk (body_scope file f)).slots;
  result = option_map value_type (result_type file f.result);
}

-- the written types of the function are known, it is well formed, and it breaks no rule
pub record FunctionIsFit (file : Scope) (f : Func) : Type 0 where
  pub receiver : (r : Receiver) → f.receiver ≡ Some r → IsKnown (receiver_type file r.type_name)
  pub parameters : Every (λ (p : List ℕ × Option GoType). IsKnown p.1) (all_typed_names file f.parameters)
  pub good : stmts_good (map stmt_form f.body) ≡ true
  pub none : (func_walk f file).faults ≡ []

-- such a function fits its types, if the types of the file's names and of the functions that are made fit
abbrev pub FunctionsFit : Type 0
FunctionsFit = (types : Types) (t : Tables) (gives : List Bool) (names : FileScope) (f : Func) (n : ℕ)
    → FileFits types t names → FunctionIsFit (outside names) f → MadeFit types n (body_laid t (outside names) n f).made
    → ((shapes : List Shape) × FunctionFits types
    (function_of t gives (outside names) f (body_laid t (outside names) n f).piece)
    (with_shapes (function_signature t (outside names) f) shapes))
    × Every IsMaking (body_laid t (outside names) n f).made

-- the types of a function that is made
abbrev pub made_signature : Making → Signature
made_signature m = record { params = known_types m.parameters; locals = []; result = None }

-- a function that is made fits them
abbrev pub MadeFunctionsFit : Type 0
MadeFunctionsFit = (types : Types) (gives : List Bool) (m : Making) → IsMaking m → (shapes : List Shape)
    × FunctionFits types (made_function gives m) (with_shapes (made_signature m) shapes)
