-- The rules that a file breaks, in the order of the walk (Go specification, "Source file organization", "Declarations
-- and scope", "Packages", "Program execution").
use Rattle.std.specs.Prelude.{◌≡◌, ℕ, ◌+◌, ◌==◌, Bool, true, false, not, ◌&&◌, ◌||◌, nat_le, cond, is_none, fold, List}
use Rattle.std.specs.Prelude.{[], ◌∷◌, ◌++◌, length, map, flat_map, slice_get, slice_set, Option, Some, None, codes}
use Rattle.std.specs.Prelude.{pos, neg_ℤ}
use Rattle.std.specs.Option.{option_and_then, option_map}
use Rattle.std.specs.Str.{bytes_eq}
use Rattle.golf_syntax_trees.specs.declared.types.TypeExpr.{TypeExpr}
use Rattle.golf_syntax_trees.specs.declared.statements.VarContent.{VarContent}
use Rattle.golf_syntax_trees.specs.declared.statements.VarContent.TheVariants as content
use Rattle.golf_syntax_trees.specs.declared.declarations.Import.{Import}
use Rattle.golf_syntax_trees.specs.declared.declarations.Import.TheVariants as import
use Rattle.golf_syntax_trees.specs.declared.declarations.Const.{Const}
use Rattle.golf_syntax_trees.specs.declared.declarations.Const.TheVariants as const
use Rattle.golf_syntax_trees.specs.declared.declarations.Field.{Field}
use Rattle.golf_syntax_trees.specs.declared.declarations.Receiver.{Receiver}
use Rattle.golf_syntax_trees.specs.declared.declarations.Func.{Func}
use Rattle.golf_syntax_trees.specs.declared.declarations.Decl.{Decl}
use Rattle.golf_syntax_trees.specs.declared.declarations.Decl.TheVariants as d
use Rattle.golf_syntax_trees.specs.declared.declarations.File.{File}
use Rattle.golf_check_types.specs.declared.rules.TheConstants.{WRONG_IMPORT, NOT_DECLARABLE, WRONG_MEMBER, NO_MAIN}
use Rattle.golf_check_types.specs.declared.rules.TheConstants.{NOT_ASSIGNABLE, NOT_TERMINATING, TOO_LARGE}
use Rattle.golf_check_types.specs.declared.rules.TheConstants.{NIL_WITHOUT_TYPE}
use Rattle.golf_check_types.specs.declared.types.Base.{Base}
use Rattle.golf_check_types.specs.declared.types.Base.TheVariants as base
use Rattle.golf_check_types.specs.declared.types.GoType.{GoType}
use Rattle.golf_check_types.specs.declared.operands.Package.{Package}
use Rattle.golf_check_types.specs.declared.operands.Package.TheVariants as packages
use Rattle.golf_check_types.specs.declared.operands.Signature.{Signature}
use Rattle.golf_check_types.specs.declared.facts.Fact.{Fact}
use Rattle.golf_check_types.specs.declared.facts.Fact.TheVariants as fact
use Rattle.golf_check_types.specs.declared.scopes.Imports.{Imports}
use Rattle.golf_check_types.specs.declared.scopes.Entity.{Entity}
use Rattle.golf_check_types.specs.declared.scopes.Entity.TheVariants as meant
use Rattle.golf_check_types.specs.declared.scopes.Member.{Member}
use Rattle.golf_check_types.specs.declared.scopes.Member.TheVariants as member_as
use Rattle.golf_check_types.specs.declared.scopes.Members.{Members}
use Rattle.golf_check_types.specs.declared.scopes.Naming.{Naming}
use Rattle.golf_check_types.specs.declared.scopes.FileScope.{FileScope}
use Rattle.golf_check_types.specs.declared.scopes.Scope.{Scope}
use Rattle.golf_check_types.specs.Faults.{Fault, broken}
use Rattle.golf_check_types.specs.Types.{plain, type_given, is_nil, assignable}
use Rattle.golf_check_types.specs.Names.{number_of, with_name, is_number, is_blank}
use Rattle.golf_check_types.specs.Scopes.{is_reserved, may_be_declared, meaning, meaning_in, kind_in}
use Rattle.golf_check_types.specs.Written.{write_at, pointer_to}
use Rattle.golf_check_types.specs.Expressions.{facts_of, used, given_by, value_from, fits_int}
use Rattle.golf_check_types.specs.Judgments.{judge_at}
use Rattle.golf_check_types.specs.Statements.{Walk, Walked, nothing, breaks, judges, told, declares_one, behind}
use Rattle.golf_check_types.specs.Statements.{in_order, walk}
use Rattle.golf_check_types.specs.Endings.{of_all, ending}

-- Imports: rule 1.

unfoldable pub package_of : List ℕ → Option Package
package_of path =
    cond (bytes_eq path (codes "fmt")) (Some packages.Fmt)
    (cond (bytes_eq path (codes "runtime")) (Some packages.Runtime)
    (cond (bytes_eq path (codes "sync")) (Some packages.Sync) None))

-- whether the package is known and not imported yet
abbrev pub is_new_import : Imports → Option Package → Bool
is_new_import i None = false
is_new_import i (Some packages.Fmt) = not i.fmt
is_new_import i (Some packages.Runtime) = not i.runtime
is_new_import i (Some packages.Sync) = not i.sync

abbrev pub with_import : Imports → Option Package → Imports
with_import i None = i
with_import i (Some packages.Fmt) = record i { fmt = true }
with_import i (Some packages.Runtime) = record i { runtime = true }
with_import i (Some packages.Sync) = record i { sync = true }

abbrev pub path_faults : ℕ → Imports → List (List ℕ) → List Fault
path_faults l i [] = []
path_faults l i (p ∷ ps) = broken l WRONG_IMPORT (is_new_import i (package_of p))
    ++ path_faults l (with_import i (package_of p)) ps

abbrev pub with_paths : Imports → List (List ℕ) → Imports
with_paths i [] = i
with_paths i (p ∷ ps) = with_paths (with_import i (package_of p)) ps

abbrev pub import_line : Import → ℕ
import_line (import.One l p) = l
import_line (import.Group l ps) = l

abbrev pub import_paths : Import → List (List ℕ)
import_paths (import.One l p) = p ∷ []
import_paths (import.Group l ps) = ps

abbrev pub import_faults : Imports → List Import → List Fault
import_faults i [] = []
import_faults i (x ∷ xs) = path_faults (import_line x) i (import_paths x)
    ++ import_faults (with_paths i (import_paths x)) xs

abbrev pub with_imports : Imports → List Import → Imports
with_imports i [] = i
with_imports i (x ∷ xs) = with_imports (with_paths i (import_paths x)) xs

abbrev pub no_imports : Imports
no_imports = record { fmt = false; runtime = false; sync = false }

-- The meanings of the names of the file.

abbrev pub const_base : Const → Base
const_base (const.Integer n) = base.Int
const_base (const.Negative n) = base.Int
const_base (const.Text t) = base.Text
const_base const.True = base.Bool
const_base const.False = base.Bool

abbrev pub field_names : Field → List (List ℕ)
field_names f = f.first ∷ f.more

-- adds one more field of a struct; fields are numbered in order
abbrev pub with_field : Members → List ℕ → Members
with_field m n = record {
  names = with_name m.names n (length m.kinds);
  kinds = m.kinds
      ++ member_as.Field (length m.kinds) ∷ [];
}

abbrev pub no_members : Members
no_members = record { names = []; kinds = [] }

abbrev pub members_of : List Field → Members
members_of fields = fold with_field no_members (flat_map field_names fields)

-- adds one more name
abbrev pub name_added : Naming → List ℕ → Entity → Naming
name_added k n m = record k { names = with_name k.names n (length k.entities); entities = k.entities ++ m ∷ [] }

abbrev pub function_added : Naming → Option Receiver → List ℕ → Naming
function_added k None n = record (name_added k n (meant.Function k.functions)) { functions = k.functions + 1 }
function_added k (Some r) n = record k { functions = k.functions + 1 }

-- the names after one more declaration; a method adds no name
abbrev pub decl_added : Naming → Decl → Naming
decl_added k (d.Const l n c) = record (name_added k n
    (meant.Constant k.constants (const_base c))) { constants = k.constants + 1 }
decl_added k (d.Var v) = record (name_added k v.name (meant.Global k.globals)) { globals = k.globals + 1 }
decl_added k (d.Struct l n fields) = record (name_added k n (meant.Struct (length k.structs))) {
  structs = k.structs
      ++ members_of fields ∷ [];
}
decl_added k (d.Func f) = function_added k f.receiver f.name

abbrev pub no_names : Naming
no_names = record { constants = 0; globals = 0; functions = 0; names = []; entities = []; structs = [] }

abbrev pub naming_of : List Decl → Naming
naming_of xs = fold decl_added no_names xs

abbrev pub struct_number : Option Entity → Option ℕ
struct_number (Some (meant.Struct k)) = Some k
struct_number _ = None

-- the struct of the file with this name
abbrev pub struct_named : Naming → List ℕ → Option ℕ
struct_named k n = struct_number (option_and_then (slice_get k.entities) (number_of k.names n))

-- Methods come after all fields, in source order.

abbrev pub with_method : Members → List ℕ → ℕ → Members
with_method m n f = record { names = with_name m.names n (length m.kinds); kinds = m.kinds ++ member_as.Method f ∷ [] }

abbrev pub method_put : List Members → ℕ → Option Members → List ℕ → ℕ → List Members
method_put structs k None n f = structs
method_put structs k (Some m) n f = slice_set structs k (with_method m n f)

abbrev pub method_added : List Members → Option ℕ → List ℕ → ℕ → List Members
method_added structs None n f = structs
method_added structs (Some k) n f = method_put structs k (slice_get structs k) n f

abbrev pub receiver_struct : Naming → Option Receiver → Option ℕ
receiver_struct k None = None
receiver_struct k (Some r) = struct_named k r.type_name

-- the members after these declarations; f is the number of functions and methods declared above
abbrev pub methods_added : Naming → ℕ → List Members → List Decl → List Members
methods_added k f structs [] = structs
methods_added k f structs (d.Func x ∷ xs) =
    methods_added k (f + 1) (method_added structs (receiver_struct k x.receiver) x.name f) xs
methods_added k f structs (x ∷ xs) = methods_added k f structs xs

-- The declared names: rules 2 and 5.

-- how many declarations of each kind are above
pub record Above : Type 0 where
  pub names : ℕ
  pub structs : ℕ
  pub functions : ℕ

-- how many names a function adds; a method adds no name of the file
abbrev pub function_names : Option Receiver → ℕ
function_names None = 1
function_names (Some r) = 0

abbrev pub names_in : Decl → ℕ
names_in (d.Func f) = function_names f.receiver
names_in x = 1

abbrev pub structs_in : Decl → ℕ
structs_in (d.Struct l n fields) = 1
structs_in x = 0

abbrev pub functions_in : Decl → ℕ
functions_in (d.Func f) = 1
functions_in x = 0

abbrev pub next_above : Above → Decl → Above
next_above a x = record {
  names = a.names + names_in x;
  structs = a.structs + structs_in x;
  functions = a.functions + functions_in x;
}

-- Rule 2: the name is neither `_` nor reserved, and no declaration above has it.
unfoldable pub may_be_named : FileScope → ℕ → List ℕ → Bool
may_be_named f at n = not (is_blank n) && (not (is_reserved n) && is_number (number_of f.names n) at)

abbrev pub is_field : Option Member → ℕ → Bool
is_field (Some (member_as.Field j)) i = j == i
is_field _ i = false

abbrev pub is_method : Option Member → ℕ → Bool
is_method (Some (member_as.Method g)) f = g == f
is_method _ f = false

abbrev pub kind_of : List Members → ℕ → List ℕ → Option Member
kind_of structs k n = option_and_then (λ m. kind_in m n) (slice_get structs k)

-- whether each name is the field of its own number, counted from i
abbrev pub fields_are : List Members → ℕ → ℕ → List (List ℕ) → Bool
fields_are structs k i [] = true
fields_are structs k i (n ∷ ns) = is_field (kind_of structs k n) i && fields_are structs k (i + 1) ns

abbrev pub method_is : List Members → Option ℕ → List ℕ → ℕ → Bool
method_is structs None n f = false
method_is structs (Some k) n f = is_method (kind_of structs k n) f

-- Rule 2, and a function is not named `init`; rule 5 for a method.
abbrev pub function_faults : FileScope → Above → Func → Option Receiver → List Fault
function_faults f a x None = broken x.line NOT_DECLARABLE
    (may_be_named f a.names x.name && not (bytes_eq x.name (codes "init")))
function_faults f a x (Some r) = broken x.line WRONG_MEMBER
    (method_is f.structs (struct_number (meaning_in f r.type_name)) x.name a.functions)

abbrev pub name_faults : FileScope → Above → Decl → List Fault
name_faults f a (d.Const l n c) = broken l NOT_DECLARABLE (may_be_named f a.names n)
name_faults f a (d.Var v) = broken v.line NOT_DECLARABLE (may_be_named f a.names v.name)
name_faults f a (d.Struct l n fields) = broken l NOT_DECLARABLE (may_be_named f a.names n)
    ++ broken l WRONG_MEMBER (fields_are f.structs a.structs 0 (flat_map field_names fields)
    && nat_le (length (flat_map field_names fields)) 64)
name_faults f a (d.Func x) = function_faults f a x x.receiver

abbrev pub names_faults : FileScope → Above → List Decl → List Fault
names_faults f a [] = []
names_faults f a (x ∷ xs) = name_faults f a x ++ names_faults f (next_above a x) xs

-- The written types: rules 3 and 4.

abbrev pub field_fault : ℕ → Scope → Field → List Fault
field_fault l s f = (write_at l s f.of_type).faults

abbrev pub content_faults : ℕ → Scope → VarContent → List Fault
content_faults l s (content.Zero t) = (write_at l s t).faults
content_faults l s (content.Typed t e) = (write_at l s t).faults
content_faults l s (content.Untyped e) = []

abbrev pub result_fault : ℕ → Scope → Option TypeExpr → List Fault
result_fault l s None = []
result_fault l s (Some t) = (write_at l s t).faults

abbrev pub type_faults : Scope → Decl → List Fault
type_faults s (d.Const l n c) = []
type_faults s (d.Var v) = content_faults v.line s v.content
type_faults s (d.Struct l n fields) = flat_map (field_fault l s) fields
type_faults s (d.Func f) = flat_map (field_fault f.line s) f.parameters ++ result_fault f.line s f.result

-- `main`: rule 6.

abbrev pub is_bare : Func → Option Receiver → List Field → Option TypeExpr → Bool
is_bare f None [] None = true
is_bare f _ _ _ = false

unfoldable pub is_main : List ℕ → Bool
is_main n = bytes_eq n (codes "main")

-- whether the declaration is a function without receiver, parameters and result
abbrev pub fits_main : Decl → Bool
fits_main (d.Func f) = is_bare f f.receiver f.parameters f.result
fits_main _ = false

abbrev pub is_main_function : Option Receiver → List ℕ → Bool
is_main_function None n = is_main n
is_main_function (Some r) n = false

abbrev pub declares_main : Decl → Bool
declares_main (d.Const l n c) = is_main n
declares_main (d.Var v) = is_main v.name
declares_main (d.Struct l n fields) = is_main n
declares_main (d.Func f) = is_main_function f.receiver f.name

abbrev pub line_of : Decl → ℕ
line_of (d.Const l n c) = l
line_of (d.Var v) = v.line
line_of (d.Struct l n fields) = l
line_of (d.Func f) = f.line

abbrev pub main_faults : List Decl → List Fault
main_faults [] = broken 1 NO_MAIN false
main_faults (x ∷ xs) = cond (declares_main x) (broken (line_of x) NO_MAIN (fits_main x)) (main_faults xs)

-- The types that the declarations write.

-- each name with its type
abbrev pub typed_names : Scope → Field → List (List ℕ × Option GoType)
typed_names s f = map (λ n. (n, (write_at 0 s f.of_type).type)) (field_names f)

abbrev pub all_typed_names : Scope → List Field → List (List ℕ × Option GoType)
all_typed_names s fields = flat_map (typed_names s) fields

abbrev pub types_alone : List (List ℕ × Option GoType) → List (Option GoType)
types_alone ps = map (λ p. p.1) ps

abbrev pub struct_types : Scope → Decl → List (List (Option GoType))
struct_types s (d.Struct l n fields) = types_alone (all_typed_names s fields) ∷ []
struct_types s _ = []

abbrev pub content_type : Scope → VarContent → Option GoType
content_type s (content.Zero t) = (write_at 0 s t).type
content_type s (content.Typed t e) = (write_at 0 s t).type
content_type s (content.Untyped e) = None

abbrev pub global_types : Scope → Decl → List (Option GoType)
global_types s (d.Var v) = content_type s v.content ∷ []
global_types s _ = []

abbrev pub result_type : Scope → Option TypeExpr → Option GoType
result_type s None = None
result_type s (Some t) = (write_at 0 s t).type

abbrev pub signature_of : Scope → Func → Signature
signature_of s f = record { parameters = types_alone (all_typed_names s f.parameters); result = result_type s f.result }

abbrev pub function_types : Scope → Decl → List Signature
function_types s (d.Func f) = signature_of s f ∷ []
function_types s _ = []

-- the scope outside all functions
abbrev pub outside : FileScope → Scope
outside f = record {
  file = f;
  locals = [];
  depth = 0;
  result = None;
  breaks = false;
  loops = false;
  next = 0;
  initialises = None;
}

-- the names of the file without types
abbrev pub bare_file : Imports → List Decl → FileScope
bare_file i xs = record {
  imports = i;
  names = (naming_of xs).names;
  entities = (naming_of xs).entities;
  structs = methods_added (naming_of xs) 0 (naming_of xs).structs xs;
  fields = [];
  globals = [];
  functions = [];
}

abbrev pub with_types : FileScope → List Decl → FileScope
with_types f xs = record f {
  fields = flat_map (struct_types (outside f)) xs;
  globals = flat_map (global_types (outside f)) xs;
  functions = flat_map (function_types (outside f)) xs;
}

-- A global without a written type has the type of its initialiser, judged with the types of the globals above it.

abbrev pub formed_content : FileScope → ℕ → ℕ → VarContent → FileScope
formed_content f l g (content.Untyped e) =
    record f { globals = slice_set f.globals g (type_given (given_by (judge_at l (outside f) e))) }
formed_content f l g _ = f

abbrev pub with_forms : FileScope → ℕ → List Decl → FileScope
with_forms f g [] = f
with_forms f g (d.Var v ∷ xs) = with_forms (formed_content f v.line g v.content) (g + 1) xs
with_forms f g (x ∷ xs) = with_forms f g xs

-- the scope of a file: what its names mean
abbrev pub file_scope : Imports → List Decl → FileScope
file_scope i xs = with_forms (with_types (bare_file i xs) xs) 0 xs

-- Constants, initialisers and bodies.

-- Rule 19.
abbrev pub const_faults : ℕ → Const → List Fault
const_faults l (const.Integer n) = broken l TOO_LARGE (fits_int n)
const_faults l (const.Negative n) = broken l TOO_LARGE (fits_int n)
const_faults l _ = []

-- the value of an integer
abbrev pub const_facts : Const → List Fact
const_facts (const.Integer n) = fact.Number (pos (value_from 0 n)) ∷ []
const_facts (const.Negative n) = fact.Number (neg_ℤ (pos (value_from 0 n))) ∷ []
const_facts _ = []

-- Rules 9 and 23 for the initialiser of a global.
abbrev pub initial_walk : ℕ → VarContent → Scope → Walked
initial_walk l (content.Zero t) s = nothing
initial_walk l (content.Typed t e) s = judges
    (used l (judge_at l s e) ++ broken l NOT_ASSIGNABLE (assignable (given_by (judge_at l s e)) (write_at l s t).type))
    (facts_of (judge_at l s e))
initial_walk l (content.Untyped e) s = judges
    (used l (judge_at l s e) ++ broken l NIL_WITHOUT_TYPE (not (is_nil (given_by (judge_at l s e)))))
    (facts_of (judge_at l s e))

-- Rule 2 for receivers and parameters.
abbrev pub parameter : ℕ → Option GoType → List ℕ → Walk
parameter l t n s = declares_one s n t (broken l NOT_DECLARABLE (may_be_declared s n)) []

abbrev pub parameter_walk : ℕ → List ℕ × Option GoType → Walk
parameter_walk l p = parameter l p.1 p.0

abbrev pub receiver_type : Scope → List ℕ → Option GoType
receiver_type file n = option_map plain (pointer_to (meaning file n))

abbrev pub receiver_walk : ℕ → Scope → Option Receiver → Walk
receiver_walk l file None s = nothing
receiver_walk l file (Some r) s = parameter l (receiver_type file r.type_name) r.name s

-- Rule 14.
abbrev pub end_faults : Func → List Fault
end_faults f = broken f.line NOT_TERMINATING (is_none f.result || (of_all (map ending f.body)).ends)

-- Receiver, parameters and result have the types that the scope of the file gives.

-- the scope in which receiver and parameters are declared
abbrev pub head_scope : Scope → Func → Scope
head_scope file f = record file { result = result_type file f.result }

abbrev pub parts_walk : Func → Scope → Walk
parts_walk f file = in_order
    (receiver_walk f.line file f.receiver ∷ in_order (map (parameter_walk f.line) (all_typed_names file f.parameters))
    ∷ in_order (map walk f.body) ∷ (λ s. breaks (end_faults f)) ∷ [])

-- the scope in which the body begins, with receiver and parameters
abbrev pub body_scope : Scope → Func → Scope
body_scope file f =
    let s = head_scope file f in
    let t = behind s (receiver_walk f.line file f.receiver s) in
    behind t (in_order (map (parameter_walk f.line) (all_typed_names file f.parameters)) t)

-- the facts of a function whose scope begins as s, with this number of arguments
abbrev pub of_function : ℕ → Scope → Walked → Walked
of_function arguments s w = told w (fact.Function arguments (behind s w).next (length w.facts) ∷ w.facts)

abbrev pub func_walk : Func → Scope → Walked
func_walk f file = of_function (body_scope file f).next (head_scope file f) (parts_walk f file (head_scope file f))

-- the walk of a declaration; g is the number of globals above it
abbrev pub decl_walked : FileScope → ℕ → Decl → Walked
decl_walked f g (d.Const l n c) = judges (const_faults l c) (const_facts c)
decl_walked f g (d.Var v) = initial_walk v.line v.content (record (outside f) { initialises = Some g })
decl_walked f g (d.Struct l n fields) = nothing
decl_walked f g (d.Func x) = func_walk x (outside f)

abbrev pub globals_above : ℕ → Decl → ℕ
globals_above g (d.Var v) = g + 1
globals_above g _ = g

abbrev pub walk_faults : FileScope → ℕ → List Decl → List Fault
walk_faults f g [] = []
walk_faults f g (x ∷ xs) = (decl_walked f g x).faults ++ walk_faults f (globals_above g x) xs

abbrev pub walk_facts : FileScope → ℕ → List Decl → List Fact
walk_facts f g [] = []
walk_facts f g (x ∷ xs) = (decl_walked f g x).facts ++ walk_facts f (globals_above g x) xs

abbrev pub none_above : Above
none_above = record { names = 0; structs = 0; functions = 0 }

-- the faults of names, of written types and of `main`, and then those of constants, initialisers and bodies
abbrev pub decl_faults : Imports → List Decl → List Fault
decl_faults i xs =
    names_faults (bare_file i xs) none_above xs
    ++ (flat_map (type_faults (outside (bare_file i xs))) xs
    ++ (main_faults xs ++ walk_faults (file_scope i xs) 0 xs))

-- the rules that a file breaks, in the order of the walk
unfoldable pub Broken : File → List Fault
Broken f = import_faults no_imports f.imports ++ decl_faults (with_imports no_imports f.imports) f.declarations

-- the facts of a file, in the order of its declarations
unfoldable pub facts_in : File → List Fact
facts_in f = walk_facts (file_scope (with_imports no_imports f.imports) f.declarations) 0 f.declarations

-- A file is typed if it breaks no rule.
abbrev pub Typed : File → Type 0
Typed f = Broken f ≡ []
