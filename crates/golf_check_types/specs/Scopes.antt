-- The meaning of names (Go specification, "Declarations and scope", "Predeclared identifiers").
use Rattle.std.specs.Prelude.{ℕ, ◌+◌, ◌-◌, ◌==◌, Bool, true, false, not, ◌&&◌, cond, List, ◌++◌, take, slice_get}
use Rattle.std.specs.Prelude.{is_some, Option, Some, None, codes}
use Rattle.std.specs.Option.{option_map, option_and_then}
use Rattle.std.specs.Str.{bytes_eq}
use Rattle.golf_check_types.specs.declared.types.GoType.{GoType}
use Rattle.golf_check_types.specs.declared.operands.Operand.{Operand}
use Rattle.golf_check_types.specs.declared.operands.Operand.TheVariants as operand
use Rattle.golf_check_types.specs.declared.operands.Where.TheVariants as place
use Rattle.golf_check_types.specs.declared.operands.BuiltIn.TheVariants as built_in
use Rattle.golf_check_types.specs.declared.operands.Package.TheVariants as packages
use Rattle.golf_check_types.specs.declared.locals.Local.{Local}
use Rattle.golf_check_types.specs.declared.scopes.Imports.{Imports}
use Rattle.golf_check_types.specs.declared.scopes.Entity.{Entity}
use Rattle.golf_check_types.specs.declared.scopes.Entity.TheVariants as meant
use Rattle.golf_check_types.specs.declared.scopes.Member.{Member}
use Rattle.golf_check_types.specs.declared.scopes.Members.{Members}
use Rattle.golf_check_types.specs.declared.scopes.FileScope.{FileScope}
use Rattle.golf_check_types.specs.declared.scopes.Scope.{Scope}
use Rattle.golf_check_types.specs.Names.{number_of, look, is_blank}

abbrev pub or_else : Option Operand → Option Operand → Option Operand
or_else None other = other
or_else (Some m) other = Some m

-- Predeclared names.

unfoldable pub type_name : List ℕ → Option Operand
type_name n =
    cond (bytes_eq n (codes "int")) (Some operand.TypeName)
    (cond (bytes_eq n (codes "bool")) (Some operand.TypeName)
    (cond (bytes_eq n (codes "string")) (Some operand.TypeName) None))

unfoldable pub value_name : List ℕ → Option Operand
value_name n =
    cond (bytes_eq n (codes "true")) (Some (operand.Truth true))
    (cond (bytes_eq n (codes "false")) (Some (operand.Truth false))
    (cond (bytes_eq n (codes "nil")) (Some operand.Nil) None))

-- Calls of `make` and `new` are expressions of their own; elsewhere the two are names that are no values.
unfoldable pub call_name : List ℕ → Option Operand
call_name n =
    cond (bytes_eq n (codes "len")) (Some (operand.BuiltIn built_in.Length))
    (cond (bytes_eq n (codes "close")) (Some (operand.BuiltIn built_in.Close))
    (cond (bytes_eq n (codes "panic")) (Some (operand.BuiltIn built_in.Panic))
    (cond (bytes_eq n (codes "make")) (Some operand.TypeName)
    (cond (bytes_eq n (codes "new")) (Some operand.TypeName) None))))

-- Packages, if they are imported.
unfoldable pub package_name : Imports → List ℕ → Option Operand
package_name i n =
    cond (i.fmt && bytes_eq n (codes "fmt")) (Some (operand.Package packages.Fmt))
    (cond (i.runtime && bytes_eq n (codes "runtime")) (Some (operand.Package packages.Runtime))
    (cond (i.sync && bytes_eq n (codes "sync")) (Some (operand.Package packages.Sync)) None))

abbrev pub predeclared : Imports → List ℕ → Option Operand
predeclared i n = or_else (type_name n) (or_else (value_name n) (or_else (call_name n) (package_name i n)))

-- whether the name is predeclared or the name of a package
unfoldable pub is_reserved : List ℕ → Bool
is_reserved n = is_some (predeclared (record { fmt = true; runtime = true; sync = true }) n)

-- Names of the file.

-- the type at a number, if it is known
abbrev pub type_at : List (Option GoType) → ℕ → Option GoType
type_at ts k = option_and_then (λ t. t) (slice_get ts k)

abbrev pub entry_operand : FileScope → Entity → Operand
entry_operand f (meant.Constant k b) = operand.Constant k b
entry_operand f (meant.Global k) = operand.Variable (place.Global k) (type_at f.globals k)
entry_operand f (meant.Struct k) = operand.Struct k
entry_operand f (meant.Function k) = operand.Function k

abbrev pub meaning_in : FileScope → List ℕ → Option Entity
meaning_in f n = option_and_then (slice_get f.entities) (number_of f.names n)

abbrev pub file_operand : FileScope → List ℕ → Option Operand
file_operand f n = option_map (entry_operand f) (meaning_in f n)

-- Locals.

abbrev pub local_operand : Local → Operand
local_operand d = operand.Variable (place.Slot d.slot) d.of_type

-- the meaning of a name: a local, else a name of the file, else predeclared or a package
unfoldable pub meaning : Scope → List ℕ → Option Operand
meaning s n = or_else (option_map local_operand (look s.locals n))
    (or_else (file_operand s.file n) (predeclared s.file.imports n))

abbrev pub is_at_depth : Option Local → ℕ → Bool
is_at_depth None depth = false
is_at_depth (Some d) depth = d.depth == depth

-- whether the innermost block has declared the name
unfoldable pub is_here : Scope → List ℕ → Bool
is_here s n = is_at_depth (look s.locals n) s.depth

-- Rule 2 for a local.
unfoldable pub may_be_declared : Scope → List ℕ → Bool
may_be_declared s n = not (is_blank n) && (not (is_reserved n) && not (is_here s n))

-- a variable in the next slot
abbrev pub variable : Scope → List ℕ → Option GoType → Local
variable s n t = record { name = n; depth = s.depth; slot = s.next; of_type = t }

-- the scope after these declarations, which take n slots
abbrev pub declared : Scope → List Local → ℕ → Scope
declared s ds n = record s { locals = s.locals ++ ds; next = s.next + n }

-- the scope in which a block begins
abbrev pub begun : Scope → Scope
begun s = record s { depth = s.depth + 1 }

-- the scope after a block: only the first locals are left
abbrev pub closed_to : ℕ → Scope → Scope
closed_to known s = record s { locals = take known s.locals; depth = s.depth - 1 }

-- Members of structs.

abbrev pub kind_in : Members → List ℕ → Option Member
kind_in m n = option_and_then (slice_get m.kinds) (number_of m.names n)

-- a field or method of the struct of this number
unfoldable pub member : FileScope → ℕ → List ℕ → Option Member
member f k n = option_and_then (λ m. kind_in m n) (slice_get f.structs k)
