-- The laws of the names of a file, as statements.
use Rattle.std.specs.Prelude.{◌≡◌, ℕ, ◌<◌, List, [], Option, Some, None, length, flat_map, slice_get}
use Rattle.golf_syntax_trees.specs.declared.declarations.Decl.{Decl}
use Rattle.golf_check_types.specs.declared.types.GoType.{GoType}
use Rattle.golf_check_types.specs.declared.operands.Operand.{Operand}
use Rattle.golf_check_types.specs.declared.scopes.Imports.{Imports}
use Rattle.golf_check_types.specs.declared.scopes.Member.{Member}
use Rattle.golf_check_types.specs.declared.scopes.FileScope.{FileScope}
use Rattle.golf_check_types.specs.Scopes.{file_operand, member}
use Rattle.golf_check_types.specs.Files.{outside, bare_file, with_types, names_faults, none_above, type_faults}
use Rattle.golf_check_types.specs.Files.{main_faults}
use Rattle.golf_model_typing.specs.Types.{Signature}
use Rattle.golf_code_of.specs.declared.tables.Tables.{Tables}
use Rattle.golf_code_of.specs.Files.{main_number, tables_of}
use Rattle.golf_code_shapes.specs.Sound.{NameFits, MemberFits}
use Rattle.golf_code_shapes.specs.FileLaws.{types_of_code}
use Rattle.golf_code_shapes.specs.Parts.{contents_of}

-- the names of a file whose globals have these types
abbrev pub named_with : Imports → List Decl → List (Option GoType) → FileScope
named_with i xs globals = record (with_types (bare_file i xs) xs) { globals = globals }

-- the first n globals have known types
abbrev pub GlobalsAreKnown : List (Option GoType) → ℕ → Type 0
GlobalsAreKnown globals n = (g : ℕ) → g < n → (t : GoType) × (slice_get globals g ≡ Some (Some t))

-- declarations whose names and written types break no rule
pub record WellNamed (i : Imports) (xs : List Decl) : Type 0 where
  pub names : names_faults (bare_file i xs) none_above xs ≡ []
  pub types : flat_map (type_faults (outside (bare_file i xs))) xs ≡ []

-- what the names and members of a file mean
pub record NamesMeant (t : Tables) (f : FileScope) (xs : List Decl) : Type 0 where
  pub names : (n : List ℕ) (m : Operand) → file_operand f n ≡ Some m → NameFits (types_of_code t f xs) t f m
  pub members : (k : ℕ) (n : List ℕ) (m : Member) → member f k n ≡ Some m → MemberFits (types_of_code t f xs) t f k m

abbrev pub NamesMean : Type 0
NamesMean = (i : Imports) (xs : List Decl) (globals : List (Option GoType)) → WellNamed i xs
    → GlobalsAreKnown globals (length (flat_map contents_of xs))
    → NamesMeant (tables_of xs) (named_with i xs globals) xs

-- `main` takes nothing and gives nothing
abbrev pub MainFits : Type 0
MainFits = (i : Imports) (xs : List Decl) (globals : List (Option GoType)) (t : Tables) → WellNamed i xs
    → main_faults xs ≡ []
    → (callee : Signature) × (slice_get (types_of_code t (named_with i xs globals) xs).functions
    (main_number (named_with i xs globals)) ≡ Some callee) × (callee.params ≡ []) × (callee.result ≡ None)
