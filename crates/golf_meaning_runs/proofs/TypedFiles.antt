-- The functions of a whole file that breaks no rule lack no rule.
-- For: `files_fit`, src/lib.rt
-- By: induction over the list of declarations
use Rattle.std.proofs.Common.{◌≡◌, ℕ, zero, suc, ◌+◌, Bool, true, List, [], ◌∷◌, length, map}
use Rattle.std.proofs.lemmas.Bool.{and_parts}
use Rattle.std.specs.List.{list_all}
use Rattle.golf_theory.specs.Membership.{Every}
use Rattle.golf_syntax_trees.specs.declared.declarations.Decl.{Decl}
use Rattle.golf_syntax_trees.specs.declared.declarations.Decl.TheVariants as d
use Rattle.golf_syntax_trees.specs.declared.declarations.Func.{Func}
use Rattle.golf_syntax_trees.specs.declared.declarations.File.{File}
use Rattle.golf_syntax_trees.specs.Types.{type_form}
use Rattle.golf_syntax_trees.specs.Simple.{all_of}
use Rattle.golf_syntax_trees.specs.Statements.{stmts_good, stmt_form}
use Rattle.golf_syntax_trees.specs.Declarations.{field_good, decl_good}
use Rattle.golf_data.specs.declared.value.Value.{Value}
use Rattle.golf_check_types.specs.declared.scopes.FileScope.{FileScope}
use Rattle.golf_check_types.specs.Files.{outside, bare_file, no_imports, with_imports, import_faults, names_faults}
use Rattle.golf_check_types.specs.Files.{none_above, type_faults, main_faults, decl_walked, walk_faults, Broken, Typed}
use Rattle.std.specs.Prelude.{flat_map}
use Rattle.golf_model_typing.specs.Types.{Types}
use Rattle.golf_code_of.specs.declared.tables.Tables.{Tables}
use Rattle.golf_code_of.specs.declared.surroundings.Making.{Making}
use Rattle.golf_code_of.specs.Files.{body_laid, tables_of, main_number}
use Rattle.golf_code_shapes.specs.FunctionLaws.{FunctionIsFit}
use Rattle.golf_code_shapes.specs.StatementFlow.{IsMaking}
use Rattle.golf_code_shapes.specs.FileLaws.{scope_of, types_of_file, ParametersAreKnown, DeclarationsAreKnown, NamesFit}
use Rattle.golf_code_shapes.proofs.Typings.{none-left, none-right}
use Rattle.golf_code_shapes.proofs.WholeFiles.{text-below, made-are-fit}
use Rattle.golf_meaning_flat.specs.Worlds.{Answer}
use Rattle.golf_meaning_source.specs.Operations.{Taking}
use Rattle.golf_meaning_statements.specs.Files.{meaning_at, made_in, taking_in}
use Rattle.golf_meaning_runs.specs.Sound.{FileTaken}
use Rattle.golf_meaning_runs.specs.SoundFlows.{EndSound}
use Rattle.golf_meaning_runs.specs.FileLaws.{ArgumentsAt, FilesAreSound}
use Rattle.golf_meaning_runs.proofs.Functions.{functions-fit}
use Rattle.golf_meaning_runs.proofs.Giving.{gives-by-type}
use Rattle.golf_meaning_runs.proofs.MadeFunctions.{made-sound, entry-sound}

function-is-fit : (names : FileScope) (g : ℕ) (x : Func) → (decl_walked names g (d.Func x)).faults ≡ []
    → decl_good (d.Func x) ≡ true → ParametersAreKnown (outside names) x → FunctionIsFit (outside names) x
function-is-fit names g x none good h =
    let a = and_parts (list_all field_good x.parameters) _ good in
    let b = and_parts (all_of (λ t. (type_form t).good) x.result) (stmts_good (map stmt_form x.body)) a.1 in
    record { receiver = h.receiver; parameters = h.parameters; good = b.1; none = none }

module _ (taking : Taking) where
  module _ (types : Types) (t : Tables) (names : FileScope) (file : FileTaken taking types t names) (made : List Making)
      (known : Every IsMaking made) (arguments : List Value) (answers : List Answer) (n : ℕ) where
    meanings-sound : (g functions : ℕ) (xs : List Decl) (k : ℕ) → walk_faults names g xs ≡ []
        → list_all decl_good xs ≡ true → DeclarationsAreKnown names g xs
        → ArgumentsAt taking (outside names) made xs k arguments
        → EndSound taking.strict (meaning_at taking t (outside names) made functions xs k arguments answers n).end
    meanings-sound g functions [] k none good h given = made-sound taking made k arguments answers n known given
    meanings-sound g functions (d.Func f ∷ xs) zero none good h given =
        functions-fit taking types t names f functions arguments answers n file
        (function-is-fit names g f (none-left (decl_walked names g (d.Func f)).faults _ none)
        (and_parts (decl_good (d.Func f)) (list_all decl_good xs) good).0 h.0) given
    meanings-sound g functions (d.Func f ∷ xs) (suc k) none good h given =
        meanings-sound g (functions + length (body_laid t (outside names) functions f).made) xs k
        (none-right (decl_walked names g (d.Func f)).faults _ none)
        (and_parts (decl_good (d.Func f)) (list_all decl_good xs) good).1 h.1 given
    meanings-sound g functions (d.Var v ∷ xs) k none good h given =
        meanings-sound (g + 1) functions xs k (none-right (decl_walked names g (d.Var v)).faults _ none)
        (and_parts (decl_good (d.Var v)) (list_all decl_good xs) good).1 h.1 given
    meanings-sound g functions (d.Const l x c ∷ xs) k none good h given =
        meanings-sound g functions xs k (none-right (decl_walked names g (d.Const l x c)).faults _ none)
        (and_parts (decl_good (d.Const l x c)) (list_all decl_good xs) good).1 h.1 given
    meanings-sound g functions (d.Struct l x fields ∷ xs) k none good h given =
        meanings-sound g functions xs k (none-right (decl_walked names g (d.Struct l x fields)).faults _ none)
        (and_parts (decl_good (d.Struct l x fields)) (list_all decl_good xs) good).1 h.1 given

-- no declaration breaks a rule
none-broken : (file : File) → Typed file → walk_faults (scope_of file) 0 file.declarations ≡ []
unfolding Broken
none-broken file typed =
    let xs = file.declarations in
    let bare = bare_file (with_imports no_imports file.imports) xs in
    let later = none-right (import_faults no_imports file.imports) _ typed in
    let after_names = none-right (names_faults bare none_above xs) _ later in
    let after_types = none-right (flat_map (type_faults (outside bare)) xs) _ after_names in
    none-right (main_faults xs) (walk_faults (scope_of file) 0 xs) after_types

file-taken : (file : File) (strict : Bool) → NamesFit (tables_of file.declarations) (scope_of file) file.declarations
    → FileTaken (taking_in file strict) (types_of_file file) (tables_of file.declarations) (scope_of file)
file-taken file strict h = record {
  fits = record { texts = text-below file.declarations; names = h.names; members = h.members };
  counts = gives-by-type file;
}

pub files-fit : FilesAreSound
files-fit file typed good h strict zero arguments answers n given =
    let xs = file.declarations in
    let main = h.main in
    entry-sound (taking_in file strict) (types_of_file file) (tables_of xs) (scope_of file) (file-taken file strict h)
    (main_number (scope_of file)) xs answers n main.0 (none-broken file typed) main.1 main.3
files-fit file typed good h strict (suc k) arguments answers n given =
    let xs = file.declarations in
    let f = scope_of file in
    meanings-sound (taking_in file strict) (types_of_file file) (tables_of xs) f (file-taken file strict h)
    (made_in file) (made-are-fit file typed good h) arguments answers n 0 (length f.functions + 1) xs k
    (none-broken file typed) good h.declarations given
