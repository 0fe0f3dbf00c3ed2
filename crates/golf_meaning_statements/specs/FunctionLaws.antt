-- The laws of functions and of files, as statements.
use Rattle.std.specs.Prelude.{◌≡◌, ℕ, Bool, List, length, Some, slice_get}
use Rattle.golf_syntax_trees.specs.declared.declarations.Func.{Func}
use Rattle.golf_syntax_trees.specs.declared.declarations.File.{File}
use Rattle.golf_data.specs.declared.value.Value.{Value}
use Rattle.golf_data.specs.declared.code.Function.{Function}
use Rattle.golf_check_types.specs.declared.scopes.FileScope.{FileScope}
use Rattle.golf_check_types.specs.Files.{outside}
use Rattle.golf_code_of.specs.declared.tables.Tables.{Tables}
use Rattle.golf_code_of.specs.Files.{body_laid, function_of, CodeOf}
use Rattle.golf_meaning_flat.specs.Worlds.{Answer}
use Rattle.golf_meaning_flat.specs.Laws.{Agree, HasRules}
use Rattle.golf_meaning_source.specs.Operations.{Taking}
use Rattle.golf_meaning_statements.specs.Functions.{Meaning, CodeMeaning}
use Rattle.golf_meaning_statements.specs.Files.{all_functions, giving_in, MeaningOf}

-- the code of a function and its source agree in both directions, for all answers and with as many arguments as
-- parameters, if the source lacks no rule
abbrev pub FunctionsAgree : Type 0
FunctionsAgree = (taking : Taking) (t : Tables) (gives : List Bool) (names : FileScope) (k : ℕ) (f : Func)
    (arguments : List Value) (answers : List Answer)
    → let fn = function_of t gives (outside names) f (body_laid t (outside names) k f).piece in length arguments
    ≡ fn.params → HasRules (Meaning taking t (outside names) k f arguments answers)
    → Agree (Meaning taking t (outside names) k f arguments answers) (CodeMeaning taking.gives fn arguments answers)

-- The code of a file has as many functions as the file. Each agrees with the meaning of its number, with as many
-- arguments as parameters, if that lacks no rule.
abbrev pub FilesAgree : Type 0
FilesAgree = (file : File) → (length (CodeOf file).functions ≡ all_functions file)
    × ((k : ℕ) (fn : Function) → slice_get (CodeOf file).functions k ≡ Some fn
    → (arguments : List Value) (answers : List Answer) → length arguments ≡ fn.params
    → HasRules (MeaningOf file k arguments answers)
    → Agree (MeaningOf file k arguments answers) (CodeMeaning (giving_in file) fn arguments answers))
