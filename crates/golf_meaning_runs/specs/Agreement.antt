-- The law of a program's functions and their sources, for all answers, as a statement.
use Rattle.std.specs.Prelude.{◌≡◌, ℕ, List, length, Some, slice_get}
use Rattle.golf_syntax_trees.specs.declared.declarations.File.{File}
use Rattle.golf_data.specs.declared.value.Value.{Value}
use Rattle.golf_data.specs.declared.code.Function.{Function}
use Rattle.golf_code_of.specs.Files.{CodeOf}
use Rattle.golf_code_never_stuck.specs.Reached.{IsProgram}
use Rattle.golf_meaning_flat.specs.Worlds.{Answer}
use Rattle.golf_meaning_flat.specs.Laws.{Agree}
use Rattle.golf_meaning_statements.specs.Functions.{CodeMeaning}
use Rattle.golf_meaning_statements.specs.Files.{all_functions, giving_in, MeaningOf}

-- The code of a file has function 0, each function and method of the file, and those that are made for `go` and
-- `defer`. Each agrees with its source, for all answers and with as many arguments as parameters: each bound of one has
-- a bound of the other.
pub record SourcesAgree (file : File) : Type 0 where
  pub count : length (CodeOf file).functions ≡ all_functions file
  pub each : (k : ℕ) (fn : Function) → slice_get (CodeOf file).functions k ≡ Some fn
      → (arguments : List Value) (answers : List Answer) → length arguments ≡ fn.params
      → Agree (MeaningOf file k arguments answers) (CodeMeaning (giving_in file) fn arguments answers)

-- this holds in each well-formed file that breaks no rule
abbrev pub ProgramsAgree : Type 0
ProgramsAgree = (file : File) → IsProgram file → SourcesAgree file
