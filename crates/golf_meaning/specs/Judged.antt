-- When code is that of a file, and when it agrees with the file's source.
use Rattle.std.specs.Prelude.{◌≡◌, ℕ, ◌<◌, ◌≤◌, List, length, Option, Some, None, slice_get}
use Rattle.golf_syntax_trees.specs.declared.declarations.File.{File}
use Rattle.golf_data.specs.declared.value.Value.{Value}
use Rattle.golf_data.specs.declared.code.Code.{Code}
use Rattle.golf_data.specs.declared.code.Function.{Function}
use Rattle.golf_code_of.specs.Files.{CodeOf}
use Rattle.golf_code.specs.Comparison.{HasSameBody}
use Rattle.golf_meaning_flat.specs.Worlds.{Answer}
use Rattle.golf_meaning_flat.specs.Laws.{Agree, HasRules}
use Rattle.golf_meaning_statements.specs.Functions.{CodeMeaning}
use Rattle.golf_meaning_statements.specs.Files.{function_count, giving_in, MeaningOf}

-- both codes have the function, with the same body
abbrev pub AreSame : Option Function → Option Function → Type 0
AreSame (Some f) (Some g) = HasSameBody f g
AreSame (Some f) None = ⊥
AreSame None o = ⊥

-- the code has a function of this number, with the parameters, slots and body that the code of the file has there
abbrev pub IsCodeOf : File → Code → ℕ → Type 0
IsCodeOf file code k = AreSame (slice_get code.functions k) (slice_get (CodeOf file).functions k)

-- The number is that of a function or method of the file: not 0, and not that of a function made for `go` or `defer`.
abbrev pub IsFunctionNumber : File → ℕ → Type 0
IsFunctionNumber file k = (0 < k) × (k ≤ function_count file.declarations)

-- Unless the source lacks a rule, the meaning of this source and that of the function agree: for each bound of one
-- there is a bound of the other. This holds for as many arguments as there are parameters, and for all answers.
abbrev pub FunctionAgrees : File → ℕ → Option Function → Type 0
FunctionAgrees file k None = ⊥
FunctionAgrees file k (Some fn) =
    (arguments : List Value) (answers : List Answer) → length arguments ≡ fn.params
    → HasRules (MeaningOf file k arguments answers)
    → Agree (MeaningOf file k arguments answers) (CodeMeaning (giving_in file) fn arguments answers)

-- the code has a function of this number, which agrees with its source
abbrev pub Agrees : File → Code → ℕ → Type 0
Agrees file code k = FunctionAgrees file k (slice_get code.functions k)

-- ---- all functions of a file

-- the code has each function and method of the file as the code of the file has it
abbrev pub AllAreCodeOf : File → Code → Type 0
AllAreCodeOf file code = (k : ℕ) → IsFunctionNumber file k → IsCodeOf file code k

-- each function and method of the file agrees with its source
abbrev pub AllAgree : File → Code → Type 0
AllAgree file code = (k : ℕ) → IsFunctionNumber file k → Agrees file code k
