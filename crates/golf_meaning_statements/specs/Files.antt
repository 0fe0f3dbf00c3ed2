-- The meanings of the functions of a file, by their numbers. Function 0 runs the initialisers of the globals and calls
-- `main`. The functions and methods follow in source order, and after them those that are made for `go` and `defer`
-- (this runtime's rule).
use Rattle.std.specs.Prelude.{ℕ, zero, suc, ◌+◌, Bool, true, false, is_some, List, [], ◌∷◌, ◌++◌, length, map}
use Rattle.golf_syntax_trees.specs.declared.declarations.Decl.{Decl}
use Rattle.golf_syntax_trees.specs.declared.declarations.Decl.TheVariants as d
use Rattle.golf_syntax_trees.specs.declared.declarations.File.{File}
use Rattle.golf_data.specs.declared.value.Value.{Value}
use Rattle.golf_check_types.specs.declared.scopes.FileScope.{FileScope}
use Rattle.golf_check_types.specs.declared.scopes.Scope.{Scope}
use Rattle.golf_check_types.specs.Files.{outside, result_type, file_scope, with_imports, no_imports}
use Rattle.golf_code_of.specs.declared.surroundings.Making.{Making}
use Rattle.golf_code_of.specs.declared.tables.Tables.{Tables}
use Rattle.golf_code_of.specs.Files.{body_laid, functions_from, tables_of, giving, main_number}
use Rattle.golf_meaning_flat.specs.Worlds.{Answer, Misfit, Halt, Told, halted}
use Rattle.golf_meaning_source.specs.Operations.{Taking}
use Rattle.golf_meaning_statements.specs.Functions.{Meaning}
use Rattle.golf_meaning_statements.specs.MadeFunctions.{MadeMeaning, EntryMeaning}

-- how many functions and methods these declarations have
abbrev pub function_count : List Decl → ℕ
function_count [] = 0
function_count (d.Func f ∷ xs) = suc (function_count xs)
function_count (x ∷ xs) = function_count xs

-- the meaning of the k-th of these functions that are made
abbrev pub made_meaning : Taking → List Making → ℕ → List Value → List Answer → ℕ → Told
made_meaning taking [] k arguments answers n = halted (Halt.Unfit Misfit.OfRule) []
made_meaning taking (m ∷ ms) zero arguments answers n = MadeMeaning taking m arguments answers n
made_meaning taking (m ∷ ms) (suc k) arguments answers n = made_meaning taking ms k arguments answers n

-- The meaning of the k-th function of these declarations, or of those that are made, which come after them. `functions`
-- is the number of functions before the next one that is made.
abbrev pub meaning_at : Taking → Tables → Scope → List Making → ℕ → List Decl → ℕ → List Value → List Answer → ℕ → Told
meaning_at taking t file made functions [] k arguments answers n = made_meaning taking made k arguments answers n
meaning_at taking t file made functions (d.Func f ∷ xs) zero arguments answers n =
    Meaning taking t file functions f arguments answers n
meaning_at taking t file made functions (d.Func f ∷ xs) (suc k) arguments answers n =
    meaning_at taking t file made (functions + length (body_laid t file functions f).made) xs k arguments answers n
meaning_at taking t file made functions (x ∷ xs) k arguments answers n =
    meaning_at taking t file made functions xs k arguments answers n

-- the names of a file
abbrev pub names_of : File → FileScope
names_of file = file_scope (with_imports no_imports file.imports) file.declarations

-- whether each of these functions and methods gives a value
abbrev pub results_in : Scope → List Decl → List Bool
results_in file [] = []
results_in file (d.Func f ∷ xs) = is_some (result_type file f.result) ∷ results_in file xs
results_in file (x ∷ xs) = results_in file xs

-- the functions that are made for `go` and `defer`, in the order of these statements
abbrev pub made_in : File → List Making
made_in file = (functions_from (tables_of file.declarations) (giving (names_of file)) (outside (names_of file))
    (length (names_of file).functions + 1) file.declarations).made

-- how many functions a file has: function 0, functions and methods, and those that are made
abbrev pub all_functions : File → ℕ
all_functions file = suc (function_count file.declarations + length (made_in file))

-- Whether each function of the code of a file gives a value. Function 0 does not, and no made function does.
abbrev pub giving_in : File → List Bool
giving_in file = false ∷ (results_in (outside (names_of file)) file.declarations
    ++ map (λ (m : Making). false) (made_in file))

abbrev pub taking_in : File → Bool → Taking
taking_in file strict = record { gives = giving_in file; strict = strict }

-- the meaning of the function of this number
abbrev pub meaning_of : Bool → File → ℕ → List Value → List Answer → ℕ → Told
meaning_of strict file zero arguments answers n =
    EntryMeaning (taking_in file strict) (tables_of file.declarations) (names_of file) (main_number (names_of file))
    file.declarations answers n
meaning_of strict file (suc k) arguments answers n =
    meaning_at (taking_in file strict) (tables_of file.declarations) (outside (names_of file)) (made_in file)
    (length (names_of file).functions + 1) file.declarations k arguments answers n

-- Answers are taken without a look at their kinds: a value of the wrong kind is unfit where it is used.
abbrev pub MeaningOf : File → ℕ → List Value → List Answer → ℕ → Told
MeaningOf = meaning_of false

-- Answers are taken with a look at their kinds: an answer of the wrong kinds is unfit where it is taken.
abbrev pub StrictMeaningOf : File → ℕ → List Value → List Answer → ℕ → Told
StrictMeaningOf = meaning_of true
