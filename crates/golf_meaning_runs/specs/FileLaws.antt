-- The law of the functions of a whole file, as a statement.
use Rattle.std.specs.Prelude.{◌≡◌, ℕ, zero, suc, Bool, true, List, [], ◌∷◌, length}
use Rattle.std.specs.List.{list_all}
use Rattle.golf_syntax_trees.specs.declared.declarations.Decl.{Decl}
use Rattle.golf_syntax_trees.specs.declared.declarations.Decl.TheVariants as d
use Rattle.golf_syntax_trees.specs.declared.declarations.File.{File}
use Rattle.golf_syntax_trees.specs.Declarations.{decl_good}
use Rattle.golf_data.specs.declared.value.Value.{Value}
use Rattle.golf_check_types.specs.declared.scopes.Scope.{Scope}
use Rattle.golf_check_types.specs.Files.{outside, Typed}
use Rattle.golf_code_of.specs.declared.surroundings.Making.{Making}
use Rattle.golf_code_of.specs.Files.{tables_of}
use Rattle.golf_code_shapes.specs.FunctionLaws.{parameter_slots}
use Rattle.golf_code_shapes.specs.FileLaws.{scope_of, NamesFit}
use Rattle.golf_meaning_flat.specs.Worlds.{Answer}
use Rattle.golf_meaning_source.specs.Operations.{Taking}
use Rattle.golf_meaning_statements.specs.Files.{made_in, taking_in, meaning_of}
use Rattle.golf_meaning_runs.specs.SoundFlows.{EndSound}
use Rattle.golf_meaning_runs.specs.TypingLaws.{ArgumentsFit}

-- as many arguments as parameters, for the k-th of these functions that are made
abbrev pub MadeArguments : List Making → ℕ → List Value → Type 0
MadeArguments [] k vs = ⊥
MadeArguments (m ∷ ms) zero vs = length vs ≡ length m.parameters
MadeArguments (m ∷ ms) (suc k) vs = MadeArguments ms k vs

-- arguments for the k-th function of these declarations, of the types of receiver and parameters, or for one of those
-- that are made, which come after them
abbrev pub ArgumentsAt : Taking → Scope → List Making → List Decl → ℕ → List Value → Type 0
ArgumentsAt taking file made [] k vs = MadeArguments made k vs
ArgumentsAt taking file made (d.Func f ∷ xs) zero vs = ArgumentsFit taking (parameter_slots file f) vs
ArgumentsAt taking file made (d.Func f ∷ xs) (suc k) vs = ArgumentsAt taking file made xs k vs
ArgumentsAt taking file made (x ∷ xs) k vs = ArgumentsAt taking file made xs k vs

-- arguments for the function of this number; function 0 has none
abbrev pub AreArgumentsOf : Bool → File → ℕ → List Value → Type 0
AreArgumentsOf strict file zero vs = vs ≡ []
AreArgumentsOf strict file (suc k) vs =
    ArgumentsAt (taking_in file strict) (outside (scope_of file)) (made_in file) file.declarations k vs

-- For each function, with such arguments, the meaning lacks no rule. If kinds are looked at in answers, it is unfit only
-- by an answer; if not, only the number of arguments matters.
abbrev pub MeaningsSound : File → Type 0
MeaningsSound file =
    (strict : Bool) (k : ℕ) (arguments : List Value) (answers : List Answer) (n : ℕ)
    → AreArgumentsOf strict file k arguments → EndSound strict (meaning_of strict file k arguments answers n).end

-- this holds in a well-formed file that breaks no rule and whose names fit
abbrev pub FilesAreSound : Type 0
FilesAreSound = (file : File) → Typed file → list_all decl_good file.declarations ≡ true
    → NamesFit (tables_of file.declarations) (scope_of file) file.declarations → MeaningsSound file
