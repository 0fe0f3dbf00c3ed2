-- The law of the runs of a program and of its source, as a statement.
use Rattle.std.specs.Prelude.{◌≡◌, ℕ, List, Some, slice_get}
use Rattle.golf_theory.specs.Membership.{Every}
use Rattle.golf_syntax_trees.specs.declared.declarations.File.{File}
use Rattle.golf_data.specs.declared.code.Function.{Function}
use Rattle.golf_model.specs.Runs.{Event}
use Rattle.golf_model_typing.specs.Shapes.{HasShapes}
use Rattle.golf_code_of.specs.Files.{CodeOf}
use Rattle.golf_code_shapes.specs.FileLaws.{types_of_file}
use Rattle.golf_code_never_stuck.specs.Reached.{IsProgram}
use Rattle.golf_meaning_flat.specs.Worlds.{Operation, Halt, End, Told}
use Rattle.golf_meaning_flat.specs.Laws.{BeginsWith}
use Rattle.golf_meaning_statements.specs.Functions.{CodeMeaning}
use Rattle.golf_meaning_statements.specs.Files.{giving_in, MeaningOf}
use Rattle.golf_meaning_runs.specs.Books.{RunTypes, book_of, left_of, IsBooked}
use Rattle.golf_meaning_runs.specs.CallRecords.{Standing, Call}

-- What a meaning says of a call with this standing, for some bound. While the call goes on, its operations are a prefix
-- of those that are meant. If it waits for an answer, they are the same, and the meaning waits at the last one. If it
-- has returned or divided by zero, they are the same, with the same end.
abbrev pub SaysOf : (ℕ → Told) → List Operation → Standing → Type 0
SaysOf meaning shown Standing.Goes = (n : ℕ) × BeginsWith (meaning n).operations shown
SaysOf meaning shown (Standing.Asks q) = (n : ℕ)
    × (meaning n ≡ record { operations = shown; end = End.Halts Halt.Waits })
SaysOf meaning shown (Standing.Ended h) = (n : ℕ) × (meaning n ≡ record { operations = shown; end = End.Halts h })

-- the source of the call's function says this of the call
abbrev pub SourceSays : File → Call → Type 0
SourceSays file k = SaysOf (MeaningOf file k.function k.arguments k.got) k.shown k.standing

-- the code of the call's function says this of the call
abbrev pub CodeSays : File → Call → Type 0
CodeSays file k = (fn : Function) → slice_get (CodeOf file).functions k.function ≡ Some fn
    → SaysOf (CodeMeaning (giving_in file) fn k.arguments k.got) k.shown k.standing

abbrev pub IsMeant : File → Call → Type 0
IsMeant file k = SourceSays file k × CodeSays file k

-- After these events the frames of each goroutine match its calls, and the code has shapes. Each call, even one that
-- has left, has done what its source and its code mean.
pub record RunMeansSource (file : File) (events : List Event) : Type 0 where
  pub types : RunTypes
  pub of_file : types.typing.of ≡ types_of_file file
  pub shaped : HasShapes (CodeOf file) types.typing
  pub booked : IsBooked (CodeOf file) types events
  pub meant : (g : ℕ) → Every (IsMeant file) (book_of (CodeOf file) events g)
  pub left_meant : Every (IsMeant file) (left_of (CodeOf file) events)

-- this holds after all events, for each well-formed file that breaks no rule
abbrev pub RunsMeanSources : Type 0
RunsMeanSources = (file : File) → IsProgram file → (events : List Event) → RunMeansSource file events
