-- The law of calls and their sources, as a statement.
use Rattle.std.specs.Prelude.{◌≡◌, ℕ, List, Some, slice_get, Option}
use Rattle.golf_syntax_trees.specs.declared.declarations.File.{File}
use Rattle.golf_data.specs.declared.value.Value.{Value}
use Rattle.golf_data.specs.declared.code.Function.{Function}
use Rattle.golf_code_of.specs.Files.{CodeOf}
use Rattle.golf_meaning_flat.specs.Worlds.{Operation, Answer, Halt, End}
use Rattle.golf_meaning_flat.specs.Laws.{BeginsWith, HasRules}
use Rattle.golf_meaning_statements.specs.Files.{giving_in, MeaningOf}
use Rattle.golf_meaning_runs.specs.FrameShapes.{Shaping, giving_by}
use Rattle.golf_meaning_runs.specs.Life.{Now, Life}

-- With the answers that the call got, and for some bound on the rounds of loops: while the call goes on, its operations
-- are a prefix of those that the source means. If it waits, they are the same and the source waits at the last one. If
-- it has halted, they are the same and the source halts alike.
abbrev pub SourceMeans : File → ℕ → List Value → List Operation → List Answer → Now → Type 0
SourceMeans file k arguments shown got (Now.Stands at c) = (n : ℕ)
    × BeginsWith (MeaningOf file k arguments got n).operations shown
SourceMeans file k arguments shown got (Now.Asks at c before) = (n : ℕ)
    × (MeaningOf file k arguments got n ≡ record { operations = shown; end = End.Halts Halt.Waits })
SourceMeans file k arguments shown got (Now.Halted h) = (n : ℕ)
    × (MeaningOf file k arguments got n ≡ record { operations = shown; end = End.Halts h })

-- for each call of a function of a file, if a rule fits wherever the source gets, and answers are taken as for the
-- file's functions
abbrev pub LivesMeanSource : Type 0
LivesMeanSource = (file : File) (k : ℕ) (fn : Function) (shaping : Option Shaping) (arguments : List Value)
    (shown : List Operation) (got : List Answer) (now : Now) → slice_get (CodeOf file).functions k ≡ Some fn
    → giving_by shaping ≡ giving_in file → HasRules (MeaningOf file k arguments got)
    → Life fn shaping arguments shown got now → SourceMeans file k arguments shown got now
