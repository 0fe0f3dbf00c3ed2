-- The ways of a line: there is one, and none writes anything before its first write.
-- For: `IsWayOf`, specs/Ways.antt; `MayStand`, specs/Means.antt
-- By: cases of the line; no induction
use Rattle.std.proofs.Common.{◌<◌, [], refl, arith}
use Rattle.golf_syntax_trees.specs.declared.declarations.File.{File}
use Rattle.golf_code_of.specs.Files.{CodeOf}
use Rattle.golf_meaning_statements.specs.Files.{function_count}
use Rattle.golf_command_words.specs.declared.line.CommandLine.{CommandLine}
use Rattle.golf_command_words.specs.Words.{IsWithin}
use Rattle.golf_command.specs.Ways.{Way, IsWayOf}
use Rattle.golf_command.specs.Means.{MayStand}
use Rattle.golf_command.proofs.Turns.{some-turns}

pub some-way : (line : CommandLine) (file : File) → IsWithin line → (way : Way) × IsWayOf line file way
some-way (CommandLine.Run options) file w = (Way.ByOptions options, refl)
some-way (CommandLine.Generate n) file w = (Way.Generated n, refl)
some-way (CommandLine.Threads n) file w = let some : 0 < n = omega (arith, w.0) in let turns =
    some-turns (CodeOf file) n some in (Way.ByThreads turns.0, (turns.0, refl, turns.1))
some-way CommandLine.Meaning file w = (Way.Compared (function_count file.declarations), refl)

pub none-stands : (line : CommandLine) → MayStand line []
none-stands (CommandLine.Run options) = tt
none-stands (CommandLine.Generate n) = refl
none-stands (CommandLine.Threads n) = refl
none-stands CommandLine.Meaning = refl
