use Rattle.std.proofs.Common.{◌≡◌, ◌++◌}
use Rattle.golf_command_sample.specs.File.{calls}
use Rattle.golf_command_sample.proofs.file.add_calls.Given as goal

abbrev pub invariant-loop-before : goal.invariant-loop-before
invariant-loop-before l = l.text ≡ l.initial.text ++ calls l.before
