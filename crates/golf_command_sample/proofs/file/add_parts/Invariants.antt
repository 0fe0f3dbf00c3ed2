use Rattle.std.proofs.Common.{◌≡◌, ◌++◌}
use Rattle.golf_command_sample.specs.File.{parts}
use Rattle.golf_command_sample.proofs.file.add_parts.Given as goal

abbrev pub invariant-loop-before : goal.invariant-loop-before
invariant-loop-before l = l.text ≡ l.initial.text ++ parts l.before
