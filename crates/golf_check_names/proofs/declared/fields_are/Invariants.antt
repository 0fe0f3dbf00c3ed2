use Rattle.std.proofs.Common.{◌≡◌, drop}
use Rattle.golf_check_types.specs.Files.{fields_are}
use Rattle.golf_check_names.proofs.declared.fields_are.Given as goal

abbrev pub invariant-loop-i : goal.invariant-loop-i
invariant-loop-i l = fields_are l.structs l.number l.i (drop l.i l.names) ≡ fields_are l.structs l.number 0 l.names
