use Rattle.std.proofs.Common.{◌≡◌, drop}
use Rattle.std.specs.Prelude.{fold}
use Rattle.golf_check_types.specs.Files.{with_field}
use Rattle.golf_check_names.proofs.names.add_all_fields.Given as goal

abbrev pub invariant-loop-name : goal.invariant-loop-name
invariant-loop-name l = fold with_field l.members (drop l.name-index l.names) ≡ fold with_field l.fn.members l.names
