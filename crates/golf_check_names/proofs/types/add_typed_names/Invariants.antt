use Rattle.std.proofs.Common.{◌≡◌, ◌++◌, drop, map}
use Rattle.golf_check_types.specs.Written.{write_at}
use Rattle.golf_check_types.specs.Files.{typed_names}
use Rattle.golf_check_names.proofs.types.add_typed_names.Given as goal

abbrev pub invariant-loop-name : goal.invariant-loop-name
invariant-loop-name l = l.names ++ map (λ n. (n, (write_at 0 l.scope l.field.of_type).type))
    (drop l.name-index l.field.more) ≡ l.fn.names ++ typed_names l.scope l.field
