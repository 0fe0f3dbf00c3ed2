use Rattle.std.proofs.Common.{◌≡◌, ◌++◌}
use Rattle.golf_check_bodies.specs.Spines.{kept}
use Rattle.golf_check_bodies.proofs.facts.keep.Given as goal

abbrev pub invariant-loop : goal.invariant-loop
invariant-loop l = l.facts ≡ l.fn.facts ++ kept l.counter
