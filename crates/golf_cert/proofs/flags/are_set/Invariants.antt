use Rattle.std.proofs.Common.{take}
use Rattle.golf_theory.specs.Membership.{Every}
use Rattle.golf_marks.specs.Flags.{IsSet}
use Rattle.golf_cert.proofs.flags.are_set.Given as goal

abbrev pub invariant-loop-place : goal.invariant-loop-place
invariant-loop-place l = Every (IsSet l.flags) (take l.place-index l.places)
