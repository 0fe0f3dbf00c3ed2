use Rattle.std.proofs.Common.{◌≡◌, drop}
use Rattle.golf_code_targets.specs.Walks.{target_steps, no_targets}
use Rattle.golf_code_targets.proofs.targets.targets_of.Given as goal

abbrev pub invariant-loop-part : goal.invariant-loop-part
invariant-loop-part l = target_steps (drop l.part-index l.emitted) l.targets ≡ target_steps l.emitted no_targets
