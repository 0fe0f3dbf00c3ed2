use Rattle.std.proofs.Common.{◌≡◌, drop}
use Rattle.golf_code_targets.specs.Heights.{height_steps, no_heights}
use Rattle.golf_code_targets.proofs.heights.most_of.Given as goal

abbrev pub invariant-loop-part : goal.invariant-loop-part
invariant-loop-part l = height_steps l.gives (drop l.part-index l.emitted) l.heights
    ≡ height_steps l.gives l.emitted no_heights
