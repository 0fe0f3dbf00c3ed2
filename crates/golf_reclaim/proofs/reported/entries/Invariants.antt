use Rattle.std.proofs.Common.{◌≡◌, take}
use Rattle.golf_model.specs.Reports.{entries, numbers}
use Rattle.golf_reclaim.proofs.reported.entries.Given as goal

-- those so far
abbrev pub invariant-loop-g : goal.invariant-loop-g
invariant-loop-g l = l.list ≡ entries l.state (numbers (take l.g-index l.goroutines))
