use Rattle.std.proofs.Common.{◌≡◌, ◌++◌, take}
use Rattle.golf_data.proofs.copies.push_all.Given as goal

-- those so far
abbrev pub invariant-loop-value : goal.invariant-loop-value
invariant-loop-value l = l.queue ≡ l.fn.queue ++ take l.value-index l.values
