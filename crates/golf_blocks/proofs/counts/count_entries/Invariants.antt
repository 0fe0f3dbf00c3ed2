use Rattle.std.proofs.Common.{◌≡◌, length, take}
use Rattle.golf_blocks.specs.Blocks.{entries_in}
use Rattle.golf_blocks.proofs.counts.count_entries.Given as goal

-- those so far
abbrev pub invariant-loop-at : goal.invariant-loop-at
invariant-loop-at g l = l.count ≡ length (entries_in (take l.at l.blocks))
