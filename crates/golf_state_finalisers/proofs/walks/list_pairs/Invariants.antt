use Rattle.std.proofs.Common.{◌≡◌, take}
use Rattle.golf_blocks.specs.Blocks.{entries_in}
use Rattle.golf_state_finalisers.proofs.walks.list_pairs.Given as goal

-- those so far
abbrev pub invariant-loop-at : goal.invariant-loop-at
invariant-loop-at l = l.list ≡ entries_in (take l.at l.blocks)
