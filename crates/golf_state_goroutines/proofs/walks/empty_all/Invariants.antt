use Rattle.std.proofs.Common.{◌≡◌, [], length, take}
use Rattle.golf_state_goroutines.specs.RunBlocks.{AreRunBlocks, block_keys, running_in}
use Rattle.golf_state_goroutines.proofs.walks.empty_all.Given as goal

-- the blocks so far are empty
abbrev pub invariant-loop-at : goal.invariant-loop-at
invariant-loop-at l = record {
  blocks : AreRunBlocks 0 l.blocks.items;
  none : running_in (take l.at l.blocks.items) ≡ [];
  keys : block_keys l.blocks.items ≡ block_keys l.fn.blocks.items;
  len : length l.blocks.items ≡ length l.fn.blocks.items;
}
