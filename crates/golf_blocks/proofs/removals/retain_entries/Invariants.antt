use Rattle.std.proofs.Common.{◌≡◌, ◌++◌, length, take, drop}
use Rattle.golf_theory.specs.Flags.{kept}
use Rattle.golf_blocks.specs.Blocks.{AreBlocks, entries_in}
use Rattle.golf_blocks.proofs.removals.retain_entries.Given as goal

-- the blocks so far have what is kept, and the others are as they were
abbrev pub invariant-loop-at : goal.invariant-loop-at
invariant-loop-at g l = record {
  blocks : AreBlocks 0 l.blocks.items;
  len : length l.blocks.items ≡ length l.fn.blocks.items;
  same : drop l.at l.blocks.items ≡ drop l.at l.fn.blocks.items;
  flags : length l.rest ≡ length (entries_in (drop l.at l.fn.blocks.items));
  entries : entries_in (take l.at l.blocks.items)
      ++ kept l.rest (entries_in (drop l.at l.fn.blocks.items)) ≡ kept l.stays (entries_in l.fn.blocks.items);
}
