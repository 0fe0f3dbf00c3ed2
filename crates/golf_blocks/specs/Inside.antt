-- All entries in memory.
use Rattle.std.specs.Prelude.{◌≡◌, ℕ, List, length}
use Rattle.golf_blocks.specs.Blocks.{AreBlocks, AreFilled, entries_in}
use Rattle.golf_blocks.specs.declared.map.BlockMap.TheInside.{Inside}

module _ {V : Type 0} where
  abbrev pub entries_of : Inside V → List (ℕ × V)
  entries_of s = entries_in s.blocks.items

  -- the blocks are in order, none is empty, and the count is that of their entries
  pub record AreEntries (s : Inside V) : Type 0 where
    pub blocks : AreBlocks 0 s.blocks.items
    pub filled : AreFilled s.blocks.items
    pub count : s.count ≡ length (entries_in s.blocks.items)
