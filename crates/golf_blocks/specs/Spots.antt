-- Spots: where an entry may be, the index of a block and an index there.
use Rattle.std.specs.Prelude.{ℕ, Bool, false, ◌==◌, Option, Some, None, slice_get}
use Rattle.golf_blocks.specs.declared.blocks.Block.{Block}

module _ {V : Type 0} where
  -- the entry at an index of a block, if both are there
  abbrev pub entry_in : ℕ → Option (Block V) → Option (ℕ × V)
  entry_in j None = None
  entry_in j (Some b) = slice_get b.entries.items j

  -- whether the entry is there, and has the key
  abbrev pub has_key : ℕ → Option (ℕ × V) → Bool
  has_key k None = false
  has_key k (Some e) = k == e.0
