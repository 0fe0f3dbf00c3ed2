-- Blocks of entries: each has a top, and its keys are up to its top and above the top of the block before.
use Rattle.std.specs.Prelude.{◌≡◌, ◌<◌, ◌≤◌, ◌^◌, ℕ, suc, Bool, true, false, List, [], ◌∷◌, map, length, Option, Some}
use Rattle.std.specs.Prelude.{None, nat_lt}
use Rattle.golf_theory.specs.Maps.{Rises, AllBelow}
use Rattle.golf_blocks.specs.Gather.{gather, not_empty}
use Rattle.golf_blocks.specs.declared.blocks.Block.{Block}

module _ {V : Type 0} where
  -- the entries of all blocks
  abbrev pub entries_in : List (Block V) → List (ℕ × V)
  entries_in bs = gather (λ b. b.entries.items) bs

  -- the keys rise from lo up to the top, and there are at most 512 of them
  pub record IsBlock (lo : ℕ) (b : Block V) : Type 0 where
    pub order : lo ≤ b.top
    pub limit : b.top < 2 ^ 32
    pub rises : Rises lo b.entries.items
    pub below : AllBelow (suc b.top) b.entries.items
    pub few : length b.entries.items ≤ 512

  -- the blocks are in rising order of top, and their keys are at least lo
  abbrev pub AreBlocks : ℕ → List (Block V) → Type 0
  AreBlocks lo [] = Unit {0}
  AreBlocks lo (b ∷ bs) = IsBlock lo b × AreBlocks (suc b.top) bs

  -- whether the block has an entry
  abbrev pub is_filled : Block V → Bool
  is_filled b = not_empty b.entries.items

  -- each block has an entry
  abbrev pub AreFilled : List (Block V) → Type 0
  AreFilled [] = Unit {0}
  AreFilled (b ∷ bs) = (is_filled b ≡ true) × AreFilled bs

  -- the blocks by their tops
  abbrev pub keyed_blocks : List (Block V) → List (ℕ × Block V)
  keyed_blocks bs = map (λ b. (b.top, b)) bs

  -- whether the block is there, and has room for one more entry
  abbrev pub has_room : Option (Block V) → Bool
  has_room None = false
  has_room (Some b) = nat_lt (length b.entries.items) 512

  -- the tops and the entries of the blocks, without their room
  abbrev pub contents : List (Block V) → List (ℕ × List (ℕ × V))
  contents bs = map (λ b. (b.top, b.entries.items)) bs
