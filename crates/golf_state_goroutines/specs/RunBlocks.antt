-- Blocks of running goroutines: a block with the key k is for the numbers from 256 k on and below 256 (k + 1).
use Rattle.std.specs.Prelude.{◌<◌, ◌≤◌, ◌^◌, ◌*◌, ◌+◌, ℕ, suc, List, [], ◌∷◌, map, length, take, vec_capacity}
use Rattle.golf_base.specs.declared.ids.GoroutineId.{GoroutineId}
use Rattle.golf_blocks.specs.Gather.{gather}
use Rattle.golf_state_goroutines.specs.declared.run_blocks.RunBlock.{RunBlock}

-- the numbers of goroutines
abbrev pub numbers : List GoroutineId → List ℕ
numbers gs = map (λ g. g.0) gs

-- the numbers of the running goroutines of all blocks
abbrev pub running_in : List RunBlock → List ℕ
running_in bs = gather (λ b. numbers b.running.items) bs

-- the keys of the blocks
abbrev pub block_keys : List RunBlock → List ℕ
block_keys bs = map (λ b. b.key) bs

-- the numbers rise strictly from lo on, and all are below hi
abbrev pub RisesIn : ℕ → ℕ → List ℕ → Type 0
RisesIn lo hi [] = lo ≤ hi
RisesIn lo hi (x ∷ xs) = (lo ≤ x) × RisesIn (suc x) hi xs

-- the numbers of the block belong to its key, and its list has room for all 256
pub record IsRunBlock (b : RunBlock) : Type 0 where
  pub running : RisesIn (b.key * 256) (b.key * 256 + 256) (numbers b.running.items)
  pub room : 256 ≤ vec_capacity b.running
  pub limit : b.key < 2 ^ 24

-- the blocks are in rising order of key, and the first key is at least k
abbrev pub AreRunBlocks : ℕ → List RunBlock → Type 0
AreRunBlocks k [] = Unit {0}
AreRunBlocks k (b ∷ bs) = (k ≤ b.key) × IsRunBlock b × AreRunBlocks (suc b.key) bs

-- the blocks by their keys
abbrev pub keyed_blocks : List RunBlock → List (ℕ × RunBlock)
keyed_blocks bs = map (λ b. (b.key, b)) bs

-- how many goroutines run in the first n blocks
abbrev pub runs_before : List RunBlock → ℕ → ℕ
runs_before bs n = length (running_in (take n bs))
