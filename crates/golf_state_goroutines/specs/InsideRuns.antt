-- A list of running goroutines in memory, and its invariant.
use Rattle.std.specs.Prelude.{◌≡◌, length}
use Rattle.golf_state_goroutines.specs.RunBlocks.{AreRunBlocks, block_keys, running_in}
use Rattle.golf_state_goroutines.specs.RunLists.{Runners}
use Rattle.golf_state_goroutines.specs.Sums.{HasSums}
use Rattle.golf_state_goroutines.specs.declared.run_list.RunList.TheInside.{Inside}

abbrev pub runs_of : Inside → Runners
runs_of r = record { numbers = running_in r.blocks.items; keys = block_keys r.blocks.items }

-- the blocks are in order; the sums and the count are theirs
pub record IsRunList (r : Inside) : Type 0 where
  pub blocks : AreRunBlocks 0 r.blocks.items
  pub sums : HasSums r.blocks.items r.sums.items
  pub count : r.count ≡ length (running_in r.blocks.items)
