use Rattle.std.proofs.Common.{◌≡◌, ◌++◌, length, drop}
use Rattle.golf_theory.specs.Flags.{left_out}
use Rattle.golf_model.specs.Collections.{queued}
use Rattle.golf_blocks.specs.Blocks.{entries_in}
use Rattle.golf_state_finalisers.proofs.walks.unflagged_in.Given as goal

-- the entries so far, and those of the other blocks
abbrev pub invariant-loop-at : goal.invariant-loop-at
invariant-loop-at l = record {
  flags : length l.rest ≡ length (entries_in (drop l.at l.blocks));
  entries : l.entries ++ queued (left_out l.rest (entries_in (drop l.at l.blocks))) ≡ queued
      (left_out l.stays (entries_in l.blocks));
}
