use Rattle.std.proofs.Common.{◌≡◌, ◌≤◌, ◌++◌, length, take, drop}
use Rattle.golf_theory.specs.Flags.{kept}
use Rattle.golf_blocks.proofs.flagged_items.close_up.Given as goal

-- the kept items of those looked at come first
abbrev pub invariant-loop-at : goal.invariant-loop-at
invariant-loop-at g l = record {
  within : l.count ≤ l.at;
  whole : length l.items.items ≡ length l.keep;
  kept : take l.count l.items.items ++ kept (drop l.at l.keep) (drop l.at l.items.items)
      ≡ kept l.keep l.initial.items.items;
}
