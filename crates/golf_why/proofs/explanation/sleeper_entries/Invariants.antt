use Rattle.std.proofs.Common.{◌≡◌, take}
use Rattle.golf_why.proofs.SleeperEntries.{sleeper_entries_among}
use Rattle.golf_why.proofs.explanation.sleeper_entries.Given as goal

-- how the first sleepers are blocked
abbrev pub invariant-loop-sleeper : goal.invariant-loop-sleeper
invariant-loop-sleeper l = l.entries ≡ sleeper_entries_among l.state (take l.sleeper l.graph.sleepers)
