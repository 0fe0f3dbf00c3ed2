use Rattle.std.proofs.Common.{◌≡◌, map, take}
use Rattle.golf_world.specs.declared.history.HistoryEntry.{HistoryEntry}
use Rattle.golf_command.proofs.threads.numbers_of.Given as goal

-- the numbers of the entries so far
abbrev pub invariant-loop-entry : goal.invariant-loop-entry
invariant-loop-entry l = l.numbers ≡ map (λ (e : HistoryEntry). e.number) (take l.entry-index l.entries)
