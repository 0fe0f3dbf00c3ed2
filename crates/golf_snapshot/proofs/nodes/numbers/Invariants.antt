use Rattle.std.proofs.Common.{◌≡◌, map, take}
use Rattle.golf_snapshot.specs.Parts.{number_of}
use Rattle.golf_snapshot.proofs.nodes.numbers.Given as goal

-- those so far
abbrev pub invariant-loop-rank : goal.invariant-loop-rank
invariant-loop-rank l = l.numbers ≡ map number_of (take l.rank l.heap.objects)
