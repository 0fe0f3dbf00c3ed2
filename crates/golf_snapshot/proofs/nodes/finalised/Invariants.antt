use Rattle.std.proofs.Common.{◌≡◌, map, take}
use Rattle.golf_model.specs.Refs.{has_finaliser}
use Rattle.golf_snapshot.proofs.nodes.finalised.Given as goal

-- those so far
abbrev pub invariant-loop-rank : goal.invariant-loop-rank
invariant-loop-rank l = l.flags ≡ map (λ e. has_finaliser l.state e.0) (take l.rank l.heap.objects)
