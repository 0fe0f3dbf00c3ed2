use Rattle.std.proofs.Common.{◌≡◌, ◌++◌, take}
use Rattle.golf_model.specs.Refs.{refs_where, has_finaliser}
use Rattle.golf_snapshot.specs.Parts.{ranks}
use Rattle.golf_snapshot.proofs.nodes.add_finalised.Given as goal

-- the nodes so far
abbrev pub invariant-loop-rank : goal.invariant-loop-rank
invariant-loop-rank l = l.nodes ≡ l.fn.nodes
    ++ ranks l.state.objects (refs_where (has_finaliser l.state) (take l.rank l.state.objects))
