use Rattle.std.proofs.Common.{◌≡◌, length}
use Rattle.golf_world.proofs.PassSeats.{HasJoined}
use Rattle.golf_world.proofs.passes.join_passes.Given as goal

abbrev pub invariant-loop-pass : goal.invariant-loop-pass
invariant-loop-pass g l = record {
  table : l.keeper.table_id ≡ g.W.WorldName.table;
  joined : HasJoined g.W.WorldName.passes l.fn.keeper.me.0.seen l.fn.passes l.passes l.keeper.me;
}

abbrev pub decreases-loop-pass : goal.decreases-loop-pass
decreases-loop-pass g l = length l.passes
