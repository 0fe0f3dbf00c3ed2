use Rattle.std.proofs.Common.{◌≡◌, ◌++◌, map, take}
use Rattle.golf_explore.specs.AlikeStates.{wait_pair_of}
use Rattle.golf_explore.proofs.alike_states.add_each.Given as goal

-- the waits so far are added
abbrev pub invariant-loop-wait : goal.invariant-loop-wait
invariant-loop-wait l = l.waits.items
    ≡ l.fn.waits.items ++ map (wait_pair_of l.ticket l.twin) (take l.wait-index l.own)
