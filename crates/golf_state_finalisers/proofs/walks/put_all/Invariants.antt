use Rattle.std.proofs.Common.{◌≡◌, ◌++◌, take}
use Rattle.golf_state_finalisers.proofs.walks.put_all.Given as goal

-- those so far
abbrev pub invariant-loop-pair : goal.invariant-loop-pair
invariant-loop-pair l = l.to ≡ l.fn.to ++ take l.pair-index l.pairs
