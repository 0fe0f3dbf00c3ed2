use Rattle.std.proofs.Common.{◌≡◌, false, take}
use Rattle.golf_explore_laws.specs.Laws.{is_asleep}
use Rattle.golf_explore.specs.Results.{some_ended}
use Rattle.golf_explore.proofs.endings.has_sleep.Given as goal

-- no visit so far has such an ending
abbrev pub invariant-loop-visit : goal.invariant-loop-visit
invariant-loop-visit l = some_ended is_asleep (take l.visit-index l.visits) ≡ false
