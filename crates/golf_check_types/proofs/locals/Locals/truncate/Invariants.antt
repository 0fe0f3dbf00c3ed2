use Rattle.std.proofs.Common.{◌≡◌, ◌-◌, length, take}
use Rattle.golf_check_types.proofs.locals.Locals.truncate.Given as goal

abbrev pub invariant-loop-alloc : goal.invariant-loop-alloc
invariant-loop-alloc l = take l.n l.self ≡ take l.n l.fn.self

abbrev pub decreases-loop-alloc : goal.decreases-loop-alloc
decreases-loop-alloc l = length l.self - l.n
