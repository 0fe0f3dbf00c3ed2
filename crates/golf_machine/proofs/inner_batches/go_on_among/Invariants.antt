use Rattle.std.proofs.Common.{length}
use Rattle.golf_machine.proofs.Among.{IsOn}
use Rattle.golf_machine.proofs.inner_batches.go_on_among.Given as goal

-- the numbers so far were taken, and who can run is as before
abbrev pub invariant-loop-number : goal.invariant-loop-number
invariant-loop-number g l = IsOn l.code l.fn.state l.state (g.N.Numbers.left l.fn.numbers) (g.N.Numbers.left l.numbers)
    (g.N.Numbers.given l.fn.numbers) (g.N.Numbers.given l.numbers) l.count

-- an event less is to come
abbrev pub decreases-loop-number : goal.decreases-loop-number
decreases-loop-number g l = length (g.N.Numbers.left l.numbers)
