use Rattle.std.proofs.Common.{◌≡◌, None, length}
use Rattle.golf_model.specs.State.{ending}
use Rattle.golf_machine.specs.Batches.{HasGoneOn}
use Rattle.golf_machine.proofs.batches.take_turns.Given as goal

-- the numbers so far were taken, and the program goes on
abbrev pub invariant-loop-number : goal.invariant-loop-number
invariant-loop-number g l = record {
  gone : HasGoneOn l.code l.fn.state l.state (g.N.Numbers.left l.fn.numbers) (g.N.Numbers.left l.numbers)
      (g.N.Numbers.given l.fn.numbers) (g.N.Numbers.given l.numbers);
  goes : ending l.state ≡ None;
}

-- an event less is to come
abbrev pub decreases-loop-number : goal.decreases-loop-number
decreases-loop-number g l = length (g.N.Numbers.left l.numbers)
