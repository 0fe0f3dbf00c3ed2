use Rattle.golf_grey.specs.Hands.{IsStealing}
use Rattle.golf_grey.proofs.steal.steal_all.Given as goal

abbrev pub invariant-loop-j : goal.invariant-loop-j
invariant-loop-j l = IsStealing l.thieves.items l.number l.j l.initial.passes.items l.passes.items
