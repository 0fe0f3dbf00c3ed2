use Rattle.golf_model.specs.Futures.{Leads}
use Rattle.golf_tour.proofs.collection.lead.Given as goal

-- moves led here
abbrev pub invariant-loop-number : goal.invariant-loop-number
invariant-loop-number l = Leads l.code l.state
