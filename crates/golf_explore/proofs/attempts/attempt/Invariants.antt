use Rattle.std.proofs.Common.{◌≡◌, take}
use Rattle.golf_model.specs.State.{start as start_of}
use Rattle.golf_model.specs.Futures.{Leads}
use Rattle.golf_explore_laws.specs.After.{after_all}
use Rattle.golf_explore.specs.VisitLists.{GoesPlainly}
use Rattle.golf_explore.proofs.attempts.attempt.Given as goal

-- the state after the turns so far
abbrev pub invariant-loop-number : goal.invariant-loop-number
invariant-loop-number l = record {
  led : l.state ≡ after_all l.code (start_of l.code) (take l.number-index l.numbers);
  goes : GoesPlainly l.code (start_of l.code) (take l.number-index l.numbers);
  leads : Leads l.code l.state;
}
