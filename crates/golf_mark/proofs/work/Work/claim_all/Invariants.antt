use Rattle.std.proofs.Common.{ℕ, ◌<◌, get_or}
use Rattle.golf_theory.specs.Membership.{In}
use Rattle.golf_mark.specs.UnderWay.{Gains}
use Rattle.golf_mark.proofs.work.Work.claim_all.Given as goal

abbrev pub invariant-loop-place : goal.invariant-loop-place
invariant-loop-place l = record {
  gains : Gains (λ p. In p l.places) l.initial.self l.self;
  there : (k : ℕ) → k < l.place-index → In (get_or l.places k 0) l.self.order;
}
