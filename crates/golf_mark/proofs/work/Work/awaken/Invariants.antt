use Rattle.std.proofs.Common.{◌≡◌, ℕ, ◌+◌, ◌<◌, get_or}
use Rattle.golf_theory.specs.Membership.{In}
use Rattle.golf_mark.specs.UnderWay.{Gains}
use Rattle.golf_mark.proofs.work.Work.awaken.Given as goal

abbrev pub invariant-loop-sleeper : goal.invariant-loop-sleeper
invariant-loop-sleeper l = record {
  gains : Gains (λ p. (s : ℕ) × (p ≡ l.nodes + s) × In s l.sleepers) l.initial.self l.self;
  there : (k : ℕ) → k < l.sleeper-index → In (l.nodes + get_or l.sleepers k 0) l.self.order;
}
