use Rattle.std.proofs.Common.{◌≡◌, ℕ, ◌+◌, arith, get_or, below_more}
use Rattle.golf_theory.specs.Membership.{In}
use Rattle.golf_theory.proofs.Lists.{In-get_or}
use Rattle.golf_mark.proofs.Gaining.{In-all, Gains-trans, Gains-into, Gains-keeps}
use Rattle.golf_mark.proofs.work.Work.awaken.Goals as goal

pub loop-sleeper-preserved : goal.loop-sleeper-preserved
loop-sleeper-preserved c =
    let s : ℕ = get_or c.args.sleepers.now c.loop-sleeper.sleeper-index 0 in
    let Kind : ℕ → Type 0 = λ p. (s : ℕ) × (p ≡ c.args.nodes + s) × In s c.args.sleepers.now in
    let One : ℕ → Type 0 = λ p. p ≡ c.args.nodes + s in
    record {
      gains = Gains-trans Kind c.args.self.now c.loop-sleeper.self c.claim.new.self c.loop-sleeper.invariant.gains
          (Gains-into One Kind c.loop-sleeper.self c.claim.new.self
          (λ p e. (s, e, In-get_or c.args.sleepers.now c.loop-sleeper.sleeper-index 0 (omega arith)))
          c.claim.ensures.gains);
      there = below_more _ _ (λ k h. Gains-keeps One c.loop-sleeper.self c.claim.new.self _ c.claim.ensures.gains
          (c.loop-sleeper.invariant.there k h)) c.claim.ensures.there;
    }

pub returns-clause-there : goal.returns-clause-there
returns-clause-there c = In-all (λ s. In (c.args.nodes + s) c.loop-sleeper.self.order) c.args.sleepers.now
    c.loop-sleeper.sleeper-index (omega arith) c.loop-sleeper.invariant.there
