use Rattle.std.proofs.Common.{◌≡◌, ℕ, arith, get_or, subst, sym, below_more}
use Rattle.golf_theory.specs.Membership.{In}
use Rattle.golf_theory.proofs.Lists.{In-get_or}
use Rattle.golf_mark.proofs.Gaining.{In-all, Gains-trans, Gains-into, Gains-keeps}
use Rattle.golf_mark.proofs.work.Work.claim_all.Goals as goal

pub loop-place-preserved : goal.loop-place-preserved
loop-place-preserved c =
    let q : ℕ = get_or c.args.places.now c.loop-place.place-index 0 in
    let Kind : ℕ → Type 0 = λ p. In p c.args.places.now in
    let One : ℕ → Type 0 = λ p. p ≡ q in
    record {
      gains = Gains-trans Kind c.args.self.now c.loop-place.self c.claim.new.self c.loop-place.invariant.gains
          (Gains-into One Kind c.loop-place.self c.claim.new.self
          (λ p e. subst Kind (sym e) (In-get_or c.args.places.now c.loop-place.place-index 0 (omega arith)))
          c.claim.ensures.gains);
      there = below_more _ _ (λ k h. Gains-keeps One c.loop-place.self c.claim.new.self _ c.claim.ensures.gains
          (c.loop-place.invariant.there k h)) c.claim.ensures.there;
    }

pub returns-clause-there : goal.returns-clause-there
returns-clause-there c = In-all (λ p. In p c.loop-place.self.order) c.args.places.now c.loop-place.place-index
    (omega arith) c.loop-place.invariant.there
