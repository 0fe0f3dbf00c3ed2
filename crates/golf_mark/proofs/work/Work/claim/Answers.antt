use Rattle.std.proofs.Common.{rules, ◌≡◌, refl, true}
use Rattle.std.proofs.lemmas.List.{length-set}
use Rattle.golf_theory.proofs.Lists.{In-push}
use Rattle.golf_mark.proofs.Flags.{IsWorking-more}
use Rattle.golf_mark.proofs.Gaining.{Gains-one}
use Rattle.golf_mark.proofs.work.Work.claim.Goals as goal

pub invariant_of-self : goal.invariant_of-self
invariant_of-self c = IsWorking-more c.self.inside.bits.items c.self.inside.order c.push_ready.new.self c.args.place
    (search rules) (search rules) c.push_ready.ensures.items c.push_ready.ensures.spare c.self.invariant

pub returns-then-not-index-clause-gains : goal.returns-then-not-index-clause-gains
returns-then-not-index-clause-gains c = rw (← c.self.view_is)
    (Gains-one (λ p. p ≡ c.args.place) _ _ c.args.place
    (length-set c.self.inside.bits.items c.args.place true) c.push_ready.ensures.items refl)

pub returns-then-not-index-clause-there : goal.returns-then-not-index-clause-there
returns-then-not-index-clause-there c = rw c.push_ready.ensures.items (In-push c.args.place c.self.inside.order.items)
