use Rattle.std.proofs.Common.{ℕ, List, inr, subst}
use Rattle.golf_theory.specs.Membership.{In}
use Rattle.golf_mark.proofs.scanner.make_ready.Goals as goal

pub returns-then-not-is_beside-clause-part : goal.returns-then-not-is_beside-clause-part
returns-then-not-is_beside-clause-part c = λ p h.
    absurd (subst (λ (l : List ℕ). In p l) c.renew.ensures.none h)

pub returns-then-not-is_beside-clause-there : goal.returns-then-not-is_beside-clause-there
returns-then-not-is_beside-clause-there c = λ p h. inr (c.claim_batch.ensures.there p h)
