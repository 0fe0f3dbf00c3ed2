use Rattle.std.proofs.Common.{length, inl, inr, arith}
use Rattle.std.proofs.lemmas.Bool.{cases_lt}
use Rattle.golf_state_goroutines.proofs.BlockLaws.{get_or-past}
use Rattle.golf_state_goroutines.proofs.sums.clear.Goals as goal

pub returns-clause-zero : goal.returns-clause-zero
returns-clause-zero c = λ k.
    let ns = c.loop-at.sums.items in
    elim (cases_lt k (length ns)) [
      | inl l ↦ c.loop-at.invariant.zero k (omega arith)
      | inr l ↦ get_or-past ns k l
    ]
