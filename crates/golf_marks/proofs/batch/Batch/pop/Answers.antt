use Rattle.std.proofs.Common.{refl, sym, ap, ◌∙◌, ◌∷◌, ◌+◌, ◌*◌, List, ℕ, w64, arith}
use Rattle.std.specs.Int.{trailing_zeros}
use Rattle.golf_marks.proofs.Batches.{batched_is, no_place, lowest_first}
use Rattle.golf_marks.proofs.batch.Batch.pop.Goals as goal

pub returns-then-self-eq0-clause-place : goal.returns-then-self-eq0-clause-place
returns-then-self-eq0-clause-place c =
    let b = c.args.self.now in (batched_is b ∙ no_place b.word b.bits c.if-self-eq0.true, refl)

pub returns-clause-place : goal.returns-clause-place
returns-clause-place c =
    let b = c.args.self.now in
    let lowest : ℕ = 64 * b.word + trailing_zeros w64 b.bits in
    batched_is b ∙ lowest_first b.word b.bits (omega (arith, c.if-self-eq0.false)) (omega arith)
    ∙ ap (λ (xs : List ℕ). lowest ∷ xs) (sym (batched_is _))
