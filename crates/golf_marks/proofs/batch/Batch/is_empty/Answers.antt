use Rattle.std.proofs.Common.{sym, ◌∙◌, eq-eqb, eqb-true, arith, inl, inr}
use Rattle.std.proofs.lemmas.Bool.{cases_eq}
use Rattle.golf_marks.proofs.Batches.{batched_is, no_place, some_place}
use Rattle.golf_marks.proofs.batch.Batch.is_empty.Goals as goal

pub returns : goal.returns
returns c =
    let b = c.args.self.now in (
      λ h. batched_is b ∙ no_place b.word b.bits (eqb-true b.bits 0 h),
      λ h. elim (cases_eq b.bits 0) [
        | inl none ↦ eq-eqb b.bits 0 none
        | inr some ↦ absurd (some_place b.word b.bits some (omega arith) (sym (batched_is b) ∙ h))
      ],
    )
