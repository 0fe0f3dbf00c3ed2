-- What the answer for what stands after the dot of a value tells.
-- For: `select`, src/selectors.rt; `value_member`, golf_check_types/specs/Expressions.antt
-- By: cases of what stands before the dot; no induction
use Rattle.std.proofs.Common.{◌≡◌, ℕ, List, [], refl, subst}
use Rattle.std.specs.Prelude.{Result}
use Rattle.golf_check_types.specs.declared.fault.TypeFault.{TypeFault}
use Rattle.golf_check_types.specs.declared.operands.Operand.{Operand}
use Rattle.golf_check_types.specs.declared.operands.Operand.TheVariants as operand
use Rattle.golf_check_types.specs.declared.operands.Package.{Package}
use Rattle.golf_check_types.specs.declared.operands.Given.{Given}
use Rattle.golf_check_types.specs.declared.scopes.FileScope.{FileScope}
use Rattle.golf_check_types.specs.Types.{given}
use Rattle.golf_check_types.specs.Expressions.{value_faults, value_member, selected_from}
use Rattle.golf_check_types.specs.Judgments.{AnswersJudged}
use Rattle.golf_check_types.proofs.Seams.{tells_behind}

pub selected_value : (r : Result Operand TypeFault) (l : ℕ) (f : FileScope) (n : List ℕ) (m : Operand) (v : Given)
    → ((p : Package) → m ≡ operand.Package p → ⊥) → value_faults l m ≡ [] → v ≡ given m
    → AnswersJudged r (value_member l f n v)
    → AnswersJudged r (selected_from l f n m)
selected_value r l f n (operand.Package p) v other none is h = absurd (other p refl)
selected_value r l f n m v other none is h =
    tells_behind r (value_faults l m) (value_member l f n (given m)).faults
    (λ x. x ≡ (value_member l f n (given m)).meaning) (λ x. x ≡ (value_member l f n (given m)).meaning) none
    (λ _ k. k)
    (subst (λ u. AnswersJudged r (value_member l f n u)) is h)
