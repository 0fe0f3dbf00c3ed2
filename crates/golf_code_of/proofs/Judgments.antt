-- What code takes an expression for is what the checker takes it for.
-- For: `JudgmentsAgree` (golf_code_of/specs/Laws.antt) and `judgments_agree` (src/lib.rt)
-- By: the steps of both, since the code carries along what the checker takes an expression for
use Rattle.std.proofs.Common.{◌≡◌, refl}
use Rattle.golf_syntax_trees.specs.declared.expressions.Expr.{Expr}
use Rattle.golf_syntax_trees.proofs.ExpressionInduction.{carried}
use Rattle.golf_check_types.specs.Judgments.{Judge, Put, judge, judge_step, element_step}
use Rattle.golf_code_of.specs.declared.tables.Tables.{Tables}
use Rattle.golf_code_of.specs.ExpressionCode.{Coded, CodedPut, put_judge, coded, coded_step, element_coded_step}
use Rattle.golf_code_of.specs.Laws.{JudgmentsAgree}

pub agree : (t : Tables) (e : Expr) → (coded t e).judge ≡ judge e
unfolding coded judge
agree t = carried Coded CodedPut (coded_step t) element_coded_step Judge Put judge_step element_step
    (λ x. x.judge) put_judge (λ y. refl) (λ y. refl)

pub judgments-agree : JudgmentsAgree
judgments-agree t e = agree t e
