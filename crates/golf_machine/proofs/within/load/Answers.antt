use Rattle.std.proofs.Common.{true}
use Rattle.std.proofs.lemmas.Result.{IfOk-weaker}
use Rattle.golf_model.specs.Arithmetic.{pushes, loads}
use Rattle.golf_model.specs.Views.{frame_view}
use Rattle.golf_machine.proofs.Inner.{done-same}
use Rattle.golf_machine.proofs.within.load.Goals as goal

pub returns-in-Some-clause-ok : goal.returns-in-Some-clause-ok
returns-in-Some-clause-ok c =
    IfOk-weaker c.push.result _ _
    (λ came d. done-same true came (λ a. pushes a c.in-Some.value) (λ a. loads a c.args.slot)
    (frame_view c.args.frame.now) _ (λ g r callers line. rw (← c.in-Some.ensures)) d) c.push.ensures.ok
