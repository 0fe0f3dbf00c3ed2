use Rattle.std.proofs.Common.{true}
use Rattle.std.proofs.lemmas.Result.{IfOk-weaker}
use Rattle.golf_model.specs.Arithmetic.{pushes, loads_global}
use Rattle.golf_model.specs.Views.{frame_view}
use Rattle.golf_machine.proofs.Inner.{done-same}
use Rattle.golf_machine.proofs.within.load_global.Goals as goal

pub returns-in-Some-clause-ok : goal.returns-in-Some-clause-ok
returns-in-Some-clause-ok c =
    IfOk-weaker c.push.result _ _
    (λ came d s same. done-same true came (λ a. pushes a c.in-Some.value) (λ a. loads_global a c.args.global s)
    (frame_view c.args.frame.now) _ (λ g r callers line. rw (same, ← c.in-Some.ensures)) d) c.push.ensures.ok
