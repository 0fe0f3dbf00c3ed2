use Rattle.std.proofs.lemmas.Result.{IfOk-weaker}
use Rattle.golf_machine.proofs.within.perform_within.Goals as goal

pub returns-in-LoadGlobal-clause-ok : goal.returns-in-LoadGlobal-clause-ok
returns-in-LoadGlobal-clause-ok c = IfOk-weaker c.load_global.result _ _
    (λ came d code choice s same. rw c.in-LoadGlobal.is (d s same)) c.load_global.ensures.ok
