use Rattle.std.proofs.lemmas.Result.{IfOk-weaker}
use Rattle.std.proofs.Common.{subst}
use Rattle.golf_model.specs.Selects.{selects}
use Rattle.golf_state.specs.Outcomes.{Comes}
use Rattle.golf_machine.proofs.Fits.{fits-comes}
use Rattle.golf_machine.proofs.instructions.operate.Goals as goal

pub returns-in-Select-clause-ok : goal.returns-in-Select-clause-ok
returns-in-Select-clause-ok c =
    let g = c.args.acting.goroutine.0 in
    let line = c.args.acting.line in
    let s = c.args.state.now in
    let t = c.select.new.state in
    IfOk-weaker c.select.result _ _
    (λ outcome h. rw c.in-Select.is (fits-comes outcome _ g line s t c.requires.stays
    (subst (λ xs. Comes outcome (λ a. selects a s c.args.choice xs c.in-Select.otherwise) g line s t)
    c.as_slice-cases.ensures h)))
    c.select.ensures.ok

pub returns-in-Int-clause-ok : goal.returns-in-Int-clause-ok
returns-in-Int-clause-ok c = IfOk-weaker c.perform_on_frame.result _ _
    (λ outcome h. h c.args.code.now c.args.choice) c.perform_on_frame.ensures.ok
