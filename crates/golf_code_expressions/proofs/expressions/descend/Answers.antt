use Rattle.std.proofs.Common.{refl, sym, ap, ◌∙◌}
use Rattle.golf_code_facts.specs.Facts.{operand_in}
use Rattle.golf_code_expressions.specs.Spines.{written, with_emitted}
use Rattle.golf_code_expressions.proofs.Spines.{descends}
use Rattle.golf_code_expressions.proofs.expressions.descend.Goals as goal

pub down-preserved : goal.down-preserved
down-preserved c =
    let inner = c.down.inner.now in
    let tells = ap (λ m. written inner m c.operand.result.now) c.operand_of-operand.ensures
    ∙ ap (written inner (operand_in c.in-Some.fact.now)) c.operand.ensures in
    descends c.args.e.now c.args.writer.now c.down.waiting c.push.new.self c.down.inner inner
    c.in-Some-written_left.left.now c.in-Some.fact.now c.take.new.self c.down.writer
    (record { facts = c.take.new.self; draft = record c.down.writer.draft { emitted = c.begin.new.emitted } })
    c.down.invariant refl (sym c.copy-facts.ensures ∙ c.in-Some.ensures.some)
    (sym tells ∙ sym c.in-Some-written_left.ensures.is) c.in-Some-written_left.ensures.smaller
    c.in_ok-push.ensures.ok (ap (with_emitted c.down.writer.draft) c.in_ok-begin.ensures) refl
