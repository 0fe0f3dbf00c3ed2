use Rattle.std.proofs.Common.{get_or, pos}
use Rattle.std.proofs.lemmas.List.{get_or_default}
use Rattle.golf_data.specs.declared.value.Value.{Value}
use Rattle.golf_machine.proofs.Lines.{zeros_more}
use Rattle.golf_machine.proofs.structures.zeros_of.Goals as goal

pub loop-value-preserved : goal.loop-value-preserved
loop-value-preserved c =
    let values = c.args.values.now in
    let i = c.loop-value.value-index in
    let v : Value = get_or values i (Value.Int (pos 0)) in
    let here = get_or_default values i (Value.Int (pos 0)) v c.loop-value-test.true in
    rw (c.in_ok-push.ensures.ok, c.zero_of.ensures)
    (zeros_more values i v c.loop-value.zeros c.loop-value-test.true here c.loop-value.invariant)
