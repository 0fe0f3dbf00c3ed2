use Rattle.std.proofs.Common.{refl, sym, ap, ◌∙◌, ◌++◌, append_assoc}
use Rattle.std.proofs.lemmas.Result.{on_ok_weaker}
use Rattle.golf_snapshot.proofs.Gathering.{gather-append, ValueNodes, ValuesNodes, values-cons}
use Rattle.golf_snapshot.proofs.references.add_buffer.Goals as goal

pub returns : goal.returns
returns c =
    let objects = c.args.heap.now.objects in
    let older = c.as_slices.result.0.now in
    let newer = c.as_slices.result.1.now in
    on_ok_weaker c.add_values-2.result
    (λ e. e ∙ ap (λ l. l ++ ValuesNodes objects newer) c.in_ok-add_values.ensures
    ∙ append_assoc c.args.nodes.now (ValuesNodes objects older) (ValuesNodes objects newer)
    ∙ ap (λ l. c.args.nodes.now ++ l) (sym
    (gather-append (ValueNodes objects) (ValuesNodes objects) refl (values-cons objects) older newer)
    ∙ ap (ValuesNodes objects) c.as_slices.ensures))
    c.add_values-2.ensures
