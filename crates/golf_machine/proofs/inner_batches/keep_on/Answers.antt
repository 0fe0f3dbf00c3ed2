use Rattle.std.proofs.Common.{Some}
use Rattle.golf_machine.proofs.Lone.{asked-on-top}
use Rattle.golf_machine.proofs.Moves.{views-are, views-after}
use Rattle.golf_machine.proofs.Sequence.{failed}
use Rattle.golf_machine.proofs.inner_batches.keep_on.Goals as goal

pub returns-in_err-next-clause-err : goal.returns-in_err-next-clause-err
returns-in_err-next-clause-err g c =
    let e = c.in_err-next.ensures.err in
    let w = c.keep_on_inside.new.frame in
    failed c.from_residual.result c.from_residual.ensures.0 (
      e.0,
      asked-on-top c.args.code.now c.args.globals.now _ _ _ (Some e.0) _ _ _ _
          (views-are c.args.frames.now c.item_mut.result.now w c.len-count.result c.len-count.ensures
          c.item_mut.ensures.value)
          (views-after c.args.frames.now c.item_mut.result.now w c.len-count.result c.len-count.ensures
          c.item_mut.ensures.value) e.1,
    )

pub returns-clause-ok : goal.returns-clause-ok
returns-clause-ok g c =
    let w = c.keep_on_inside.new.frame in
    asked-on-top c.args.code.now c.args.globals.now _ _ _ c.in_ok-next.next _ _ _ _
    (views-are c.args.frames.now c.item_mut.result.now w c.len-count.result c.len-count.ensures
    c.item_mut.ensures.value)
    (views-after c.args.frames.now c.item_mut.result.now w c.len-count.result c.len-count.ensures
    c.item_mut.ensures.value) c.in_ok-next.ensures.ok
