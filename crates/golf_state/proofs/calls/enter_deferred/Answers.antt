use Rattle.golf_state.specs.FrameChanges.{undeferred}
use Rattle.golf_state.proofs.Tops.{below_changed}
use Rattle.golf_state.proofs.calls.enter_deferred.Goals as goal

pub returns-then-count-gt0-clause-ok : goal.returns-then-count-gt0-clause-ok
returns-then-count-gt0-clause-ok c =
    below_changed c.args.frames.now c.push.new.self c.len-count.result c.args.frame c.item_mut.result.now
    c.take_deferred.new.frame undeferred
    (record {
      count = c.len-count.ensures;
      some = c.if-count-gt0.true;
      pushed = c.in_ok-push.ensures.ok;
      at = c.item_mut.ensures.value;
    }) c.take_deferred.ensures
