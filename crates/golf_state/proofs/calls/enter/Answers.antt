use Rattle.std.proofs.Common.{[]}
use Rattle.golf_state.specs.FrameChanges.{went}
use Rattle.golf_state.proofs.Tops.{below_changed}
use Rattle.golf_state.proofs.calls.enter.Goals as goal

pub returns-then-count-gt0-clause-ok : goal.returns-then-count-gt0-clause-ok
returns-then-count-gt0-clause-ok c =
    below_changed c.args.frames.now c.push.new.self c.len-count.result c.args.frame c.item_mut.result.now
    c.advance_frame.new.frame (went c.args.after c.args.taken [])
    (record {
      count = c.len-count.ensures;
      some = c.if-count-gt0.true;
      pushed = c.in_ok-push.ensures.ok;
      at = c.item_mut.ensures.value;
    }) c.advance_frame.ensures.frame
