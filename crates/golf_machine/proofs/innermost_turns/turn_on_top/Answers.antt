use Rattle.std.proofs.Common.{arith}
use Rattle.golf_machine.proofs.Moves.{on-top-by, on-top-same}
use Rattle.golf_machine.proofs.innermost_turns.turn_on_top.Goals as goal

pub returns-in_err-tried-clause-err : goal.returns-in_err-tried-clause-err
returns-in_err-tried-clause-err c = grind (arith, on-top-same)

pub returns-clause-ok : goal.returns-clause-ok
returns-clause-ok c = on-top-by c.args.frames.now c.item_mut.result.now c.turn_inside.new.frame c.len-count.result
    c.len-count.ensures c.item_mut.ensures.value c.args.code.now c.args.globals.now c.in_ok-tried.tried
    c.in_ok-tried.ensures.ok
