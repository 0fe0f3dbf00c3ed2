use Rattle.golf_state.proofs.Tops.{one_more}
use Rattle.golf_machine.proofs.within.put.Goals as goal

pub returns : goal.returns
returns c = let keep = rw c.operand_count.ensures at c.truncate.ensures.items in
    rw (
      c.push_ready.ensures.slots,
      c.truncate.ensures.slots,
      one_more c.args.frame.now.values.operands c.truncate.new.self.operands c.args.taken keep
          c.push_ready.new.self.operands c.args.value c.push_ready.ensures.items,
    )
