use Rattle.golf_state.proofs.Tops.{reverse-take}
use Rattle.golf_machine.proofs.within.go_to.Goals as goal

pub returns : goal.returns
returns c = rw (
  c.truncate.ensures.slots,
  c.truncate.ensures.items,
  c.saturating_sub-keep.ensures,
  c.operand_count.ensures,
  reverse-take c.args.taken c.args.frame.now.values.operands,
)
