use Rattle.golf_heap.proofs.Numbers.{unchanged}
use Rattle.golf_heap.proofs.heap.Heap.put.Goals as goal
use Rattle.std.proofs.Common.{sym, ◌∙◌}

pub returns-else-holds : goal.returns-else-holds
returns-else-holds c = unchanged c.args.self.now c.args.id.0 c.args.object (sym c.holds.ensures ∙ c.if-holds.false)
