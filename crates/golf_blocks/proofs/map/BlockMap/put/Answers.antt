use Rattle.std.proofs.Common.{ℕ, List, length, ap, arith}
use Rattle.golf_blocks.specs.Blocks.{entries_in}
use Rattle.golf_blocks.proofs.Parts.{insert-length}
use Rattle.golf_blocks.proofs.BlockLaws.{few-entries}
use Rattle.golf_blocks.proofs.map.BlockMap.put.Goals as goal

pub overflow_add-self : goal.overflow_add-self
overflow_add-self g c =
    let bs = c.self.inside.blocks.items in
    omega (arith, few-entries bs c.self.invariant.blocks, c.self.invariant.count)

pub invariant_of-self-2 : goal.invariant_of-self-2
invariant_of-self-2 g c =
    let bs = c.self.inside.blocks.items in
    let more = ap (λ (ps : List (ℕ × _)). length ps) c.in_ok-put_in.ensures.ok in
    record {
      blocks = c.in_ok-put_in.ensures.blocks;
      filled = c.in_ok-put_in.ensures.filled;
      count = omega (arith, more, insert-length c.args.key c.args.value (entries_in bs), c.self.invariant.count);
    }
