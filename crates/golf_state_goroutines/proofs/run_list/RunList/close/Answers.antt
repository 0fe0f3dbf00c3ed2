use Rattle.std.proofs.Common.{arith}
use Rattle.golf_state_goroutines.proofs.RunLaws.{blocks-few}
use Rattle.golf_state_goroutines.proofs.run_list.RunList.close.Goals as goal

pub overflow_add-self : goal.overflow_add-self
overflow_add-self g c =
    let bs = c.close_blocks.new.blocks in
    omega (arith, blocks-few bs.items c.close_blocks.ensures.blocks, c.len.ensures, bs.ok.0)
