use Rattle.std.proofs.Common.{◌≡◌, ◌+◌, ◌<◌, List, length, Some, sym, ap, ◌∙◌, arith, slice_get}
use Rattle.golf_theory.proofs.Readings.{item-at}
use Rattle.golf_state_goroutines.specs.RunBlocks.{numbers, running_in}
use Rattle.golf_state_goroutines.specs.declared.run_blocks.RunBlock.{RunBlock}
use Rattle.golf_state_goroutines.proofs.Rises.{at-number}
use Rattle.golf_blocks.proofs.Gathers.{gather-get}
use Rattle.golf_state_goroutines.proofs.BlockLaws.{numbers-length}
use Rattle.golf_state_goroutines.proofs.run_list.RunList.at.Goals as goal

pub returns-then-k-len : goal.returns-then-k-len
returns-then-k-len c =
    let bs = c.self.inside.blocks.items in
    let b = c.in-Some.block.now in
    let k = c.args.k in
    let here : slice_get bs 0 ≡ Some b = ap (λ (cs : List RunBlock). slice_get cs 0) (sym c.as_slice.ensures.value)
    ∙ item-at c.as_slice.result.now 0 c.in-Some.block c.in-Some.ensures.item in
    let l : k < length b.running.items = omega (arith, c.if-k-len.true, c.len.ensures, b.running.ok.0) in
    let m : k < length (numbers b.running.items) = omega (arith, l, numbers-length b.running.items) in
    let zero : 0 + k ≡ k = omega arith in
    rw (← c.self.view_is)
    (sym (at-number b.running.items k c.index.result.now l c.index.ensures)
    ∙ sym (gather-get (λ (b : RunBlock). numbers b.running.items) bs 0 k b here m)
    ∙ ap (slice_get (running_in bs)) zero)
