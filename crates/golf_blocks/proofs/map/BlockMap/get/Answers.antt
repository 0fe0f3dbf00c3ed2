use Rattle.std.proofs.Common.{List, get_or, sym, ap, ◌∙◌, subst}
use Rattle.golf_theory.specs.Maps.{find}
use Rattle.golf_blocks.specs.Blocks.{AreBlocks, entries_in}
use Rattle.golf_blocks.specs.declared.blocks.Block.{Block}
use Rattle.golf_blocks.proofs.SpotLaws.{read, read-value}
use Rattle.golf_blocks.proofs.map.BlockMap.get.Goals as goal

pub returns : goal.returns
returns g c =
    let bs = c.as_slice-blocks.result.now in
    let k = c.args.key in
    let a : AreBlocks 0 bs = subst (AreBlocks 0) (sym c.as_slice-blocks.ensures.value) c.self.invariant.blocks in
    let r = read bs c.in_ok-spot.spot.block c.in_ok-spot.spot.index k c.index-blocks-spot.result a
    c.in_ok-spot.ensures.spot c.index-blocks-spot.is in
    sym (ap (find k) (sym c.self.view_is)
    ∙ ap (λ (ds : List (Block _)). find k (entries_in ds)) (sym c.as_slice-blocks.ensures.value)
    ∙ read-value bs c.in_ok-spot.spot.block c.in_ok-spot.spot.index k c.index-blocks-spot.result c.index.result.now r
    (c.index.ensures ∙ ap (λ (b : Block _). get_or b.entries.items c.in_ok-spot.spot.index c.index.result.now)
    (sym c.index-blocks-spot.is)))
