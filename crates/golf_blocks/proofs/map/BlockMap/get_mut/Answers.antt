use Rattle.std.proofs.Common.{List, refl, sym, ap, ◌∙◌, slice_get}
use Rattle.golf_blocks.specs.Spots.{has_key, entry_in}
use Rattle.golf_blocks.specs.declared.blocks.Block.{Block}
use Rattle.golf_blocks.proofs.SpotLaws.{Read, read, read-value, written}
use Rattle.golf_blocks.proofs.map.BlockMap.get_mut.Given.{Over}
use Rattle.golf_blocks.proofs.map.BlockMap.get_mut.Goals.{After-index_mut}
use Rattle.golf_blocks.proofs.map.BlockMap.get_mut.Goals as goal

-- the block at the spot, once it is lent
lent : (g : Over) (c : After-index_mut g)
    → Read c.self.inside.blocks.items c.in-Some.spot.block c.in-Some.spot.index c.args.key c.index_mut.result.now
lent g c = read c.self.inside.blocks.items c.in-Some.spot.block c.in-Some.spot.index c.args.key c.index_mut.result.now
    c.self.invariant.blocks
    (ap (λ (ds : List (Block _)). has_key c.args.key (entry_in c.in-Some.spot.index (slice_get ds c.in-Some.spot.block)))
    (sym c.as_slice.ensures.value) ∙ c.in-Some.ensures.spot) c.index_mut.ensures.value

pub invariant_of-self-lent : goal.invariant_of-self-lent
invariant_of-self-lent g c = λ w.
    let r = lent g (goal.at.invariant_of-self-lent g c).After-index_mut in
    let v = written c.self.inside.blocks.items c.in-Some.spot.block c.in-Some.spot.index c.args.key
    c.index_mut.result.now c.index_mut-in-Some.result.now w c.self.invariant.blocks c.self.invariant.filled r
    c.index_mut-in-Some.ensures.value in
    record { blocks = v.blocks; filled = v.filled; count = c.self.invariant.count ∙ sym v.count }

pub returns : goal.returns
returns g c =
    let bs = c.self.inside.blocks.items in
    let r = lent g (goal.at.returns g c).After-index_mut in (
      (
        refl,
        λ w. rw (← c.self.view_is)
            (written bs c.in-Some.spot.block c.in-Some.spot.index c.args.key c.index_mut.result.now
            c.index_mut-in-Some.result.now w c.self.invariant.blocks c.self.invariant.filled r
            c.index_mut-in-Some.ensures.value).entries,
      ),
      record {
        lends = tt;
        here = rw (← c.self.view_is) (read-value bs c.in-Some.spot.block c.in-Some.spot.index c.args.key
            c.index_mut.result.now c.index_mut-in-Some.result.now r c.index_mut-in-Some.ensures.value);
      },
    )
