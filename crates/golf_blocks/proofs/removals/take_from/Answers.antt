use Rattle.std.proofs.Common.{◌≡◌, ℕ, List, length, sym, ap, ◌∙◌, arith}
use Rattle.golf_theory.specs.Maps.{rank}
use Rattle.golf_blocks.specs.Blocks.{keyed_blocks, entries_in}
use Rattle.golf_blocks.specs.declared.blocks.Block.{Block}
use Rattle.golf_blocks.proofs.Parts.{only-under}
use Rattle.golf_blocks.proofs.BlockLaws.{tops-below}
use Rattle.golf_blocks.proofs.Places.{all-tops}
use Rattle.golf_blocks.proofs.Takings.{Found, found, Parted, parted}
use Rattle.golf_blocks.proofs.removals.take_from.Goals as goal
use Rattle.golf_blocks.proofs.removals.take_from.Given.{Over}
use Rattle.golf_blocks.proofs.removals.take_from.Goals.{After-index_mut, After-part-gone}

-- the block of the key, once it is lent
lent : (g : Over) (c : After-index_mut g)
    → Found c.args.blocks.now.items c.block_of-at.result c.args.key c.index_mut.result.now
lent g c = found c.args.blocks.now.items c.as_slice.result.now c.block_of-at.result c.args.key
    c.index_mut.result.now c.requires.blocks c.block_of-at.ensures c.as_slice.ensures.value
    (omega (arith, c.if-at-len.false, c.len.ensures, c.args.blocks.now.ok.0)) c.index_mut.ensures.value

-- the blocks, once the entry is gone from it
gone : (g : Over) (c : After-part-gone g)
    → Found c.args.blocks.now.items c.block_of-at.result c.args.key c.index_mut.result.now
    → Parted c.args.blocks.now.items c.block_of-at.result c.args.key c.index_mut.result.now c.part-gone.new.block
gone g c f = parted c.args.blocks.now.items c.block_of-at.result c.args.key c.index_mut.result.now
    c.part-gone.new.block c.requires.blocks c.requires.filled f
    c.part-gone.ensures.top c.part-gone.ensures.entries

pub returns-then-at-len-clause-entries : goal.returns-then-at-len-clause-entries
returns-then-at-len-clause-entries g c =
    let bs = c.args.blocks.now.items in
    let k = c.args.key in
    let i = c.block_of-at.result in
    let at : i ≡ rank k (keyed_blocks bs) = c.block_of-at.ensures
    ∙ ap (λ (cs : List (Block _)). rank k (keyed_blocks cs)) c.as_slice.ensures.value in
    let tops = all-tops bs i k at (omega (arith, c.if-at-len.true, c.len.ensures, c.args.blocks.now.ok.0)) in
    sym (only-under k (entries_in bs) (tops-below k 0 bs c.requires.blocks tops))

pub part-gone-requires : goal.part-gone-requires
part-gone-requires g c = (lent g (goal.at.part-gone-requires g c).After-index_mut).is.rises

pub close_at-requires-clause-blocks : goal.close_at-requires-clause-blocks
close_at-requires-clause-blocks g c =
    let at = goal.at.close_at-requires-clause-blocks g c in
    (gone g at.After-part-gone (lent g at.After-index_mut)).blocks

pub close_at-requires-clause-before : goal.close_at-requires-clause-before
close_at-requires-clause-before g c =
    let at = goal.at.close_at-requires-clause-before g c in
    (gone g at.After-part-gone (lent g at.After-index_mut)).before

pub close_at-requires-clause-after : goal.close_at-requires-clause-after
close_at-requires-clause-after g c =
    let at = goal.at.close_at-requires-clause-after g c in
    (gone g at.After-part-gone (lent g at.After-index_mut)).after

pub returns-clause-entries : goal.returns-clause-entries
returns-clause-entries g c =
    let at = goal.at.returns-clause-entries g c in
    c.close_at.ensures.entries ∙ (gone g at.After-part-gone (lent g at.After-index_mut)).entries

pub returns-clause-count : goal.returns-clause-count
returns-clause-count g c =
    let at = goal.at.returns-clause-count g c in
    let count = (gone g at.After-part-gone (lent g at.After-index_mut)).count in
    omega (arith, count, c.part-gone.ensures.count, ap (λ (ps : List (ℕ × _)). length ps) c.close_at.ensures.entries)
