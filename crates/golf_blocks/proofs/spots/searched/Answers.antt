use Rattle.std.proofs.Common.{◌≡◌, ℕ, List, length, refl, sym, ap, ◌∙◌, subst, arith}
use Rattle.std.proofs.lemmas.Option.{slice_get_read}
use Rattle.golf_theory.specs.Maps.{Rises, rank}
use Rattle.golf_blocks.specs.declared.blocks.Block.{Block}
use Rattle.golf_blocks.proofs.Places.{Sides, sides}
use Rattle.golf_blocks.proofs.SpotLaws.{spot-found, past-tops, not-there}
use Rattle.golf_blocks.proofs.spots.searched.Given.{Over}
use Rattle.golf_blocks.proofs.spots.searched.Goals.{After-index-blocks-block, After-as_slice}
use Rattle.golf_blocks.proofs.spots.searched.Goals as goal

lent : (g : Over) (c : After-index-blocks-block g)
    → Sides c.args.blocks.now c.block_of-block.result c.args.key c.index-blocks-block.result
lent g c = sides c.args.blocks.now c.block_of-block.result c.args.key c.index-blocks-block.result c.requires
    c.block_of-block.ensures
    (slice_get_read c.args.blocks.now (length c.args.blocks.now) c.block_of-block.result c.index-blocks-block.result
    refl (omega (arith, c.if-block-blocks.false)) c.index-blocks-block.is)

pub returns-then-block-blocks-clause-there : goal.returns-then-block-blocks-clause-there
returns-then-block-blocks-clause-there g c = past-tops c.args.blocks.now c.block_of-block.result c.args.key c.requires
    c.block_of-block.ensures c.if-block-blocks.true

-- the entries in which the key is searched for
entries : (g : Over) (c : After-as_slice g) → c.as_slice.result.now ≡ c.index-blocks-block.result.entries.items
entries g c = c.as_slice.ensures.value ∙ ap (λ (b : Block _). b.entries.items) (sym c.index-blocks-block.is)

pub rank_of-index-requires : goal.rank_of-index-requires
rank_of-index-requires g c =
    let at = goal.at.rank_of-index-requires g c in
    subst (λ (es : List (ℕ × _)). Rises 0 es) (sym (entries g at.After-as_slice))
    (lent g at.After-index-blocks-block).rises

pub returns-then-is_at-clause-there : goal.returns-then-is_at-clause-there
returns-then-is_at-clause-there g c = spot-found c.args.blocks.now c.block_of-block.result c.rank_of-index.result
    c.args.key c.requires (sym c.is_at.ensures ∙ c.if-is_at.true)

pub returns-else-is_at-clause-there : goal.returns-else-is_at-clause-there
returns-else-is_at-clause-there g c =
    let at = goal.at.returns-else-is_at-clause-there g c in
    not-there c.args.blocks.now c.block_of-block.result c.rank_of-index.result c.args.key c.index-blocks-block.result
    (lent g at.After-index-blocks-block)
    (c.rank_of-index.ensures ∙ ap (λ (es : List (ℕ × _)). rank c.args.key es) (entries g at.After-as_slice))
    (sym c.is_at.ensures ∙ c.if-is_at.false)
