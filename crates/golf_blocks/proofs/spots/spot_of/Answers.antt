use Rattle.std.proofs.Common.{sym, ◌∙◌}
use Rattle.golf_blocks.proofs.SpotLaws.{spot-found}
use Rattle.golf_blocks.proofs.spots.spot_of.Goals as goal

pub returns-then-is_at-clause-there : goal.returns-then-is_at-clause-there
returns-then-is_at-clause-there g c = spot-found c.args.blocks.now c.guess-spot.result.block c.guess-spot.result.index
    c.args.key c.requires (sym c.is_at.ensures ∙ c.if-is_at.true)

pub returns-then-is_at-2-clause-there : goal.returns-then-is_at-2-clause-there
returns-then-is_at-2-clause-there g c = spot-found c.args.blocks.now c.args.near.block c.args.near.index c.args.key
    c.requires (sym c.is_at-2.ensures ∙ c.if-is_at-2.true)
