use Rattle.std.proofs.Common.{◌∙◌}
use Rattle.golf_state_queues.proofs.Partings.{parted-there, parted-absent, holder-within}
use Rattle.golf_state_queues.proofs.holders.part.Goals as goal

pub take_out-requires : goal.take_out-requires
take_out-requires c =
    holder-within c.args.ticket c.args.goroutine.0 c.rank_of-at.result c.args.holders.now c.as_slice.result.now
    c.as_slice-2.result.now c.is_held_at.result c.as_slice.ensures.rises c.as_slice.ensures.value
    c.as_slice-2.ensures.value c.rank_of-at.ensures.place c.is_held_at.ensures c.if-is_held_at.true

pub returns-then-is_held_at : goal.returns-then-is_held_at
returns-then-is_held_at c =
    c.take_out.ensures
    ∙ parted-there c.args.ticket c.args.goroutine.0 c.rank_of-at.result c.args.holders.now c.as_slice.result.now
    c.as_slice-2.result.now c.is_held_at.result c.as_slice.ensures.rises c.as_slice.ensures.value
    c.as_slice-2.ensures.value c.rank_of-at.ensures.place c.is_held_at.ensures c.if-is_held_at.true

pub returns-else-is_held_at : goal.returns-else-is_held_at
returns-else-is_held_at c =
    parted-absent c.args.ticket c.args.goroutine.0 c.rank_of-at.result c.args.holders.now c.as_slice.result.now
    c.as_slice-2.result.now c.is_held_at.result c.as_slice.ensures.rises c.as_slice.ensures.value
    c.as_slice-2.ensures.value c.rank_of-at.ensures.place c.is_held_at.ensures c.if-is_held_at.false
