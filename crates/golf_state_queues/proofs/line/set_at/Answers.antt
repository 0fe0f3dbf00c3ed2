use Rattle.std.proofs.Common.{List, length, ap, ◌∙◌, slice_set}
use Rattle.std.proofs.lemmas.List.{length-set}
use Rattle.smallvec.proofs.SmallVecLemmas.{items-with_items}
use Rattle.golf_state_queues.specs.declared.holders.TicketHolder.{TicketHolder}
use Rattle.golf_state_queues.proofs.line.set_at.Goals as goal

pub returns : goal.returns
returns c =
    let h = c.args.holder in
    let i = c.args.place in
    let hs = c.as_mut_slice.result.now in
    items-with_items c.args.entries.now (slice_set hs i h)
    (length-set hs i h ∙ ap (λ (xs : List TicketHolder). length xs) c.as_mut_slice.ensures.value)
    ∙ ap (λ (xs : List TicketHolder). slice_set xs i h) c.as_mut_slice.ensures.value
