use Rattle.std.proofs.Common.{ℕ, List, sym, ap, ◌∙◌, slice_get}
use Rattle.golf_theory.proofs.Readings.{item-at, no_item-at}
use Rattle.golf_blocks.proofs.BlockLaws.{filled-at}
use Rattle.golf_blocks.proofs.SuccessorLaws.{first-some}
use Rattle.golf_blocks.proofs.successors.first_from.Goals as goal

pub returns-in_err-entry : goal.returns-in_err-entry
returns-in_err-entry g c =
    let b = c.in_ok-block.block.now in
    absurd (first-some b.entries.items
    (filled-at c.args.at c.args.blocks.now b c.requires
    (item-at c.args.blocks.now c.args.at c.in_ok-block.block c.in_ok-block.ensures.lookup))
    (ap (λ (es : List (ℕ × _)). slice_get es 0) (sym c.as_slice.ensures.value)
    ∙ no_item-at c.as_slice.result.now 0 c.in_err-entry.ensures.lookup))
