use Rattle.std.proofs.Common.{suc, ℕ, ◌++◌, List, length, take, drop, refl, sym, ap, ◌∙◌, subst}
use Rattle.std.proofs.lemmas.Option.{slice_get_read}
use Rattle.golf_data.specs.declared.goroutine.Goroutine.{Goroutine}
use Rattle.golf_theory.specs.Maps.{IsRising}
use Rattle.golf_blocks.specs.Blocks.{entries_in}
use Rattle.golf_blocks.specs.declared.blocks.Block.{Block}
use Rattle.golf_blocks.proofs.Gathers.{gather-split}
use Rattle.golf_model.specs.Views.{GoroutineView}
use Rattle.golf_state_goroutines.specs.Places.{plain_entries}
use Rattle.golf_state_goroutines.proofs.Copying.{parts-rise}
use Rattle.golf_state_goroutines.proofs.copies.copied_roster.Goals as goal

pub add_copies-requires-clause-rises : goal.add_copies-requires-clause-rises
add_copies-requires-clause-rises c =
    let bs = c.args.blocks.now in
    let i = c.loop-at.at in
    let b = c.index-blocks-at.result in
    let same = c.as_slice.ensures.value ∙ ap (λ (d : Block Goroutine). d.entries.items) (sym c.index-blocks-at.is) in
    let r = parts-rise (entries_in bs) (entries_in (take i bs)) b.entries.items (entries_in (drop (suc i) bs))
    (gather-split (λ (d : Block Goroutine). d.entries.items) bs i b
    (slice_get_read bs (length bs) i b refl c.loop-at-test.true c.index-blocks-at.is)) c.requires in
    subst (λ (es : List (ℕ × GoroutineView)). IsRising (es ++ plain_entries c.as_slice.result.now))
    (sym c.loop-at.invariant.places)
    (subst (λ (qs : List (ℕ × Goroutine)). IsRising (plain_entries (entries_in (take i bs)) ++ plain_entries qs)) (sym same) r)
