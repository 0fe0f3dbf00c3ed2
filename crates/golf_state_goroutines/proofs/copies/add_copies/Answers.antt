use Rattle.std.proofs.Common.{ℕ, List, length, refl, sym, subst}
use Rattle.std.proofs.lemmas.Option.{slice_get_read}
use Rattle.golf_theory.specs.Maps.{AllBelow}
use Rattle.golf_model.specs.Views.{GoroutineView}
use Rattle.golf_state_goroutines.specs.Places.{plain_entries}
use Rattle.golf_state_goroutines.proofs.Copying.{copied-below}
use Rattle.golf_state_goroutines.proofs.copies.add_copies.Goals as goal

pub add_copy-requires-clause-below : goal.add_copy-requires-clause-below
add_copy-requires-clause-below c =
    let ps = c.args.places.now in
    let i = c.loop-place.place-index in
    let p = c.place-item.result in
    subst (λ (es : List (ℕ × GoroutineView)). AllBelow p.0 es) (sym c.loop-place.invariant.places)
    (copied-below (plain_entries c.args.roster.now.places) ps i p
    (slice_get_read ps (length ps) i p refl c.loop-place-test.true c.place-item.is) c.requires.rises)
