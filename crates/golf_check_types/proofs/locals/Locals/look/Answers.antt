use Rattle.std.proofs.Common.{ap, ◌∙◌, sym}
use Rattle.std.specs.Prelude.{slice_get}
use Rattle.std.specs.Option.{option_and_then}
use Rattle.golf_check_types.specs.Places.{last_place}
use Rattle.golf_check_types.proofs.PlaceLaws.{look-places, got}
use Rattle.golf_check_types.proofs.locals.Locals.look.Goals as goal

pub returns-in-None : goal.returns-in-None
returns-in-None c =
    let l = c.self.inside.list in
    let name = c.args.name.now in
    rw (← c.self.view_is) (sym (look-places l name
    ∙ ap (λ ps. option_and_then (slice_get l) (last_place ps)) (sym (c.self.invariant name))
    ∙ ap (option_and_then (slice_get l)) (sym c.last_place_at.ensures ∙ c.in-None.is)))

pub returns-in-Some : goal.returns-in-Some
returns-in-Some c =
    let l = c.self.inside.list in
    let name = c.args.name.now in
    rw (← c.self.view_is) (got _ c.in-Some.place c.get.result c.get.ensures.lookup.3
    ∙ ap (λ xs. slice_get xs c.in-Some.place) c.as_slice.ensures
    ∙ sym (look-places l name ∙ ap (λ ps. option_and_then (slice_get l) (last_place ps))
    (sym (c.self.invariant name)) ∙ ap (option_and_then (slice_get l))
    (sym c.last_place_at.ensures ∙ c.in-Some.is)))
