use Rattle.std.proofs.Common.{ap, ◌∙◌, sym}
use Rattle.golf_check_types.specs.Places.{places_in}
use Rattle.golf_check_types.proofs.PlaceLaws.{invariant-add}
use Rattle.golf_check_types.proofs.locals.Locals.add.Goals as goal

pub invariant_of-self : goal.invariant_of-self
invariant_of-self c = λ q.
    let step = rw (c.as_slice.ensures, c.len-place.ensures) at c.in-Ok.ensures in
    invariant-add c.self.inside.places c.add_place.new.places c.self.inside.list c.args.local c.self.invariant step q
    ∙ ap (λ l. places_in l q) (sym c.in-Ok-push.ensures.ok)
