use Rattle.std.proofs.Common.{ap, ◌∙◌}
use Rattle.golf_check_types.specs.Places.{places_in}
use Rattle.golf_check_types.proofs.PlaceLaws.{invariant-drop}
use Rattle.golf_check_types.proofs.locals.Locals.drop_last.Goals as goal

pub invariant_of-self-in-Ok : goal.invariant_of-self-in-Ok
invariant_of-self-in-Ok c = λ q.
    let step = rw c.as_slice.ensures at c.in-Ok.ensures in
    invariant-drop c.self.inside.places c.take_place.new.places c.pop.new.self c.in-Some.last
    (λ n. c.self.invariant n ∙ ap (λ l. places_in l n) c.in-Some.ensures) step q
