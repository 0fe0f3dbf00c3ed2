use Rattle.std.proofs.Common.{ap, ◌∙◌}
use Rattle.std.specs.Prelude.{is_some}
use Rattle.golf_theory.specs.Maps.{find}
use Rattle.golf_state_goroutines.specs.Goroutines.{Goroutines}
use Rattle.golf_state_goroutines.specs.Places.{plain_entries}
use Rattle.golf_state_goroutines.proofs.PlaceLaws.{some-plain, Entry-put}
use Rattle.golf_state_goroutines.proofs.roster.Roster.get_mut.Goals as goal

pub get_mut-requires : goal.get_mut-requires
get_mut-requires c =
    let g = c.args.number in
    some-plain g c.self.inside.places
    (ap (λ (r : Goroutines). is_some (find g (plain_entries r.places))) c.self.view_is ∙ c.requires)

pub invariant_of-self-lent : goal.invariant_of-self-lent
invariant_of-self-lent c = λ w g x i.
    let old = Entry-put c.args.number w c.self.inside.places g x i in
    c.self.invariant g old.0 old.1
