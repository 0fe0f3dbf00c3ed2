use Rattle.std.proofs.Common.{◌≡◌, true, Option, Some, None, refl, ap, ◌∙◌}
use Rattle.std.specs.Prelude.{is_some}
use Rattle.golf_data.specs.declared.goroutine.Goroutine.{Goroutine}
use Rattle.golf_theory.specs.Maps.{find}
use Rattle.golf_theory.proofs.MapEntries.{Entry-find}
use Rattle.golf_state_goroutines.specs.Goroutines.{Goroutines}
use Rattle.golf_state_goroutines.specs.Places.{plain_entries}
use Rattle.golf_state_goroutines.proofs.PlaceLaws.{some-plain}
use Rattle.golf_state_goroutines.proofs.roster.Roster.start_running.Goals as goal

pub start-requires-clause-room : goal.start-requires-clause-room
start-requires-clause-room c =
    let ps = c.self.inside.places in
    let g = c.args.number in
    there (find g ps) (some-plain g ps (ap (λ (r : Goroutines). is_some (find g (plain_entries r.places))) c.self.view_is
    ∙ c.requires.there)) (λ x h. c.self.invariant g x (Entry-find g ps x h))
  where
    there : {P : Type 0} (o : Option Goroutine) → is_some o ≡ true → ((x : Goroutine) → o ≡ Some x → P) → P
    there None h f = absurd (cc)
    there (Some x) h f = f x refl
