use Rattle.std.proofs.Common.{sym, ◌∙◌}
use Rattle.golf_state_goroutines.specs.Places.{plain_entries}
use Rattle.golf_state.proofs.PlaceLaws.{idle-found}
use Rattle.golf_state.proofs.places.starts_idle.Goals as goal

pub returns-in-Some : goal.returns-in-Some
returns-in-Some c = c.is_idle.ensures ∙ idle-found (plain_entries c.args.roster.now.places) _ c.requires
    (sym c.in-Some.ensures)
