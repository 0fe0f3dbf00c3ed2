use Rattle.golf_meaning_runs.proofs.Showing.{visible-turns}
use Rattle.golf_meaning_runs.proofs.visible_turns_show.Goals as goal

pub returns : goal.returns
returns c = visible-turns
