use Rattle.golf_meaning_runs.proofs.Showing.{choosing-turns}
use Rattle.golf_meaning_runs.proofs.choosing_turns_show.Goals as goal

pub returns : goal.returns
returns c = choosing-turns
