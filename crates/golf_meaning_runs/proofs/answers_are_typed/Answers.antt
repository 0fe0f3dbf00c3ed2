use Rattle.golf_meaning_runs.proofs.Answering.{answers-are-typed}
use Rattle.golf_meaning_runs.proofs.answers_are_typed.Goals as goal

pub returns : goal.returns
returns c = answers-are-typed
