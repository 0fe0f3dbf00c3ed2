use Rattle.golf_meaning_runs.proofs.AnswerCounts.{answers-are-counted}
use Rattle.golf_meaning_runs.proofs.answers_are_counted.Goals as goal

pub returns : goal.returns
returns c = answers-are-counted
