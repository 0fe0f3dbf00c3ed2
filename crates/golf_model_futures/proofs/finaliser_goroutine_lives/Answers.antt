use Rattle.golf_model_futures.proofs.FinaliserGoroutine.{lives, not-dead, unreported}
use Rattle.golf_model_futures.proofs.finaliser_goroutine_lives.Goals as goal

pub returns-clause-lives : goal.returns-clause-lives
returns-clause-lives c = λ s. (lives s, not-dead s)

pub returns-clause-unreported : goal.returns-clause-unreported
returns-clause-unreported c = unreported
