use Rattle.golf_model_futures.proofs.MainLaws as Law
use Rattle.golf_model_futures.proofs.book_tells_of_each.Goals as goal

pub returns : goal.returns
returns c = Law.book_tells_of_each
