use Rattle.golf_code_places.proofs.Bytes.{tokens-few}
use Rattle.golf_code_places.proofs.tokens_are_few.Goals as goal

pub returns : goal.returns
returns c = tokens-few
