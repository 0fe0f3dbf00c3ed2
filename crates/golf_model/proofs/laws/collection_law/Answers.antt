use Rattle.golf_model.proofs.Agreeing.{keeps-sound, keeps-complete, retained-sound, retained-complete}
use Rattle.golf_model.proofs.laws.collection_law.Goals as goal

pub returns : goal.returns
returns c = record {
  keeps = λ s sets_finalisers g. (keeps-sound s sets_finalisers g, keeps-complete s sets_finalisers g);
  retained = λ s gone o. (retained-sound s gone o, retained-complete s gone o);
}
