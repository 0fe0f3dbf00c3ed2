use Rattle.golf_model.proofs.Firsts.{first-head, waiters-sound, waiters-complete, waiters-rise}
use Rattle.golf_model.proofs.laws.waiters_law.Goals as goal

pub returns : goal.returns
returns c = record {
  waiters = λ o side gs. (waiters-rise o side gs, λ w. (waiters-sound o side gs w, waiters-complete o side gs w));
  first = first-head;
}
