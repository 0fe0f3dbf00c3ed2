use Rattle.golf_model_futures.proofs.OrderedLeading.{leads-whole}
use Rattle.golf_tour.proofs.collection.collected_state.Goals as goal

pub returns : goal.returns
returns c = leads-whole c.args.code.now c.in_ok-state.state c.in_ok-state.ensures
