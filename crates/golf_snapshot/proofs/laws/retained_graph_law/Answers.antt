use Rattle.golf_snapshot.proofs.RetainedLaw.{retained-graph}
use Rattle.golf_snapshot.proofs.laws.retained_graph_law.Goals as goal

pub returns : goal.returns
returns c = retained-graph
