use Rattle.golf_snapshot.proofs.LiveComplete.{live-graph}
use Rattle.golf_snapshot.proofs.laws.live_graph_law.Goals as goal

pub returns : goal.returns
returns c = live-graph
