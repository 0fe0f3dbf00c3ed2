use Rattle.std.proofs.Common.{◌∙◌, ap, length}
use Rattle.golf_cert.specs.ComputedLevels.{least_in_order}
use Rattle.golf_why.specs.Explanations.{certificate_size}
use Rattle.golf_why.proofs.explanation.Explanation.new.Goals as goal

pub returns-clause-explains : goal.returns-clause-explains
unfolding certificate_size
returns-clause-explains c = record {
  graph = c.in_ok-graph.ensures.graph;
  sleeper_entries = c.in_ok-sleeper_entries.ensures;
  reasons = c.in_ok-reasons.ensures;
  places = c.in_ok-places.ensures ∙ ap (λ g. length (least_in_order g)) c.in_ok-graph.ensures.graph;
}
