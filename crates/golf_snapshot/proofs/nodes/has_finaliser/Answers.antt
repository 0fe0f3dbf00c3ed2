use Rattle.std.proofs.Common.{ap, ◌∙◌}
use Rattle.std.specs.Prelude.{is_some}
use Rattle.golf_snapshot.proofs.Stepping.{found-in_keys}
use Rattle.golf_snapshot.proofs.nodes.has_finaliser.Goals as goal

pub returns : goal.returns
returns c = c.is_some.ensures ∙ ap is_some c.finaliser.ensures ∙ found-in_keys c.args.id.0 c.args.state.now.finalisers
