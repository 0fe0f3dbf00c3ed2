use Rattle.std.proofs.Common.{ap, ◌∙◌}
use Rattle.golf_live.specs.Live.{live}
use Rattle.golf_code_targets.specs.Heights.{most_of}
use Rattle.golf_code_targets.proofs.Resolved.{resolves}
use Rattle.golf_code_targets.proofs.functions.function.Goals as goal

pub returns : goal.returns
returns c =
    resolves c.args.gives.now c.args.params c.args.slots c.args.line c.in_ok-depth.depth c.in_ok-body.body
    c.in_ok-live.live c.args.emitted.now (c.in_ok-depth.ensures ∙ ap (most_of c.args.gives.now) c.as_slice.ensures)
    c.in_ok-body.ensures (c.in_ok-live.ensures ∙ ap (live c.args.slots) c.as_slice-2.ensures)
