use Rattle.std.proofs.Common.{ap, ◌∙◌}
use Rattle.std.proofs.lemmas.Result.{on_ok_weaker}
use Rattle.golf_state.specs.Looked.{is_blocked}
use Rattle.golf_state.proofs.Doings.{runs-is}
use Rattle.golf_state.proofs.Runnings.{blocks-there}
use Rattle.golf_state.proofs.outcome.block_at.Goals as goal

pub returns-clause-blocked : goal.returns-clause-blocked
returns-clause-blocked c =
    let g = c.args.acting.goroutine.0 in
    let s = c.args.state.now in
    on_ok_weaker c.block.result
    (λ h. ap (is_blocked g) h ∙ blocks-there g c.args.kind c.args.acting.line c.args.waits c.args.target c.args.taken s
    (runs-is g c.args.acting.after s c.requires))
    c.block.ensures.ok
