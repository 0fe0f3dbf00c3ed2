use Rattle.std.proofs.Common.{map, ap, sym, ◌∙◌}
use Rattle.golf_model.specs.Sleepers.{Sleeper}
use Rattle.golf_model.proofs.SleeperLists.{waits-all}
use Rattle.golf_model.proofs.sleepers.Sleepers.all_waits.Goals as goal

pub returns : goal.returns
returns c =
    let s = c.self.inside in
    sym (waits-all s.goroutines s.waits s.references c.self.invariant.0 c.self.invariant.1)
    ∙ ap (map (λ (x : Sleeper). x.waits)) c.self.view_is
