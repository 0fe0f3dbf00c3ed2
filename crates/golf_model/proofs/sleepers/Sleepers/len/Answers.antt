use Rattle.std.proofs.Common.{List, length, ap, sym, ◌∙◌}
use Rattle.golf_model.specs.Sleepers.{Sleeper}
use Rattle.golf_model.proofs.SleeperLists.{length-sleepers}
use Rattle.golf_model.proofs.sleepers.Sleepers.len.Goals as goal

pub returns : goal.returns
returns c =
    let s = c.self.inside in
    c.len.ensures ∙ sym (length-sleepers s.goroutines s.waits s.references c.self.invariant.0 c.self.invariant.1)
    ∙ ap (λ (xs : List Sleeper). length xs) c.self.view_is
