use Rattle.std.proofs.Common.{List, sym, subst}
use Rattle.golf_world.specs.declared.history.HistoryEntry.{HistoryEntry}
use Rattle.golf_world.specs.History.{IsHistory}
use Rattle.golf_world.proofs.execution.Execution.into_parts.Goals as goal

pub returns-clause-history : goal.returns-clause-history
returns-clause-history g c = subst (λ (l : List HistoryEntry). IsHistory g.W.WorldName.code g.W.WorldName.passes l)
    (sym c.into_list.ensures) c.self.invariant.history
