use Rattle.std.proofs.Common.{List, length, map, sym, ap, subst, ◌∙◌}
use Rattle.golf_world.specs.declared.history.HistoryEntry.{HistoryEntry}
use Rattle.golf_command.specs.Ways.{AreTurns}
use Rattle.golf_command.proofs.Turns.{numbers_in}
use Rattle.golf_command.proofs.Threading.{are-turns}
use Rattle.golf_command.proofs.threads.turns_by_threads.Goals as goal

pub returns : goal.returns
returns g c =
    let same = c.in_ok-turns.ensures ∙ ap numbers_in c.as_slice.ensures in
    subst (AreTurns c.args.code.now c.args.threads) (sym same)
    (are-turns c.args.code.now c.args.threads _ c.in_ok-history.history c.in_ok-history.ensures)
