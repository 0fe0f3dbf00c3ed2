use Rattle.std.proofs.Common.{ap, arith}
use Rattle.atomic_table.specs.Table.{Me}
use Rattle.golf_marks.specs.declared.rule.View.{View}
use Rattle.golf_marks.proofs.Steps.{forks}
use Rattle.golf_marks.proofs.deal.deal.Goals as goal

pub split_seat-seat-requires : goal.split_seat-seat-requires
split_seat-seat-requires c =
    let parts = ap (λ (me : Me (Unit {0}) View). me.0.parts) c.loop.invariant.view in (
      c.loop.invariant.table,
      c.requires.words,
      forks c.args.marks.now.table.shared.key c.loop.first.id c.loop.first.me.0 (omega arith),
    )
