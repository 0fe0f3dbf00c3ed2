use Rattle.std.proofs.Common.{sym, ap, ◌∙◌}
use Rattle.atomic_table.specs.Table.{Me}
use Rattle.golf_world.specs.declared.rule.View.{View}
use Rattle.golf_world.proofs.PassSeats.{closes}
use Rattle.golf_world.proofs.world.World.close.Goals as goal

pub returns-clause-passes : goal.returns-clause-passes
returns-clause-passes g c =
    let last = c.close_with-closed.ensures.values.2 in
    let knows = c.join_passes-keeper in
    let same = c.into_parts.ensures.entries ∙ sym (ap (λ (m : Me (Unit {0}) View). m.0.seen) c.execution.invariant.1) in
    closes knows.result.id c.args.passes last.1.0 last.1.1 knows.ensures.keeps knows.ensures.seen same
    knows.ensures.passes
