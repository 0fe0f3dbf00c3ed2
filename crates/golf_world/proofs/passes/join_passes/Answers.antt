use Rattle.std.proofs.Common.{List, sym, ap, ◌∙◌, subst, arith}
use Rattle.atomic_table.specs.Table.{Me}
use Rattle.golf_world.specs.declared.rule.View.{View}
use Rattle.golf_world.specs.Steps.{Pass}
use Rattle.golf_world.proofs.Rules.{joins_as}
use Rattle.golf_world.proofs.PassSeats.{HasJoined, joins_next, joins_all}
use Rattle.golf_world.proofs.passes.join_passes.Goals as goal

pub join_seat-requires : goal.join_seat-requires
join_seat-requires g c =
    let i = c.loop-pass.invariant in
    let k = c.loop-pass.keeper in
    let o = c.into_seat-seat in (
      i.table ∙ sym c.requires.named,
      o.ensures.table ∙ sym c.requires.named,
      ap (λ (m : Me (Unit {0}) View). m.1) o.ensures.view,
      omega (arith, c.requires.word),
      joins_as c.args.table.now.shared.key k.id k.me o.result.id o.result.me.0 g.W.WorldName.passes k.me.0.held
          c.args.keeper.me.0.seen k.me.0.earlier i.joined.view,
    )

pub loop-pass-preserved : goal.loop-pass-preserved
loop-pass-preserved g c =
    let i = c.loop-pass.invariant in
    record {
      table = c.join_seat.ensures.0 ∙ i.table;
      joined = joins_next c.pop.new.self c.in-Some.pass i.joined c.in-Some.ensures c.into_seat-seat.ensures.view
          c.join_seat.ensures.2;
    }

pub returns-clause-passes : goal.returns-clause-passes
returns-clause-passes g c =
    let h = c.args.keeper.me.0.seen in
    let all : List Pass = c.args.passes in
    let me = c.loop-pass.keeper.me in
    joins_all g.W.WorldName.passes h all me
    (subst (λ (l : List Pass). HasJoined g.W.WorldName.passes h all l me) c.in_default.ensures.0
    c.loop-pass.invariant.joined)
