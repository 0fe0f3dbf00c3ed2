use Rattle.std.proofs.Common.{◌∷◌, [], sym, ap, ◌∙◌}
use Rattle.atomic_table.specs.Table.{Me}
use Rattle.golf_world.specs.declared.rule.View.{View}
use Rattle.golf_world.specs.Rule.{left_view, right_view}
use Rattle.golf_world.specs.Seats.{mine_in}
use Rattle.golf_world.proofs.Rules.{joined_is, joins_as, splits_as, looks, first_earlier}
use Rattle.golf_world.proofs.seats.look.Goals as goal

pub join_seat-requires : goal.join_seat-requires
join_seat-requires g c =
    let k = c.args.keeper.now in
    let o = c.args.own in (
      c.requires.keeper_table,
      c.requires.own_table,
      ap (λ (m : Me (Unit {0}) View). m.1) c.requires.own,
      c.requires.word,
      joins_as c.args.table.now.key k.id k.me o.id o.me.0 g.W.WorldName.passes [] k.me.0.seen []
          c.requires.keeper,
    )

pub load-requires : goal.load-requires
load-requires g c = (
  c.join_seat.ensures.0 ∙ c.requires.keeper_table,
  c.requires.word,
  looks c.args.table.now.key c.args.table.now.table_id.slots c.join_seat.new.seat.id c.join_seat.new.seat.me,
)

pub split_seat-requires : goal.split_seat-requires
split_seat-requires g c =
    let k = c.args.keeper.now in
    let o = c.args.own in
    let is = joined_is g.W.WorldName.passes k.me o.me c.args.pass
    (mine_in o.me.0.held) k.me.0.seen o.me.0.seen c.requires.keeper c.requires.own in
    let now = c.load.ensures.2.0 ∙ c.join_seat.ensures.2 ∙ is in (
      c.load.ensures.0 ∙ c.join_seat.ensures.0 ∙ c.requires.keeper_table,
      c.requires.word,
      splits_as c.args.table.now.key c.load.new.seat.id c.load.new.seat.me g.W.WorldName.passes c.args.pass
          (mine_in o.me.0.held) [] k.me.0.seen (o.me.0.seen ∷ []) now,
    )

pub returns : goal.returns
returns g c =
    let k = c.args.keeper.now in
    let o = c.args.own in
    let is = joined_is g.W.WorldName.passes k.me o.me c.args.pass
    (mine_in o.me.0.held) k.me.0.seen o.me.0.seen c.requires.keeper c.requires.own in
    let then = c.join_seat.ensures.2 ∙ is in
    let now = c.load.ensures.2.0 ∙ then in
    let split = c.split_seat.ensures in
    record {
      keeper_table = split.0 ∙ c.load.ensures.0 ∙ c.join_seat.ensures.0 ∙ c.requires.keeper_table;
      own_table = split.3 ∙ c.load.ensures.0 ∙ c.join_seat.ensures.0 ∙ c.requires.keeper_table;
      later = first_earlier c.join_seat.new.seat.me g.W.WorldName.passes c.args.pass
          (mine_in o.me.0.held) k.me.0.seen o.me.0.seen then c.load.ensures.2.1;
      keeper = split.2 ∙ ap (λ (m : Me (Unit {0}) View). (left_view m.0, m.1)) now ∙ sym c.requires.keeper;
      own = split.4 ∙ ap (λ (m : Me (Unit {0}) View). (right_view m.0, [])) now;
    }
