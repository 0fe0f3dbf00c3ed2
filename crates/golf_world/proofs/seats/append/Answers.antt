use Rattle.std.proofs.Common.{◌∷◌, ◌++◌, [], length, ℕ, ap, ◌∙◌}
use Rattle.atomic_table.specs.Table.{Me}
use Rattle.golf_world.specs.declared.rule.View.{View}
use Rattle.golf_world.specs.History.{entry, next_number}
use Rattle.golf_world.specs.Rule.{left_view, right_view, appended}
use Rattle.golf_world.specs.Seats.{mine_in}
use Rattle.golf_world.proofs.Rules.{joined_is, joins_as, splits_as, appends_as, first_earlier}
use Rattle.golf_world.proofs.seats.append.Goals as goal

pub join_seat-requires : goal.join_seat-requires
join_seat-requires g c =
    let k = c.args.keeper.now in
    let o = c.args.own in (
      c.requires.keeper_table,
      c.requires.own_table,
      ap (λ (m : Me (Unit {0}) View). m.1) c.requires.own,
      c.requires.word,
      joins_as c.args.table.now.key k.id k.me o.id o.me.0 g.W.WorldName.passes [] k.me.0.seen []
          c.requires.keeper,
    )

pub fetch_add-requires : goal.fetch_add-requires
fetch_add-requires g c =
    let k = c.args.keeper.now in
    let o = c.args.own in
    let is = joined_is g.W.WorldName.passes k.me o.me c.args.pass
    (mine_in o.me.0.held) k.me.0.seen o.me.0.seen c.requires.keeper c.requires.own in
    let then = c.join_seat.ensures.2 ∙ is in (
      c.join_seat.ensures.0 ∙ c.requires.keeper_table,
      c.requires.word,
      appends_as c.args.table.now.key g.W.WorldName.code c.args.table.now.table_id.slots c.join_seat.new.seat.id
          g.W.WorldName.passes c.args.pass (mine_in o.me.0.held) k.me.0.seen (o.me.0.seen ∷ []) c.requires.few then,
    )

pub split_seat-requires : goal.split_seat-requires
split_seat-requires g c =
    let k = c.args.keeper.now in
    let o = c.args.own in
    let is = joined_is g.W.WorldName.passes k.me o.me c.args.pass
    (mine_in o.me.0.held) k.me.0.seen o.me.0.seen c.requires.keeper c.requires.own in
    let n : ℕ = next_number g.W.WorldName.code c.args.pass k.me.0.seen in
    let now = c.fetch_add.ensures.2.0 ∙ ap (λ (m : Me (Unit {0}) View). (appended g.W.WorldName.code m.0, m.1))
    (c.join_seat.ensures.2 ∙ is) in (
      c.fetch_add.ensures.0 ∙ c.join_seat.ensures.0 ∙ c.requires.keeper_table,
      c.requires.word,
      splits_as c.args.table.now.key c.fetch_add.new.seat.id c.fetch_add.new.seat.me g.W.WorldName.passes c.args.pass
          (mine_in o.me.0.held ++ (length k.me.0.seen, n) ∷ []) [] (k.me.0.seen ++ entry c.args.pass n ∷ [])
          (o.me.0.seen ∷ []) now,
    )

pub returns : goal.returns
returns g c =
    let k = c.args.keeper.now in
    let o = c.args.own in
    let is = joined_is g.W.WorldName.passes k.me o.me c.args.pass
    (mine_in o.me.0.held) k.me.0.seen o.me.0.seen c.requires.keeper c.requires.own in
    let then = c.join_seat.ensures.2 ∙ is in
    let now = c.fetch_add.ensures.2.0 ∙ ap (λ (m : Me (Unit {0}) View). (appended g.W.WorldName.code m.0, m.1)) then in
    let split = c.split_seat.ensures in
    let table = c.fetch_add.ensures.0 ∙ c.join_seat.ensures.0 ∙ c.requires.keeper_table in
    record {
      keeper_table = split.0 ∙ table;
      own_table = split.3 ∙ table;
      later = first_earlier c.join_seat.new.seat.me g.W.WorldName.passes c.args.pass
          (mine_in o.me.0.held) k.me.0.seen o.me.0.seen then c.fetch_add.ensures.2.2;
      keeper = split.2 ∙ ap (λ (m : Me (Unit {0}) View). (left_view m.0, m.1)) now;
      own = split.4 ∙ ap (λ (m : Me (Unit {0}) View). (right_view m.0, [])) now;
    }
