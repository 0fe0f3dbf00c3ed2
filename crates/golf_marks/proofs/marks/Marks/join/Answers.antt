use Rattle.std.proofs.Common.{◌<◌, arith}
use Rattle.golf_marks.proofs.Steps.{merges}
use Rattle.golf_marks.proofs.marks.Marks.join.Goals as goal

pub join_seat-requires : goal.join_seat-requires
join_seat-requires c =
    let m = c.args.self.now in
    let s = c.args.seat.now in
    let o = c.args.other in
    let word : 0 < m.table.shared.table_id.words = omega (arith, m.sized) in (
      c.requires.seat.table,
      c.requires.other.table,
      o.no_slot,
      word,
      merges m.table.shared.key s.seat.id s.seat.me.0 o.seat.id o.seat.me.0 s.live o.live,
    )
