use Rattle.std.proofs.Common.{◌≡◌, ◌++◌, arith}
use Rattle.golf_data.specs.declared.report.Book.{Book}
use Rattle.golf_reclaim.proofs.Noting.{staying-noted, added}
use Rattle.golf_reclaim.proofs.ledger.Ledger.note.Goals as goal

pub invariant_of-self-2 : goal.invariant_of-self-2
invariant_of-self-2 c =
    let s = c.self.inside in
    let new = c.args.new.now in
    let gone = c.args.gone.now in
    let book : Book = record {
      collections = s.collections;
      reported = s.reported.items;
      reclaimed = s.reclaimed.items;
    } in
    let can = rw (← c.self.view_is) at c.requires.known in
    let told : c.extend_from_slice.new.self.items ≡ s.reported.items ++ new =
    rw (← c.reserve.ensures.items) (added c.extend_from_slice.result _ new _
    (c.extend_from_slice.ensures.succeeds (omega (arith, c.in_ok-reserve.ensures.ok)))
    c.extend_from_slice.ensures.items) in
    let left : c.extend_from_slice-2.new.self.items ≡ s.reclaimed.items ++ gone =
    rw (← c.reserve-2.ensures.items) (added c.extend_from_slice-2.result _ gone _
    (c.extend_from_slice-2.ensures.succeeds (omega (arith, c.in_ok-reserve-2.ensures.ok)))
    c.extend_from_slice-2.ensures.items) in
    rw (told, left) (staying-noted book new gone s.staying.items c.in_ok-staying.staying.items c.self.invariant can
    c.in_ok-staying.ensures.rises (rw c.as_slice.ensures.value at c.in_ok-staying.ensures.members))
