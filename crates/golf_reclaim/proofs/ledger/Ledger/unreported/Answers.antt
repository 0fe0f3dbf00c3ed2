use Rattle.golf_data.specs.declared.report.Book.{Book}
use Rattle.golf_reclaim.proofs.Noting.{unreported-alike}
use Rattle.golf_reclaim.proofs.ledger.Ledger.unreported.Goals as goal

pub add_unlisted-requires : goal.add_unlisted-requires
add_unlisted-requires c = rw c.as_slice.ensures.value c.self.invariant.rises

pub returns : goal.returns
returns c =
    let s = c.self.inside in
    let book : Book = record {
      collections = s.collections;
      reported = s.reported.items;
      reclaimed = s.reclaimed.items;
    } in
    let alike = unreported-alike book s.staying.items c.args.goroutines.now c.self.invariant in
    rw (c.from_vec.ensures, c.in_ok-add_unlisted.ensures, c.new-new.ensures.items, c.as_slice.ensures.value, alike)
    (rw (← c.self.view_is))
