-- The report and the book of a collection, by the state before it and the book so far.
use Rattle.std.specs.Prelude.{ℕ, ◌+◌, Bool, not, List, map, filter, length}
use Rattle.golf_data.specs.declared.report.Book.{Book}
use Rattle.golf_data.specs.declared.report.Report.{Report}
use Rattle.golf_model.specs.State.{State}
use Rattle.golf_model.specs.LiveSet.{dead, live_objects}
use Rattle.golf_model.specs.Collections.{removed}
use Rattle.golf_model.specs.Reports.{goroutine_id, entries, without, retained_objects}
use Rattle.golf_reclaim.specs.RunBook.{stays_reported, noted}

-- the dead goroutines that do not stay reported, in rising order of number
abbrev pub new_in : Book → State → List ℕ
new_in book s = filter (λ g. not (stays_reported book g)) (dead s)

-- the book after the collection: the new dead goroutines are noted as reported, and the removed ones as removed
abbrev pub noted_by : Bool → Bool → Book → State → Book
noted_by recover sets_finalisers book s =
    noted (map goroutine_id (new_in book s)) (map goroutine_id (removed s recover sets_finalisers)) book

-- The report has an entry for each new dead goroutine. It counts the live objects, the dead goroutines that stay, the
-- removed ones, and the objects that stay.
abbrev pub report_of : Bool → Bool → Book → State → Report
report_of recover sets_finalisers book s = record {
  number = book.collections + 1;
  marked = length (live_objects s);
  reported = entries s (new_in book s);
  kept = length (without (dead s) (removed s recover sets_finalisers));
  reclaimed = length (removed s recover sets_finalisers);
  objects = length (retained_objects s (removed s recover sets_finalisers));
}
