-- The reports of collections, and the book of all collections so far.
use Rattle.std.specs.Prelude.{ℕ, ◌+◌, Bool, true, false, not, List, [], ◌∷◌, ◌++◌, map, filter, length, Option, Some}
use Rattle.std.specs.Prelude.{None}
use Rattle.golf_theory.specs.Maps.{find, keys}
use Rattle.golf_theory.specs.Membership.{is_in}
use Rattle.golf_base.specs.declared.ids.GoroutineId.{GoroutineId}
use Rattle.golf_data.specs.declared.code.Code.{Code}
use Rattle.golf_data.specs.declared.goroutine.Mode.{Mode}
use Rattle.golf_data.specs.declared.goroutine.Queued.{Queued}
use Rattle.golf_data.specs.declared.report.Book.{Book}
use Rattle.golf_data.specs.declared.report.Entry.{Entry}
use Rattle.golf_data.specs.declared.report.Report.{Report}
use Rattle.golf_model.specs.Views.{GoroutineView}
use Rattle.golf_model.specs.State.{State, start}
use Rattle.golf_model.specs.LiveSet.{dead, live_objects}
use Rattle.golf_model.specs.Collections.{unkept, retained, real_collect, sets_finalisers}
use Rattle.golf_model.specs.Runs.{Event, run_by, stops_by, calls_by}

abbrev pub goroutine_id : ℕ → GoroutineId
goroutine_id g = record { 0 = g }

abbrev pub numbers : List GoroutineId → List ℕ
numbers ids = map (λ g. g.0) ids

-- the entry of a blocked goroutine: its kind of wait, the line where it blocked, and the line where it was started
abbrev pub entry_by : ℕ → ℕ → Mode → List Entry
entry_by g started Mode.Running = []
entry_by g started (Mode.Blocked kind line waits ticket) =
    record { goroutine = goroutine_id g; wait = kind; line = line; started = started } ∷ []

abbrev pub entry_of : ℕ → Option GoroutineView → List Entry
entry_of g None = []
entry_of g (Some r) = entry_by g r.started r.mode

-- the entries of these goroutines
abbrev pub entries : State → List ℕ → List Entry
entries s [] = []
entries s (g ∷ gs) = entry_of g (find g s.goroutines) ++ entries s gs

-- the members of the first list that are not in the second
abbrev pub without : List ℕ → List ℕ → List ℕ
without xs ys = filter (λ x. not (is_in x ys)) xs

-- the book before the first collection
abbrev pub new_book : Book
new_book = record { collections = 0; reported = []; reclaimed = [] }

-- the dead goroutines of a stop that no earlier stop reported
abbrev pub new_dead : Book → State → List ℕ
new_dead book p = without (dead p) (numbers book.reported)

-- the goroutines that this stop removes
abbrev pub new_gone : Bool → Bool → Book → State → List ℕ
new_gone true sets_finalisers book p = without (unkept p sets_finalisers) (numbers book.reclaimed)
new_gone false sets_finalisers book p = []

-- all goroutines that were removed up to and with this stop
abbrev pub all_gone : Bool → Bool → Book → State → List ℕ
all_gone recover sets_finalisers book p = numbers book.reclaimed ++ new_gone recover sets_finalisers book p

-- the objects that are retained, in rising order
abbrev pub retained_objects : State → List ℕ → List ℕ
retained_objects p gone = filter (λ o. is_in o (retained p gone)) (keys p.objects)

-- the book after one more collection
abbrev pub book_after : Bool → Bool → Book → State → Book
book_after recover sets_finalisers book p = record {
  collections = book.collections + 1;
  reported = book.reported ++ map goroutine_id (new_dead book p);
  reclaimed = book.reclaimed ++ map goroutine_id (new_gone recover sets_finalisers book p);
}

-- the report of a collection, from the state right before it and the book so far
abbrev pub report : Bool → Bool → Book → State → Report
report recover sets_finalisers book p = record {
  number = book.collections + 1;
  marked = length (live_objects p);
  reported = entries p (new_dead book p);
  kept = length (without (dead p) (all_gone recover sets_finalisers book p));
  reclaimed = length (new_gone recover sets_finalisers book p);
  objects = length (retained_objects p (all_gone recover sets_finalisers book p));
}

-- the reports of the stops, one after another
abbrev pub reports_from : Bool → Bool → Book → List State → List Report
reports_from recover sets_finalisers book [] = []
reports_from recover sets_finalisers book (p ∷ ps) = report recover sets_finalisers book p
    ∷ reports_from recover sets_finalisers (book_after recover sets_finalisers book p) ps

-- the book of reports of a plain run with these stops
abbrev pub book_of : List State → Bool → Bool → List Report
book_of ps recover sets_finalisers = reports_from recover sets_finalisers new_book ps

-- the run in which every collection is a real one
abbrev pub real_run : Code → List Event → Bool → State
real_run code es recover = run_by (λ s. real_collect s recover (sets_finalisers code)) code (start code) es

-- the entries that goroutine 0 took from the queue in that run, in order
abbrev pub real_calls : Code → List Event → Bool → List Queued
real_calls code es recover = calls_by (λ s. real_collect s recover (sets_finalisers code)) code (start code) es

-- the reports of that run, each from the state right before its collection and the book so far
abbrev pub real_reports : Code → List Event → Bool → List Report
real_reports code es recover =
    book_of (stops_by (λ s. real_collect s recover (sets_finalisers code)) code (start code) es) recover
    (sets_finalisers code)
