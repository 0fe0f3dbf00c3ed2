-- A run after some of its events.
use Rattle.std.specs.Prelude.{◌≡◌, ℕ, ◌≤◌, Bool, List, [], ◌∷◌, ◌++◌, length}
use Rattle.std.specs.Io.KnownBytes.{Appends}
use Rattle.golf_data.specs.declared.code.Code.{Code}
use Rattle.golf_data.specs.declared.report.Book.{Book}
use Rattle.golf_data.specs.declared.report.Report.{Report}
use Rattle.golf_model.specs.State.{State, start}
use Rattle.golf_model.specs.Collections.{sets_finalisers, real_collect}
use Rattle.golf_model.specs.Runs.{Event, run, stops, run_by, stops_by}
use Rattle.golf_model.specs.Futures.{Leads}
use Rattle.golf_model.specs.Reports.{book_of, new_book, numbers, report, book_after}
use Rattle.golf_run_schedules.specs.declared.options.RunOptions.{RunOptions}
use Rattle.golf_run_schedules.specs.Events.{turns_among}
use Rattle.golf_run_texts.specs.declared.totals.Totals.{Totals}
use Rattle.golf_run_texts.specs.Totals.{total_reported, total_reclaimed, totals_of}
use Rattle.golf_run_texts.specs.Output.{events_of, joined}
use Rattle.golf_run_texts.specs.Writes.{Write, books, told_lines, writes_from}
use Rattle.golf_model_futures.specs.EarlierOutput.{prefixed}
use Rattle.golf_run.specs.HasRun.{Sinks}
use Rattle.golf_run.specs.HasLeft.{HasLeft}

-- the state of the plain machine after these events
unfoldable pub at : Code → List Event → State
at code es = run code (start code) es

-- the states right before the collections of these events
unfoldable pub stops_to : Code → List Event → List State
stops_to code es = stops code es

-- the reports of these collections
unfoldable pub reports_to : Code → Bool → List Event → List Report
reports_to code recover es = book_of (stops_to code es) recover (sets_finalisers code)

-- the book after these collections
unfoldable pub book_to : Code → Bool → List Event → Book
book_to code recover es = books recover (sets_finalisers code) new_book (stops_to code es)

-- the collection of a run: it queues finalisers and frees objects, and with recovery it removes goroutines
abbrev pub collecting : Code → Bool → State → State
collecting code recover s = real_collect s recover (sets_finalisers code)

-- the state of the real machine after these events, its states right before their collections, and the book of their
-- reports
unfoldable pub real_at : Code → Bool → List Event → State
real_at code recover es = run_by (collecting code recover) code (start code) es

unfoldable pub real_stops_to : Code → Bool → List Event → List State
real_stops_to code recover es = stops_by (collecting code recover) code (start code) es

unfoldable pub real_book_to : Code → Bool → List Event → Book
real_book_to code recover es = books recover (sets_finalisers code) new_book (real_stops_to code recover es)

-- the writes of these events
unfoldable pub writes_to : Code → Bool → Bool → List Event → List Write
writes_to code recover why es = writes_from code recover (sets_finalisers code) why new_book (start code) es

-- the lines of the collections at these stops, one after another
abbrev pub stops_text : Bool → Bool → Bool → Book → List State → List ℕ
stops_text recover sets why book [] = []
stops_text recover sets why book (p ∷ ps) = joined (told_lines why (report recover sets book p) p)
    ++ stops_text recover sets why (book_after recover sets book p) ps

-- the lines of the collections of these events
unfoldable pub told_to : Code → Bool → Bool → List Event → List ℕ
told_to code recover why es = stops_text recover (sets_finalisers code) why new_book (real_stops_to code recover es)

-- the book has the counts of these reports
pub record IsCounted (ledger : Book) (rs : List Report) : Type 0 where
  pub collections : ledger.collections ≡ length rs
  pub reported : length ledger.reported ≡ total_reported rs
  pub reclaimed : length ledger.reclaimed ≡ total_reclaimed rs

-- The state is that of the real machine, except for its output. The output and the reports of the plain machine were
-- written, and the book has its reports.
pub record IsUnderWay (code : Code) (recover why : Bool) (done : List Event) (state : State) (ledger : Book)
    (totals : Totals) (old now : Sinks) : Type 0 where
  pub same : real_at code recover done ≡ prefixed (real_at code recover done).output state
  pub leads : Leads code state
  pub taken : state.output ≡ []
  pub book : ledger ≡ real_book_to code recover done
  pub counted : IsCounted ledger (reports_to code recover done)
  pub summed : totals ≡ totals_of (reports_to code recover done)
  pub few : ledger.collections ≤ length done
  pub left : HasLeft (numbers ledger.reclaimed) state
  pub out : Appends old.out now.out (at code done).output
  pub err : Appends old.err now.err (told_to code recover why done)

-- these events of the run are done, `given` numbers were given in them, and the events in `left` are still to come
pub record IsGoing (code : Code) (options : RunOptions) (left : List Event) (given : ℕ) (state : State) (ledger : Book)
    (totals : Totals) (old now : Sinks) : Type 0 where
  pub done : List Event
  pub split : events_of options ≡ done ++ left
  pub turns : given ≡ turns_among done
  pub under_way : IsUnderWay code options.recover options.why done state ledger totals old now
