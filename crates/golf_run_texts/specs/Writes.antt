-- The writes of the run of a code, in their order.
use Rattle.std.specs.Prelude.{ℕ, Bool, true, false, List, [], ◌∷◌, ◌++◌, map}
use Rattle.golf_data.specs.declared.code.Code.{Code}
use Rattle.golf_data.specs.declared.report.Book.{Book}
use Rattle.golf_data.specs.declared.report.Report.{Report}
use Rattle.golf_model.specs.State.{State, start}
use Rattle.golf_model.specs.Turn.{step}
use Rattle.golf_model.specs.Collections.{real_collect, sets_finalisers}
use Rattle.golf_model.specs.Runs.{Event, has_ended, happens_by, stop_in}
use Rattle.golf_model.specs.Reports.{book_after, new_book, report}
use Rattle.golf_run_schedules.specs.declared.options.RunOptions.{RunOptions}
use Rattle.golf_run_texts.specs.Texts.{report_lines}
use Rattle.golf_run_texts.specs.Output.{events_of, why_lines, end_of}

-- bytes that go to standard output, or to standard error
pub data Write : Type 0 where
  ToOut : (bytes : List ℕ) → Write
  ToErr : (bytes : List ℕ) → Write

-- the bytes of these writes that go to standard output, and those that go to standard error
abbrev pub out_bytes : List Write → List ℕ
out_bytes [] = []
out_bytes (Write.ToOut bytes ∷ ws) = bytes ++ out_bytes ws
out_bytes (Write.ToErr bytes ∷ ws) = out_bytes ws

abbrev pub err_bytes : List Write → List ℕ
err_bytes [] = []
err_bytes (Write.ToOut bytes ∷ ws) = err_bytes ws
err_bytes (Write.ToErr bytes ∷ ws) = bytes ++ err_bytes ws

-- the state without its output
abbrev pub emptied : State → State
emptied s = record s { output = [] }

-- a real collection, which frees objects and with recovery removes goroutines
abbrev pub freeing : Bool → Bool → State → State
freeing recover sets s = real_collect s recover sets

-- the lines of a collection with this report, on this state
abbrev pub told_lines : Bool → Report → State → List (List ℕ)
told_lines why r s = report_lines r ++ why_lines why r.number s

-- each line is its own write
abbrev pub line_writes : List (List ℕ) → List Write
line_writes ls = map (λ l. Write.ToErr l) ls

-- the book after the collections at these stops
abbrev pub books : Bool → Bool → Book → List State → Book
books recover sets book [] = book
books recover sets book (p ∷ ps) = books recover sets (book_after recover sets book p) ps

module _ (code : Code) where
  -- the write of what an event prints: the output of its turn, if it is one
  abbrev pub prints_in : State → Event → List Write
  prints_in s (Event.Turn c) = Write.ToOut (step code (emptied s) c).output ∷ []
  prints_in s Event.Collect = []

  module _ (recover sets why : Bool) where
    -- the writes of the collections at these stops
    abbrev pub collection_writes : Book → List State → List Write
    collection_writes book [] = []
    collection_writes book (p ∷ ps) = line_writes (told_lines why (report recover sets book p) p)
        ++ collection_writes (book_after recover sets book p) ps

    -- The writes of an event on the real machine: the output of its turn, and then the lines of the collection that
    -- follows. If the program has ended, there are none.
    abbrev pub writes_in : Bool → Book → State → Event → List Write
    writes_in true book s e = []
    writes_in false book s e = prints_in s e ++ collection_writes book (stop_in (freeing recover sets) code false s e)

    -- the writes of these events, one after another
    abbrev pub writes_from : Book → State → List Event → List Write
    writes_from book s [] = []
    writes_from book s (e ∷ es) = writes_in (has_ended s) book s e
        ++ writes_from (books recover sets book (stop_in (freeing recover sets) code (has_ended s) s e))
        (happens_by (freeing recover sets) code s e) es

-- the writes of the events of a run
unfoldable pub event_writes_of : Code → RunOptions → List Write
event_writes_of code options = writes_from code options.recover (sets_finalisers code) options.why new_book (start code)
    (events_of options)

-- the writes of a run: those of its events, and then its last line
unfoldable pub writes_of : Code → RunOptions → List Write
writes_of code options = event_writes_of code options ++ Write.ToErr (end_of code options) ∷ []
