-- The writes of a run that tells each of its turns.
use Rattle.std.specs.Prelude.{◌≡◌, ℕ, ◌+◌, Bool, true, false, cond, List, [], ◌∷◌, ◌++◌, Result, Ok, Err}
use Rattle.golf_data.specs.declared.code.Code.{Code}
use Rattle.golf_data.specs.declared.report.Book.{Book}
use Rattle.golf_model.specs.State.{State, start}
use Rattle.golf_model.specs.Collections.{sets_finalisers}
use Rattle.golf_model.specs.Reports.{new_book}
use Rattle.golf_model.specs.Runs.{Event, has_ended}
use Rattle.golf_run_schedules.specs.declared.options.RunOptions.{RunOptions}
use Rattle.golf_run_schedules.specs.Events.{turns_among}
use Rattle.golf_run_texts.specs.declared.status.Status.{Status}
use Rattle.golf_run_texts.specs.declared.totals.Totals.{Totals}
use Rattle.golf_run_texts.specs.Output.{joined, events_of, end_of, status_of}
use Rattle.golf_run_texts.specs.Writes.{Write}
use Rattle.golf_run.specs.declared.fault.RunFault.{RunFault}
use Rattle.golf_run.specs.declared.fault.RunFault.TheVariants as faults
use Rattle.golf_run.specs.OneEvent.{turned, says, collects}
use Rattle.golf_run.specs.HasRun.{Sinks, GotWrites, IsSteady, WasCut, WasStopped}
use Rattle.golf_run.specs.Told.{told_by, noted, totalled, collected}
use Rattle.golf_run.specs.TurnLines.{turn_text}

-- the line of the event's turn, if it is one, and it is the n-th
abbrev pub turn_line_of : ℕ → Code → Event → State → List ℕ
turn_line_of n code (Event.Turn c) s = turn_text n code s c
turn_line_of n code Event.Collect s = []

-- ---- a collection that follows, if one does: its lines, and the book, the totals and the state after it

abbrev pub lines_if : Bool → Bool → Bool → Bool → Book → State → List ℕ
lines_if recover sets why true book s = joined (told_by recover sets why book s)
lines_if recover sets why false book s = []

abbrev pub book_if : Bool → Bool → Bool → Book → State → Book
book_if recover sets true book s = noted recover sets book s
book_if recover sets false book s = book

abbrev pub totals_if : Bool → Bool → Bool → Book → Totals → State → Totals
totals_if recover sets true book before s = totalled recover sets book s
totals_if recover sets false book before s = before

abbrev pub state_if : Bool → Bool → Bool → State → State
state_if recover sets true s = collected recover sets s
state_if recover sets false s = s

-- ---- the writes

-- the text of an event on standard error: the line of its turn, and the lines of the collection that follows
abbrev pub event_text : Code → Bool → Bool → ℕ → Book → State → Event → List ℕ
event_text code recover why n book s e = turn_line_of n code e s
    ++ lines_if recover (sets_finalisers code) why (collects code e s) book (turned code e s)

-- The writes of these events on the real machine, after `n` turns: for each the output of its turn, and then its text.
-- After an ending there are none.
abbrev pub traced_from : Code → Bool → Bool → ℕ → Book → State → List Event → List Write
traced_from code recover why n book s [] = []
traced_from code recover why n book s (e ∷ es) = cond (has_ended s) []
    (says code e s ++ Write.ToErr (event_text code recover why (n + turns_among (e ∷ [])) book s e)
    ∷ traced_from code recover why (n + turns_among (e ∷ []))
    (book_if recover (sets_finalisers code) (collects code e s) book (turned code e s))
    (state_if recover (sets_finalisers code) (collects code e s) (turned code e s)) es)

-- the writes of the events of a run that tells its turns
unfoldable pub event_traces_of : Code → RunOptions → List Write
event_traces_of code options = traced_from code options.recover options.why 0 new_book (start code) (events_of options)

-- the writes of a run that tells its turns: those of its events, and then its last line
unfoldable pub traces_of : Code → RunOptions → List Write
traces_of code options = event_traces_of code options ++ Write.ToErr (end_of code options) ∷ []

-- the meaning of the result of a run that tells its turns
abbrev pub HasTraced : Result Status RunFault → Code → RunOptions → Sinks → Sinks → Type 0
HasTraced (Ok status) code options old new =
    (status ≡ status_of code options) × GotWrites (traces_of code options) old new × IsSteady old new
HasTraced (Err faults.Write) code options old new = WasCut (traces_of code options) old new
HasTraced (Err faults.Memory) code options old new = WasStopped (traces_of code options) old new
