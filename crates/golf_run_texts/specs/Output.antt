-- The output of the run of a code by its options, on standard output and on standard error, and the status of the
-- program.
use Rattle.std.specs.Prelude.{ℕ, Bool, true, false, cond, ◌||◌, List, [], ◌∷◌, ◌++◌, map, Option, Some, None}
use Rattle.golf_data.specs.declared.code.Code.{Code}
use Rattle.golf_data.specs.declared.goroutine.Ending.{Ending}
use Rattle.golf_data.specs.declared.report.Entry.{Entry}
use Rattle.golf_data.specs.declared.report.Report.{Report}
use Rattle.golf_model.specs.State.{State, start, ending}
use Rattle.golf_model.specs.Collections.{real_collect, sets_finalisers}
use Rattle.golf_model.specs.Runs.{Event, run, stops, stops_by}
use Rattle.golf_model.specs.Reports.{book_of}
use Rattle.golf_run_schedules.specs.declared.options.RunOptions.{RunOptions}
use Rattle.golf_run_schedules.specs.Events.{events, turns_among}
use Rattle.golf_run_texts.specs.declared.status.Status.{Status}
use Rattle.golf_why.specs.Explanations.{certificate_size, reached_in}
use Rattle.golf_run_texts.specs.Texts.{report_text, certificate_line, reached_line, last_line}

-- The turns and added collections of a run by these options. It is opaque, and so are the definitions that use it, so
-- no proof unfolds them by chance.
unfoldable pub events_of : RunOptions → List Event
events_of options = events options.schedule options.turns options.every

-- the state after these events, of the plain machine, whose collections free and remove nothing
unfoldable pub last_of : Code → RunOptions → State
last_of code options = run code (start code) (events_of options)

-- the text that the run prints
unfoldable pub out_of : Code → RunOptions → List ℕ
out_of code options = (last_of code options).output

-- the reports of the run's collections
unfoldable pub reports_of : Code → RunOptions → List Report
reports_of code options = book_of (stops code (events_of options)) options.recover (sets_finalisers code)

-- the last line of the run: how it ended, or, if it has not ended, the number of its turns
unfoldable pub end_of : Code → RunOptions → List ℕ
end_of code options = last_line code.texts (turns_among (events_of options)) (ending (last_of code options))

-- the states right before the run's collections, on the real machine, which frees objects and with recovery removes
-- goroutines
unfoldable pub real_stops_of : Code → RunOptions → List State
real_stops_of code options = stops_by (λ s. real_collect s options.recover (sets_finalisers code)) code (start code)
    (events_of options)

-- the lines on the collection of this number on this state, if they are asked for: its certificate, and the live
-- goroutines that wait
abbrev pub why_lines : Bool → ℕ → State → List (List ℕ)
why_lines false number s = []
why_lines true number s = certificate_line number (certificate_size s) ∷ map reached_line (reached_in s)

-- these lines, one after another
abbrev pub joined : List (List ℕ) → List ℕ
joined [] = []
joined (l ∷ ls) = l ++ joined ls

-- the texts of these collections, each on its state
abbrev pub collections_text : Bool → List Report → List State → List ℕ
collections_text why [] ss = []
collections_text why (r ∷ rs) [] = report_text r ++ collections_text why rs []
collections_text why (r ∷ rs) (s ∷ ss) = (report_text r ++ joined (why_lines why r.number s))
    ++ collections_text why rs ss

-- the reports, each with the lines that are asked for, and the last line
unfoldable pub err_of : Code → RunOptions → List ℕ
err_of code options = collections_text options.why (reports_of code options) (real_stops_of code options)
    ++ end_of code options

abbrev pub names_someone : List Entry → Bool
names_someone [] = false
names_someone (e ∷ es) = true

-- whether a report names a goroutine
abbrev pub anyone_reported : List Report → Bool
anyone_reported [] = false
anyone_reported (r ∷ rs) = names_someone r.reported || anyone_reported rs

-- the status: a run that returned is clean exactly when no goroutine was reported
abbrev pub status_by : Bool → Option Ending → Status
status_by reported (Some Ending.Returned) = cond reported Status.Found Status.Clean
status_by reported (Some (Ending.Panicked kind g line)) = Status.Crashed
status_by reported (Some Ending.Asleep) = Status.Crashed
status_by reported None = Status.Spent

unfoldable pub status_of : Code → RunOptions → Status
status_of code options = status_by (anyone_reported (reports_of code options)) (ending (last_of code options))
