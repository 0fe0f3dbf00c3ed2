-- A history: the passes and the numbers of its turns.
use Rattle.std.specs.Prelude.{◌≡◌, ℕ, ◌+◌, ◌*◌, ◌%◌, ◌<◌, ◌≤◌, ◌==◌, if◌then◌else◌, false, List, [], ◌∷◌, map, take}
use Rattle.std.specs.Prelude.{length, Some, None, slice_get}
use Rattle.golf_data.specs.declared.code.Code.{Code}
use Rattle.golf_data.specs.Places.{HasPlaces}
use Rattle.golf_data.specs.declared.report.Book.{Book}
use Rattle.golf_data.specs.declared.report.Report.{Report}
use Rattle.golf_model.specs.State.{State, start, runnable, ending}
use Rattle.golf_model.specs.Collections.{sets_finalisers, real_collect}
use Rattle.golf_model.specs.Runs.{Event, stops_by}
use Rattle.golf_model.specs.Reports.{real_run, real_reports, new_book, book_after}
use Rattle.golf_model.specs.Futures.{Leads}
use Rattle.golf_world.specs.declared.history.HistoryEntry.{HistoryEntry}

-- the most entries of a history
abbrev pub most_entries : ℕ
most_entries = 100000

abbrev pub entry : ℕ → ℕ → HistoryEntry
entry p number = record { pass = p; number = number }

-- the turns of these entries, as events
abbrev pub turns : List HistoryEntry → List Event
turns es = map (λ e. Event.Turn e.number) es

-- the state after these entries, in the run whose collections remove no goroutine
unfoldable pub after : Code → List HistoryEntry → State
after code es = real_run code (turns es) false

-- the reports of the collections of that run
unfoldable pub reports_after : Code → List HistoryEntry → List Report
reports_after code es = real_reports code (turns es) false

abbrev pub books : Code → Book → List State → Book
books code book [] = book
books code book (p ∷ ps) = books code (book_after false (sets_finalisers code) book p) ps

abbrev pub stops : Code → List HistoryEntry → List State
stops code es = stops_by (λ s. real_collect s false (sets_finalisers code)) code (start code) (turns es)

-- the book of these reports
unfoldable pub booked : Code → List HistoryEntry → Book
booked code es = books code new_book (stops code es)

-- how many goroutines can run after these entries
abbrev pub count : Code → List HistoryEntry → ℕ
count code es = length (runnable (after code es))

-- the number with which a pass takes the turn at a place t, if m goroutines can run
abbrev pub number_at : ℕ → ℕ → ℕ → ℕ
number_at p t m = (p + t) % m + m * t

abbrev pub next_number : Code → ℕ → List HistoryEntry → ℕ
next_number code p es = number_at p (length es) (count code es)

pub record IsEntry (code : Code) (passes : ℕ) (before : List HistoryEntry) (e : HistoryEntry) : Type 0 where
  pub pass : e.pass < passes
  pub number : e.number ≡ next_number code e.pass before
  pub goes : ending (after code before) ≡ None

abbrev pub IsHistory : Code → ℕ → List HistoryEntry → Type 0
IsHistory code passes es = (t : ℕ) (e : HistoryEntry) → slice_get es t ≡ Some e → IsEntry code passes (take t es) e

-- the invariant of an execution: state, book and reports are those of the run of the entries
pub record IsExecution (code : Code) (passes : ℕ) (s : State) (b : Book) (es : List HistoryEntry)
    (rs : List Report) : Type 0 where
  pub state : s ≡ after code es
  pub reports : rs ≡ reports_after code es
  pub book : b ≡ booked code es
  pub leads : Leads code s
  pub places : HasPlaces code
  pub none : b.reclaimed ≡ []
  pub counted : b.collections ≤ length es
  pub history : IsHistory code passes es
  pub few : length es ≤ most_entries
  pub narrow : length s.goroutines ≤ length es + 2

-- the places and numbers of the entries of a pass, from the place t on
abbrev pub own_from : ℕ → ℕ → List HistoryEntry → List (ℕ × ℕ)
own_from p t [] = []
own_from p t (e ∷ es) = if e.pass == p then (t, e.number) ∷ own_from p (t + 1) es else own_from p (t + 1) es

abbrev pub own : ℕ → List HistoryEntry → List (ℕ × ℕ)
own p es = own_from p 0 es
