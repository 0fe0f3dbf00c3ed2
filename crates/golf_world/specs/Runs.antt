-- A run by threads that has come to its end.
use Rattle.std.specs.Prelude.{◌≡◌, ℕ, ◌≤◌, false, length, None}
use Rattle.golf_data.specs.declared.code.Code.{Code}
use Rattle.golf_model.specs.State.{State, start, ending}
use Rattle.golf_model.specs.Reports.{real_run, real_reports, book_of}
use Rattle.golf_model.specs.Runs.{run, stops}
use Rattle.golf_model.specs.Collections.{sets_finalisers}
use Rattle.golf_world.specs.declared.history.History.{History}
use Rattle.golf_world.specs.History.{most_entries, turns, IsHistory}

-- State and reports are those of the run of the entries' numbers whose collections remove no goroutine. It prints, ends
-- and reports as the plain run of these numbers. It has ended, or has as many turns as a history may have.
pub record IsWholeRun (code : Code) (passes : ℕ) (s : State) (h : History) : Type 0 where
  pub state : s ≡ real_run code (turns h.entries) false
  pub reports : h.reports ≡ real_reports code (turns h.entries) false
  pub prints : s.output ≡ (run code (start code) (turns h.entries)).output
  pub ends : ending s ≡ ending (run code (start code) (turns h.entries))
  pub tells : h.reports ≡ book_of (stops code (turns h.entries)) false (sets_finalisers code)
  pub history : IsHistory code passes h.entries
  pub few : length h.entries ≤ most_entries
  pub whole : ending s ≡ None → length h.entries ≡ most_entries
