-- The texts of a run by threads are those of the run of its numbers.
-- For: `texts_by_threads`, `turns_by_threads`, src/threads.rt
-- By: the laws of the history's turns; induction over the list of reports
use Rattle.std.proofs.Common.{◌≡◌, ℕ, false, List, [], ◌∷◌, ◌++◌, length, refl, sym, ap, append-nil, ◌∙◌}
use Rattle.golf_data.specs.declared.code.Code.{Code}
use Rattle.golf_model.specs.State.{State, start, ending}
use Rattle.golf_model.specs.Collections.{sets_finalisers}
use Rattle.golf_model.specs.Reports.{book_of}
use Rattle.golf_model.specs.Runs.{run, stops}
use Rattle.golf_run_schedules.specs.Events.{turns_among}
use Rattle.golf_data.specs.declared.report.Report.{Report}
use Rattle.golf_run_texts.specs.Texts.{report_text, reports_text, last_line, history_line}
use Rattle.golf_run_texts.specs.Output.{events_of, last_of, out_of, reports_of, real_stops_of, collections_text, end_of}
use Rattle.golf_run_texts.specs.Output.{err_of, status_of, status_by, anyone_reported}
use Rattle.golf_world.specs.declared.history.History.{History}
use Rattle.golf_world.specs.History.{turns}
use Rattle.golf_world.specs.Runs.{IsWholeRun}
use Rattle.golf_command.specs.declared.texts.RunTexts.{RunTexts}
use Rattle.golf_command.specs.Ways.{history_options, AreTurns}
use Rattle.golf_command.specs.Written.{AreTextsByThreads}
use Rattle.golf_command.proofs.Turns.{numbers_in, turns-are, turns-counted, numbers-counted, history-turns}

-- of collections that tell nothing beside their reports
plain-texts : (rs : List Report) (ss : List State) → collections_text false rs ss ≡ reports_text rs
plain-texts [] ss = refl
plain-texts (r ∷ rs) [] = ap (λ t. report_text r ++ t) (plain-texts rs [])
plain-texts (r ∷ rs) (s ∷ ss) = ap (λ t. t ++ collections_text false rs ss) (append-nil (report_text r))
    ∙ ap (λ t. report_text r ++ t) (plain-texts rs ss)

module _ (code : Code) (threads : ℕ) (s : State) (history : History) (w : IsWholeRun code threads s history) where
  abbrev ns : List ℕ
  ns = numbers_in history.entries

  pub are-turns : AreTurns code threads ns
  are-turns = history-turns code threads history.entries w.history w.few (λ goes. w.whole (w.ends ∙ goes))

  -- the events of the run by these numbers are the turns of the entries
  same-events : events_of (history_options ns) ≡ turns history.entries
  same-events = are-turns.events ∙ turns-are code history.entries

  last-is : last_of code (history_options ns) ≡ run code (start code) (turns history.entries)
  unfolding last_of
  last-is = ap (λ es. run code (start code) es) same-events

  ending-is : ending (last_of code (history_options ns)) ≡ ending s
  ending-is = ap ending last-is ∙ sym w.ends

  out-is : out_of code (history_options ns) ≡ s.output
  unfolding out_of
  out-is = ap (λ (t : State). t.output) last-is ∙ sym w.prints

  reports-are : reports_of code (history_options ns) ≡ history.reports
  unfolding reports_of history_options
  reports-are = ap (λ es. book_of (stops code es) false (sets_finalisers code)) same-events ∙ sym w.tells

  count-is : turns_among (events_of (history_options ns)) ≡ length history.entries
  count-is = ap turns_among are-turns.events ∙ turns-counted ns ∙ numbers-counted history.entries

  end-is : end_of code (history_options ns) ≡ last_line code.texts (length history.entries) (ending s)
  unfolding end_of
  end-is = (λ i. last_line code.texts (count-is i) (ending-is i))

  err-is : err_of code (history_options ns) ≡ reports_text history.reports
      ++ last_line code.texts (length history.entries) (ending s)
  unfolding err_of history_options
  err-is = ap (λ t. t ++ end_of code (history_options ns))
      (plain-texts (reports_of code (history_options ns)) (real_stops_of code (history_options ns)))
      ∙ (λ i. reports_text (reports-are i) ++ end-is i)

  status-is : status_of code (history_options ns) ≡ status_by (anyone_reported history.reports) (ending s)
  unfolding status_of
  status-is = (λ i. status_by (anyone_reported (reports-are i)) (ending-is i))

  pub texts-are : (of : RunTexts) (texts : List (List ℕ)) → texts ≡ code.texts
      → of.status ≡ status_by (anyone_reported history.reports) (ending s) → of.out ≡ s.output
      → of.err ≡ (reports_text history.reports ++ last_line texts (length history.entries) (ending s))
      ++ history_line ns → AreTextsByThreads of threads code
  texts-are of texts same status out err = (
    ns,
    are-turns,
    record {
      status = status ∙ sym status-is;
      out = out ∙ sym out-is;
      err = err ∙ ap (λ ts. (reports_text history.reports ++ last_line ts (length history.entries) (ending s))
          ++ history_line ns) same ∙ ap (λ t. t ++ history_line ns) (sym err-is);
    },
  )
