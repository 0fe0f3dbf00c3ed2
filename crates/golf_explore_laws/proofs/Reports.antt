-- No report names a goroutine if no collection finds a dead one.
-- For: `closed_lists_report_nobody`, src/lib.rt; `real_reports`, golf_model/specs/Reports.antt
-- By: induction over the list of states right before collections
use Rattle.std.proofs.Common.{◌≡◌, Bool, List, [], ◌∷◌, inl, inr, refl, ap, ◌∙◌, subst}
use Rattle.golf_theory.specs.Membership.{In}
use Rattle.golf_data.specs.declared.code.Code.{Code}
use Rattle.golf_data.specs.declared.report.Book.{Book}
use Rattle.golf_data.specs.declared.report.Report.{Report}
use Rattle.golf_model.specs.State.{State}
use Rattle.golf_model.specs.LiveSet.{dead}
use Rattle.golf_model.specs.Collections.{sets_finalisers}
use Rattle.golf_model.specs.Runs.{Event, stops}
use Rattle.golf_model.specs.Reports.{numbers, without, entries, book_after, new_book, report, reports_from}
use Rattle.golf_model.specs.Reports.{real_reports}
use Rattle.golf_model_futures.proofs.RealRuns.{real-runs}
use Rattle.golf_explore_laws.specs.Laws.{NeverReports}

reported-none : (recover sets : Bool) (book : Book) (p : State) → dead p ≡ []
    → (report recover sets book p).reported ≡ []
reported-none recover sets book p h = ap (λ gs. entries p (without gs (numbers book.reported))) h

reports-none : (recover sets : Bool) (ps : List State) (book : Book) → ((p : State) → In p ps → dead p ≡ [])
    → (r : Report) → In r (reports_from recover sets book ps) → r.reported ≡ []
reports-none recover sets [] book h r i = absurd i
reports-none recover sets (p ∷ ps) book h r (inl e) = ap (λ (q : Report). q.reported) e
    ∙ reported-none recover sets book p (h p (inl refl))
reports-none recover sets (p ∷ ps) book h r (inr i) =
    reports-none recover sets ps (book_after recover sets book p) (λ q j. h q (inr j)) r i

pub reports-nobody : (code : Code) → NeverReports code → (events : List Event) (recover : Bool) (r : Report)
    → In r (real_reports code events recover) → r.reported ≡ []
reports-nobody code never events recover r i =
    reports-none recover (sets_finalisers code) (stops code events) new_book (never events) r
    (subst (λ (rs : List Report). In r rs) ((real-runs code recover events).2) i)
