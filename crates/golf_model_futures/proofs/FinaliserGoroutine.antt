-- Goroutine 0 is live, and no report names it.
-- For: `finaliser_goroutine_lives`, src/lib.rt
-- By: induction over the list of reports
use Rattle.std.proofs.Common.{ℕ, Bool, not, List, [], ◌∷◌, ◌++◌, inl, inr, subst}
use Rattle.golf_theory.specs.Membership.{In, is_in}
use Rattle.golf_theory.proofs.Derivations.{Reached-root}
use Rattle.golf_theory.proofs.Lists.{In-filter}
use Rattle.golf_data.specs.declared.code.Code.{Code}
use Rattle.golf_data.specs.declared.report.Report.{Report}
use Rattle.golf_model.specs.State.{State}
use Rattle.golf_model.specs.LiveSet.{Node, LiveRoot, LiveStep, Live, dead}
use Rattle.golf_model.specs.Collections.{sets_finalisers}
use Rattle.golf_model.specs.Runs.{Event, stops}
use Rattle.golf_model.specs.Reports.{book_of, real_reports}
use Rattle.golf_model.proofs.Agreeing.{dead-sound}
use Rattle.golf_model_futures.specs.ReportedGoroutines.{named, TellsOfEach}
use Rattle.golf_model_futures.proofs.MainLaws.{real_runs_agree, book_tells_of_each}

pub lives : (s : State) → Live s (Node.AGoroutine 0)
lives s = Reached-root (LiveRoot s) (LiveStep s) (Node.AGoroutine 0) LiveRoot.FinaliserGoroutine

pub not-dead : (s : State) → In 0 (dead s) → ⊥
not-dead s i = (dead-sound s 0 i).3 (lives s)

untold : (told : List ℕ) (ps : List State) (rs : List Report) → TellsOfEach told ps rs → (r : Report) → In r rs
    → In 0 (named r) → ⊥
untold told [] [] h r i j = i
untold told [] (x ∷ xs) h r i j = h
untold told (p ∷ ps) [] h r i j = i
untold told (p ∷ ps) (x ∷ xs) h r (inl e) j =
    not-dead p (In-filter (λ g. not (is_in g told)) 0 (dead p)
    (subst (In 0) h.0 (subst (λ (z : Report). In 0 (named z)) e j))).0
untold told (p ∷ ps) (x ∷ xs) h r (inr i) j = untold (told ++ named x) ps xs h.1 r i j

pub unreported : (code : Code) (events : List Event) (recover : Bool) (r : Report)
    → In r (real_reports code events recover) → In 0 (named r) → ⊥
unreported code events recover r i j =
    untold [] (stops code events) (book_of (stops code events) recover (sets_finalisers code))
    (book_tells_of_each code events recover) r
    (subst (In r) (real_runs_agree code events recover).2 i) j
