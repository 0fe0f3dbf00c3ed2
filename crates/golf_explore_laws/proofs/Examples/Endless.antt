-- A code that jumps for ever: its one state is a closed list, so no run of it leaks, panics or falls asleep.
-- For: `IsClosed`, specs/Closed.antt; the laws of closed lists, specs/Laws.antt
-- By: computing the one turn of the one state
use Rattle.std.proofs.Common.{◌≡◌, Bool, List, [], ◌∷◌, inl, inr, refl, sym, ap, ◌∙◌, subst, arith}
use Rattle.golf_data.specs.declared.code.Code.{Code}
use Rattle.golf_data.specs.declared.code.Instr.{Instr}
use Rattle.golf_data.specs.declared.goroutine.Ending.{Ending}
use Rattle.golf_model.specs.State.{State, start, ending}
use Rattle.golf_model.specs.LiveSet.{dead, live_list}
use Rattle.golf_model.proofs.Examples.Writing.{straight}
use Rattle.golf_explore_laws.specs.Closed.{IsClosed, NoneDead, NoneEnds}
use Rattle.golf_explore_laws.specs.Laws.{is_panic, is_asleep, NeverLeaks, NeverReports, ReportsNobody, NeverPanics}
use Rattle.golf_explore_laws.specs.Laws.{NeverAllAsleep}
use Rattle.golf_explore_laws.proofs.MainLaws.{closed_lists_never_leak, closed_lists_never_report}
use Rattle.golf_explore_laws.proofs.MainLaws.{closed_lists_report_nobody, closed_lists_never_panic}
use Rattle.golf_explore_laws.proofs.MainLaws.{closed_lists_never_sleep}
use Rattle.golf_explore_laws.proofs.Examples.Tables.{closed-by}

abbrev endless : Code
endless = straight (Instr.Jump 0 ∷ [])

abbrev visited : List State
visited = start endless ∷ []

closed : IsClosed endless visited
closed = closed-by endless visited (inl refl)
    (inr (refl, (0 ∷ []) ∷ [], ((([], tt, refl), omega arith), omega arith)), tt)

none-dead : NoneDead visited
unfolding live_list
none-dead s (inl e) goes = subst (λ (t : State). dead t ≡ []) (sym e) refl
none-dead s (inr h) goes = absurd h

none-ends : (is_one : Ending → Bool) → NoneEnds is_one visited
none-ends is_one s e (inl i) h = let g = ap ending (sym i) ∙ h in cc
none-ends is_one s e (inr i) h = absurd i

pub endless_never_leaks : NeverLeaks endless
endless_never_leaks = closed_lists_never_leak endless visited closed none-dead

pub endless_never_reports : NeverReports endless
endless_never_reports = closed_lists_never_report endless visited closed none-dead

pub endless_reports_nobody : ReportsNobody endless
endless_reports_nobody = closed_lists_report_nobody endless visited closed none-dead

pub endless_never_panics : NeverPanics endless
endless_never_panics = closed_lists_never_panic endless visited closed (none-ends is_panic)

pub endless_is_never_asleep : NeverAllAsleep endless
endless_is_never_asleep = closed_lists_never_sleep endless visited closed (none-ends is_asleep)
