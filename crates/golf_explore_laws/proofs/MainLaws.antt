-- The laws of all schedules, from the lemmas.
-- For: the laws of src/lib.rt
-- By: the laws of lists that are closed up to a relation, of states after frame-local turns and of alike states; no
-- induction
use Rattle.std.proofs.Common.{inr, refl, ap}
use Rattle.golf_data.specs.declared.code.Code.{Code}
use Rattle.golf_data.specs.declared.goroutine.Ending.{Ending}
use Rattle.golf_explore_laws.specs.Laws.{is_panic, is_asleep, TurnsByChoice, ClosedListsNeverLeak}
use Rattle.golf_explore_laws.specs.Laws.{ClosedListsNeverReport, ClosedListsReportNobody, ClosedListsNeverEnd}
use Rattle.golf_explore_laws.specs.Laws.{ClosedListsNeverPanic, ClosedListsNeverSleep, RankedListsEnd}
use Rattle.golf_explore_laws.specs.Laws.{RankedListsAlwaysEnd, AlikeStatesStandFor, AlikeBack, AlikeThen, AlikeSelf}
use Rattle.golf_explore_laws.specs.Laws.{IsLocalOrAlike, AlikeListsNeverLeak, AlikeListsNeverReport}
use Rattle.golf_explore_laws.specs.Laws.{AlikeListsReportNobody, AlikeListsNeverEnd, AlikeRankedListsEnd}
use Rattle.golf_explore_laws.specs.StandIns.{AsksKind, StandsFor, IsAfterLocal}
use Rattle.golf_explore_laws.specs.Alike.{AreAlike}
use Rattle.golf_explore_laws.proofs.Choices.{turn-by-choice}
use Rattle.golf_explore_laws.proofs.StandIns.{local-stands, endings-kept, either-stands, closed-up-to-local}
use Rattle.golf_explore_laws.proofs.StandIns.{ranked-up-to-local}
use Rattle.golf_explore_laws.proofs.Settling.{ends_by, never-leaks, never-reports, never-ends, never-ends-kind}
use Rattle.golf_explore_laws.proofs.Reports.{reports-nobody}
use Rattle.golf_explore_laws.proofs.Ranking.{ends-within}
use Rattle.golf_explore_laws.proofs.Alike.Parts.{are-alike-back, alike-plain}
use Rattle.golf_explore_laws.proofs.Alike.Kinds.{alike-kind}
use Rattle.golf_explore_laws.proofs.Alike.Equivalence.{alike-self, alike-then}
use Rattle.golf_explore_laws.proofs.Alike.Dead.{alike-alive}
use Rattle.golf_explore_laws.proofs.Alike.Turns.{alike-turns}

pub turns_by_choice : TurnsByChoice
turns_by_choice code s c goes = turn-by-choice code s c goes

pub closed_lists_never_leak : ClosedListsNeverLeak
closed_lists_never_leak code visited closed = never-leaks code (IsAfterLocal code) visited (local-stands code)
    (closed-up-to-local code visited closed)

pub closed_lists_never_report : ClosedListsNeverReport
closed_lists_never_report code visited closed = never-reports code (IsAfterLocal code) visited (local-stands code)
    (closed-up-to-local code visited closed)

pub closed_lists_report_nobody : ClosedListsReportNobody
closed_lists_report_nobody code visited closed alive =
    reports-nobody code (closed_lists_never_report code visited closed alive)

pub closed_lists_never_end : ClosedListsNeverEnd
closed_lists_never_end code visited is_one closed = never-ends code (IsAfterLocal code) visited (local-stands code)
    (closed-up-to-local code visited closed) is_one
    (λ s ts ordered are. ap (ends_by is_one) (endings-kept code s ts ordered are))

panic-asks : AsksKind is_panic
panic-asks Ending.Returned Ending.Returned h = refl
panic-asks Ending.Returned (Ending.Panicked kind goroutine line) h = cc
panic-asks Ending.Returned Ending.Asleep h = refl
panic-asks (Ending.Panicked kind goroutine line) Ending.Returned h = cc
panic-asks (Ending.Panicked kind goroutine line) (Ending.Panicked other number place) h = refl
panic-asks (Ending.Panicked kind goroutine line) Ending.Asleep h = cc
panic-asks Ending.Asleep Ending.Returned h = refl
panic-asks Ending.Asleep (Ending.Panicked kind goroutine line) h = cc
panic-asks Ending.Asleep Ending.Asleep h = refl

asleep-asks : AsksKind is_asleep
asleep-asks Ending.Returned Ending.Returned h = refl
asleep-asks Ending.Returned (Ending.Panicked kind goroutine line) h = refl
asleep-asks Ending.Returned Ending.Asleep h = cc
asleep-asks (Ending.Panicked kind goroutine line) Ending.Returned h = refl
asleep-asks (Ending.Panicked kind goroutine line) (Ending.Panicked other number place) h = refl
asleep-asks (Ending.Panicked kind goroutine line) Ending.Asleep h = cc
asleep-asks Ending.Asleep Ending.Returned h = cc
asleep-asks Ending.Asleep (Ending.Panicked kind goroutine line) h = cc
asleep-asks Ending.Asleep Ending.Asleep h = refl

pub closed_lists_never_panic : ClosedListsNeverPanic
closed_lists_never_panic code visited closed = never-ends-kind code (IsAfterLocal code) visited (local-stands code)
    (closed-up-to-local code visited closed) is_panic panic-asks

pub closed_lists_never_sleep : ClosedListsNeverSleep
closed_lists_never_sleep code visited closed = never-ends-kind code (IsAfterLocal code) visited (local-stands code)
    (closed-up-to-local code visited closed) is_asleep asleep-asks

pub ranked_lists_end : RankedListsEnd
ranked_lists_end code ranked most is = ends-within code (IsAfterLocal code) ranked most (local-stands code)
    (ranked-up-to-local code ranked most is)

pub ranked_lists_always_end : RankedListsAlwaysEnd
ranked_lists_always_end code ranked most is = (most, ranked_lists_end code ranked most is)

-- ---- alike states

pub alike_states_stand_for : AlikeStatesStandFor
alike_states_stand_for code = record {
  order = λ s t p n. p.2.0;
  kind = λ s t p n. alike-kind s t p;
  plain = λ s t p n. alike-plain s t p;
  alive = λ s t p n. alike-alive s t p;
  turns = λ s t p n goes k. inr (alike-turns code s t p goes k);
}

pub alike_back : AlikeBack
alike_back s t p = are-alike-back s t p

pub alike_then : AlikeThen
alike_then s t u p q = (alike-then s t u p.0 q.0, p.1, q.2)

pub alike_self : AlikeSelf
alike_self s o two = (alike-self s o.0 o.1 two, o, o)

local-or-alike : (code : Code) → StandsFor code (IsLocalOrAlike code)
local-or-alike code = either-stands code (IsAfterLocal code) AreAlike (local-stands code) (alike_states_stand_for code)

pub alike_lists_never_leak : AlikeListsNeverLeak
alike_lists_never_leak code visited closed = never-leaks code (IsLocalOrAlike code) visited (local-or-alike code) closed

pub alike_lists_never_report : AlikeListsNeverReport
alike_lists_never_report code visited closed = never-reports code (IsLocalOrAlike code) visited (local-or-alike code)
    closed

pub alike_lists_report_nobody : AlikeListsReportNobody
alike_lists_report_nobody code visited closed alive =
    reports-nobody code (alike_lists_never_report code visited closed alive)

pub alike_lists_never_end : AlikeListsNeverEnd
alike_lists_never_end code visited is_one closed = never-ends-kind code (IsLocalOrAlike code) visited
    (local-or-alike code) closed is_one

pub alike_ranked_lists_end : AlikeRankedListsEnd
alike_ranked_lists_end code ranked most is = ends-within code (IsLocalOrAlike code) ranked most (local-or-alike code) is
