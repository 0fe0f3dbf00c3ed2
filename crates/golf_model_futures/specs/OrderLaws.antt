-- The laws of the states that moves reach, as statements.
use Rattle.std.specs.Prelude.{ℕ, Bool, List}
use Rattle.golf_theory.specs.Maps.{IsRising}
use Rattle.golf_theory.specs.Membership.{In}
use Rattle.golf_data.specs.declared.code.Code.{Code}
use Rattle.golf_data.specs.declared.code.Instr.{Instr}
use Rattle.golf_data.specs.declared.report.Report.{Report}
use Rattle.golf_model.specs.State.{State}
use Rattle.golf_model.specs.Actors.{Actor}
use Rattle.golf_model.specs.Changes.{Change, apply}
use Rattle.golf_model.specs.Turn.{changes, step}
use Rattle.golf_model.specs.LiveSet.{Node, Live, dead}
use Rattle.golf_model.specs.Collections.{real_collect}
use Rattle.golf_model.specs.Runs.{Event}
use Rattle.golf_model.specs.Reports.{real_reports}
use Rattle.golf_model.specs.Futures.{Numbered, Leads}
use Rattle.golf_model.specs.Presence.{IsWhole}
use Rattle.golf_model_futures.specs.ReportedGoroutines.{named}
use Rattle.golf_model_futures.specs.Orderly.{IsOrderly, KeepsOrder, AllKeepOrder}

-- in every state that moves reach each reference is to an object that exists
abbrev pub LeadsWhole : Type 0
LeadsWhole = (code : Code) (s : State) → Leads code s → IsWhole s

-- a collection keeps this, with and without recovery
abbrev pub CollectionsKeepWhole : Type 0
CollectionsKeepWhole = (s : State) (recover sets_finalisers : Bool) → Numbered s → IsWhole s
    → IsWhole (real_collect s recover sets_finalisers)

-- in every state that moves reach goroutines are in order
abbrev pub LeadsOrderly : Type 0
LeadsOrderly = (code : Code) (s : State) → Leads code s → IsOrderly s

-- each change of each instruction keeps goroutines in order, and so do turns and collections
abbrev pub ChangesKeepOrder : Type 0
ChangesKeepOrder = (s : State) (c : Change) → KeepsOrder s.objects c → IsOrderly s → IsOrderly (apply c s)

abbrev pub InstructionsKeepOrder : Type 0
InstructionsKeepOrder = (code : Code) (i : Instr) (a : Actor) (choice : ℕ) (s : State)
    → AllKeepOrder s.objects (changes code i a choice s)

abbrev pub TurnsKeepOrder : Type 0
TurnsKeepOrder = (code : Code) (s : State) (k : ℕ) → IsRising s.goroutines → IsOrderly s → IsOrderly (step code s k)

abbrev pub CollectionsKeepOrder : Type 0
CollectionsKeepOrder = (s : State) (recover sets_finalisers : Bool) → Numbered s → IsWhole s → IsOrderly s
    → IsOrderly (real_collect s recover sets_finalisers)

-- goroutine 0, which runs finalisers, is live, so it is never dead
abbrev pub FinaliserGoroutineLives : Type 0
FinaliserGoroutineLives = (s : State) → Live s (Node.AGoroutine 0) × (In 0 (dead s) → ⊥)

-- no report of a run names goroutine 0
abbrev pub FinaliserGoroutineUnreported : Type 0
FinaliserGoroutineUnreported = (code : Code) (events : List Event) (recover : Bool) (r : Report)
    → In r (real_reports code events recover) → In 0 (named r) → ⊥
