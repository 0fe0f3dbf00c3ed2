-- Promises of a collection: on the future, and on the removed goroutines and freed objects.
use Rattle.std.specs.Prelude.{◌≡◌, ◌↔◌, ℕ, Bool, true, List, None}
use Rattle.golf_theory.specs.Maps.{keys}
use Rattle.golf_theory.specs.Membership.{In}
use Rattle.golf_data.specs.declared.code.Code.{Code}
use Rattle.golf_data.specs.declared.report.Report.{Report}
use Rattle.golf_model.specs.State.{State, ending}
use Rattle.golf_model.specs.LiveSet.{Dead}
use Rattle.golf_model.specs.Collections.{plain_collect, sets_finalisers, Keeps, removed, Retained}
use Rattle.golf_model.specs.Runs.{Event}
use Rattle.golf_model.specs.Futures.{Still, Leads, futures}
use Rattle.golf_model_futures.specs.ReportedGoroutines.{named}
use Rattle.golf_model_typing.specs.Types.{Typing}
use Rattle.golf_model_typing.specs.Shapes.{HasShapes}
use Rattle.golf_model.specs.Turn.{MovesOn}

-- for every code and all events, each goroutine that the report names stays as it was before the collection
abbrev pub AreStill : Report → State → Type 0
AreStill report before = (code : Code) (g : ℕ) → In g (named report) → Still code before g

-- The futures after the real and the plain collection are the same, except for the removed goroutines. They have the
-- same output, ending, finaliser calls, live objects and dead goroutines. This holds for all events, and for every code
-- that led to the state before and sets finalisers exactly when `sets` is true.
abbrev pub IsUnseen : Bool → Bool → State → State → Type 0
IsUnseen recover sets before after = (code : Code) (events : List Event) → Leads code before
    → sets_finalisers code ≡ sets
    → futures code after events (removed before recover sets) ≡ futures code (plain_collect before) events
    (removed before recover sets)

-- the goroutine is removed: with recovery, it is dead and the keep rule does not keep it
abbrev pub IsRemoved : Bool → Bool → State → ℕ → Type 0
IsRemoved recover sets before g = (recover ≡ true) × Dead before g × (Keeps before sets g → ⊥)

-- exactly the removed goroutines are gone, and exactly the retained objects stay
pub record LeavesExactly (recover sets : Bool) (before after : State) : Type 0 where
  pub goroutines : (g : ℕ) → In g (keys after.goroutines)
      ↔ (In g (keys before.goroutines) × (IsRemoved recover sets before g → ⊥))
  pub objects : (o : ℕ) → In o (keys after.objects)
      ↔ (In o (keys before.objects) × Retained before (removed before recover sets) o)

-- well-typed code is not stuck after the collection
abbrev pub MovesOnAfter : Bool → State → State → Type 0
MovesOnAfter sets before after = (code : Code) (types : Typing) (c : ℕ) → HasShapes code types → Leads code before
    → ending before ≡ None → sets_finalisers code ≡ sets → ending after ≡ None → MovesOn code after c
