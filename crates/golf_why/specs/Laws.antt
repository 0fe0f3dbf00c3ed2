-- Laws on explanations.
use Rattle.std.specs.Prelude.{◌≡◌, ℕ, List, [], ◌∷◌, None, slice_get, unwrap_or}
use Rattle.golf_theory.specs.Maps.{find}
use Rattle.golf_data.specs.declared.report.Entry.{Entry}
use Rattle.golf_model.specs.Futures.{Numbered}
use Rattle.golf_model.specs.Graph.{sleeper_place, IsInRange}
use Rattle.golf_model.specs.LiveSet.{Node, Live}
use Rattle.golf_model.specs.Presence.{IsWhole}
use Rattle.golf_model.specs.Reports.{entry_of}
use Rattle.golf_model.specs.State.{State}
use Rattle.golf_snapshot.specs.Parts.{live_parts}
use Rattle.golf_snapshot.specs.Stands.{IsSleeper}
use Rattle.golf_cert.specs.Levels.{IsReason}
use Rattle.golf_why.specs.declared.explanation.Reached.{Reached}
use Rattle.golf_why.specs.Members.{members_before}
use Rattle.golf_why.specs.Explanations.{sleeper_entries_in, reached_at}

-- the explanation of the sleeper of this number
abbrev pub told : State → ℕ → List Reached
told s k = reached_at (live_parts s) k (unwrap_or (slice_get (sleeper_entries_in s (live_parts s)) k) None)

-- the explanation says how the goroutine is blocked, as a report says it, and names the members of its one reason
pub record IsToldOf (s : State) (k g : ℕ) : Type 0 where
  pub entry : Entry
  pub blocked : entry_of g (find g s.goroutines) ≡ entry ∷ []
  pub places : List ℕ
  pub reason : IsReason (live_parts s) (sleeper_place (live_parts s) k) places
  pub is_told : told s k ≡ record {
    goroutine = entry.goroutine;
    wait = entry.wait;
    line = entry.line;
    by = members_before (live_parts s) places;
  } ∷ []

-- the explanation of a sleeper is there if the sleeper is live, and else empty
pub record TellsLive (s : State) (k g : ℕ) : Type 0 where
  pub live : Live s (Node.AGoroutine g) → IsToldOf s k g
  pub dead : (Live s (Node.AGoroutine g) → ⊥) → told s k ≡ []

-- a sleeper has an explanation exactly when it is live
abbrev pub LiveAreTold : Type 0
LiveAreTold = (s : State) → Numbered s → IsWhole s → IsInRange (live_parts s) → (k g : ℕ) → IsSleeper s k g
    → TellsLive s k g
