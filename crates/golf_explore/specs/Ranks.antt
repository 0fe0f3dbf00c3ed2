-- Edges from turns to visits, and ranks that fall along them.
use Rattle.std.specs.Prelude.{◌≡◌, ℕ, suc, ◌+◌, ◌<◌, List, length, Some, slice_get}
use Rattle.golf_theory.specs.Membership.{In}
use Rattle.golf_data.specs.declared.code.Code.{Code}
use Rattle.golf_model.specs.State.{State}
use Rattle.golf_explore_laws.specs.After.{after_all}
use Rattle.golf_explore_laws.specs.Local.{AreLocalTurns}
use Rattle.golf_explore.specs.AlikeStates.{SameOrAlike}
use Rattle.golf_explore.specs.declared.visits.Edge.{Edge}

-- frame-local turns lead from the state after a turn to the listed state at the place of the edge, or to one that is
-- alike; the edge counts all these turns
abbrev pub SettlesAt : Code → List State → Edge → State → Type 0
SettlesAt code visited e s = (ns : List ℕ) × (t : State) × (suc (length ns) ≡ e.turns) × AreLocalTurns code s ns
    × (slice_get visited e.to ≡ Some t) × SameOrAlike (after_all code s ns) t

-- so they lead by one of these edges
abbrev pub SettlesBy : Code → List State → List Edge → State → Type 0
SettlesBy code visited es s = (e : Edge) × In e es × SettlesAt code visited e s

-- ---- ranks

-- the edge leads to a visit whose rank is more than as many turns below this one; an alike state counts as one more
abbrev pub LeadsLower : List ℕ → ℕ → Edge → Type 0
LeadsLower ranks rank e = (low : ℕ) × (slice_get ranks e.to ≡ Some low) × (low + e.turns < rank)

abbrev pub AreLower : List ℕ → ℕ → List Edge → Type 0
AreLower ranks rank es = (e : Edge) → In e es → LeadsLower ranks rank e

-- each visit has a rank, and each of its edges falls
abbrev pub Fall : List (List Edge) → List ℕ → Type 0
Fall edges ranks = (at : ℕ) (es : List Edge) → slice_get edges at ≡ Some es
    → (rank : ℕ) × (slice_get ranks at ≡ Some rank) × AreLower ranks rank es

abbrev pub HaveRanks : List (List Edge) → Type 0
HaveRanks edges = (ranks : List ℕ) × Fall edges ranks
