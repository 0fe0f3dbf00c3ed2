-- The keep rule on the graph of a state: a dead goroutine stays if its removal could let a finaliser run (profile).
use Rattle.std.specs.Prelude.{◌≡◌, ◌<◌, ◌↔◌, ◌⊎◌, ℕ, Bool, true, List, length}
use Rattle.golf_theory.specs.Membership.{In}
use Rattle.golf_theory.specs.Reached.{Reached}
use Rattle.golf_model.specs.declared.graph.GraphParts.{GraphParts}
use Rattle.golf_model.specs.declared.graph.Marked.{Marked}
use Rattle.golf_model.specs.Graph.{sleeper_count, children_of, sleeper_references}
use Rattle.golf_model.specs.State.{State}
use Rattle.golf_model.specs.LiveSet.{Dead}
use Rattle.golf_model.specs.Collections.{Keeps}
use Rattle.golf_model.specs.Futures.{Numbered}
use Rattle.golf_model.specs.Presence.{IsWhole}
use Rattle.golf_marks.specs.Flags.{IsSet}
use Rattle.golf_mark.specs.MarkingResult.{MarksLeast}
use Rattle.golf_snapshot.specs.Parts.{live_parts}
use Rattle.golf_snapshot.specs.Stands.{IsSleeper}

-- the second node is a child of the first
abbrev pub HasChild : GraphParts → ℕ → ℕ → Type 0
HasChild g from to = In to (children_of g from)

-- the node is reached from one of these nodes
abbrev pub IsReachedFrom : GraphParts → List ℕ → ℕ → Type 0
IsReachedFrom g starts = Reached (λ p. In p starts) (HasChild g)

-- the node keeps each dead goroutine that reaches it: it has a finaliser, or it is marked and the code sets finalisers
abbrev pub Prevents : GraphParts → List Bool → Bool → ℕ → Type 0
Prevents g flags sets_finalisers p = IsSet g.finalised p ⊎ ((sets_finalisers ≡ true) × IsSet flags p)

-- a sleeper is kept if it is not awake and reaches such a node
abbrev pub IsKept : GraphParts → Marked → Bool → ℕ → Type 0
IsKept g m sets_finalisers s =
    (IsSet m.awake s → ⊥) × ((p : ℕ) × IsReachedFrom g (sleeper_references g s) p
    × Prevents g m.flags sets_finalisers p)

-- a flag for each sleeper: whether it is kept
pub record HasKept (g : GraphParts) (m : Marked) (sets_finalisers : Bool) (flags : List Bool) : Type 0 where
  pub count : length flags ≡ sleeper_count g
  pub kept : (s : ℕ) → s < sleeper_count g → IsSet flags s ↔ IsKept g m sets_finalisers s

-- a sleeper's flag is set exactly when its goroutine is dead and the keep rule of the definitions keeps it
abbrev pub FlagsKept : State → Bool → List Bool → Type 0
FlagsKept s sets_finalisers flags = (j g : ℕ) → IsSleeper s j g → IsSet flags j ↔ (Dead s g × Keeps s sets_finalisers g)

-- this holds on the marked live graph of a state
abbrev pub KeepsAlike : Type 0
KeepsAlike = (s : State) (m : Marked) (sets_finalisers : Bool) (flags : List Bool) → Numbered s → IsWhole s
    → MarksLeast (live_parts s) m → HasKept (live_parts s) m sets_finalisers flags → FlagsKept s sets_finalisers flags

-- this holds if the graph is the live graph of a state, and is marked
abbrev pub KeepsOf : GraphParts → Marked → Bool → List Bool → Type 0
KeepsOf g m sets_finalisers flags = (s : State) → Numbered s → IsWhole s → g ≡ live_parts s → MarksLeast g m
    → FlagsKept s sets_finalisers flags
