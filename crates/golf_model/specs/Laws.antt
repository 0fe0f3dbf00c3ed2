-- The laws that tie the computed definitions to the derived ones, as statements.
use Rattle.std.specs.Prelude.{◌≡◌, ℕ, ◌≤◌, Bool, true, List, [], ◌∷◌, Option, Some, None, ◌↔◌}
use Rattle.golf_theory.specs.Membership.{In, Every}
use Rattle.golf_theory.specs.Maps.{Entry}
use Rattle.golf_data.specs.declared.goroutine.Side.{Side}
use Rattle.golf_model.specs.Views.{GoroutineView}
use Rattle.golf_model.specs.Waiters.{Waiter, waiter_ticket, waiter_of, first, waiters}
use Rattle.golf_model.specs.State.{State}
use Rattle.golf_model.specs.Reach.{Reach, reach}
use Rattle.golf_model.specs.declared.graph.GraphParts.{GraphParts}
use Rattle.golf_model.specs.Graph.{Least, least_places}
use Rattle.golf_model.specs.Collections.{Keeps, keeps, Retained, retained}
use Rattle.golf_model.specs.LiveSet.{Node, Live, live_list, Dead, dead}

-- the computed objects are exactly the reached ones
abbrev pub ReachComputed : Type 0
ReachComputed = (s : State) (xs : List ℕ) (o : ℕ) → In o (reach s xs) ↔ Reach s xs o

-- the computed nodes are exactly the live ones
abbrev pub LiveComputed : Type 0
LiveComputed = (s : State) (x : Node) → In x (live_list s) ↔ Live s x

-- the computed goroutines are exactly the dead ones
abbrev pub DeadComputed : Type 0
DeadComputed = (s : State) (g : ℕ) → In g (dead s) ↔ Dead s g

abbrev pub head : {X : Type 0} → List X → Option X
head [] = None
head (x ∷ xs) = Some x

-- no waiter has an earlier ticket than a waiter before it
abbrev pub TicketsRise : List Waiter → Type 0
TicketsRise [] = Unit {0}
TicketsRise (w ∷ ws) = Every (λ v. waiter_ticket w ≤ waiter_ticket v) ws × TicketsRise ws

-- the waiter is a goroutine of the map that waits on the object with that side
abbrev pub IsWaiterOf : ℕ → Side → List (ℕ × GoroutineView) → Waiter → Type 0
IsWaiterOf o side gs w = (e : ℕ × GoroutineView) × Entry gs e.0 e.1 × (waiter_of o side e ≡ Some w)

-- the list has exactly the goroutines that wait there, in rising order of ticket
abbrev pub WaitersInOrder : Type 0
WaitersInOrder = (o : ℕ) (side : Side) (gs : List (ℕ × GoroutineView)) → TicketsRise (waiters o side gs)
    × ((w : Waiter) → In w (waiters o side gs) ↔ IsWaiterOf o side gs w)

-- the first waiter is the head of that list
abbrev pub FirstInOrder : Type 0
FirstInOrder = (o : ℕ) (side : Side) (gs : List (ℕ × GoroutineView)) → first o side gs ≡ head (waiters o side gs)

-- the computed places are exactly the least closed set of the graph
abbrev pub LeastComputed : Type 0
LeastComputed = (g : GraphParts) (p : ℕ) → In p (least_places g) ↔ Least g p

-- the test of the keep rule agrees with the relation
abbrev pub KeepsComputed : Type 0
KeepsComputed = (s : State) (sets_finalisers : Bool) (g : ℕ) → (keeps s sets_finalisers g ≡ true)
    ↔ Keeps s sets_finalisers g

-- the computed objects are exactly the retained ones
abbrev pub RetainedComputed : Type 0
RetainedComputed = (s : State) (gone : List ℕ) (o : ℕ) → In o (retained s gone) ↔ Retained s gone o
