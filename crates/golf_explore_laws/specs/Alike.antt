-- States that are alike: they differ in the numbers of their goroutines and in tickets alone.
use Rattle.std.specs.Prelude.{◌≡◌, ℕ, ◌<◌, ◌≤◌, false, List, [], Option, Some, None, option_map, ◌==◌, nat_lt}
use Rattle.golf_theory.specs.Maps.{find}
use Rattle.golf_theory.specs.Membership.{In}
use Rattle.golf_data.specs.declared.goroutine.Ending.{Ending}
use Rattle.golf_data.specs.declared.goroutine.Mode.{Mode}
use Rattle.golf_model.specs.Views.{GoroutineView}
use Rattle.golf_model.specs.State.{State, is_running}
use Rattle.golf_model.specs.Waiters.{waits_of, ticket_of}
use Rattle.golf_model.specs.Refs.{waited}
use Rattle.golf_model.specs.Futures.{Numbered}
use Rattle.golf_model_futures.specs.Orderly.{IsOrderly}

-- the mode with ticket 0
abbrev pub untimed : Mode → Mode
untimed Mode.Running = Mode.Running
untimed (Mode.Blocked kind line waits ticket) = Mode.Blocked kind line waits 0

-- the goroutine with ticket 0
abbrev pub blank : GoroutineView → GoroutineView
blank r = record r { mode = untimed r.mode }

-- the ending without the number of its goroutine
abbrev pub nameless_ending : Ending → Ending
nameless_ending Ending.Returned = Ending.Returned
nameless_ending (Ending.Panicked kind goroutine line) = Ending.Panicked kind (record { 0 = 0 }) line
nameless_ending Ending.Asleep = Ending.Asleep

abbrev pub nameless : Option Ending → Option Ending
nameless None = None
nameless (Some e) = Some (nameless_ending e)

-- all of the state but its goroutines, the next numbers, and the goroutine that its ending names
abbrev pub rest : State → State
rest s = record s { goroutines = []; next_goroutine = 0; next_ticket = 0; recorded = nameless s.recorded }

-- the goroutine waits on the object
abbrev pub WaitsOn : ℕ → GoroutineView → Type 0
WaitsOn o r = In o (waited (waits_of r.mode))

-- each ticket of a blocked goroutine is below the next ticket
abbrev pub AreEarly : State → Type 0
AreEarly s = (g : ℕ) (r : GoroutineView) → find g s.goroutines ≡ Some r → is_running r.mode ≡ false
    → ticket_of r.mode < s.next_ticket

-- by these pairs of goroutines two states are alike: a pair is in both or in neither, and its entries differ in tickets
-- alone; of the waiters on one object the order is the same; all else is equal but for the next numbers and the
-- goroutine that an ending names
pub record AlikeBy (ps : List (ℕ × ℕ)) (s t : State) : Type 0 where
  pub others : rest s ≡ rest t
  pub entries : (g h : ℕ) → In (g, h) ps
      → option_map blank (find g s.goroutines) ≡ option_map blank (find h t.goroutines)
  pub left : (g : ℕ) (r : GoroutineView) → find g s.goroutines ≡ Some r → (h : ℕ) × In (g, h) ps
  pub right : (h : ℕ) (q : GoroutineView) → find h t.goroutines ≡ Some q → (g : ℕ) × In (g, h) ps
  pub one : (g h k l : ℕ) → In (g, h) ps → In (k, l) ps → (g == k) ≡ (h == l)
  pub zero_one : (g h : ℕ) → In (g, h) ps → ((g == 0) ≡ (h == 0)) × ((g == 1) ≡ (h == 1))
  pub given : (g h : ℕ) → In (g, h) ps → (g < s.next_goroutine) × (h < t.next_goroutine)
  pub two : (2 ≤ s.next_goroutine) × (2 ≤ t.next_goroutine)
  pub order : (g h k l : ℕ) → In (g, h) ps → In (k, l) ps → (r q u v : GoroutineView)
      → find g s.goroutines ≡ Some r → find h t.goroutines ≡ Some q → find k s.goroutines ≡ Some u
      → find l t.goroutines ≡ Some v → (o : ℕ) → WaitsOn o r → WaitsOn o u
      → nat_lt (ticket_of r.mode) (ticket_of u.mode) ≡ nat_lt (ticket_of q.mode) (ticket_of v.mode)
  pub early : AreEarly s × AreEarly t

abbrev pub IsAlike : State → State → Type 0
IsAlike s t = (ps : List (ℕ × ℕ)) × AlikeBy ps s t

-- what a state needs besides, and what each state of a run has
abbrev pub IsWellOrdered : State → Type 0
IsWellOrdered s = Numbered s × IsOrderly s

-- the states are alike, and in order
abbrev pub AreAlike : State → State → Type 0
AreAlike s t = IsAlike s t × IsWellOrdered s × IsWellOrdered t
