-- States that count as one, and how goroutines of two states are paired by their places.
use Rattle.std.specs.Prelude.{◌≡◌, ℕ, suc, ◌<◌, ◌≤◌, List, Option, Some, option_map, option_and_then, ◌==◌}
use Rattle.std.specs.Prelude.{slice_get, length, ◌⊎◌}
use Rattle.golf_theory.specs.Maps.{find, keys}
use Rattle.golf_theory.specs.Membership.{In}
use Rattle.golf_data.specs.declared.goroutine.Ending.{Ending}
use Rattle.golf_data.specs.declared.goroutine.Wait.{Wait}
use Rattle.golf_model.specs.Views.{GoroutineView}
use Rattle.golf_model.specs.State.{State, ending}
use Rattle.golf_model.specs.Waiters.{ticket_of, waits_of}
use Rattle.golf_model.specs.Refs.{waited}
use Rattle.golf_explore_laws.specs.Alike.{blank, nameless, IsAlike, IsWellOrdered, AreAlike}
use Rattle.golf_explore.specs.declared.alike_states.WaitPair.{WaitPair}

-- ---- states that count as one

abbrev pub SameOrAlike : State → State → Type 0
SameOrAlike s t = (s ≡ t) ⊎ AreAlike s t

-- the states are alike if both are in order
abbrev pub CountAsOne : State → State → Type 0
CountAsOne s t = IsWellOrdered s → IsWellOrdered t → IsAlike s t

-- the listed state at this place counts as one with this state
abbrev pub HasOneAt : List State → State → ℕ → Type 0
HasOneAt visited s at = (t : State) × (slice_get visited at ≡ Some t) × CountAsOne s t

-- ---- all but goroutines

-- states with these endings have recorded the same one, except for the goroutine that it names
abbrev pub RecordSame : Option Ending → Option Ending → Type 0
RecordSame e f = (s t : State) → ending s ≡ e → ending t ≡ f → nameless s.recorded ≡ nameless t.recorded

-- all is the same, except for goroutines, output, the next numbers and recorded endings
pub record IsSameBesides (s t : State) : Type 0 where
  pub globals : s.globals ≡ t.globals
  pub objects : s.objects ≡ t.objects
  pub last : s.last_object ≡ t.last_object
  pub finalisers : s.finalisers ≡ t.finalisers
  pub queue : s.queue ≡ t.queue
  pub two : (2 ≤ s.next_goroutine) × (2 ≤ t.next_goroutine)

-- ---- pairs of places

-- the place has a partner, whose partner it is
abbrev pub IsPaired : List ℕ → List ℕ → ℕ → Type 0
IsPaired to from i = (j : ℕ) × (slice_get to i ≡ Some j) × (slice_get from j ≡ Some i)

abbrev pub ArePaired : List ℕ → List ℕ → ℕ → Type 0
ArePaired to from count = (i : ℕ) → i < count → IsPaired to from i

-- of these numbers the partner of the goroutine at this place
abbrev pub partner : List ℕ → List ℕ → ℕ → Option ℕ
partner hs to i = option_and_then (λ j. slice_get hs j) (slice_get to i)

-- the entries differ in tickets alone, and 0 goes with 0, 1 with 1
abbrev pub CanPair : State → ℕ → State → ℕ → Type 0
CanPair s g t h = (option_map blank (find g s.goroutines) ≡ option_map blank (find h t.goroutines))
    × ((g == 0) ≡ (h == 0)) × ((g == 1) ≡ (h == 1))

-- the goroutine at this place has a partner that fits
abbrev pub CanPairAt : State → List ℕ → State → List ℕ → List ℕ → ℕ → Type 0
CanPairAt s gs t hs to i = (g : ℕ) → slice_get gs i ≡ Some g → (h : ℕ) × (partner hs to i ≡ Some h) × CanPair s g t h

abbrev pub AllCanPair : State → List ℕ → State → List ℕ → List ℕ → Type 0
AllCanPair s gs t hs to = (i : ℕ) → CanPairAt s gs t hs to i

-- ---- the order of waiters

-- a wait, with the tickets of a goroutine and of its partner
abbrev pub wait_pair_of : ℕ → ℕ → Wait → WaitPair
wait_pair_of ticket twin w = record { object = w.object.0; ticket = ticket; twin = twin }

abbrev pub wait_pair : ℕ → GoroutineView → GoroutineView → WaitPair
wait_pair o r q = record { object = o; ticket = ticket_of r.mode; twin = ticket_of q.mode }

-- waits were added, among them each of this goroutine
pub record AddsWaits (r q : GoroutineView) (old new : List WaitPair) : Type 0 where
  pub grows : (w : WaitPair) → In w old → In w new
  pub has : (o : ℕ) → In o (waited (waits_of r.mode)) → In (wait_pair o r q) new

-- waits were added, among them each of the goroutine of this number
pub record AddsWaitsAt (s : State) (g : ℕ) (t : State) (other : Option ℕ) (old new : List WaitPair) : Type 0 where
  pub grows : (w : WaitPair) → In w old → In w new
  pub has : (h : ℕ) (r q : GoroutineView) → other ≡ Some h → find g s.goroutines ≡ Some r → find h t.goroutines ≡ Some q
      → (o : ℕ) → In o (waited (waits_of r.mode)) → In (wait_pair o r q) new

-- each wait of the goroutines at the first places is listed
abbrev pub HasWaits : State → List ℕ → State → List ℕ → List ℕ → ℕ → List WaitPair → Type 0
HasWaits s gs t hs to count ws = (i g h : ℕ) (r q : GoroutineView) → i < count → slice_get gs i ≡ Some g
    → partner hs to i ≡ Some h → find g s.goroutines ≡ Some r → find h t.goroutines ≡ Some q → (o : ℕ)
    → In o (waited (waits_of r.mode)) → In (wait_pair o r q) ws

-- the object has a higher number; or it is the same, and both tickets are higher, or both are the same
abbrev pub ComesBefore : WaitPair → WaitPair → Type 0
ComesBefore v w = (v.object < w.object) ⊎ ((v.object ≡ w.object)
    × (((v.ticket < w.ticket) × (v.twin < w.twin)) ⊎ ((v.ticket ≡ w.ticket) × (v.twin ≡ w.twin))))

abbrev pub AreInOrder : List WaitPair → Type 0
AreInOrder ws = (i : ℕ) (v w : WaitPair) → slice_get ws i ≡ Some v → slice_get ws (suc i) ≡ Some w → ComesBefore v w

-- all waits are in order in both states
abbrev pub HaveSameOrder : State → List ℕ → State → List ℕ → List ℕ → Type 0
HaveSameOrder s gs t hs to = (ws : List WaitPair) × HasWaits s gs t hs to (length gs) ws × AreInOrder ws

-- ---- all goroutines

-- by these places each goroutine has a partner that fits, and waiters have the same order
pub record ArePartners (s : State) (gs : List ℕ) (t : State) (hs : List ℕ) (to from : List ℕ) : Type 0 where
  pub count : length to ≡ length gs
  pub paired : ArePaired to from (length gs)
  pub back : ArePaired from to (length hs)
  pub fit : AllCanPair s gs t hs to
  pub order : HaveSameOrder s gs t hs to

-- by some places
pub record HavePartners (s t : State) : Type 0 where
  pub to : List ℕ
  pub from : List ℕ
  pub partners : ArePartners s (keys s.goroutines) t (keys t.goroutines) to from
