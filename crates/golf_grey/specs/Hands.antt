-- Words of clauses on the hands of a pool.
use Rattle.std.specs.Prelude.{Option, Some, None, ◌≡◌, ◌≢◌, ◌⊎◌, ℕ, ◌+◌, ◌<◌, ◌≤◌, List, [], ◌∷◌, ◌++◌, length, sum_by}
use Rattle.std.specs.Prelude.{vec_capacity}
use Rattle.std.specs.Global.{Global, Vec}
use mathlib.Core.Option.{some}
use lib.ListN.{get_elem?}
use Rattle.crossbeam_deque.specs.Handles.{Pass, view, taken as gone_before, IsPassOf, worker_deque, stealer_deque}
use Rattle.crossbeam_deque.specs.Handles.{worker_flavor, stealer_flavor, worker_view, worker_capacity, worker_index}
use Rattle.crossbeam_deque.specs.declared.handles.Stealer.{Stealer}
use Rattle.crossbeam_deque.specs.declared.handles.Worker.{Worker}
use Rattle.golf_theory.specs.Membership.{Every}
use Rattle.golf_grey.specs.Rule.{all_parts, WasEmpty}
use Rattle.golf_grey.specs.declared.rule.GreyView.{GreyView}
use Rattle.golf_grey.specs.declared.rule.Grey.{Grey}
use Rattle.golf_grey.specs.declared.hand.GreyHand.{GreyHand}
use Rattle.golf_grey.specs.declared.pool.GreyPool.{GreyPool}

abbrev pub Thief : Type 0
Thief = Stealer ℕ Global GreyView Grey

abbrev pub GreyPass : Type 0
GreyPass = Pass ℕ GreyView Global

abbrev pub pushed : GreyHand → List ℕ
pushed h = (worker_view h.own).pushed

abbrev pub option_weight : (ℕ → ℕ) → Option ℕ → ℕ
option_weight f None = 0
option_weight f (Some x) = f x

-- the sum over a list whose items are numbered from j
abbrev pub sum_at : {X : Type 0} → (ℕ → X → ℕ) → ℕ → List X → ℕ
sum_at f j [] = 0
sum_at f j (x ∷ xs) = f j x + sum_at f (j + 1) xs

-- the weight of the places that were taken with a pass of each deque; each deque has its own weights
abbrev pub row_weight : (ℕ → ℕ → ℕ) → List GreyPass → ℕ
row_weight g passes = sum_at (λ j (p : GreyPass). sum_by (g j) (view p).taken) 0 passes

-- the weight of the places that a hand took, by the weights of the deque that each came from
abbrev pub took_weight : (ℕ → ℕ → ℕ) → GreyHand → ℕ
took_weight g h = sum_by (g h.number) (worker_view h.own).taken + row_weight g h.passes.items

-- the weight of the places that a hand took, by one weight of places
abbrev pub took : (ℕ → ℕ) → GreyHand → ℕ
took f h = took_weight (λ _. f) h

-- the places that were taken with these passes, one after another
abbrev pub taken_with : List GreyPass → List ℕ
taken_with [] = []
taken_with (p ∷ ps) = (view p).taken ++ taken_with ps

-- the places that a hand took: from its own deque, and from each other one
abbrev pub taken_list : GreyHand → List ℕ
taken_list h = (worker_view h.own).taken ++ taken_with h.passes.items

-- the passes know the two numbers of their deques, and with none of them more places were taken than the capacity
abbrev pub RowKnows : ℕ → ℕ → List GreyPass → Type 0
RowKnows capacity places passes = (j : ℕ) (p : GreyPass) → get_elem? passes j ≡ some p → ((view p).places ≡ places)
    × ((view p).capacity ≡ capacity) × (length (view p).taken ≤ capacity)

-- a steal that finds nothing: the deque was empty at a step of it, or another hand took a place between its steps
abbrev pub FoundNone : GreyPass → GreyPass → Type 0
FoundNone old new = WasEmpty (view old) ⊎ (gone_before old < gone_before new)

-- this holds for the pass of each deque except for one
abbrev pub FoundNoneBut : ℕ → List GreyPass → List GreyPass → Type 0
FoundNoneBut number old new = (j : ℕ) (p q : GreyPass) → j ≢ number → get_elem? old j ≡ some p
    → get_elem? new j ≡ some q → FoundNone p q

-- A take that finds nothing. The hand's own deque was empty at a step of it. Each other deque was empty too, or another
-- hand's step came between.
pub record FindsNone (old new : GreyHand) : Type 0 where
  pub own : WasEmpty (worker_view old.own)
  pub others : FoundNoneBut old.number old.passes.items new.passes.items

-- a pass for each of the first deques
abbrev pub RowFits : List Thief → List GreyPass → Type 0
RowFits thieves passes = (j : ℕ) (t : Thief) (p : GreyPass) → get_elem? thieves j ≡ some t → get_elem? passes j ≡ some p
    → IsPassOf (stealer_deque t) p × ((view p).parts ≡ 1) × ((view p).pushed ≡ [])

-- the row has one pass for each deque
pub record IsRow (thieves : List Thief) (passes : List GreyPass) : Type 0 where
  pub len : length passes ≡ length thieves
  pub each : RowFits thieves passes
  pub fifo : (j : ℕ) (t : Thief) → get_elem? thieves j ≡ some t → stealer_flavor t ≡ 0

-- a hand of these deques that may push `capacity` times, and only places below `places`
pub record IsHandIn (thieves : List Thief) (capacity places : ℕ) (h : GreyHand) : Type 0 where
  pub row : IsRow thieves h.passes.items
  pub low : h.number < length thieves
  pub own : (t : Thief) → get_elem? thieves h.number ≡ some t → worker_deque h.own ≡ stealer_deque t
  pub parts : (worker_view h.own).parts + length thieves ≡ all_parts
  pub pushers : (worker_view h.own).pushers ≡ 1
  pub knows : ((worker_view h.own).places ≡ places) × ((worker_view h.own).capacity ≡ capacity)
  pub index : worker_index h.own ≤ length (pushed h) + 2
  pub count : length (pushed h) ≤ capacity
  pub room : capacity + 2 ≤ worker_capacity h.own
  pub few : length (worker_view h.own).taken ≤ capacity
  pub row_knows : RowKnows capacity places h.passes.items
  pub unused : (p : GreyPass) → get_elem? h.passes.items h.number ≡ some p → (view p).taken ≡ []
  pub no_owner : h.owners.items ≡ []
  pub owner_room : length thieves ≤ vec_capacity h.owners
  pub no_row : h.rows.items ≡ []
  pub row_room : length thieves ≤ vec_capacity h.rows

-- how often each hand of a pool may push, the bound of its places, and the number of its hands
abbrev pub capacity_of : GreyPool → ℕ
capacity_of pool = pool.capacity

abbrev pub places_of : GreyPool → ℕ
places_of pool = pool.places

abbrev pub hand_count : GreyPool → ℕ
hand_count pool = length pool.thieves.items

-- the hand belongs to this pool
abbrev pub IsHandOf : GreyPool → GreyHand → Type 0
IsHandOf pool h = IsHandIn pool.thieves.items (capacity_of pool) (places_of pool) h

abbrev pub Owner : Type 0
Owner = Worker ℕ Global GreyView Grey

-- the owners of the deques: those below k have p parts, and the others one more
pub record IsStage (thieves : List Thief) (p k : ℕ) (owners : List Owner) : Type 0 where
  pub len : length owners ≡ length thieves
  pub each : (j : ℕ) (t : Thief) (w : Owner) → get_elem? thieves j ≡ some t → get_elem? owners j ≡ some w
      → (worker_deque w ≡ stealer_deque t) × (worker_flavor w ≡ 0) × (stealer_flavor t ≡ 0)
  pub low : (j : ℕ) (w : Owner) → get_elem? owners j ≡ some w → j < k → (worker_view w).parts ≡ p
  pub high : (j : ℕ) (w : Owner) → get_elem? owners j ≡ some w → k ≤ j → (worker_view w).parts ≡ p + 1

-- the owner knows its two numbers, no place was pushed, and it has room for all pushes
pub record IsFresh (capacity places : ℕ) (w : Owner) : Type 0 where
  pub pushers : (worker_view w).pushers ≡ 1
  pub knows : ((worker_view w).places ≡ places) × ((worker_view w).capacity ≡ capacity)
  pub pushed : (worker_view w).pushed ≡ []
  pub taken : (worker_view w).taken ≡ []
  pub index : worker_index w ≤ 2
  pub room : capacity + 2 ≤ worker_capacity w

abbrev pub AllFresh : ℕ → ℕ → List Owner → Type 0
AllFresh capacity places owners = (j : ℕ) (w : Owner) → get_elem? owners j ≡ some w → IsFresh capacity places w

-- the passes know the two numbers, and no place was taken with them
abbrev pub RowIsNew : ℕ → ℕ → List GreyPass → Type 0
RowIsNew capacity places passes = (j : ℕ) (p : GreyPass) → get_elem? passes j ≡ some p → ((view p).places ≡ places)
    × ((view p).capacity ≡ capacity) × ((view p).taken ≡ [])

-- whole rows, with which nothing was taken
abbrev pub AreNewRows : List Thief → ℕ → ℕ → List (Vec GreyPass) → Type 0
AreNewRows thieves capacity places rows = (k : ℕ) (r : Vec GreyPass) → get_elem? rows k ≡ some r → IsRow thieves r.items
    × ((g : ℕ → ℕ → ℕ) → row_weight g r.items ≡ 0) × RowIsNew capacity places r.items

-- each number from `from` on and below `count` has a hand
abbrev pub HaveNumbers : ℕ → ℕ → List GreyHand → Type 0
HaveNumbers from count hands = (j : ℕ) → from ≤ j → j < count → (k : ℕ) × (h : GreyHand) × (get_elem? hands k ≡ some h)
    × (h.number ≡ j)

-- the hands of these deques, in any order
abbrev pub AllHandsIn : List Thief → ℕ → ℕ → List GreyHand → Type 0
AllHandsIn thieves capacity places hands = (length hands ≡ length thieves)
    × ((k : ℕ) (h : GreyHand) → get_elem? hands k ≡ some h → IsHandIn thieves capacity places h)
    × HaveNumbers 0 (length thieves) hands

-- the hands of a pool, in any order
abbrev pub AreAllHands : GreyPool → List GreyHand → Type 0
AreAllHands pool hands = AllHandsIn pool.thieves.items (capacity_of pool) (places_of pool) hands

-- `count` hands by falling number, down to 0
abbrev pub FallTo0 : ℕ → List GreyHand → Type 0
FallTo0 count hands = (k : ℕ) (h : GreyHand) → get_elem? hands k ≡ some h → h.number + k + 1 ≡ count

-- a hand that has not pushed or taken
pub record IsNewHand (h : GreyHand) : Type 0 where
  pub none_pushed : pushed h ≡ []
  pub none_taken : (g : ℕ → ℕ → ℕ) → took_weight g h ≡ 0

abbrev pub AreNewHands : List GreyHand → Type 0
AreNewHands hands = Every IsNewHand hands

-- the weight of the places that these hands pushed, and of those that they took
abbrev pub pushed_by : (ℕ → ℕ) → List GreyHand → ℕ
pushed_by f hands = sum_by (λ h. sum_by f (pushed h)) hands

abbrev pub taken_by : (ℕ → ℕ) → List GreyHand → ℕ
taken_by f hands = sum_by (λ h. took f h) hands

-- the same by the weights of the deque that a place was pushed to, or was taken from
abbrev pub pushed_to : (ℕ → ℕ → ℕ) → List GreyHand → ℕ
pushed_to g hands = sum_by (λ h. sum_by (g h.number) (pushed h)) hands

abbrev pub taken_from : (ℕ → ℕ → ℕ) → List GreyHand → ℕ
taken_from g hands = sum_by (λ h. took_weight g h) hands

-- the weight of the places that are left, each by the weights of the deque that it was in
abbrev pub left_in : (ℕ → ℕ → ℕ) → List ℕ → List ℕ → ℕ
left_in g [] places = 0
left_in g (s ∷ ss) [] = 0
left_in g (s ∷ ss) (x ∷ xs) = g s x + left_in g ss xs

-- Each place that is left was in one deque. The places that were pushed to a deque are those taken from it and those
-- left in it, each as often.
pub record IsSplit (hands : List GreyHand) (places sources : List ℕ) : Type 0 where
  pub each : length sources ≡ length places
  pub balance : (g : ℕ → ℕ → ℕ) → pushed_to g hands ≡ taken_from g hands + left_in g sources places

-- the owner of the deque j
pub record OwnerFits (thieves : List Thief) (capacity places j : ℕ) (w : Owner) : Type 0 where
  pub deque : (t : Thief) → get_elem? thieves j ≡ some t → worker_deque w ≡ stealer_deque t
  pub flavor : worker_flavor w ≡ 0
  pub parts : (worker_view w).parts + length thieves ≡ all_parts
  pub fresh : IsFresh capacity places w

-- the weight of the places that were pushed to these deques, and of those that their owners took
abbrev pub pushed_in : (ℕ → ℕ → ℕ) → List Owner → ℕ
pushed_in g owners = sum_at (λ j (w : Owner). sum_by (g j) (worker_view w).pushed) 0 owners

abbrev pub taken_in : (ℕ → ℕ → ℕ) → List Owner → ℕ
taken_in g owners = sum_at (λ j (w : Owner). sum_by (g j) (worker_view w).taken) 0 owners

abbrev pub AllRows : List Thief → List (Vec GreyPass) → Type 0
AllRows thieves rows = (k : ℕ) (r : Vec GreyPass) → get_elem? rows k ≡ some r → IsRow thieves r.items

abbrev pub rows_weight : (ℕ → ℕ → ℕ) → List (Vec GreyPass) → ℕ
rows_weight g rows = sum_by (λ (r : Vec GreyPass). row_weight g r.items) rows

-- the hands except for `rest` are taken apart, in rising order of number
pub record IsTaking (thieves : List Thief) (capacity places : ℕ) (hands rest : List GreyHand) (owners : List Owner)
    (rows : List (Vec GreyPass)) : Type 0 where
  pub count : length owners + length rest ≡ length thieves
  pub rows_count : length rows ≡ length owners
  pub fits : (k : ℕ) (h : GreyHand) → get_elem? rest k ≡ some h → IsHandIn thieves capacity places h
  pub numbers : HaveNumbers (length owners) (length thieves) rest
  pub owned : (j : ℕ) (w : Owner) → get_elem? owners j ≡ some w
      → ((t : Thief) → get_elem? thieves j ≡ some t → (worker_deque w ≡ stealer_deque t) × (stealer_flavor t ≡ 0))
      × (worker_flavor w ≡ 0) × ((worker_view w).parts + length thieves ≡ all_parts)
  pub rowed : AllRows thieves rows
  pub sums_pushed : (g : ℕ → ℕ → ℕ) → pushed_in g owners + pushed_to g rest ≡ pushed_to g hands
  pub sums_taken : (g : ℕ → ℕ → ℕ) → (taken_in g owners + rows_weight g rows) + taken_from g rest ≡ taken_from g hands

-- the deques below j, except for one, were tried, and no place came
pub record IsStealing (thieves : List Thief) (number j : ℕ) (first now : List GreyPass) : Type 0 where
  pub row : IsRow thieves now
  pub took : (g : ℕ → ℕ → ℕ) → row_weight g now ≡ row_weight g first
  pub knows : (capacity places : ℕ) → RowKnows capacity places first → RowKnows capacity places now
  pub unused : get_elem? now number ≡ get_elem? first number
  pub later : (k : ℕ) → j ≤ k → get_elem? now k ≡ get_elem? first k
  pub none : (k : ℕ) (p q : GreyPass) → k < j → k ≢ number → get_elem? first k ≡ some p → get_elem? now k ≡ some q
      → FoundNone p q
