-- The rule of one deque. The places that were pushed to it are those taken from it and those in it, each as often. All
-- are below a bound, and the pushes are at most the capacity.
use Rattle.std.specs.Prelude.{◌≡◌, ℕ, ◌+◌, ◌-◌, ◌<◌, ◌≤◌, List, [], ◌∷◌, ◌++◌, length, sum_by}
use mathlib.Core.Option.{some}
use lib.ListN.{get_elem?}
use Rattle.golf_theory.specs.Membership.{Every}
use Rattle.golf_grey.specs.declared.rule.GreyView.{GreyView}

abbrev pub grey : ℕ → ℕ → ℕ → ℕ → List ℕ → List ℕ → GreyView
grey parts pushers places capacity pushed taken =
    record { parts = parts; pushers = pushers; places = places; capacity = capacity; pushed = pushed; taken = taken }

-- more parts than there may be hands
abbrev pub all_parts : ℕ
all_parts = 4294967296

-- the two numbers before a deque has them: above every u32
abbrev pub unbound : ℕ
unbound = 4294967296

abbrev pub first_view : GreyView
first_view = grey all_parts 1 unbound unbound [] []

-- all places are below this number
abbrev pub PlacesBelow : ℕ → List ℕ → Type 0
PlacesBelow places xs = Every (λ x. x < places) xs

-- the number of places
abbrev pub count : List ℕ → ℕ
count xs = sum_by (λ _. 1) xs

-- The parts add up, and at most one view may push. For every weight of places, the pushed places weigh as much as those
-- taken and those in the deque. A view without a part has done nothing. Any other view knows the two numbers. The
-- places in the deque are below the first number, and the pushes are at most the second.
pub record BalancedAt (places capacity : ℕ) (items : List ℕ) (views : List GreyView) : Type 0 where
  pub parts : sum_by (λ v. v.parts) views ≡ all_parts
  pub pushers : sum_by (λ v. v.pushers) views ≡ 1
  pub balance : (h : ℕ → ℕ) → sum_by (λ v. sum_by h v.pushed) views ≡ sum_by (λ v. sum_by h v.taken) views
      + sum_by h items
  pub idle : (k : ℕ) (v : GreyView) → get_elem? views k ≡ some v → v.parts ≡ 0 → (v.pushed ≡ []) × (v.taken ≡ [])
  pub silent : (k : ℕ) (v : GreyView) → get_elem? views k ≡ some v → v.pushers ≡ 0 → v.pushed ≡ []
  pub same : (k : ℕ) (v : GreyView) → get_elem? views k ≡ some v → 0 < v.parts → (v.places ≡ places)
      × (v.capacity ≡ capacity)
  pub low : PlacesBelow places items
  pub few : sum_by (λ v. count v.pushed) views ≤ capacity

abbrev pub Balanced : List ℕ → List GreyView → Type 0
Balanced items views = (places : ℕ) × (capacity : ℕ) × BalancedAt places capacity items views

-- a push adds its places to those that were pushed
pub record Pushed (v : GreyView) (xs : List ℕ) (w : GreyView) : Type 0 where
  pub view : w ≡ grey v.parts v.pushers v.places v.capacity (v.pushed ++ xs) v.taken

-- A take adds its places to those that were taken. They are below the bound, and all takes are at most the capacity. A
-- view with all parts has taken at most as many places as were pushed.
pub record TakesPlaces (v : GreyView) (xs : List ℕ) (w : GreyView) : Type 0 where
  pub view : w ≡ grey v.parts v.pushers v.places v.capacity v.pushed (v.taken ++ xs)
  pub low : PlacesBelow v.places xs
  pub few : length (v.taken ++ xs) ≤ v.capacity
  pub bound : v.parts ≡ all_parts → length (v.taken ++ xs) ≤ length v.pushed

abbrev pub head_of : List ℕ → ℕ
head_of [] = 0
head_of (x ∷ xs) = x

abbrev pub second_of : List ℕ → ℕ
second_of [] = 0
second_of (x ∷ xs) = head_of xs

-- the two numbers that were pushed are the capacity and the bound of the places; they do not count as places
pub record Named (v : GreyView) (w : GreyView) : Type 0 where
  pub view : w ≡ grey v.parts v.pushers (second_of v.pushed) (head_of v.pushed) [] []

-- the deque was empty at a step at which this was a view of it
abbrev pub WasEmpty : GreyView → Type 0
WasEmpty v = (port : ℕ) × (views : List GreyView) × Balanced [] views × (get_elem? views port ≡ some v)

-- a view with all parts that found the deque empty has taken all places that were pushed
abbrev pub IsEven : GreyView → Type 0
IsEven v = v.parts ≡ all_parts → (h : ℕ → ℕ) → sum_by h v.pushed ≡ sum_by h v.taken

-- a split cuts off a pass with one part
abbrev pub left_view : GreyView → GreyView
left_view v = grey (v.parts - 1) v.pushers v.places v.capacity v.pushed v.taken

abbrev pub right_view : GreyView → GreyView
right_view v = grey 1 0 v.places v.capacity [] []

-- a join takes a pass back, with all that it did
abbrev pub both_views : GreyView → GreyView → GreyView
both_views v w = grey (v.parts + w.parts) (v.pushers + w.pushers) v.places v.capacity (v.pushed ++ w.pushed)
    (v.taken ++ w.taken)

abbrev pub spent_view : GreyView
spent_view = grey 0 0 0 0 [] []
