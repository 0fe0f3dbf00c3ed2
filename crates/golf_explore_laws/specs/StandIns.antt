-- Relations by which one state stands for another, and lists of states that are closed up to such a relation. Output is
-- not compared.
use Rattle.std.specs.Prelude.{◌≡◌, ℕ, ◌+◌, ◌<◌, ◌≤◌, Bool, List, [], ◌∷◌, length, Option, Some, None, ◌⊎◌}
use Rattle.golf_theory.specs.Membership.{In}
use Rattle.golf_data.specs.declared.code.Code.{Code}
use Rattle.golf_data.specs.declared.goroutine.Ending.{Ending}
use Rattle.golf_model.specs.State.{State, ending, start}
use Rattle.golf_model.specs.LiveSet.{dead}
use Rattle.golf_model.specs.Futures.{Numbered}
use Rattle.golf_explore_laws.specs.After.{after}
use Rattle.golf_explore_laws.specs.Local.{IsLocalTurn}
use Rattle.golf_explore_laws.specs.Closed.{IsPlain, IsTurn, after_turn}

-- ---- one state for another

-- the kind of an ending, or 0 if there is none
abbrev pub kind_of : Option Ending → ℕ
kind_of None = 0
kind_of (Some Ending.Returned) = 1
kind_of (Some (Ending.Panicked kind goroutine line)) = 2
kind_of (Some Ending.Asleep) = 3

-- whether an ending is one of these depends on its kind alone
abbrev pub AsksKind : (Ending → Bool) → Type 0
AsksKind is_one = (e f : Ending) → kind_of (Some e) ≡ kind_of (Some f) → is_one e ≡ is_one f

-- By this relation the second state stands for the first. Each turn of the first leads to the second itself, or some
-- turn of the second leads to a state that stands for the one after it. Both have the same kind of ending. The second
-- has an object with a finaliser, or a dead goroutine, if the first has one.
pub record StandsFor (code : Code) (For : State → State → Type 0) : Type 0 where
  pub order : (s t : State) → For s t → Numbered s → Numbered t
  pub kind : (s t : State) → For s t → Numbered s → kind_of (ending t) ≡ kind_of (ending s)
  pub plain : (s t : State) → For s t → Numbered s → t.finalisers ≡ [] → s.finalisers ≡ []
  pub alive : (s t : State) → For s t → Numbered s → dead t ≡ [] → dead s ≡ []
  pub turns : (s t : State) → For s t → Numbered s → ending s ≡ None → (k : ℕ)
      → (after code s k ≡ t) ⊎ ((j : ℕ) × For (after code s k) (after code t j))

-- the second state is the one after a frame-local turn of the first
abbrev pub IsAfterLocal : Code → State → State → Type 0
IsAfterLocal code s t = (n : ℕ) × IsLocalTurn code s n × (t ≡ after code s n)

-- one of the two relations holds
abbrev pub OneOf : (State → State → Type 0) → (State → State → Type 0) → State → State → Type 0
OneOf A B s t = A s t ⊎ B s t

-- ---- states that stand for each other in turn

-- the first of these states stands for this one, and each other one for the one before it
abbrev pub AreStandIns : (State → State → Type 0) → State → List State → Type 0
AreStandIns For s [] = Unit {0}
AreStandIns For s (t ∷ ts) = For s t × AreStandIns For t ts

-- the last of these states, or this one if there are none
abbrev pub last_from : State → List State → State
last_from s [] = s
last_from s (t ∷ ts) = last_from t ts

-- ---- closed lists

-- by states that stand for each other, or by none, the state reaches a listed one
abbrev pub ReachesIn : (State → State → Type 0) → List State → State → Type 0
ReachesIn For visited s = (ts : List State) × AreStandIns For s ts × In (last_from s ts) visited

-- the opening state reaches a listed one, each listed state is plain, and the state after each turn of a listed state
-- without an ending reaches a listed one
pub record IsClosedUpTo (code : Code) (For : State → State → Type 0) (visited : List State) : Type 0 where
  pub opening : ReachesIn For visited (start code)
  pub plain : (s : State) → In s visited → IsPlain s
  pub turns : (s : State) → In s visited → ending s ≡ None → (place choice : ℕ) → IsTurn code s place choice
      → ReachesIn For visited (after_turn code s place choice)

-- ---- lists with ranks

-- by states that stand for each other the state reaches a listed one; their count and its rank are at most this bound
abbrev pub ReachesBelow : (State → State → Type 0) → List (State × ℕ) → State → ℕ → Type 0
ReachesBelow For ranked s most = (ts : List State) × (rank : ℕ) × (length ts + rank ≤ most) × AreStandIns For s ts
    × In (last_from s ts, rank) ranked

-- Each state has a rank. It is above the count of the states that stand for each other after a turn, and the rank that
-- they reach. The opening state reaches a listed one below this bound.
pub record IsRankedUpTo (code : Code) (For : State → State → Type 0) (ranked : List (State × ℕ)) (most : ℕ)
    : Type 0 where
  pub opening : ReachesBelow For ranked (start code) most
  pub plain : (s : State) (rank : ℕ) → In (s, rank) ranked → IsPlain s
  pub falls : (s : State) (rank : ℕ) → In (s, rank) ranked → ending s ≡ None → (place choice : ℕ)
      → IsTurn code s place choice
      → (lower : ℕ) × (lower < rank) × ReachesBelow For ranked (after_turn code s place choice) lower
