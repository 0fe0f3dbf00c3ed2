-- Words of clauses on passes and steps.
use Rattle.std.specs.Prelude.{◌≡◌, ◌↔◌, ℕ, ◌<◌, true, false, Option, Result, List, [], ◌∷◌, ◌++◌, length, Some, None}
use Rattle.std.specs.Prelude.{Ok, Err}
use mathlib.Core.List.{IsPrefix}
use Rattle.golf_base.specs.declared.ids.GoroutineId.{GoroutineId}
use Rattle.golf_base.specs.declared.Memory.{Memory}
use Rattle.golf_data.specs.declared.code.Code.{Code}
use Rattle.golf_data.specs.declared.goroutine.Ending.{Ending}
use Rattle.golf_data.specs.declared.report.Book.{Book}
use Rattle.golf_data.specs.declared.report.Report.{Report}
use Rattle.golf_model.specs.Views.{FrameView}
use Rattle.golf_model.specs.State.{State, ending}
use Rattle.golf_model.specs.Turn.{step, wants_collection, whose_turn}
use Rattle.golf_model.specs.Collections.{sets_finalisers, real_collect}
use Rattle.golf_model.specs.Reports.{report, book_after}
use Rattle.golf_world.specs.declared.history.HistoryEntry.{HistoryEntry}
use Rattle.golf_world.specs.declared.history.Stepped.{Stepped}
use Rattle.golf_world.specs.History.{most_entries, entry, after, next_number, own}

abbrev pub place_in : List FrameView → ℕ
place_in [] = 0
place_in (f ∷ fs) = f.at

-- without a report the turn asked for no collection, and nothing else happened; with one the collection followed
abbrev pub HasCollected : Code → ℕ → Option Report → State → State → Book → Book → Type 0
HasCollected code n None s t b c = (wants_collection code s n ≡ false) × (t ≡ step code s n) × (c ≡ b)
HasCollected code n (Some r) s t b c =
    (wants_collection code s n ≡ true) × (t ≡ real_collect (step code s n) false (sets_finalisers code))
    × (r ≡ report false (sets_finalisers code) b (step code s n))
    × (c ≡ book_after false (sets_finalisers code) b (step code s n))

-- a pass: its number, the prefix of the history that it has seen, and the places and numbers of its own entries
pub record Pass : Type 0 where
  pub number : ℕ
  pub seen : List HistoryEntry
  pub mine : List (ℕ × ℕ)

-- the history before and after a turn of the pass with this result
abbrev pub DoesTurn : Code → ℕ → Stepped → List HistoryEntry → List HistoryEntry → Type 0
DoesTurn code p (Stepped.Turned at g number) old new =
    (at ≡ length old) × (length old < most_entries) × (ending (after code old) ≡ None)
    × (number ≡ next_number code p old) × (whose_turn (after code old) number ≡ Some g.0)
    × (new ≡ old ++ entry p number ∷ [])
DoesTurn code p (Stepped.Ended e) old new = (ending (after code old) ≡ Some e) × (new ≡ old)
DoesTurn code p Stepped.Spent old new = (ending (after code old) ≡ None) × (length old ≡ most_entries) × (new ≡ old)

-- The pass took a turn. The history that it had seen is a prefix of `before`. Its entry is the last one, and one of its
-- own. Its goroutine is the one that the number picks.
pub record PassHasTurned (code : Code) (old new : Pass) (at : ℕ) (g : GoroutineId) (number : ℕ) : Type 0 where
  pub before : List HistoryEntry
  pub later : IsPrefix old.seen before
  pub seen : new.seen ≡ before ++ entry new.number number ∷ []
  pub mine : new.mine ≡ old.mine ++ (at, number) ∷ []
  pub place : at ≡ length before
  pub few : at < most_entries
  pub numbered : number ≡ next_number code new.number before
  pub goes : ending (after code before) ≡ None
  pub whose : whose_turn (after code before) number ≡ Some g.0

-- the run of the history that the pass has now seen has ended, and the pass has no new entry
pub record HasEnded (code : Code) (old new : Pass) (e : Ending) : Type 0 where
  pub later : IsPrefix old.seen new.seen
  pub mine : new.mine ≡ old.mine
  pub ends : ending (after code new.seen) ≡ Some e

-- that run has not ended, and the history is full
pub record IsSpent (code : Code) (old new : Pass) : Type 0 where
  pub later : IsPrefix old.seen new.seen
  pub mine : new.mine ≡ old.mine
  pub goes : ending (after code new.seen) ≡ None
  pub full : length new.seen ≡ most_entries

abbrev pub HasStepped : Code → Stepped → Pass → Pass → Type 0
HasStepped code (Stepped.Turned at g number) old new = PassHasTurned code old new at g number
HasStepped code (Stepped.Ended e) old new = HasEnded code old new e
HasStepped code Stepped.Spent old new = IsSpent code old new

-- the answer is a turn with this number, at this place
abbrev pub HasTurnNumber : Result Stepped Memory → ℕ → ℕ → Type 0
HasTurnNumber (Ok (Stepped.Turned k g n)) at number = (k ≡ at) × (n ≡ number)
HasTurnNumber (Ok (Stepped.Ended e)) at number = ⊥
HasTurnNumber (Ok Stepped.Spent) at number = ⊥
HasTurnNumber (Err m) at number = ⊥

-- When each answer comes. A turn: exactly when the pass has one more entry. Otherwise an ending: exactly when the run
-- of the seen history has ended. Spent: exactly when it has not ended and the history is full.
pub record ComesExactly (code : Code) (r : Result Stepped Memory) (old new : Pass) : Type 0 where
  pub turned : (at number : ℕ) → HasTurnNumber r at number ↔ (new.mine ≡ old.mine ++ (at, number) ∷ [])
  pub ended : (e : Ending) → (r ≡ Ok (Stepped.Ended e))
      ↔ ((new.mine ≡ old.mine) × (ending (after code new.seen) ≡ Some e))
  pub spent : (r ≡ Ok Stepped.Spent) ↔ ((new.mine ≡ old.mine) × (ending (after code new.seen) ≡ None)
      × (length new.seen ≡ most_entries))

-- without memory nothing was done: the run of the seen history has not ended and could go on
pub record HasDoneNothing (code : Code) (old new : Pass) : Type 0 where
  pub mine : new.mine ≡ old.mine
  pub goes : ending (after code new.seen) ≡ None
  pub few : length new.seen < most_entries

-- the pass has seen a prefix of the history, and its entries there are its own, in their order
abbrev pub IsPassIn : List HistoryEntry → Pass → Type 0
IsPassIn es p = IsPrefix p.seen es × (own p.number es ≡ p.mine)

-- the passes of a new world
abbrev pub IsNewPass : ℕ → Pass → Type 0
IsNewPass n p = (p.number ≡ n) × (p.seen ≡ []) × (p.mine ≡ [])
