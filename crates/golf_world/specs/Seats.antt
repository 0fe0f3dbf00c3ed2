-- The account of the seat of a pass.
use Rattle.std.specs.Prelude.{◌≡◌, ℕ, List, [], ◌∷◌, Option, Some, None}
use Rattle.atomic_table.specs.Seated.{TableId}
use Rattle.atomic_table.specs.declared.shared.Seat.{Seat}
use Rattle.golf_world.specs.declared.history.HistoryEntry.{HistoryEntry}
use Rattle.golf_world.specs.declared.rule.PassEntries.{PassEntries}
use Rattle.golf_world.specs.declared.rule.View.{View}
use Rattle.golf_world.specs.Rule.{pass_view}

abbrev pub SeatOf : Type 0
SeatOf = Seat (Unit {0}) View

abbrev pub mine_in : List PassEntries → List (ℕ × ℕ)
mine_in [] = []
mine_in (h ∷ hs) = h.mine

abbrev pub seen_of : Option SeatOf → List HistoryEntry
seen_of None = []
seen_of (Some s) = s.me.0.seen

abbrev pub mine_of : Option SeatOf → List (ℕ × ℕ)
mine_of None = []
mine_of (Some s) = mine_in s.me.0.held

-- the seat is there, belongs to this table, and has only this pass
abbrev pub IsSeatOfPass : TableId → ℕ → ℕ → Option SeatOf → Type 0
IsSeatOfPass table passes p None = ⊥
IsSeatOfPass table passes p (Some s) = (s.table_id ≡ table)
    × (s.me ≡ (pass_view passes p (mine_in s.me.0.held) s.me.0.seen, []))
