-- Words of clauses on the mark words and their seats.
use Rattle.std.specs.Prelude.{◌≡◌, ℕ, List, [], sum_by}
use Rattle.golf_theory.specs.Counts.{times}
use Rattle.golf_model.specs.declared.graph.GraphParts.{GraphParts}
use Rattle.golf_marks.specs.declared.marks.Marks.{Marks}
use Rattle.golf_marks.specs.declared.marks.MarkSeat.{MarkSeat}
use Rattle.golf_marks.specs.Rule.{graph_of}

-- the graph of the words, and the number of seats at the start
abbrev pub graph_in : Marks → GraphParts
graph_in m = graph_of m.table.shared.key

abbrev pub seat_count : Marks → ℕ
seat_count m = m.table.shared.key.seats

-- the places that a seat claimed, the places that it knows as marked, and the number of its parts
abbrev pub claimed : MarkSeat → List ℕ
claimed s = s.seat.me.0.claimed

abbrev pub known : MarkSeat → List ℕ
known s = s.seat.me.0.known

abbrev pub parts : MarkSeat → ℕ
parts s = s.seat.me.0.parts

-- how often these seats claimed the place, and how many parts they have together
abbrev pub claim_count : ℕ → List MarkSeat → ℕ
claim_count p seats = sum_by (λ s. times p (claimed s)) seats

abbrev pub part_count : List MarkSeat → ℕ
part_count seats = sum_by (λ s. parts s) seats

-- the seat belongs to these words
pub record IsSeatOf (m : Marks) (s : MarkSeat) : Type 0 where
  pub table : s.seat.table_id ≡ m.table.shared.table_id
  pub graph : s.seat.me.0.graph ≡ graph_in m

-- a step keeps the words, the graph and the parts of a seat
pub record IsSameSeat (old new : MarkSeat) : Type 0 where
  pub table : new.seat.table_id ≡ old.seat.table_id
  pub graph : new.seat.me.0.graph ≡ old.seat.me.0.graph
  pub parts : parts new ≡ parts old

-- a seat that has not taken a step
pub record IsNewSeatOf (m : Marks) (s : MarkSeat) : Type 0 where
  pub seat : IsSeatOf m s
  pub parts : parts s ≡ 1
  pub claimed : claimed s ≡ []
  pub known : known s ≡ []
