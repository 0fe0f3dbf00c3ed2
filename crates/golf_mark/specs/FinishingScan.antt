-- The finishing scan of the places that the markers left.
use Rattle.std.specs.Prelude.{◌≡◌, ◌+◌, ◌≤◌, ℕ, List, [], Bool, length}
use Rattle.golf_theory.specs.Membership.{In}
use Rattle.golf_marks.specs.declared.marks.Marks.{Marks}
use Rattle.golf_marks.specs.Flags.{IsSet}
use Rattle.golf_marks.specs.Places.{place_count}
use Rattle.golf_marks.specs.Seats.{graph_in, claimed, known, parts, IsSeatOf}
use Rattle.golf_mark.specs.declared.scanner.Scanner.{Scanner}

-- the scanner's own list is empty, and it has room for all places that it may win
pub record IsIdle (marks : Marks) (s : Scanner) : Type 0 where
  pub seat : IsSeatOf marks s.seat
  pub none : s.won.items ≡ []
  pub room : place_count (graph_in marks) ≤ length (claimed s.seat) + s.won.spare

-- the place is noted, and the finishing scan has not come to it yet
abbrev pub IsPending : List Bool → ℕ → ℕ → Type 0
IsPending todo from p = (from ≤ p) × IsSet todo p

-- the scanner knows all that it knew, and its seat has the same parts
pub record KeepsSeat (old new : Scanner) : Type 0 where
  pub known : (p : ℕ) → In p (known old.seat) → In p (known new.seat)
  pub parts : parts new.seat ≡ parts old.seat
