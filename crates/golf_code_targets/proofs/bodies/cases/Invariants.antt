use Rattle.std.proofs.Common.{◌≡◌, ◌++◌, map, drop}
use Rattle.golf_code_layout.specs.Piece.{case_at}
use Rattle.golf_code_targets.proofs.bodies.cases.Given as goal

abbrev pub invariant-loop-case : goal.invariant-loop-case
invariant-loop-case l = l.placed ++ map (case_at l.around) (drop l.case-index l.cases) ≡ map (case_at l.around) l.cases
