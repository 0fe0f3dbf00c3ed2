use Rattle.std.proofs.Common.{◌≡◌, map, take, not}
use Rattle.golf_theory.specs.Membership.{is_in}
use Rattle.golf_snapshot.proofs.among.outside.Given as goal

-- those so far
abbrev pub invariant-loop-g : goal.invariant-loop-g
invariant-loop-g l = l.flags ≡ map (λ g. not (is_in g.0 (map (λ h. h.0) l.others))) (take l.g-index l.goroutines)
