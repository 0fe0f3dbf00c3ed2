use Rattle.std.proofs.Common.{◌≡◌, ◌++◌, not, filter, take}
use Rattle.golf_theory.specs.Membership.{is_in}
use Rattle.golf_model.specs.Reports.{numbers}
use Rattle.golf_reclaim.proofs.ledger.add_unlisted.Given as goal

-- those so far
abbrev pub invariant-loop-g : goal.invariant-loop-g
invariant-loop-g l = l.list.items ≡ l.fn.list.items
    ++ filter (λ g. not (is_in g.0 (numbers l.others))) (take l.g-index l.goroutines)
