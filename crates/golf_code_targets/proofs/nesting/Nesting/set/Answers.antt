use Rattle.std.proofs.Common.{◌≡◌, ◌+◌, ◌-◌, suc, length, ap, sym, ◌∙◌, arith}
use Rattle.std.specs.Prelude.{reverse}
use Rattle.golf_code_targets.proofs.Looks.{set_reverse}
use Rattle.golf_code_targets.proofs.nesting.Nesting.set.Goals as goal

pub returns-then-at-count : goal.returns-then-at-count
returns-then-at-count g c =
    let xs = c.self.inside.last_first in
    let e = c.len-count.ensures in
    let is : c.args.at + suc (c.len-count.result - 1 - c.args.at) ≡ length xs = omega (arith, e) in
    rw (← c.self.view_is) (ap reverse c.set.ensures
    ∙ sym (set_reverse xs c.args.at (c.len-count.result - 1 - c.args.at) c.args.item is))
