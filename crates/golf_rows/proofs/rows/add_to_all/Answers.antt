use Rattle.std.proofs.Common.{arith, subst, ℕ, List}
use Rattle.std.proofs.lemmas.List.{take_all}
use Rattle.golf_theory.specs.Membership.{In}
use Rattle.golf_rows.specs.Rows.{AddsTo}
use Rattle.golf_rows.proofs.Adding.{AddsTo-next}
use Rattle.golf_rows.proofs.rows.add_to_all.Goals as goal

pub loop-number-preserved : goal.loop-number-preserved
loop-number-preserved c = record {
  size = omega arith;
  added = AddsTo-next c.args.member c.loop-number.number-index c.args.numbers.now c.args.rows.now c.loop-number.rows
      c.add.new.rows (omega arith) c.loop-number.invariant.added c.in_ok-add.ensures.ok;
}

pub returns-clause-ok : goal.returns-clause-ok
returns-clause-ok c = subst (λ (l : List ℕ). AddsTo (λ n. In n l) c.args.member c.args.rows.now c.loop-number.rows)
    (take_all c.loop-number.number-index c.args.numbers.now (omega arith)) c.loop-number.invariant.added
