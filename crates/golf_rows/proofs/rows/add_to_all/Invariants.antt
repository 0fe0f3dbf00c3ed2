use Rattle.std.proofs.Common.{◌≡◌, length, take}
use Rattle.golf_theory.specs.Membership.{In}
use Rattle.golf_rows.specs.Rows.{AddsTo}
use Rattle.golf_rows.proofs.rows.add_to_all.Given as goal

abbrev pub invariant-loop-number : goal.invariant-loop-number
invariant-loop-number l = record {
  size : length l.rows ≡ length l.initial.rows;
  added : AddsTo (λ n. In n (take l.number-index l.numbers)) l.member l.initial.rows l.rows;
}
