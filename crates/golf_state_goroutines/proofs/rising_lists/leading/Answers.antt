use Rattle.std.proofs.Common.{◌≡◌, ℕ, ◌-◌, List, length, get_or, ltb, rules, ap, arith}
use Rattle.std.specs.List.Sorted.{IsNonDecreasingBy}
use Rattle.std.proofs.lemmas.Bool.{ltb-true, ltb-false}
use Rattle.std.proofs.lemmas.List.Sorted.{IsPartitionedBy-ltb, IsPartitionPoint-from_clause}
use Rattle.golf_base.specs.declared.ids.GoroutineId.{GoroutineId}
use Rattle.golf_state_goroutines.proofs.Rises.{sorted, leading-is, leading-at}
use Rattle.golf_state_goroutines.proofs.rising_lists.leading.Goals as goal
use Rattle.golf_state_goroutines.proofs.rising_lists.leading.Goals.{then-count-eq0-via-then-count-eq0}
use Rattle.golf_state_goroutines.proofs.rising_lists.leading.Goals.{then-count-eq0-via-else-count-eq0+then-from-bound}
use Rattle.golf_state_goroutines.proofs.rising_lists.leading.Goals.{then-count-eq1-via-then-count-eq1}
use Rattle.golf_state_goroutines.proofs.rising_lists.leading.Goals.{then-count-eq1-via-else-count-eq1+then-from-bound-2}

number-at : (xs : List GoroutineId) (m n : ℕ) → m ≡ n
    → (get_or xs m (record { 0 = 0 })).0 ≡ (get_or xs n (record { 0 = 0 })).0
number-at xs m n e = ap (λ (k : ℕ). (get_or xs k (record { 0 = 0 })).0) e

pub returns-clause-place : goal.returns-clause-place
returns-clause-place c =
    let xs = c.args.goroutines.now in
    let k = c.args.bound in
    let order : IsNonDecreasingBy (λ (g : GoroutineId). g.0) xs = sorted 0 xs c.requires in
    let parted = IsPartitionedBy-ltb (λ (g : GoroutineId). g.0) xs k order in
    let point = IsPartitionPoint-from_clause
    (λ (g : GoroutineId). ltb g.0 k) xs c.partition_point.result c.partition_point.ensures.partitioned parted
    (λ a r q h. search rules) in
    leading-is k c.partition_point.result xs c.partition_point.ensures.bound
    (λ m d h. ltb-true _ k (point.0 m d (omega arith) h))
    (λ d h. ltb-false _ k (point.1 c.partition_point.result d (omega arith) h))

pub returns-then-count-eq0-clause-place : goal.returns-then-count-eq0-clause-place
returns-then-count-eq0-clause-place c =
    let xs = c.args.goroutines.now in
    leading-at c.args.bound (length xs) xs (record { 0 = 0 }) c.requires (omega arith) (λ n h.
    elim c.then-count-eq0.branch [
      | then-count-eq0-via-then-count-eq0 w ↦ absurd (omega (arith, h, w.if-count-eq0.true))
      | then-count-eq0-via-else-count-eq0+then-from-bound w ↦
          let last = number-at xs n (length xs - 1) (omega (arith, h)) in
          omega (arith, last, w.from.ensures, w.if-from-bound.true)
    ]) (λ h. absurd (omega (arith, h)))

pub returns-then-count-eq1-clause-place : goal.returns-then-count-eq1-clause-place
returns-then-count-eq1-clause-place c =
    let xs = c.args.goroutines.now in
    leading-at c.args.bound (length xs - 1) xs (record { 0 = 0 }) c.requires (omega arith) (λ n h.
    elim c.then-count-eq1.branch [
      | then-count-eq1-via-then-count-eq1 w ↦ absurd (omega (arith, h, w.if-count-eq1.true))
      | then-count-eq1-via-else-count-eq1+then-from-bound-2 w ↦
          let last = number-at xs n (length xs - 2) (omega (arith, h)) in
          omega (arith, last, w.from-else-count-eq1.ensures, w.if-from-bound-2.true)
    ]) (λ h. omega (arith, c.from.ensures, c.if-from-bound.false))
