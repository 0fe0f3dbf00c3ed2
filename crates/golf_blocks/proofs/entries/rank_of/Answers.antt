use Rattle.std.proofs.Common.{ℕ, rules, arith, ltb}
use Rattle.std.specs.List.Sorted.{IsNonDecreasingBy}
use Rattle.std.proofs.lemmas.Bool.{ltb-true, ltb-false}
use Rattle.std.proofs.lemmas.List.Sorted.{IsPartitionedBy-ltb, IsPartitionPoint-from_clause}
use Rattle.golf_theory.proofs.Ranks.{sorted, rank-is}
use Rattle.golf_blocks.proofs.entries.rank_of.Goals as goal

pub returns : goal.returns
returns g c =
    let es = c.args.entries.now in
    let k = c.args.key in
    let order : IsNonDecreasingBy (λ (e : ℕ × _). e.0) es = sorted 0 es c.requires in
    let parted = IsPartitionedBy-ltb (λ (e : ℕ × _). e.0) es k order in
    let point = IsPartitionPoint-from_clause
    (λ (e : ℕ × _). ltb e.0 k) es c.partition_point.result c.partition_point.ensures.partitioned parted
    (λ a r q h. search rules) in
    rank-is k c.partition_point.result es c.partition_point.ensures.bound
    (λ m d h. ltb-true _ k (point.0 m d (omega arith) h))
    (λ d h. ltb-false _ k (point.1 c.partition_point.result d (omega arith) h))
