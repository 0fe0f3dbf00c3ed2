use Rattle.std.proofs.Common.{rules, arith, ltb}
use Rattle.std.specs.List.Sorted.{IsNonDecreasingBy}
use Rattle.std.proofs.lemmas.Bool.{ltb-true, ltb-false}
use Rattle.std.proofs.lemmas.List.Sorted.{IsPartitionedBy-ltb, IsPartitionPoint-from_clause}
use Rattle.golf_state_goroutines.specs.declared.run_blocks.RunBlock.{RunBlock}
use Rattle.golf_theory.proofs.Keyed.{sorted-keyed, rank-keyed}
use Rattle.golf_state_goroutines.proofs.Splits.{blocks-rise}
use Rattle.golf_state_goroutines.proofs.run_blocks.block_of.Goals as goal

pub returns-in-None : goal.returns-in-None
returns-in-None c =
    let bs = c.args.blocks.now in
    let k = c.args.key in
    let order : IsNonDecreasingBy (λ (b : RunBlock). b.key) bs =
    sorted-keyed (λ (b : RunBlock). b.key) (λ (b : RunBlock). b) 0 bs (blocks-rise 0 bs c.requires) in
    let parted = IsPartitionedBy-ltb (λ (b : RunBlock). b.key) bs k order in
    let point = IsPartitionPoint-from_clause
    (λ (b : RunBlock). ltb b.key k) bs c.partition_point.result c.partition_point.ensures.partitioned parted
    (λ a r q h. search rules) in
    rank-keyed (λ (b : RunBlock). b.key) (λ (b : RunBlock). b) k c.partition_point.result bs c.partition_point.ensures.bound
    (λ m d h. ltb-true _ k (point.0 m d (omega arith) h))
    (λ d h. ltb-false _ k (point.1 c.partition_point.result d (omega arith) h))
