use Rattle.std.proofs.Common.{rules, arith, ltb}
use Rattle.std.specs.List.Sorted.{IsNonDecreasingBy}
use Rattle.std.proofs.lemmas.Bool.{ltb-true, ltb-false}
use Rattle.std.proofs.lemmas.List.Sorted.{IsPartitionedBy-ltb, IsPartitionPoint-from_clause}
use Rattle.golf_theory.proofs.Keyed.{sorted-keyed, rank-keyed}
use Rattle.golf_blocks.specs.declared.blocks.Block.{Block}
use Rattle.golf_blocks.proofs.BlockLaws.{blocks-rise}
use Rattle.golf_blocks.proofs.blocks.block_of.Goals as goal

pub returns : goal.returns
returns g c =
    let bs = c.args.blocks.now in
    let k = c.args.key in
    let order : IsNonDecreasingBy (λ (b : Block _). b.top) bs =
    sorted-keyed (λ (b : Block _). b.top) (λ (b : Block _). b) 0 bs (blocks-rise 0 bs c.requires) in
    let parted = IsPartitionedBy-ltb (λ (b : Block _). b.top) bs k order in
    let point = IsPartitionPoint-from_clause
    (λ (b : Block _). ltb b.top k) bs c.partition_point.result c.partition_point.ensures.partitioned parted
    (λ a r q h. search rules) in
    rank-keyed (λ (b : Block _). b.top) (λ (b : Block _). b) k c.partition_point.result bs c.partition_point.ensures.bound
    (λ m d h. ltb-true _ k (point.0 m d (omega arith) h))
    (λ d h. ltb-false _ k (point.1 c.partition_point.result d (omega arith) h))
