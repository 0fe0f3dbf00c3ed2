use Rattle.std.proofs.Common.{rules, arith}
use Rattle.std.proofs.Common.{ltb}
use Rattle.std.specs.List.Sorted.{IsNonDecreasingBy}
use Rattle.std.proofs.lemmas.Bool.{ltb-true, ltb-false}
use Rattle.std.proofs.lemmas.List.Sorted.{IsPartitionedBy-ltb, IsPartitionPoint-from_clause}
use Rattle.golf_heap.specs.declared.places.ObjectKey.{ObjectKey}
use Rattle.golf_heap.proofs.Order.{places-sorted, rank-places}
use Rattle.golf_heap.proofs.places.rank_of.Goals as goal

pub returns-in-None : goal.returns-in-None
returns-in-None c =
    let ps = c.args.places.now in
    let k = c.args.number in
    let order : IsNonDecreasingBy (λ (p : ObjectKey). p.number) ps = places-sorted 1 ps c.requires in
    let parted = IsPartitionedBy-ltb (λ (p : ObjectKey). p.number) ps k order in
    let point = IsPartitionPoint-from_clause
    (λ (p : ObjectKey). ltb p.number k) ps c.partition_point.result c.partition_point.ensures.partitioned parted
    (λ a r q h. search rules) in
    rank-places k c.partition_point.result ps c.partition_point.ensures.bound
    (λ m d h. ltb-true _ k (point.0 m d (omega arith) h))
    (λ d h. ltb-false _ k (point.1 c.partition_point.result d (omega arith) h))
