use Rattle.std.proofs.Common.{rules, arith, ltb}
use Rattle.std.specs.List.Sorted.{IsNonDecreasingBy}
use Rattle.std.proofs.lemmas.Bool.{ltb-true, ltb-false}
use Rattle.std.proofs.lemmas.List.Sorted.{IsPartitionedBy-ltb, IsPartitionPoint-from_clause}
use Rattle.golf_state_queues.specs.declared.holders.TicketHolder.{TicketHolder}
use Rattle.golf_theory.proofs.Keyed.{sorted-keyed, rank-keyed}
use Rattle.golf_state_queues.proofs.holders.rank_of.Goals as goal

pub returns-clause-place : goal.returns-clause-place
returns-clause-place c =
    let hs = c.args.holders.now in
    let k = c.args.ticket in
    let order : IsNonDecreasingBy (λ (h : TicketHolder). h.ticket) hs =
    sorted-keyed (λ (h : TicketHolder). h.ticket) (λ (h : TicketHolder). h.goroutine.0) 0 hs c.requires in
    let parted = IsPartitionedBy-ltb (λ (h : TicketHolder). h.ticket) hs k order in
    let point = IsPartitionPoint-from_clause
    (λ (h : TicketHolder). ltb h.ticket k) hs c.partition_point.result c.partition_point.ensures.partitioned parted
    (λ a r q h. search rules) in
    rank-keyed (λ (h : TicketHolder). h.ticket)
    (λ (h : TicketHolder). h.goroutine.0) k c.partition_point.result hs c.partition_point.ensures.bound
    (λ m d h. ltb-true _ k (point.0 m d (omega arith) h))
    (λ d h. ltb-false _ k (point.1 c.partition_point.result d (omega arith) h))
