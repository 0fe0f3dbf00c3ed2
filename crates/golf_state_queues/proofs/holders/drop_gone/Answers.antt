use Rattle.std.proofs.Common.{not, rules}
use Rattle.golf_state_queues.specs.declared.holders.TicketHolder.{TicketHolder}
use Rattle.golf_state_queues.proofs.Lines.{filter_of_retain}
use Rattle.golf_state_queues.proofs.holders.drop_gone.Goals as goal

pub returns : goal.returns
returns c = filter_of_retain _ (λ (h : TicketHolder). not h.is_gone) _
    (λ x b f' y k. search rules) _ _ c.retain.ensures.filtered
