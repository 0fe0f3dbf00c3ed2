use Rattle.std.proofs.Common.{ℕ, List, rules}
use Rattle.golf_theory.specs.Membership.{is_in}
use Rattle.golf_theory.specs.Maps.{keys}
use Rattle.golf_state_goroutines.specs.Places.{plain_entries}
use Rattle.golf_state_queues.specs.declared.holders.TicketHolder.{TicketHolder}
use Rattle.golf_state_queues.proofs.Lines.{filter_of_retain}
use Rattle.golf_state_queues.proofs.holders.narrow.Goals as goal

pub returns : goal.returns
returns c =
    let gs : List ℕ = keys (plain_entries c.args.roster.now.places) in
    filter_of_retain _ (λ (h : TicketHolder). is_in h.goroutine.0 gs) _
    (λ x b f' y k. search rules) _ _ c.retain.ensures.filtered
