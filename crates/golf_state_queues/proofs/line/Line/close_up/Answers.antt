use Rattle.std.proofs.Common.{◌≡◌, not, List, drop, filter, sym, ap, ◌∙◌, subst, arith}
use Rattle.golf_theory.specs.Maps.{Rises}
use Rattle.golf_state_queues.specs.Lines.{spots}
use Rattle.golf_state_queues.specs.WaitQueues.{held}
use Rattle.golf_state_queues.specs.declared.holders.TicketHolder.{TicketHolder}
use Rattle.golf_state_queues.proofs.Held.{Rises-some, held-some}
use Rattle.golf_state_queues.proofs.line.Line.close_up.Goals as goal

left : (c : goal.After-self-2-1) → c.drop_gone.new.holders.items ≡ filter (λ h. not h.is_gone)
    (drop c.self.inside.front c.self.inside.entries.items)
left c = c.drop_gone.ensures ∙ ap (λ (hs : List TicketHolder). filter (λ h. not h.is_gone) hs) c.drop_front.ensures

pub invariant_of-self : goal.invariant_of-self
invariant_of-self c = record {
  within = omega arith;
  rises = subst (λ (hs : List TicketHolder). Rises 0 (spots hs)) (sym (left c))
      (Rises-some (λ h. not h.is_gone) 0 (drop c.self.inside.front c.self.inside.entries.items) c.self.invariant.rises);
}

pub returns : goal.returns
returns c = ap held (left c) ∙ held-some (drop c.self.inside.front c.self.inside.entries.items) ∙ ap held c.self.view_is
