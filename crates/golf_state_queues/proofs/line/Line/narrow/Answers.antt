use Rattle.std.proofs.Common.{◌≡◌, ℕ, not, List, drop, filter, sym, ap, ◌∙◌, subst, arith}
use Rattle.golf_theory.specs.Maps.{Rises, keys}
use Rattle.golf_state_goroutines.specs.Places.{plain_entries}
use Rattle.golf_theory.specs.Membership.{is_in}
use Rattle.golf_state_queues.specs.Lines.{spots}
use Rattle.golf_state_queues.specs.WaitQueues.{among, held}
use Rattle.golf_state_queues.specs.declared.holders.TicketHolder.{TicketHolder}
use Rattle.golf_state_queues.proofs.Held.{Rises-some, held-some}
use Rattle.golf_state_queues.proofs.Narrowing.{held-among}
use Rattle.golf_state_queues.proofs.line.Line.narrow.Goals as goal

abbrev stays : (c : goal.After-self-2-1) → List ℕ
stays c = keys (plain_entries c.args.roster.now.places)

abbrev packed : (c : goal.After-self-2-1) → List TicketHolder
packed c = filter (λ h. not h.is_gone) (drop c.self.inside.front c.self.inside.entries.items)

left : (c : goal.After-self-2-1) → c.narrow.new.holders.items ≡ filter (λ h. is_in h.goroutine.0 (stays c)) (packed c)
left c =
    c.narrow.ensures
    ∙ ap (λ (hs : List TicketHolder). filter (λ h. is_in h.goroutine.0 (stays c)) hs)
    (c.drop_gone.ensures ∙ ap (λ (hs : List TicketHolder). filter (λ h. not h.is_gone) hs) c.drop_front.ensures)

pub invariant_of-self : goal.invariant_of-self
invariant_of-self c = record {
  within = omega arith;
  rises = subst (λ (hs : List TicketHolder). Rises 0 (spots hs)) (sym (left c))
      (Rises-some (λ h. is_in h.goroutine.0 (stays c)) 0 (packed c)
      (Rises-some (λ h. not h.is_gone) 0 (drop c.self.inside.front c.self.inside.entries.items)
      c.self.invariant.rises));
}

pub returns : goal.returns
returns c =
    ap held (left c) ∙ held-among (stays c) (packed c)
    ∙ ap (λ (es : List (ℕ × ℕ)). among (stays c) es)
    (held-some (drop c.self.inside.front c.self.inside.entries.items) ∙ ap held c.self.view_is)
