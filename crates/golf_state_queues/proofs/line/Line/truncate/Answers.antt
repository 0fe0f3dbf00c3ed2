use Rattle.std.proofs.Common.{◌≤◌, ◌+◌, List, length, drop, sym, ap, ◌∙◌, subst, arith}
use Rattle.std.proofs.lemmas.List.{drop-take, length-drop, length-take-le}
use Rattle.golf_theory.specs.Maps.{Rises}
use Rattle.golf_state_queues.specs.Lines.{spots}
use Rattle.golf_state_queues.specs.declared.holders.TicketHolder.{TicketHolder}
use Rattle.golf_state_queues.proofs.Held.{Rises-take, spots-take}
use Rattle.golf_state_queues.proofs.line.Line.truncate.Goals as goal

pub invariant_of-self : goal.invariant_of-self
invariant_of-self c =
    let xs = c.self.inside.entries.items in
    let f = c.self.inside.front in
    let at = c.args.at in
    let l : at ≤ length (drop f xs) = subst (λ (hs : List TicketHolder). at ≤ length hs)
    (sym c.self.view_is) c.requires in
    let inside : f + at ≤ length xs = omega (arith, l, length-drop f xs, c.self.invariant.within) in
    record {
      within = omega (
        arith,
        ap (λ (hs : List TicketHolder). length hs) c.truncate.ensures.items,
        length-take-le (f + at) xs inside,
      );
      rises = subst (λ (hs : List TicketHolder). Rises 0 (spots hs))
          (sym (ap (drop f) c.truncate.ensures.items ∙ drop-take f at xs))
          (subst (Rises 0) (sym (spots-take at (drop f xs)))
          (Rises-take at 0 (spots (drop f xs)) c.self.invariant.rises));
    }

pub returns : goal.returns
returns c =
    rw (← c.self.view_is)
    (ap (drop c.self.inside.front) c.truncate.ensures.items
    ∙ drop-take c.self.inside.front c.args.at c.self.inside.entries.items)
