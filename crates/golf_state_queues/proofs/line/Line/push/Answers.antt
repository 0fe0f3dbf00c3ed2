use Rattle.std.proofs.Common.{[], ◌∷◌, List, drop, length, sym, ap, ◌∙◌, subst, arith}
use Rattle.std.proofs.lemmas.List.{drop-append-le, length-append}
use Rattle.golf_theory.specs.Maps.{AllBelow, Rises}
use Rattle.golf_theory.proofs.MapOrder.{Rises-add}
use Rattle.golf_state_queues.specs.Lines.{spots}
use Rattle.golf_state_queues.specs.declared.holders.TicketHolder.{TicketHolder}
use Rattle.golf_state_queues.proofs.Held.{spots-push}
use Rattle.golf_state_queues.proofs.line.Line.push.Goals as goal

pub invariant_of-self-2 : goal.invariant_of-self-2
invariant_of-self-2 c =
    let xs = c.self.inside.entries.items in
    let f = c.self.inside.front in
    let h = c.args.holder in
    let below : AllBelow h.ticket (spots (drop f xs)) =
    subst (λ (hs : List TicketHolder). AllBelow h.ticket (spots hs)) (sym c.self.view_is) c.requires in
    let new = drop-append-le f xs (h ∷ []) c.self.invariant.within in
    record {
      within = omega (
        arith,
        ap (λ (hs : List TicketHolder). length hs) c.in_ok-push.ensures.ok,
        length-append xs (h ∷ []),
        c.self.invariant.within,
      );
      rises = subst (λ (hs : List TicketHolder). Rises 0 (spots hs))
          (sym (ap (λ (hs : List TicketHolder). drop f hs) c.in_ok-push.ensures.ok ∙ new))
          (subst (Rises 0) (sym (spots-push (drop f xs) h))
          (Rises-add 0 h.ticket h.goroutine.0 (spots (drop f xs)) (omega arith) below c.self.invariant.rises));
    }
