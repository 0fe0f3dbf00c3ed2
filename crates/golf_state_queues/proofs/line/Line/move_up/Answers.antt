use Rattle.std.proofs.Common.{◌<◌, ◌+◌, List, length, drop, refl, sym, ap, ◌∙◌, subst, arith}
use Rattle.std.proofs.lemmas.List.{length-drop}
use Rattle.std.proofs.lemmas.List.Edits.{length-remove}
use Rattle.golf_theory.specs.Maps.{Rises}
use Rattle.golf_state_queues.specs.Lines.{spots}
use Rattle.golf_state_queues.specs.declared.holders.TicketHolder.{TicketHolder}
use Rattle.golf_state_queues.proofs.Held.{Rises-remove, spots-remove}
use Rattle.golf_state_queues.proofs.Lines.{drop-remove}
use Rattle.golf_state_queues.proofs.line.Line.move_up.Goals as goal

within : (c : goal.After-remove) → c.args.at < length (drop c.self.inside.front c.self.inside.entries.items)
within c = subst (λ (hs : List TicketHolder). c.args.at < length hs) (sym c.self.view_is) c.requires

pub invariant_of-self : goal.invariant_of-self
invariant_of-self c =
    let xs = c.self.inside.entries.items in
    let f = c.self.inside.front in
    let at = c.args.at in
    let l = within c in
    let inside : f + at < length xs = omega (arith, l, length-drop f xs, c.self.invariant.within) in
    record {
      within = omega (
        arith,
        ap (λ (hs : List TicketHolder). length hs) c.remove.ensures.items,
        length-remove xs (f + at) inside,
        inside,
      );
      rises = subst (λ (hs : List TicketHolder). Rises 0 (spots hs))
          (sym (ap (drop f) c.remove.ensures.items ∙ drop-remove f at (f + at) xs refl (omega (arith, inside))))
          (subst (Rises 0) (sym (spots-remove at (drop f xs)))
          (Rises-remove at 0 (spots (drop f xs)) c.self.invariant.rises));
    }

pub returns : goal.returns
returns c =
    let xs = c.self.inside.entries.items in
    let f = c.self.inside.front in
    rw (← c.self.view_is) (ap (drop f) c.remove.ensures.items
    ∙ drop-remove f c.args.at (f + c.args.at) xs refl
    (omega (arith, within c, length-drop f xs, c.self.invariant.within)))
