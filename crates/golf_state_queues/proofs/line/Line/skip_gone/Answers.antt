use Rattle.std.proofs.Common.{◌≡◌, ℕ, List, drop, length, sym, ap, ◌∙◌, subst, arith}
use Rattle.std.proofs.lemmas.List.{drop-drop, length-drop}
use Rattle.golf_theory.specs.Maps.{Rises}
use Rattle.golf_state_queues.specs.Lines.{spots}
use Rattle.golf_state_queues.specs.declared.holders.TicketHolder.{TicketHolder}
use Rattle.golf_state_queues.proofs.Held.{Rises-drop, spots-drop}
use Rattle.golf_state_queues.proofs.line.Line.skip_gone.Goals as goal

pub invariant_of-self : goal.invariant_of-self
invariant_of-self c =
    let xs = c.self.inside.entries.items in
    let f = c.self.inside.front in
    let n = c.start_of.result in
    let count : length c.as_slice.result.now ≡ length (drop f xs) =
    ap (λ (hs : List TicketHolder). length hs) (c.as_slice.ensures.value ∙ sym c.self.view_is) in
    record {
      within = omega (
        arith,
        c.in-Ok.ensures.1,
        c.start_of.ensures.within,
        count,
        length-drop f xs,
        c.self.invariant.within,
      );
      rises = subst (λ (hs : List TicketHolder). Rises 0 (spots hs))
          (drop-drop n f xs ∙ ap (λ (i : ℕ). drop i xs) (sym c.in-Ok.ensures.1))
          (subst (Rises 0) (sym (spots-drop n (drop f xs)))
          (Rises-drop n 0 (spots (drop f xs)) c.self.invariant.rises));
    }
