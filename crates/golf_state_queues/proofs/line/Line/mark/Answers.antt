use Rattle.std.proofs.Common.{◌≡◌, ◌+◌, ◌<◌, List, drop, length, get_or, remove, sym, ap, ◌∙◌, subst, arith, slice_set}
use Rattle.std.proofs.lemmas.List.{drop-set-add, get_or-drop, length-set}
use Rattle.golf_theory.specs.Maps.{Rises}
use Rattle.golf_state_queues.specs.Lines.{spots}
use Rattle.golf_state_queues.specs.WaitQueues.{held}
use Rattle.golf_state_queues.specs.declared.holders.TicketHolder.{TicketHolder}
use Rattle.golf_state_queues.proofs.Held.{Rises-set, held-mark}
use Rattle.golf_state_queues.proofs.line.Line.mark.Goals as goal

pub invariant_of-self : goal.invariant_of-self
invariant_of-self c =
    let xs = c.self.inside.entries.items in
    let f = c.self.inside.front in
    let at = c.args.at in
    let m = c.gone.result in
    record {
      within = omega (
        arith,
        ap (λ (hs : List TicketHolder). length hs) c.set_at.ensures,
        length-set xs (f + at) m,
        c.self.invariant.within,
      );
      rises = subst (λ (hs : List TicketHolder). Rises 0 (spots hs))
          (sym (ap (drop f) c.set_at.ensures ∙ drop-set-add f xs at m))
          (Rises-set at 0 (drop f xs) m _
          (ap (λ (h : TicketHolder). h.ticket) c.gone.ensures
          ∙ ap (λ (hs : List TicketHolder). (get_or hs (f + at) _).ticket) c.as_slice.ensures
          ∙ ap (λ (h : TicketHolder). h.ticket) (sym (get_or-drop f xs at _))) c.self.invariant.rises);
    }

pub returns : goal.returns
returns c =
    let xs = c.self.inside.entries.items in
    let f = c.self.inside.front in
    let at = c.args.at in
    let m = c.gone.result in
    let within : at < length (drop f xs) =
    subst (λ (hs : List TicketHolder). at < length hs) (sym c.self.view_is) c.requires in
    ap (λ (hs : List TicketHolder). held (drop f hs)) c.set_at.ensures
    ∙ ap held (drop-set-add f xs at m)
    ∙ held-mark at (drop f xs) m (ap (λ (h : TicketHolder). h.is_gone) c.gone.ensures) within
    ∙ ap (λ (hs : List TicketHolder). held (remove hs at)) c.self.view_is
