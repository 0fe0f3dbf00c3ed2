use Rattle.std.proofs.Common.{◌≡◌, ℕ, suc, ◌-◌, false, Option, take, IfSome, sym, ap, ◌∙◌, subst, arith}
use Rattle.std.proofs.lemmas.Option.{slice_get-get_or}
use Rattle.golf_state_queues.specs.WaitQueues.{held}
use Rattle.golf_state_queues.specs.declared.holders.TicketHolder.{TicketHolder}
use Rattle.golf_state_queues.proofs.Held.{held-cut}
use Rattle.golf_state_queues.proofs.holders.end_of.Goals as goal

pub loop-end-preserved : goal.loop-end-preserved
loop-end-preserved c =
    let hs = c.args.holders.now in
    let n = c.loop-end.end in
    let next : suc (n - 1) ≡ n = omega (arith, c.loop-end-test.true) in
    record {
      within = omega (arith, c.loop-end.invariant.within);
      same = held-cut (n - 1) hs _ (omega (arith, c.loop-end-test.true, c.loop-end.invariant.within))
          c.if-holders-end.true
          ∙ ap (λ (i : ℕ). held (take i hs)) next ∙ c.loop-end.invariant.same;
    }

pub returns-else-holders-end-clause-last : goal.returns-else-holders-end-clause-last
returns-else-holders-end-clause-last c = λ l.
    subst (λ (o : Option TicketHolder). IfSome o (λ h. h.is_gone ≡ false))
    (sym (slice_get-get_or c.args.holders.now (c.loop-end.end - 1) _
    (omega (arith, l, c.loop-end.invariant.within)))) c.if-holders-end.false
