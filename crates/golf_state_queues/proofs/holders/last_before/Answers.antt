use Rattle.std.proofs.Common.{ℕ, ◌-◌, take, ap, ◌∙◌, arith}
use Rattle.golf_state_queues.specs.WaitQueues.{held}
use Rattle.golf_state_queues.proofs.Held.{Rises-held, front-none, front-ends, held-before, held-end}
use Rattle.golf_state_queues.proofs.holders.last_before.Goals as goal

pub returns-then-end-eq0 : goal.returns-then-end-eq0
returns-then-end-eq0 c =
    let hs = c.args.holders.now in
    let seen = take c.rank_of.result hs in
    let before = held-before c.args.ticket c.rank_of.result c.end_of-end.result hs c.requires c.rank_of.ensures.place
    c.end_of-end.ensures.same in
    front-none c.args.ticket (held hs) (Rises-held 0 hs c.requires)
    (before ∙ ap (λ (i : ℕ). held (take i seen)) c.if-end-eq0.true)

pub returns : goal.returns
returns c =
    let hs = c.args.holders.now in
    let seen = take c.rank_of.result hs in
    let n = c.end_of-end.result in
    let before = held-before c.args.ticket c.rank_of.result n hs c.requires c.rank_of.ensures.place
    c.end_of-end.ensures.same in
    let ends = held-end n seen _ (omega (arith, c.if-end-eq0.false)) c.end_of-end.ensures.within
    (c.end_of-end.ensures.last (omega (arith, c.if-end-eq0.false))) in
    let b = front-ends c.args.ticket _ _ (held (take (n - 1) seen)) (held hs) (Rises-held 0 hs c.requires)
    (before ∙ ends) in
    (b.there, b.before, b.last)
