use Rattle.std.proofs.Common.{Some, sym, ap, ◌∙◌, ◌+◌, arith}
use Rattle.golf_state.proofs.ReaderLaws.{readers-few, counted-one, counted-none, none-counted}
use Rattle.golf_state.proofs.wake_all.readers_before.Goals as goal

pub overflow_add-count : goal.overflow_add-count
overflow_add-count c = omega (
  arith,
  c.loop-holder.invariant,
  readers-few (Some c.args.ticket) c.args.object.0 c.args.state.now.goroutines,
  c.in-Some.ensures.few,
)

pub loop-holder-preserved-then-is_waiting : goal.loop-holder-preserved-then-is_waiting
loop-holder-preserved-then-is_waiting c =
    omega (
      arith,
      c.loop-holder.invariant,
      counted-one c.loop-holder.before c.args.object.0 c.args.state.now.goroutines c.in-Some.holder
          c.in-Some.ensures.rises c.in-Some.ensures.last (sym c.is_waiting.ensures ∙ c.if-is_waiting.true),
    )

pub loop-holder-preserved : goal.loop-holder-preserved
loop-holder-preserved c =
    c.loop-holder.invariant ∙ ap (λ n. c.loop-holder.count + n)
    (counted-none c.loop-holder.before c.args.object.0 c.args.state.now.goroutines c.in-Some.holder
    c.in-Some.ensures.rises c.in-Some.ensures.last (sym c.is_waiting.ensures ∙ c.if-is_waiting.false))

pub returns-clause-count : goal.returns-clause-count
returns-clause-count c = omega (
  arith,
  c.loop-holder.invariant,
  none-counted c.loop-holder.before c.args.object.0 c.args.state.now.goroutines c.in_default.ensures.last,
)

pub returns-clause-few : goal.returns-clause-few
returns-clause-few c = omega (
  arith,
  c.loop-holder.invariant,
  readers-few (Some c.args.ticket) c.args.object.0 c.args.state.now.goroutines,
  c.in_default.ensures.few,
)
