use Rattle.std.proofs.Common.{◌∙◌, ◌∷◌, sym, arith}
use Rattle.std.specs.Prelude.{reverse}
use Rattle.golf_syntax_segments.proofs.CountSteps.{costs-more, costs-little}
use Rattle.golf_syntax_segments.proofs.cost.first_too_complex.Goals as goal

pub returns-then-counts-gt-MOST_COST : goal.returns-then-counts-gt-MOST_COST
returns-then-counts-gt-MOST_COST c =
    let now = c.in_ok-counts.counts in
    sym (c.loop-token.invariant.rest
    ∙ costs-more (c.loop-token.counts.inner ∷ reverse c.loop-token.counts.outer) c.args.tokens.now
    c.loop-token.token-index c.token-item.result now.inner now.outer c.loop-token-test.true c.token-item.is
    c.in_ok-counts.ensures.value (omega (arith, c.in_ok-counts.ensures.adds_up, c.if-counts-gt-MOST_COST.true)))

pub loop-token-preserved : goal.loop-token-preserved
loop-token-preserved c =
    let now = c.in_ok-counts.counts in
    record {
      rest = c.loop-token.invariant.rest
          ∙ costs-little (c.loop-token.counts.inner ∷ reverse c.loop-token.counts.outer) c.args.tokens.now
          c.loop-token.token-index c.token-item.result now.inner now.outer c.loop-token-test.true c.token-item.is
          c.in_ok-counts.ensures.value (omega (arith, c.in_ok-counts.ensures.adds_up, c.if-counts-gt-MOST_COST.false));
      small = c.if-counts-gt-MOST_COST.false;
      adds_up = c.in_ok-counts.ensures.adds_up;
    }
