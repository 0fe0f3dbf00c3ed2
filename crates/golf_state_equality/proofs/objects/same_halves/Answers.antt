use Rattle.golf_state_equality.proofs.Cuts.{cut-same, cut-other}
use Rattle.golf_state_equality.proofs.objects.same_halves.Goals as goal

pub returns-then-same_values : goal.returns-then-same_values
returns-then-same_values c =
    cut-same c.args.first.now c.args.second.now c.args.third.now c.args.fourth.now c.split_at.result.0.now
    c.split_at.result.1.now c.is_joined.result
    c.split_at.ensures.front c.split_at.ensures.back (c.same_values.ensures.0 c.if-same_values.true) c.is_joined.ensures

pub returns-else-same_values : goal.returns-else-same_values
returns-else-same_values c =
    cut-other c.args.first.now c.args.second.now c.args.third.now c.args.fourth.now c.split_at.result.0.now
    c.same_values.result
    c.requires.shorter c.split_at.ensures.front c.if-same_values.false c.same_values.ensures
