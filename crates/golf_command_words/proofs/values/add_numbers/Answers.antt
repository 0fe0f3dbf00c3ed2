use Rattle.std.proofs.Common.{false}
use Rattle.golf_command_words.proofs.Numbers.{gains_last, gains_more, gains_no_first, gains_none, gains_whole}
use Rattle.golf_command_words.proofs.values.add_numbers.Goals as goal

pub returns-in_default : goal.returns-in_default
returns-in_default c =
    gains_whole _ _ _ _ _ c.add_number.result c.loop-more.invariant.1
    (gains_last c.loop-more.left.now c.loop-more.list c.add_number.new.list c.add_number.result
    c.loop-more-test.true c.in_default.ensures c.add_number.ensures)

pub returns-then-not-branch : goal.returns-then-not-branch
returns-then-not-branch c =
    c.loop-more.invariant.1 false c.add_number-in-loop-more.new.list
    (gains_no_first c.loop-more.left.now c.loop-more.list c.add_number-in-loop-more.new.list c.loop-more-test.true
    c.in-Some.ensures c.in_ok-add_number.field-0 c.if-not-branch.true c.in_ok-add_number.ensures)

pub loop-more-preserved : goal.loop-more-preserved
loop-more-preserved c = (
  search,
  λ is_list new gained. c.loop-more.invariant.1 is_list new
      (gains_more c.loop-more.left.now c.loop-more.list c.add_number-in-loop-more.new.list c.loop-more-test.true
      c.in-Some.ensures c.in_ok-add_number.field-0 c.if-not-branch.false c.in_ok-add_number.ensures is_list new
      gained),
)

pub returns : goal.returns
returns c = c.loop-more.invariant.1 false c.loop-more.list
    (gains_none c.loop-more.more c.loop-more.left.now c.loop-more.list c.loop-more-test.false)
