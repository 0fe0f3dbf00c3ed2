use Rattle.std.proofs.Common.{◌≡◌, ◌++◌, take}
use Rattle.golf_run_texts.specs.Texts.{more_numbers}
use Rattle.golf_run_texts.proofs.runs.add_more.Given as goal

-- the numbers so far
abbrev pub invariant-loop-number : goal.invariant-loop-number
invariant-loop-number l = l.text ≡ l.fn.text ++ more_numbers (take l.number-index l.numbers)
