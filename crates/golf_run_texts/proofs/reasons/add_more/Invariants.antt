use Rattle.std.proofs.Common.{◌≡◌, ◌++◌, take}
use Rattle.golf_run_texts.specs.Texts.{more_members}
use Rattle.golf_run_texts.proofs.reasons.add_more.Given as goal

-- the members so far
abbrev pub invariant-loop-member : goal.invariant-loop-member
invariant-loop-member l = l.line ≡ l.fn.line ++ more_members (take l.member-index l.members)
