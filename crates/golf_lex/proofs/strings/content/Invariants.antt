use Rattle.std.proofs.Common.{◌≡◌, ◌++◌, drop}
use Rattle.golf_lex.specs.Strings.{content_from}
use Rattle.std.specs.Prelude.{false}
use Rattle.golf_lex.proofs.strings.content.Given as goal

-- the bytes so far, and those that the rest stands for
abbrev pub invariant-loop-byte : goal.invariant-loop-byte
invariant-loop-byte l = l.content ++ content_from l.escaped (drop l.byte-index l.literal) ≡ content_from false l.literal
