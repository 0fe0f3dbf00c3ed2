-- Every generated file is accepted.
-- For: `AlwaysAccepted` (golf_command_sample_accepted/specs/Accepted.antt) and `always_accepted` (src/lib.rt)
-- By: the lemmas on its tokens, its tree and its rules, put together; no induction
use Rattle.std.proofs.Common.{arith}
use Rattle.golf_command_sample_accepted.specs.Accepted.{AlwaysAccepted}
use Rattle.golf_command_sample_accepted.specs.Trees.{tree}
use Rattle.golf_command_sample_accepted.proofs.Lengths.{short}
use Rattle.golf_command_sample_accepted.proofs.Heads.{tree-reads}
use Rattle.golf_command_sample_accepted.proofs.Typing.{tree-typed}

pub accepted : AlwaysAccepted
accepted n some fits = (
  tree n,
  record {
    short = short n fits;
    reads = tree-reads n some (omega arith);
    typed = tree-typed n (omega arith);
  },
)
