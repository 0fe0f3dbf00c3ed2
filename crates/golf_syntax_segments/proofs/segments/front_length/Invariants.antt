use Rattle.std.proofs.Common.{◌≡◌, ◌+◌, ◌≤◌, drop}
use Rattle.golf_syntax_segments.specs.Cut.{front_length}
use Rattle.golf_syntax_segments.proofs.segments.front_length.Given as goal

-- no segment ended so far, and so many brackets are open
abbrev pub invariant-loop-token : goal.invariant-loop-token
invariant-loop-token l = record {
  rest : front_length 0 l.tokens ≡ l.count + front_length l.depth (drop l.token-index l.tokens);
  count : l.count ≡ l.token-index;
  depth : l.depth ≤ l.token-index;
}
