use Rattle.std.proofs.Common.{◌≡◌, ◌+◌, ◌≤◌, ◌∷◌, drop}
use Rattle.std.specs.Prelude.{reverse, sum}
use Rattle.golf_syntax_trees.specs.Reads.{first_too_complex, no_counts}
use Rattle.golf_syntax_segments.specs.declared.cost.TheConstants.{MOST_COST}
use Rattle.golf_syntax_segments.proofs.cost.first_too_complex.Given as goal

-- the tokens so far cost no more, and these are the counts after them
abbrev pub invariant-loop-token : goal.invariant-loop-token
invariant-loop-token l = record {
  rest : first_too_complex no_counts l.tokens ≡ first_too_complex (l.counts.inner ∷ reverse l.counts.outer)
      (drop l.token-index l.tokens);
  small : l.counts.total ≤ MOST_COST;
  adds_up : l.counts.total ≡ l.counts.inner + sum l.counts.outer;
}
