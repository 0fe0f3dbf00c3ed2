use Rattle.std.proofs.Common.{◌≡◌, ◌≤◌, length}
use Rattle.golf_syntax.specs.DeclarationReader.{names_at}
use Rattle.golf_syntax.proofs.ManySteps.{names_from}
use Rattle.golf_syntax.proofs.fields.names_at.Given as goal

-- the names so far, and those that are read next, are what is read
abbrev pub invariant-names : goal.invariant-names
invariant-names l = record {
  rest : names_at l.fn.tokens ≡ names_from l.names l.left;
  within : length l.left ≤ length l.fn.tokens;
}

abbrev pub decreases-names : goal.decreases-names
decreases-names l = length l.left
