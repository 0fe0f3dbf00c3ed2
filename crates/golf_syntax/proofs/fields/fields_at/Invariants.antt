use Rattle.std.proofs.Common.{◌≡◌, ◌≤◌, length}
use Rattle.golf_syntax.specs.Many.{many_at, list_at}
use Rattle.golf_syntax.specs.DeclarationReader.{field_at}
use Rattle.golf_syntax.proofs.fields.fields_at.Given as goal

-- the fields so far, and those that are read next, are what is read
abbrev pub invariant-fields : goal.invariant-fields
invariant-fields l = record {
  rest : list_at field_at l.fn.separator l.fn.close l.fn.tokens
      ≡ many_at field_at l.fn.separator l.fn.close l.fields l.left;
  within : length l.left ≤ length l.fn.tokens;
}

abbrev pub decreases-fields : goal.decreases-fields
decreases-fields l = length l.left
