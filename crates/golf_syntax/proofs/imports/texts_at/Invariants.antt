use Rattle.std.proofs.Common.{◌≡◌, ◌≤◌, length}
use Rattle.golf_lex_tokens.specs.declared.token.Punctuation.TheVariants as punctuations
use Rattle.golf_syntax.specs.Many.{many_at, list_at}
use Rattle.golf_syntax.specs.DeclarationReader.{text_at}
use Rattle.golf_syntax.proofs.imports.texts_at.Given as goal

-- the paths so far, and those that are read next, are what is read
abbrev pub invariant-paths : goal.invariant-paths
invariant-paths l = record {
  rest : list_at text_at punctuations.Semicolon punctuations.CloseParen l.fn.tokens
      ≡ many_at text_at punctuations.Semicolon punctuations.CloseParen l.paths l.left;
  within : length l.left ≤ length l.fn.tokens;
}

abbrev pub decreases-paths : goal.decreases-paths
decreases-paths l = length l.left
