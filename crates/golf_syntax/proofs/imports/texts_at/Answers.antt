use Rattle.std.proofs.Common.{◌≡◌, ap, sym, ◌∙◌, arith}
use Rattle.std.proofs.lemmas.Grind.{common_steps}
use Rattle.std.specs.Prelude.{Some, None}
use Rattle.std.proofs.Common.{ℕ, List}
use Rattle.golf_lex_tokens.specs.declared.token.Punctuation.TheVariants as punctuations
use Rattle.golf_syntax.specs.Many.{many_at}
use Rattle.golf_syntax.specs.DeclarationReader.{text_at}
use Rattle.golf_syntax.proofs.ManySteps.{text-shrinks, list-empty, list-some, many-none, many-next, many-last}
use Rattle.golf_syntax.proofs.imports.texts_at.Goals as goal

pub returns-in-Some-clause-value : goal.returns-in-Some-clause-value
returns-in-Some-clause-value c =
    ap (λ xs. Some (xs, c.in-Some.rest.now)) c.new-paths.ensures
    ∙ sym (list-empty (List ℕ) text_at punctuations.Semicolon punctuations.CloseParen text-shrinks c.args.tokens.now
    c.in-Some.rest.now (sym c.in-Some.ensures.value))

pub paths-init : goal.paths-init
paths-init c = record {
  rest = list-some (List ℕ) text_at punctuations.Semicolon punctuations.CloseParen text-shrinks c.args.tokens.now
      (sym c.in_default.ensures.value) ∙ ap (λ xs. many_at text_at punctuations.Semicolon punctuations.CloseParen xs
      c.args.tokens.now) (sym c.new-paths.ensures);
  within = omega arith;
}

pub returns-in_default-2-clause-value : goal.returns-in_default-2-clause-value
returns-in_default-2-clause-value c =
    let none : text_at c.paths.left.now ≡ None = grind (arith, common_steps) in
    sym (c.paths.invariant.rest ∙ many-none
    (List ℕ) text_at punctuations.Semicolon punctuations.CloseParen text-shrinks c.paths.paths c.paths.left.now
    none)

pub paths-preserved : goal.paths-preserved
paths-preserved c =
    let found : text_at c.paths.left.now ≡ Some (c.in-Some-2.path, c.in-Some-2.behind.now) =
    grind (arith, common_steps) in
    record {
      rest = c.paths.invariant.rest
          ∙ many-next (List ℕ) text_at punctuations.Semicolon punctuations.CloseParen text-shrinks c.paths.paths
          c.paths.left.now c.in-Some-2.behind.now c.in-Some-after.next.now c.in-Some-2.path found
          (sym c.in-Some-after.ensures.value)
          ∙ ap (λ xs. many_at text_at punctuations.Semicolon punctuations.CloseParen xs c.in-Some-after.next.now)
          (sym c.in_ok-push.ensures.ok);
      within = grind (arith, common_steps);
    }

pub returns-in-None-after-clause-value : goal.returns-in-None-after-clause-value
returns-in-None-after-clause-value c =
    let found : text_at c.paths.left.now ≡ Some (c.in-Some-2.path, c.in-Some-2.behind.now) =
    grind (arith, common_steps) in
    sym (c.paths.invariant.rest ∙ many-last
    (List ℕ) text_at punctuations.Semicolon punctuations.CloseParen text-shrinks c.paths.paths c.paths.left.now
    c.in-Some-2.behind.now c.in-Some-2.path None found (sym c.in-None.ensures.value)
    (sym c.in-None-after.ensures.value))

pub returns-in-Some-after-2-clause-value : goal.returns-in-Some-after-2-clause-value
returns-in-Some-after-2-clause-value c =
    let found : text_at c.paths.left.now ≡ Some (c.in-Some-2.path, c.in-Some-2.behind.now) =
    grind (arith, common_steps) in
    ap (λ xs. Some (xs, c.in-Some-after-2.rest.now)) c.in_ok-push.ensures.ok
    ∙ sym (c.paths.invariant.rest ∙ many-last
    (List ℕ) text_at punctuations.Semicolon punctuations.CloseParen text-shrinks c.paths.paths c.paths.left.now
    c.in-Some-2.behind.now c.in-Some-2.path (Some c.in-Some-after-2.rest.now) found (sym c.in-None.ensures.value)
    (sym c.in-Some-after-2.ensures.value))
