use Rattle.std.proofs.Common.{[], ◌∷◌, ◌++◌, ap, sym, ◌∙◌, arith}
use Rattle.std.proofs.lemmas.Grind.{common_steps}
use Rattle.golf_syntax.proofs.ManySteps.{names_from, names-are, names-over, names-broken, names-next}
use Rattle.golf_syntax.proofs.fields.names_at.Goals as goal

pub names-init : goal.names-init
names-init c = record {
  rest = names-are c.args.tokens.now
      ∙ ap (λ ns. names_from ns c.args.tokens.now) (sym c.new-names.ensures);
  within = omega arith;
}

pub names-preserved : goal.names-preserved
names-preserved c = record {
  rest = c.names.invariant.rest
      ∙ names-next c.names.names c.names.left.now c.in-Some.behind.now c.in-Some-name_at.rest.now
      c.in-Some-name_at.name.now (sym c.in-Some.ensures.value) (sym c.in-Some-name_at.ensures.value)
      ∙ ap (λ n. names_from (c.names.names ++ n ∷ []) c.in-Some-name_at.rest.now) (sym c.in_ok-copied.ensures)
      ∙ ap (λ ns. names_from ns c.in-Some-name_at.rest.now) (sym c.in_ok-push.ensures.ok);
  within = grind (arith, common_steps);
}

pub returns-in_default-clause-value : goal.returns-in_default-clause-value
returns-in_default-clause-value c = sym (c.names.invariant.rest
    ∙ names-over c.names.names c.names.left.now (sym c.in_default.ensures.value))

pub returns-in_default-name_at-clause-value : goal.returns-in_default-name_at-clause-value
returns-in_default-name_at-clause-value c =
    sym (c.names.invariant.rest ∙ names-broken c.names.names c.names.left.now c.in-Some.behind.now
    (sym c.in-Some.ensures.value) (sym c.in_default-name_at.ensures.value))
