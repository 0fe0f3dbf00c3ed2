use Rattle.std.proofs.Common.{◌≡◌, ap, sym, ◌∙◌, arith}
use Rattle.std.proofs.lemmas.Grind.{common_steps}
use Rattle.std.specs.Prelude.{Some, None}
use Rattle.golf_syntax_trees.specs.declared.declarations.Field.{Field}
use Rattle.golf_syntax.specs.Many.{many_at}
use Rattle.golf_syntax.specs.DeclarationReader.{field_at}
use Rattle.golf_syntax.proofs.ManySteps.{field-shrinks, list-empty, list-some, many-none, many-next, many-last}
use Rattle.golf_syntax.proofs.fields.fields_at.Goals as goal

pub returns-in-Some-clause-value : goal.returns-in-Some-clause-value
returns-in-Some-clause-value c =
    ap (λ xs. Some (xs, c.in-Some.rest.now)) c.new-fields.ensures
    ∙ sym (list-empty (Field) field_at c.args.separator c.args.close field-shrinks c.args.tokens.now
    c.in-Some.rest.now (sym c.in-Some.ensures.value))

pub fields-init : goal.fields-init
fields-init c = record {
  rest = list-some (Field) field_at c.args.separator c.args.close field-shrinks c.args.tokens.now
      (sym c.in_default.ensures.value) ∙ ap (λ xs. many_at field_at c.args.separator c.args.close xs c.args.tokens.now)
      (sym c.new-fields.ensures);
  within = omega arith;
}

pub returns-in_default-2-clause-value : goal.returns-in_default-2-clause-value
returns-in_default-2-clause-value c =
    let none : field_at c.fields.left.now ≡ None = grind (arith, common_steps) in
    sym (c.fields.invariant.rest ∙ many-none
    (Field) field_at c.args.separator c.args.close field-shrinks c.fields.fields c.fields.left.now none)

pub fields-preserved : goal.fields-preserved
fields-preserved c =
    let found : field_at c.fields.left.now ≡ Some (c.in-Some-2.field, c.in-Some-2.behind.now) =
    grind (arith, common_steps) in
    record {
      rest = c.fields.invariant.rest
          ∙ many-next (Field) field_at c.args.separator c.args.close field-shrinks c.fields.fields c.fields.left.now
          c.in-Some-2.behind.now c.in-Some-after.next.now c.in-Some-2.field found
          (sym c.in-Some-after.ensures.value)
          ∙ ap (λ xs. many_at field_at c.args.separator c.args.close xs c.in-Some-after.next.now)
          (sym c.in_ok-push.ensures.ok);
      within = grind (arith, common_steps);
    }

pub returns-in-None-after-clause-value : goal.returns-in-None-after-clause-value
returns-in-None-after-clause-value c =
    let found : field_at c.fields.left.now ≡ Some (c.in-Some-2.field, c.in-Some-2.behind.now) =
    grind (arith, common_steps) in
    sym (c.fields.invariant.rest ∙ many-last
    (Field) field_at c.args.separator c.args.close field-shrinks c.fields.fields c.fields.left.now
    c.in-Some-2.behind.now c.in-Some-2.field None found (sym c.in-None.ensures.value)
    (sym c.in-None-after.ensures.value))

pub returns-in-Some-after-2-clause-value : goal.returns-in-Some-after-2-clause-value
returns-in-Some-after-2-clause-value c =
    let found : field_at c.fields.left.now ≡ Some (c.in-Some-2.field, c.in-Some-2.behind.now) =
    grind (arith, common_steps) in
    ap (λ xs. Some (xs, c.in-Some-after-2.rest.now)) c.in_ok-push.ensures.ok
    ∙ sym (c.fields.invariant.rest ∙ many-last
    (Field) field_at c.args.separator c.args.close field-shrinks c.fields.fields c.fields.left.now
    c.in-Some-2.behind.now c.in-Some-2.field (Some c.in-Some-after-2.rest.now) found (sym c.in-None.ensures.value)
    (sym c.in-Some-after-2.ensures.value))
