use Rattle.std.proofs.Common.{sym, subst, ◌∙◌}
use Rattle.golf_syntax.proofs.FileLaws.{Known, decl-more, decls-broken}
use Rattle.golf_syntax.proofs.parser.declarations_of.Goals as goal

pub returns-in_default-2 : goal.returns-in_default-2
returns-in_default-2 c =
    decls-broken c.segments.declarations c.args.tokens.now c.segments.left.now c.in-Some.segment.now c.in-Some.rest.now
    c.first_line.result c.segments.invariant c.in-Some.ensures.value
    (sym c.in_ok-declaration.ensures ∙ c.in_default-2.is) c.first_line.ensures

pub segments-preserved : goal.segments-preserved
segments-preserved c =
    subst (λ xs. Known c.args.tokens.now xs c.in-Some.rest.now) (sym c.in_ok-push.ensures.ok)
    (decl-more c.segments.declarations c.in-Some-2.declaration c.args.tokens.now c.segments.left.now
    c.in-Some.segment.now c.in-Some.rest.now c.segments.invariant c.in-Some.ensures.value
    (sym c.in_ok-declaration.ensures ∙ c.in-Some-2.is))
