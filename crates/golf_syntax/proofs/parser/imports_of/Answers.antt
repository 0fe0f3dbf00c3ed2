use Rattle.std.proofs.Common.{map, sym, subst, ◌∙◌}
use Rattle.golf_syntax_trees.specs.Words.{closed, SpellsWords}
use Rattle.golf_syntax_trees.specs.Declarations.{print_import}
use Rattle.golf_syntax.proofs.FileLaws.{import-more, imports-end}
use Rattle.golf_syntax.proofs.parser.imports_of.Goals as goal

pub returns-in_default-2 : goal.returns-in_default-2
returns-in_default-2 c =
    imports-end c.segments.imports c.args.tokens.now c.segments.left.now c.in-Some.segment.now c.in-Some.behind.now
    c.segments.invariant c.in-Some.ensures.value (sym c.in_ok-import.ensures ∙ c.in_default-2.is)

pub segments-preserved : goal.segments-preserved
segments-preserved c =
    subst (λ xs. SpellsWords (closed (map print_import xs)) c.args.tokens.now c.in-Some.behind.now)
    (sym c.in_ok-push.ensures.ok)
    (import-more c.segments.imports c.in-Some-2.import c.args.tokens.now c.segments.left.now c.in-Some.segment.now
    c.in-Some.behind.now c.segments.invariant c.in-Some.ensures.value (sym c.in_ok-import.ensures ∙ c.in-Some-2.is))
