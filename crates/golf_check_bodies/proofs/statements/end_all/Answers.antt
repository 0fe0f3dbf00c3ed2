use Rattle.std.proofs.Common.{◌≡◌, sym, ap, ◌∙◌}
use Rattle.golf_syntax_trees.specs.Spines.{risen}
use Rattle.golf_syntax_trees.proofs.Spines.{risen-last}
use Rattle.golf_check_types.specs.Scopes.{closed_to}
use Rattle.golf_check_bodies.proofs.statements.end_all.Goals as goal

pub loop-mark-preserved : goal.loop-mark-preserved
loop-mark-preserved c =
    ap (risen closed_to c.pop.new.self) c.in_ok-end.ensures
    ∙ (sym (risen-last closed_to c.pop.new.self c.in-Some.mark c.loop-mark.scope)
    ∙ (ap (λ ms. risen closed_to ms c.loop-mark.scope) (sym c.in-Some.ensures)
    ∙ c.loop-mark.invariant))
