use Rattle.std.proofs.Common.{List, ℕ, length, take, ap, sym, subst, ◌∙◌}
use Rattle.golf_rows.specs.Ends.{rows_from, AreEnds}
use Rattle.golf_rows.proofs.Places.{ends-take, rows-take}
use Rattle.golf_rows.proofs.flat.FlatRows.truncate.Goals as goal

pub invariant_of-self : goal.invariant_of-self
invariant_of-self c =
    let r = c.self.inside in
    subst (λ (ends : List ℕ). AreEnds 0 ends (length r.members)) (sym c.truncate.ensures)
    (ends-take c.args.n 0 r.ends (length r.members) c.self.invariant)

pub returns : goal.returns
returns c =
    let r = c.self.inside in
    ap (λ (ends : List ℕ). rows_from 0 ends r.members) c.truncate.ensures ∙ rows-take c.args.n 0 r.ends r.members
    ∙ ap (take c.args.n) c.self.view_is
