use Rattle.std.proofs.Common.{List, ℕ, length, ap, sym, ◌∙◌}
use Rattle.golf_rows.proofs.Places.{length-rows}
use Rattle.golf_rows.proofs.flat.FlatRows.len.Goals as goal

pub returns : goal.returns
returns c = c.len.ensures ∙ sym (length-rows 0 c.self.inside.ends c.self.inside.members)
    ∙ ap (λ (rows : List (List ℕ)). length rows) c.self.view_is
