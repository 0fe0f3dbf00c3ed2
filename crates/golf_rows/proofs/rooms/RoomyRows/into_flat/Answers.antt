use Rattle.std.proofs.Common.{◌≡◌, ℕ, List, length, map, ap, sym, subst, ◌∙◌}
use Rattle.golf_base.specs.Roomy.{Roomy}
use Rattle.golf_rows.specs.Rooms.{spare_at}
use Rattle.golf_rows.proofs.Filling.{rooms-ends, full-rows}
use Rattle.golf_rows.proofs.rooms.RoomyRows.into_flat.Goals as goal

pub of-requires : goal.of-requires
of-requires c = rooms-ends 0 c.self.inside.ends c.self.inside.nexts (length c.self.inside.members) c.self.invariant.0

pub returns : goal.returns
returns c =
    let r = c.self.inside in
    c.of.ensures
    ∙ full-rows 0 r.ends r.nexts r.members (length r.members) c.self.invariant.0
    (subst (λ (rows : List (Roomy ℕ)). (n : ℕ) → spare_at rows n ≡ 0) (sym c.self.view_is) c.requires)
    ∙ ap (map (λ (row : Roomy ℕ). row.items)) c.self.view_is
