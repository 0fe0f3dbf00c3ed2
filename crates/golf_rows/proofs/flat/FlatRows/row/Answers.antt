use Rattle.std.proofs.Common.{◌∷◌, ℕ, List, Some, length, take, drop, get_or, slice_get, ap, sym, ◌∙◌, arith}
use Rattle.std.proofs.lemmas.Grind.{common_steps}
use Rattle.golf_rows.proofs.Places.{end-there, between, row-of-all}
use Rattle.golf_rows.proofs.flat.FlatRows.row.Goals as goal

pub bounds-ends-at : goal.bounds-ends-at
bounds-ends-at c = omega (
  arith,
  end-there c.self.inside.ends c.self.inside.members c.args.self.now c.args.at
      c.self.view_is c.requires,
  ap length c.as_slice-ends.ensures,
)

pub offset_bounds-ends-at : goal.offset_bounds-ends-at
offset_bounds-ends-at c = grind (
  arith,
  common_steps,
  end-there c.self.inside.ends c.self.inside.members c.args.self.now c.args.at c.self.view_is c.requires,
  ap length c.as_slice-ends.ensures,
)

pub split_at-requires : goal.split_at-requires
split_at-requires c =
    let r = c.self.inside in
    let b = between 0 r.ends (length r.members) c.args.at c.self.invariant
    (end-there r.ends r.members c.args.self.now c.args.at c.self.view_is c.requires) in
    omega (
      arith,
      b.2,
      ap (λ (ends : List ℕ). get_or ends c.args.at 0) c.as_slice-ends.ensures,
      ap length c.as_slice.ensures,
    )

pub split_at-requires-2 : goal.split_at-requires-2
split_at-requires-2 c =
    let r = c.self.inside in
    let b = between 0 r.ends (length r.members) c.args.at c.self.invariant
    (end-there r.ends r.members c.args.self.now c.args.at c.self.view_is c.requires) in
    omega (
      arith,
      b.1,
      c.split_at.ensures.front_len,
      c.start_of.ensures,
      ap (λ (ends : List ℕ). get_or ends c.args.at 0) c.as_slice-ends.ensures,
      ap (λ (ends : List ℕ). get_or (0 ∷ ends) c.args.at 0) c.as_slice-ends.ensures,
    )

pub returns : goal.returns
returns c =
    let r = c.self.inside in
    let at = c.args.at in
    let start = c.start_of.ensures ∙ ap (λ (ends : List ℕ). get_or (0 ∷ ends) at 0) c.as_slice-ends.ensures in
    let before = c.split_at.ensures.front ∙ ap
    (λ (ends : List ℕ). take (get_or ends at 0) c.as_slice.result.now) c.as_slice-ends.ensures
    ∙ ap (λ (members : List ℕ). take (get_or r.ends at 0) members) c.as_slice.ensures in
    ap (λ (rows : List (List ℕ)). slice_get rows at) (sym c.self.view_is)
    ∙ row-of-all r.ends r.members at c.self.invariant
    (end-there r.ends r.members c.args.self.now at c.self.view_is c.requires)
    ∙ ap (λ (xs : List ℕ). Some xs) (sym (c.split_at-2.ensures.back
    ∙ ap (λ (n : ℕ). drop n c.split_at.result.0.now) start ∙ ap (drop (get_or (0 ∷ r.ends) at 0)) before))
