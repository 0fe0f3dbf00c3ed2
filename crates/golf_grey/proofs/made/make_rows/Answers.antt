use Rattle.std.proofs.Common.{◌≡◌, ℕ, ◌+◌, ◌-◌, ◌<◌, List, length, subst, arith, ⊎_elim}
use mathlib.Core.Option.{some}
use lib.ListN.{get_elem?}
use Rattle.std.specs.Global.{Vec}
use Rattle.golf_grey.specs.Rule.{all_parts}
use Rattle.golf_grey.specs.Hands.{GreyPass, IsStage, IsRow, RowIsNew, row_weight}
use Rattle.golf_grey.proofs.Stages.{stage_turn, push_cases}
use Rattle.golf_grey.proofs.made.make_rows.Goals as goal

pub make_row-requires-clause-stage : goal.make_row-requires-clause-stage
make_row-requires-clause-stage c = stage_turn c.args.thieves.now.items c.loop-made.owners.items
    (all_parts - c.loop-made.made) (4294967295 - c.loop-made.made) c.args.hands
    (omega (arith, c.loop-made.owners.ok.0, c.loop-made.invariant.4, c.requires.count))
    (omega arith) c.loop-made.invariant.0

pub loop-made-preserved : goal.loop-made-preserved
loop-made-preserved c =
    let e = c.in_ok-make_row.ensures in
    let len : length c.make_row.new.owners.items ≡ c.args.hands =
    omega (arith, e.len, c.loop-made.owners.ok.0, c.loop-made.invariant.4, c.requires.count) in
    let parts : 4294967295 - c.loop-made.made ≡ all_parts - (c.loop-made.made + 1) = omega arith in (
      subst (λ (x : ℕ × ℕ). IsStage c.args.thieves.now.items x.0 x.1 c.make_row.new.owners.items)
          (λ i. (parts i, len i)) e.stage,
      e.fresh,
      omega (arith, c.in_ok-push.ensures.len, c.loop-made.invariant.2),
      (λ k r at. ⊎_elim
          (λ (a : (k < length c.loop-made.rows.items) × (get_elem? c.loop-made.rows.items k ≡ some r)).
          c.loop-made.invariant.3 k r a.1)
          (λ (a : (k ≡ length c.loop-made.rows.items) × (c.in_ok-make_row.field-0 ≡ r)). subst
          (λ (y : Vec GreyPass). IsRow c.args.thieves.now.items y.items
          × ((g : ℕ → ℕ → ℕ) → row_weight g y.items ≡ 0) × RowIsNew c.args.capacity c.args.places y.items) a.1
          (e.row.0, e.row.1, e.row_new))
          (push_cases c.loop-made.rows.items c.in_ok-make_row.field-0 r k
          (subst (λ (l : List (Vec GreyPass)). get_elem? l k ≡ some r) c.in_ok-push.ensures.items at))),
      omega (arith, len, c.make_row.new.owners.ok.0, c.requires.count),
    )
