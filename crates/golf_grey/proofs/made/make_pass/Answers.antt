use Rattle.std.proofs.Common.{◌≡◌, ℕ, ◌+◌, ◌-◌, List, ◌∷◌, [], length, length-append, subst, sym, ap, ◌∙◌, arith}
use Rattle.std.specs.Prelude.{sum_by}
use Rattle.std.specs.Global.{Global}
use Rattle.atomic_blocks.specs.Lent.{RowsId}
use Rattle.crossbeam_deque.specs.Handles.{IsPassOf}
use Rattle.golf_grey.specs.declared.rule.GreyView.{GreyView}
use Rattle.golf_grey.specs.Hands.{GreyPass, RowFits, RowIsNew, row_weight}
use Rattle.golf_theory.proofs.Sums.{at_index}
use Rattle.golf_grey.proofs.Steps.{forks}
use Rattle.golf_grey.proofs.Stages.{stage_up, fresh_set, new_push, row_push, weight_push}
use Rattle.golf_grey.proofs.made.make_pass.Goals as goal

pub another-pass-requires : goal.another-pass-requires
another-pass-requires c =
    let at = at_index c.args.owners.now.items c.args.j c.index_mut-owner.result.now c.requires.low
    c.index_mut-owner.ensures.value in
    let parts = c.requires.stage.high c.args.j c.index_mut-owner.result.now at (omega arith) in
    forks _ _ (omega (arith, parts))

pub returns-clause-stage : goal.returns-clause-stage
returns-clause-stage c =
    let w = c.index_mut-owner.result.now in
    let x = c.another-pass.new.self in
    let at = at_index c.args.owners.now.items c.args.j w c.requires.low c.index_mut-owner.ensures.value in
    let parts = c.requires.stage.high c.args.j w at (omega arith) in
    stage_up c.args.thieves.now.items c.args.owners.now.items
    (4294967295 - c.args.made) c.args.j w x at c.another-pass.ensures.same.0.0 c.another-pass.ensures.same.0.1
    (omega (arith, ap (λ (v : GreyView). v.parts) c.another-pass.ensures.rule.0, parts)) c.requires.stage

pub returns-clause-fresh : goal.returns-clause-fresh
returns-clause-fresh c =
    let w = c.index_mut-owner.result.now in
    let x = c.another-pass.new.self in
    let at = at_index c.args.owners.now.items c.args.j w c.requires.low c.index_mut-owner.ensures.value in
    fresh_set c.args.capacity c.args.places c.args.owners.now.items c.args.j w x at c.another-pass.ensures.rule.0
    c.another-pass.ensures.same.1 c.another-pass.ensures.same.0.3 c.requires.fresh

pub returns-clause-row : goal.returns-clause-row
returns-clause-row c =
    let w = c.index_mut-owner.result.now in
    let p = c.another-pass.result in
    let at = at_index c.args.owners.now.items c.args.j w c.requires.low c.index_mut-owner.ensures.value in
    let Fits : List GreyPass → Type 0 = λ row. RowFits c.args.thieves.now.items row × (length row ≡ c.args.j + 1)
    × ((g : ℕ → ℕ → ℕ) → row_weight g row ≡ 0) in
    subst Fits (sym c.in_ok-push.ensures.items) (
      row_push c.args.thieves.now.items c.args.row.now.items c.args.j p c.requires.row.1 c.requires.row.0
          (λ t e. subst (λ (d : RowsId × Global). IsPassOf d p)
          ((c.requires.stage.each c.args.j t w e at).0) c.another-pass.ensures.same.2)
          (ap (λ (v : GreyView). v.parts) c.another-pass.ensures.rule.1)
          (ap (λ (v : GreyView). v.pushed) c.another-pass.ensures.rule.1),
      omega (arith, length-append c.args.row.now.items (p ∷ []), c.requires.row.1),
      λ g. omega (
        arith,
        weight_push g c.args.row.now.items p c.args.j (sym c.requires.row.1),
        c.requires.row.2 g,
        ap (λ (v : GreyView). sum_by (g c.args.j) v.taken) c.another-pass.ensures.rule.1,
      ),
    )

pub returns-clause-row_new : goal.returns-clause-row_new
returns-clause-row_new c =
    let w = c.index_mut-owner.result.now in
    let at = at_index c.args.owners.now.items c.args.j w c.requires.low c.index_mut-owner.ensures.value in
    let f = c.requires.fresh c.args.j w at in
    let cut = c.another-pass.ensures.rule.1 in
    subst (RowIsNew c.args.capacity c.args.places) (sym c.in_ok-push.ensures.items)
    (new_push c.args.capacity c.args.places c.args.row.now.items c.another-pass.result c.requires.row_new (
      ap (λ (v : GreyView). v.places) cut ∙ f.knows.0,
      ap (λ (v : GreyView). v.capacity) cut ∙ f.knows.1,
      ap (λ (v : GreyView). v.taken) cut,
    ))
