use Rattle.std.proofs.Common.{◌-◌, sym, ap, subst, arith}
use Rattle.std.specs.Prelude.{sum_by}
use Rattle.std.proofs.lemmas.List.Sums.{sum_by-append}
use Rattle.crossbeam_deque.specs.Handles.{view, worker_view}
use Rattle.std.specs.Global.{Global}
use Rattle.atomic_blocks.specs.Lent.{RowsId}
use Rattle.crossbeam_deque.specs.Handles.{IsPassOf}
use Rattle.golf_grey.specs.Hands.{Owner}
use Rattle.golf_grey.specs.declared.rule.GreyView.{GreyView}
use Rattle.golf_theory.proofs.Sums.{at_index}
use Rattle.golf_grey.proofs.Steps.{merges}
use Rattle.golf_grey.proofs.Stages.{stage_down, exists_at, set_weighs}
use Rattle.golf_grey.proofs.drain.absorb_one.Goals as goal

pub absorb-requires-clause-table : goal.absorb-requires-clause-table
absorb-requires-clause-table c =
    let w = c.index_mut-owner.result.now in
    let at = at_index c.args.owners.now.items c.args.j w c.requires.low c.index_mut-owner.ensures.value in
    let t = exists_at c.args.thieves.now.items c.args.j (omega (arith, c.requires.low, c.requires.stage.len)) in
    subst (λ (d : RowsId × Global). IsPassOf d c.args.pass) (sym (c.requires.stage.each c.args.j t.0 w t.1 at).0)
    (c.requires.pass t.0 t.1)

pub absorb-requires-clause-rule : goal.absorb-requires-clause-rule
absorb-requires-clause-rule c =
    let w = c.index_mut-owner.result.now in
    let at = at_index c.args.owners.now.items c.args.j w c.requires.low c.index_mut-owner.ensures.value in
    let parts = c.requires.stage.low c.args.j w at (omega arith) in
    merges _ _ _ _ (omega (arith, parts, c.requires.more))

pub returns-clause-stage : goal.returns-clause-stage
returns-clause-stage c =
    let w = c.index_mut-owner.result.now in
    let x = c.absorb.new.self in
    let at = at_index c.args.owners.now.items c.args.j w c.requires.low c.index_mut-owner.ensures.value in
    let parts = c.requires.stage.low c.args.j w at (omega arith) in
    stage_down c.args.thieves.now.items c.args.owners.now.items
    (4294967295 - c.args.more) c.args.j w x at c.absorb.ensures.same.0.0 c.absorb.ensures.same.0.1
    (omega (arith, ap (λ (v : GreyView). v.parts) c.absorb.ensures.rule, parts, c.requires.one.0)) c.requires.stage

pub returns-clause-pushed : goal.returns-clause-pushed
returns-clause-pushed c = λ g.
    let w = c.index_mut-owner.result.now in
    let x = c.absorb.new.self in
    let at = at_index c.args.owners.now.items c.args.j w c.requires.low c.index_mut-owner.ensures.value in
    omega (
      arith,
      set_weighs (λ j (y : Owner). sum_by (g j) (worker_view y).pushed) c.args.owners.now.items c.args.j w x
          at,
      ap (λ (v : GreyView). sum_by (g c.args.j) v.pushed) c.absorb.ensures.rule,
      sum_by-append (g c.args.j) (worker_view w).pushed (view c.args.pass).pushed,
      ap (sum_by (g c.args.j)) c.requires.one.1,
    )

pub returns-clause-taken : goal.returns-clause-taken
returns-clause-taken c = λ g.
    let w = c.index_mut-owner.result.now in
    let x = c.absorb.new.self in
    let at = at_index c.args.owners.now.items c.args.j w c.requires.low c.index_mut-owner.ensures.value in
    omega (
      arith,
      set_weighs (λ j (y : Owner). sum_by (g j) (worker_view y).taken) c.args.owners.now.items c.args.j w x
          at,
      ap (λ (v : GreyView). sum_by (g c.args.j) v.taken) c.absorb.ensures.rule,
      sum_by-append (g c.args.j) (worker_view w).taken (view c.args.pass).taken,
    )
