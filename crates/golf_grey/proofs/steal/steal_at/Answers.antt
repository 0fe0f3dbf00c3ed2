use Rattle.std.proofs.Common.{◌<◌, ℕ, length, arith, subst, ◌∙◌}
use Rattle.std.specs.Prelude.{IfSome, sum_by}
use Rattle.crossbeam_deque.specs.Handles.{view}
use Rattle.golf_grey.specs.Hands.{GreyPass}
use Rattle.golf_grey.proofs.Stages.{set_weighs}
use Rattle.crossbeam_deque.proofs.Lists.{set_else}
use Rattle.golf_theory.proofs.Sums.{at_index}
use Rattle.golf_grey.proofs.Rows.{row_set, knows_set, none_at, none_so}
use Rattle.golf_grey.proofs.steal.steal_at.Goals as goal

pub steal_one-requires-clause-table : goal.steal_one-requires-clause-table
steal_one-requires-clause-table c =
    (c.requires.row.each c.args.j c.index.result.now c.index_mut.result.now
    (at_index c.args.thieves.now.items c.args.j c.index.result.now c.requires.low c.index.ensures)
    (at_index c.args.passes.now.items c.args.j c.index_mut.result.now
    (omega (arith, c.requires.row.len)) c.index_mut.ensures.value)).0

pub steal_one-requires-clause-live : goal.steal_one-requires-clause-live
steal_one-requires-clause-live c =
    (c.requires.row.each c.args.j c.index.result.now c.index_mut.result.now
    (at_index c.args.thieves.now.items c.args.j c.index.result.now c.requires.low c.index.ensures)
    (at_index c.args.passes.now.items c.args.j c.index_mut.result.now
    (omega (arith, c.requires.row.len)) c.index_mut.ensures.value)).1

pub steal_one-requires-clause-fifo : goal.steal_one-requires-clause-fifo
steal_one-requires-clause-fifo c = c.requires.row.fifo c.args.j c.index.result.now
    (at_index c.args.thieves.now.items c.args.j c.index.result.now c.requires.low c.index.ensures)

pub returns-clause-row : goal.returns-clause-row
returns-clause-row c =
    let at = at_index c.args.thieves.now.items c.args.j c.index.result.now c.requires.low c.index.ensures in
    let was = (c.requires.row.each c.args.j c.index.result.now c.index_mut.result.now at
    (at_index c.args.passes.now.items c.args.j c.index_mut.result.now
    (omega (arith, c.requires.row.len)) c.index_mut.ensures.value)) in
    row_set c.args.thieves.now.items c.args.passes.now.items c.args.j c.index.result.now c.steal_one.new.pass
    c.requires.row at c.steal_one.ensures.table (c.steal_one.ensures.live ∙ was.1)
    (c.steal_one.ensures.pushed ∙ was.2)

pub returns-clause-knows : goal.returns-clause-knows
returns-clause-knows c = λ capacity places all.
    let at = at_index c.args.passes.now.items c.args.j c.index_mut.result.now
    (omega (arith, c.requires.low, c.requires.row.len)) c.index_mut.ensures.value in
    let was = all c.args.j c.index_mut.result.now at in
    let e = c.steal_one.ensures in
    knows_set capacity places c.args.passes.now.items c.args.j c.steal_one.new.pass
    (e.knows.0 ∙ was.0, e.knows.1 ∙ was.1, omega (arith, e.few (omega (arith, was.1, was.2)), was.1)) all

pub returns-clause-others : goal.returns-clause-others
returns-clause-others c = λ k apart. set_else c.args.passes.now.items c.args.j k c.steal_one.new.pass apart

pub returns-clause-place : goal.returns-clause-place
returns-clause-place c = λ capacity places all.
    let at = at_index c.args.passes.now.items c.args.j c.index_mut.result.now
    (omega (arith, c.requires.low, c.requires.row.len)) c.index_mut.ensures.value in
    subst (λ (n : ℕ). IfSome c.steal_one.result (λ place. place < n))
    ((all c.args.j c.index_mut.result.now at).0) c.steal_one.ensures.place

pub returns-clause-none : goal.returns-clause-none
returns-clause-none c =
    let low : c.args.j < length c.args.passes.now.items = omega (arith, c.requires.low, c.requires.row.len) in
    let at = at_index c.args.passes.now.items c.args.j c.index_mut.result.now low c.index_mut.ensures.value in
    none_so c.steal_one.result (none_at c.args.passes.now.items c.args.j c.index_mut.result.now c.steal_one.new.pass low
    at) c.steal_one.ensures.none

pub returns-clause-took : goal.returns-clause-took
returns-clause-took c = λ g.
    let at = at_index c.args.passes.now.items c.args.j c.index_mut.result.now
    (omega (arith, c.requires.low, c.requires.row.len)) c.index_mut.ensures.value in
    omega (
      arith,
      set_weighs (λ k (p : GreyPass). sum_by (g k) (view p).taken) c.args.passes.now.items c.args.j
          c.index_mut.result.now c.steal_one.new.pass at,
      c.steal_one.ensures.took (g c.args.j),
    )
