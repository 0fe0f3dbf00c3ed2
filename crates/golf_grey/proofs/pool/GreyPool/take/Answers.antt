use Rattle.std.proofs.Common.{length, ap, sym, ◌∙◌, arith}
use Rattle.crossbeam_deque.specs.Handles.{worker_view}
use Rattle.std.specs.Prelude.{sum_by}
use Rattle.std.proofs.lemmas.List.Sums.{sum_by_push}
use Rattle.golf_grey.specs.declared.rule.GreyView.{GreyView}
use Rattle.golf_grey.proofs.Rows.{list_weighs, taken_within}
use Rattle.golf_grey.proofs.Steps.{takes, finds}
use Rattle.golf_grey.proofs.pool.GreyPool.take.Goals as goal

pub pop_as-requires-clause-fifo : goal.pop_as-requires-clause-fifo
pop_as-requires-clause-fifo c = λ _. takes _ _ c.args.hand.now.live

pub pop_as-requires-clause-empty : goal.pop_as-requires-clause-empty
pop_as-requires-clause-empty c = finds _ _

pub returns-in-Some-clause-few : goal.returns-in-Some-clause-few
returns-in-Some-clause-few c =
    let h = c.requires in
    let took = c.in-Some.ensures.rule in
    taken_within c.args.self.now.thieves.items c.args.self.now.capacity c.args.self.now.places c.args.hand.now.number
    (worker_view c.pop_as.new.self).taken c.args.hand.now.passes.items h.row h.low
    (omega (arith, took.few, ap (λ (u : GreyView). length u.taken) took.view, h.knows.1)) h.row_knows h.unused

pub returns-clause-hand : goal.returns-clause-hand
returns-clause-hand c =
    let h = c.requires in
    let same = c.pop_as.ensures.same in
    let view = c.in_default.ensures.rule.0 in
    let e = c.steal_all.ensures in record {
      row = e.row;
      low = h.low;
      own = λ t at. same.0.0 ∙ h.own t at;
      parts = omega (arith, ap (λ (u : GreyView). u.parts) view, h.parts);
      pushers = ap (λ (u : GreyView). u.pushers) view ∙ h.pushers;
      knows = (ap (λ (u : GreyView). u.places) view ∙ h.knows.0, ap (λ (u : GreyView). u.capacity) view ∙ h.knows.1);
      index = omega (arith, same.1, h.index, ap (λ (u : GreyView). length u.pushed) view);
      count = omega (arith, h.count, ap (λ (u : GreyView). length u.pushed) view);
      room = omega (arith, h.room, same.0.3);
      few = omega (arith, h.few, ap (λ (u : GreyView). length u.taken) view);
      row_knows = e.knows _ _ h.row_knows;
      unused = λ p at. h.unused p (sym e.unused ∙ at);
      no_owner = h.no_owner;
      owner_room = h.owner_room;
      no_row = h.no_row;
      row_room = h.row_room;
    }

pub returns-clause-place : goal.returns-clause-place
returns-clause-place c = c.steal_all.ensures.place c.args.self.now.capacity c.args.self.now.places c.requires.row_knows

pub returns-clause-few : goal.returns-clause-few
returns-clause-few c =
    let h = c.requires in
    let e = c.steal_all.ensures in
    taken_within c.args.self.now.thieves.items c.args.self.now.capacity c.args.self.now.places c.args.hand.now.number
    (worker_view c.pop_as.new.self).taken c.steal_all.new.passes.items e.row h.low
    (omega (arith, h.few, ap (λ (u : GreyView). length u.taken) c.in_default.ensures.rule.0)) (e.knows _ _ h.row_knows)
    (λ p at. h.unused p (sym e.unused ∙ at))

pub returns-in-Some-clause-from : goal.returns-in-Some-clause-from
returns-in-Some-clause-from c = (
  c.args.hand.now.number,
  c.requires.low,
  λ g. omega (
    arith,
    ap (λ (u : GreyView). sum_by (g c.args.hand.now.number) u.taken) c.in-Some.ensures.rule.view,
    sum_by_push (g c.args.hand.now.number) (worker_view c.args.hand.now.own).taken c.in-Some.place,
  ),
)

pub returns-in-Some-clause-list : goal.returns-in-Some-clause-list
returns-in-Some-clause-list c = λ f.
    let old = worker_view c.args.hand.now.own in
    let new = worker_view c.pop_as.new.self in
    let passes = c.args.hand.now.passes.items in
    omega (
      arith,
      list_weighs f new.taken passes,
      list_weighs f old.taken passes,
      ap (λ (u : GreyView). sum_by f u.taken) c.in-Some.ensures.rule.view,
      sum_by_push f old.taken c.in-Some.place,
    )

pub returns-clause-list : goal.returns-clause-list
returns-clause-list c = λ f.
    let old = worker_view c.args.hand.now.own in
    let new = worker_view c.pop_as.new.self in
    omega (
      arith,
      list_weighs f new.taken c.steal_all.new.passes.items,
      list_weighs f old.taken c.args.hand.now.passes.items,
      ap (λ (u : GreyView). sum_by f u.taken) c.in_default.ensures.rule.0,
      c.steal_all.ensures.took.2 (λ _. f),
    )
