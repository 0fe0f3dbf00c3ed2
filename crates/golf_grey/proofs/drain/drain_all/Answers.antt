use Rattle.std.proofs.Common.{◌++◌, [], length, length-append, refl, ap, sym, arith}
use Rattle.std.specs.Prelude.{sum_by, replicate}
use Rattle.golf_theory.proofs.Sums.{total_length}
use Rattle.crossbeam_deque.specs.Handles.{worker_view}
use Rattle.golf_grey.specs.Hands.{Owner, left_in, pushed_in, taken_in}
use Rattle.golf_grey.proofs.Stages.{at_end, longer, push_at}
use Rattle.golf_grey.proofs.Leaving.{left_append, left_from, length_same}
use Rattle.golf_grey.proofs.drain.drain_all.Goals as goal

pub loop-owner-init : goal.loop-owner-init
loop-owner-init c = (
  c.requires.owners,
  c.requires.room,
  ([], ap length (sym c.requires.empty), λ g. omega (arith, ap (left_in g []) c.requires.empty)),
)

pub drain-requires-clause-flavor : goal.drain-requires-clause-flavor
drain-requires-clause-flavor c = (c.loop-owner.invariant.0 (length c.pop.new.self.items) c.in-Some.owner
    (at_end c.loop-owner.rest.items c.pop.new.self.items c.in-Some.owner _ c.in-Some.ensures.items refl)).0

pub drain-requires-clause-all : goal.drain-requires-clause-all
drain-requires-clause-all c = (c.loop-owner.invariant.0 (length c.pop.new.self.items) c.in-Some.owner
    (at_end c.loop-owner.rest.items c.pop.new.self.items c.in-Some.owner _ c.in-Some.ensures.items refl)).1

pub drain-requires-clause-room : goal.drain-requires-clause-room
drain-requires-clause-room c =
    omega (
      arith,
      c.loop-owner.invariant.1,
      total_length (worker_view c.in-Some.owner).pushed,
      push_at (λ j (w : Owner). sum_by (λ _. 1) (worker_view w).pushed) c.pop.new.self.items c.in-Some.owner
          (length c.pop.new.self.items) refl,
      ap (pushed_in (λ _ _. 1)) c.in-Some.ensures.items,
    )

pub loop-owner-preserved : goal.loop-owner-preserved
loop-owner-preserved c =
    let i = c.loop-owner.invariant in
    let e = c.drain.ensures in
    let n = length c.pop.new.self.items in
    let more = e.left.0 in
    let from = replicate (length more) n in (
      (λ j w at. i.0 j w (longer c.loop-owner.rest.items c.pop.new.self.items c.in-Some.owner c.in-Some.ensures.items j
          w at)),
      omega (
        arith,
        i.1,
        e.room,
        total_length (worker_view c.in-Some.owner).pushed,
        push_at (λ j (w : Owner). sum_by (λ _. 1) (worker_view w).pushed) c.pop.new.self.items c.in-Some.owner n refl,
        ap (pushed_in (λ _ _. 1)) c.in-Some.ensures.items,
      ),
      (
        i.2.0 ++ from,
        omega (
          arith,
          length-append i.2.0 from,
          length-append c.loop-owner.left.items more,
          ap length e.left.1,
          i.2.1,
          length_same n (length more),
        ),
        λ g. omega (
          arith,
          i.2.2 g,
          e.left.2 (g n),
          ap (left_in g (i.2.0 ++ from)) e.left.1,
          left_append g i.2.0 c.loop-owner.left.items from more i.2.1,
          left_from g n more,
          push_at (λ j (w : Owner). sum_by (g j) (worker_view w).pushed) c.pop.new.self.items c.in-Some.owner n refl,
          ap (pushed_in g) c.in-Some.ensures.items,
          push_at (λ j (w : Owner). sum_by (g j) (worker_view w).taken) c.pop.new.self.items c.in-Some.owner n refl,
          ap (taken_in g) c.in-Some.ensures.items,
        ),
      ),
    )
