use Rattle.std.proofs.Common.{ℕ, List, length, arith, sym, subst, ◌∙◌}
use Rattle.golf_theory.specs.Membership.{In}
use Rattle.golf_theory.proofs.Lists.{In-get_or}
use Rattle.golf_model.specs.Graph.{node_count, sleeper_count, Least}
use Rattle.golf_marks.specs.Flags.{HasMarked}
use Rattle.golf_mark.specs.UnderWay.{Gains}
use Rattle.golf_mark.proofs.Ranges.{Least-below}
use Rattle.golf_mark.proofs.Marked.{HasMarked-same}
use Rattle.golf_mark.proofs.Turns.{slice_get-some, slice_get-none, begins, goes_on, ends}
use Rattle.golf_mark.proofs.alone.mark_alone.Goals as goal

pub loop-place-init : goal.loop-place-init
loop-place-init g c =
    let roots = c.args.graph.now.roots in
    begins c.args.graph.now c.in_ok-work.work c.claim_all.new.self
    (omega (arith, c.in_ok-work.ensures.places, c.nodes-nodes.ensures.count, c.sleepers-sleepers.ensures))
    c.in_ok-work.ensures.order
    (subst (λ (l : List ℕ). Gains (λ p. In p l) c.in_ok-work.work c.claim_all.new.self) c.roots.ensures
    c.claim_all.ensures.gains)
    (λ p h. c.claim_all.ensures.there p (subst (λ (l : List ℕ). In p l) (sym c.roots.ensures) h))

pub scan-requires-clause-place : goal.scan-requires-clause-place
scan-requires-clause-place g c =
    let w = c.loop-place.work in
    let at = slice_get-some w.order c.loop-place.turn c.in-Some.place (sym c.in-Some.ensures.value) in
    Least-below c.args.graph.now c.nodes-nodes.ensures.in_range c.in-Some.place
    (c.loop-place.invariant.sound c.in-Some.place
    (subst (λ (p : ℕ). In p w.order) at.1 (In-get_or w.order c.loop-place.turn 0 at.0)))

pub loop-place-smaller : goal.loop-place-smaller
loop-place-smaller g c =
    let at = slice_get-some c.loop-place.work.order c.loop-place.turn c.in-Some.place (sym c.in-Some.ensures.value) in
    omega (arith, at.0, c.in-Some.ensures.within, c.scan.ensures.gains.places)

pub loop-place-preserved : goal.loop-place-preserved
loop-place-preserved g c =
    let at = slice_get-some c.loop-place.work.order c.loop-place.turn c.in-Some.place (sym c.in-Some.ensures.value) in
    goes_on c.args.graph.now c.loop-place.work c.scan.new.work c.loop-place.turn c.in-Some.place at.0 at.1
    c.loop-place.invariant c.scan.ensures.gains c.scan.ensures.scanned

pub returns : goal.returns
returns g c =
    let graph = c.args.graph.now in
    let w = c.loop-place.work in
    let u = c.loop-place.invariant in
    let sheet = c.in_ok-sheet.sheet in
    let all = slice_get-none w.order c.loop-place.turn (sym c.in_default.ensures.value) in
    HasMarked-same (node_count graph) (length sheet.awake) (sleeper_count graph) (λ p. In p w.order)
    (Least graph) c.into_marked.result (c.in_ok-sheet.ensures.awake ∙ c.sleepers-sleepers.ensures)
    (λ p. (u.sound p, ends graph w c.loop-place.turn all u p))
    (subst (λ (n : ℕ). HasMarked n (length sheet.awake) (λ p. In p w.order) c.into_marked.result)
    (c.in_ok-sheet.ensures.flags ∙ c.nodes-nodes.ensures.count) c.into_marked.ensures)
