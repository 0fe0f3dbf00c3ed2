use Rattle.std.proofs.Common.{◌<◌, ◌∙◌, ◌%◌, ℕ, List, get_or, set, take, sym, subst, ap, arith}
use Rattle.std.proofs.lemmas.List.{take_more, take_all, length-set}
use Rattle.golf_theory.specs.Membership.{In}
use Rattle.golf_theory.proofs.Lists.{In-get_or, Every-at}
use Rattle.golf_theory.proofs.Sums.{at_index}
use Rattle.golf_model.specs.declared.graph.GraphParts.{GraphParts}
use Rattle.golf_model.specs.Graph.{node_count}
use Rattle.golf_marks.specs.Places.{place_count}
use Rattle.golf_mark.specs.MergedMarkers.{IsRooted}
use Rattle.golf_mark.proofs.Readying.{all_fresh_set, parts_set, rooted_set}
use Rattle.golf_mark.proofs.deal.deal.Goals as goal

pub index_mut-marker-requires : goal.index_mut-marker-requires
index_mut-marker-requires c = omega (
  arith,
  c.len-count.ensures,
  c.args.markers.ok.0,
  c.loop-i.invariant.size,
  c.loop-i.markers.ok.0,
  c.requires.some,
)

pub seed-requires-clause-fits : goal.seed-requires-clause-fits
seed-requires-clause-fits c = (c.loop-i.invariant.fresh (c.loop-i.i % c.len-count.result) c.index_mut-marker.result.now
    (at_index c.loop-i.markers.items (c.loop-i.i % c.len-count.result) c.index_mut-marker.result.now
    (omega (arith, c.len-count.ensures, c.args.markers.ok.0, c.loop-i.invariant.size, c.requires.some))
    c.index_mut-marker.ensures.value)).fits

pub seed-requires-clause-place : goal.seed-requires-clause-place
seed-requires-clause-place c =
    let root : ℕ = get_or c.roots-roots.result.now c.loop-i.i 0 in
    let i : In root c.args.graph.now.roots =
    subst (λ (l : List ℕ). In root l) c.roots-roots.ensures
    (In-get_or c.roots-roots.result.now c.loop-i.i 0 (omega arith)) in
    let low = Every-at (λ p. p < node_count c.args.graph.now) c.args.graph.now.roots root
    c.nodes-nodes.ensures.in_range.roots i in
    omega (arith, low, ap place_count c.requires.graph)

pub seed-requires-clause-root : goal.seed-requires-clause-root
seed-requires-clause-root c =
    let root : ℕ = get_or c.roots-roots.result.now c.loop-i.i 0 in
    subst (λ (d : GraphParts). In root d.roots) (sym c.requires.graph)
    (subst (λ (l : List ℕ). In root l) c.roots-roots.ensures
    (In-get_or c.roots-roots.result.now c.loop-i.i 0 (omega arith)))

pub loop-i-preserved : goal.loop-i-preserved
loop-i-preserved c =
    let marks = c.args.marks.now in
    let pool = c.args.pool.now in
    let ms = c.loop-i.markers.items in
    let i : ℕ = c.loop-i.i in
    let j : ℕ = i % c.len-count.result in
    let roots = c.roots-roots.result.now in
    let root : ℕ = get_or roots i 0 in
    let a = c.index_mut-marker.result.now in
    let b = c.seed.new.marker in
    let at = at_index ms j a (omega (
      arith,
      c.len-count.ensures,
      c.args.markers.ok.0,
      c.loop-i.invariant.size,
      c.requires.some,
    )) c.index_mut-marker.ensures.value in
    record {
      size = length-set ms j b ∙ c.loop-i.invariant.size;
      parts = parts_set marks pool ms root j a b at c.seed.ensures ∙ c.loop-i.invariant.parts;
      fresh = all_fresh_set marks pool ms root j a b at c.seed.ensures c.loop-i.invariant.fresh;
      rooted = subst (λ (l : List ℕ). IsRooted l (set ms j b)) (sym (take_more roots i 0 (omega arith)))
          (rooted_set marks pool (take i roots) ms root j a b at c.seed.ensures c.loop-i.invariant.rooted);
    }

pub returns-clause-rooted : goal.returns-clause-rooted
returns-clause-rooted c = subst (λ (l : List ℕ). IsRooted l c.loop-i.markers.items)
    (take_all c.loop-i.i c.roots-roots.result.now (omega arith) ∙ c.roots-roots.ensures) c.loop-i.invariant.rooted
