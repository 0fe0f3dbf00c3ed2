use Rattle.std.proofs.Common.{◌≡◌, ℕ, ◌+◌, ◌-◌, ◌<◌, inr, List, arith, sym, subst, ap}
use Rattle.golf_theory.specs.Membership.{In, Every}
use Rattle.golf_theory.proofs.Lists.{Every-from, Every-weaker}
use Rattle.golf_model.specs.declared.graph.GraphParts.{GraphParts}
use Rattle.golf_model.specs.Graph.{node_count, children_of, sleeper_references, Justifies}
use Rattle.golf_marks.specs.Places.{place_count, IsJustified}
use Rattle.golf_marks.specs.Seats.{graph_in, known}
use Rattle.golf_mark.specs.UnderWay.{IsScanned}
use Rattle.golf_mark.proofs.Ranges.{children-nodes, references-nodes, waits-below}
use Rattle.golf_mark.proofs.Scans.{scanned_node, scanned_sleeper}
use Rattle.golf_mark.proofs.Winning.{Wins-trans}
use Rattle.golf_mark.proofs.scanner.scan.Goals as goal

pub claim_all-requires-clause-places : goal.claim_all-requires-clause-places
claim_all-requires-clause-places c =
    let g = c.args.graph.now in
    let d = graph_in c.args.marks.now in
    subst (λ (l : List ℕ). Every (λ p. p < place_count d) l) (sym c.children.ensures)
    (Every-weaker (λ p. p < node_count g) (λ p. p < place_count d)
    (λ p h. omega (arith, h, ap place_count c.requires.graph)) (children_of g c.args.place)
    (children-nodes g c.nodes-nodes.ensures.in_range c.args.place))

pub claim_all-requires-clause-justified : goal.claim_all-requires-clause-justified
claim_all-requires-clause-justified c =
    let d = graph_in c.args.marks.now in
    let old = known c.args.scanner.now.seat in
    subst (λ (x : GraphParts). Every (IsJustified x old) c.children.result.now) (sym c.requires.graph)
    (Every-from (IsJustified c.args.graph.now old) c.children.result.now
    (λ p h. inr (
      c.args.place,
      c.requires.known,
      Justifies.child (subst (λ (l : List ℕ). In p l) c.children.ensures h),
    )))

pub awaken-requires-clause-places : goal.awaken-requires-clause-places
awaken-requires-clause-places c = Every-from
    (λ s. c.nodes-nodes.result + s < place_count (graph_in c.args.marks.now)) c.of.result.now (λ s h.
    let m = (c.requires.waiters.members c.args.place s).0 (subst (λ (l : List ℕ). In s l) c.of.ensures h) in
    omega (arith, m.0, ap place_count c.requires.graph, c.nodes-nodes.ensures.count))

pub awaken-requires-clause-justified : goal.awaken-requires-clause-justified
awaken-requires-clause-justified c =
    let g = c.args.graph.now in
    let now = known c.claim_all.new.scanner.seat in
    subst (λ (x : GraphParts). Every (λ s. IsJustified x now (c.nodes-nodes.result + s)) c.of.result.now)
    (sym c.requires.graph)
    (Every-from (λ s. IsJustified g now (c.nodes-nodes.result + s)) c.of.result.now (λ s h.
    let m = (c.requires.waiters.members c.args.place s).0 (subst (λ (l : List ℕ). In s l) c.of.ensures h) in
    inr (
      c.args.place,
      c.claim_all.ensures.wins.known c.args.place c.requires.known,
      Justifies.wakes s (omega (arith, c.nodes-nodes.ensures.count)) m.1,
    )))

pub claim_all-requires-else-place-nodes-clause-places : goal.claim_all-requires-else-place-nodes-clause-places
claim_all-requires-else-place-nodes-clause-places c =
    let g = c.args.graph.now in
    let d = graph_in c.args.marks.now in
    let s : ℕ = c.args.place - c.nodes-nodes.result in
    subst (λ (l : List ℕ). Every (λ p. p < place_count d) l) (sym c.references.ensures)
    (Every-weaker (λ p. p < node_count g) (λ p. p < place_count d)
    (λ p h. omega (arith, h, ap place_count c.requires.graph)) (sleeper_references g s)
    (references-nodes g c.nodes-nodes.ensures.in_range s))

pub claim_all-requires-else-place-nodes-clause-justified : goal.claim_all-requires-else-place-nodes-clause-justified
claim_all-requires-else-place-nodes-clause-justified c =
    let g = c.args.graph.now in
    let old = known c.args.scanner.now.seat in
    let s : ℕ = c.args.place - c.nodes-nodes.result in
    let is : c.args.place ≡ node_count g + s = omega (arith, c.nodes-nodes.ensures.count) in
    subst (λ (x : GraphParts). Every (IsJustified x old) c.references.result.now) (sym c.requires.graph)
    (Every-from (IsJustified g old) c.references.result.now
    (λ p h. inr (
      c.args.place,
      c.requires.known,
      Justifies.refers s is (subst (λ (l : List ℕ). In p l) c.references.ensures h),
    )))

pub returns-then-place-nodes-clause-wins : goal.returns-then-place-nodes-clause-wins
returns-then-place-nodes-clause-wins c =
    Wins-trans c.args.marks.now c.args.scanner.now c.claim_all.new.scanner c.awaken.new.scanner c.claim_all.ensures.wins
    c.awaken.ensures.wins

pub returns-then-place-nodes-clause-scanned : goal.returns-then-place-nodes-clause-scanned
returns-then-place-nodes-clause-scanned c =
    let g = c.args.graph.now in
    let p : ℕ = c.args.place in
    let low : p < node_count g = omega (arith, c.nodes-nodes.ensures.count) in
    scanned_node g (known c.awaken.new.scanner.seat) p low
    (λ q h. c.awaken.ensures.wins.known q (c.claim_all.ensures.there q
    (subst (λ (l : List ℕ). In q l) (sym c.children.ensures) h)))
    (λ s h. subst (λ (n : ℕ). In (n + s) (known c.awaken.new.scanner.seat)) c.nodes-nodes.ensures.count
    (c.awaken.ensures.there s (subst (λ (l : List ℕ). In s l) (sym c.of.ensures)
    ((c.requires.waiters.members p s).1 (waits-below g s p h, h)))))

pub returns-else-place-nodes-clause-scanned : goal.returns-else-place-nodes-clause-scanned
returns-else-place-nodes-clause-scanned c =
    let g = c.args.graph.now in
    let s : ℕ = c.args.place - c.nodes-nodes.result in
    let now = known c.claim_all-else-place-nodes.new.scanner.seat in
    let is : c.args.place ≡ node_count g + s = omega (arith, c.nodes-nodes.ensures.count) in
    subst (λ (p : ℕ). IsScanned g now p) (sym is)
    (scanned_sleeper g now s c.nodes-nodes.ensures.in_range
    (λ q h. c.claim_all-else-place-nodes.ensures.there q
    (subst (λ (l : List ℕ). In q l) (sym c.references.ensures) h)))
