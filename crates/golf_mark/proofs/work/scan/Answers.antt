use Rattle.std.proofs.Common.{◌≡◌, ℕ, ◌+◌, ◌-◌, ◌<◌, List, arith, sym, subst}
use Rattle.golf_theory.specs.Membership.{In, Every}
use Rattle.golf_theory.proofs.Lists.{Every-from, Every-weaker}
use Rattle.golf_model.specs.Graph.{node_count, children_of, sleeper_references, Justifies}
use Rattle.golf_mark.specs.UnderWay.{IsScanned}
use Rattle.golf_mark.proofs.Ranges.{children-nodes, references-nodes, waits-below}
use Rattle.golf_mark.proofs.Gaining.{Gains-trans, Gains-into, Gains-keeps}
use Rattle.golf_mark.proofs.Scans.{scanned_node, scanned_sleeper}
use Rattle.golf_mark.proofs.work.scan.Goals as goal

pub claim_all-requires : goal.claim_all-requires
claim_all-requires c =
    let g = c.args.graph.now in
    subst (λ (l : List ℕ). Every (λ p. p < c.args.work.now.places) l) (sym c.children.ensures)
    (Every-weaker (λ p. p < node_count g) (λ p. p < c.args.work.now.places) (λ p h. omega (arith, h))
    (children_of g c.args.place) (children-nodes g c.nodes-nodes.ensures.in_range c.args.place))

pub awaken-requires-clause-room : goal.awaken-requires-clause-room
awaken-requires-clause-room c = Every-from (λ s. c.nodes-nodes.result + s < c.claim_all.new.self.places) c.of.result.now
    (λ s h.
    let m = (c.requires.waiters.members c.args.place s).0 (subst (λ (l : List ℕ). In s l) c.of.ensures h) in
    omega (arith, m.0, c.claim_all.ensures.gains.places, c.nodes-nodes.ensures.count))

pub claim_all-requires-else-place-nodes : goal.claim_all-requires-else-place-nodes
claim_all-requires-else-place-nodes c =
    let g = c.args.graph.now in
    let s : ℕ = c.args.place - c.nodes-nodes.result in
    subst (λ (l : List ℕ). Every (λ p. p < c.args.work.now.places) l) (sym c.references.ensures)
    (Every-weaker (λ p. p < node_count g) (λ p. p < c.args.work.now.places) (λ p h. omega (arith, h))
    (sleeper_references g s) (references-nodes g c.nodes-nodes.ensures.in_range s))

pub returns-then-place-nodes-clause-gains : goal.returns-then-place-nodes-clause-gains
returns-then-place-nodes-clause-gains c =
    let g = c.args.graph.now in
    let p : ℕ = c.args.place in
    let Kind : ℕ → Type 0 = Justifies g p in
    Gains-trans Kind c.args.work.now c.claim_all.new.self c.awaken.new.self
    (Gains-into (λ q. In q c.children.result.now) Kind c.args.work.now c.claim_all.new.self
    (λ q h. Justifies.child (subst (λ (l : List ℕ). In q l) c.children.ensures h)) c.claim_all.ensures.gains)
    (Gains-into (λ q. (s : ℕ) × (q ≡ c.nodes-nodes.result + s) × In s c.of.result.now) Kind c.claim_all.new.self
    c.awaken.new.self
    (λ q (s, e, h). Justifies.wakes s (omega (arith, e, c.nodes-nodes.ensures.count))
    ((c.requires.waiters.members p s).0 (subst (λ (l : List ℕ). In s l) c.of.ensures h)).1)
    c.awaken.ensures.gains)

pub returns-then-place-nodes-clause-scanned : goal.returns-then-place-nodes-clause-scanned
returns-then-place-nodes-clause-scanned c =
    let g = c.args.graph.now in
    let p : ℕ = c.args.place in
    let low : p < node_count g = omega (arith, c.nodes-nodes.ensures.count) in
    scanned_node g c.awaken.new.self.order p low
    (λ q h. Gains-keeps _ c.claim_all.new.self c.awaken.new.self q c.awaken.ensures.gains
    (c.claim_all.ensures.there q (subst (λ (l : List ℕ). In q l) (sym c.children.ensures) h)))
    (λ s h. subst (λ (n : ℕ). In (n + s) c.awaken.new.self.order) c.nodes-nodes.ensures.count
    (c.awaken.ensures.there s (subst (λ (l : List ℕ). In s l) (sym c.of.ensures)
    ((c.requires.waiters.members p s).1 (waits-below g s p h, h)))))

pub returns-else-place-nodes-clause-gains : goal.returns-else-place-nodes-clause-gains
returns-else-place-nodes-clause-gains c =
    let g = c.args.graph.now in
    let s : ℕ = c.args.place - c.nodes-nodes.result in
    let is : c.args.place ≡ node_count g + s = omega (arith, c.nodes-nodes.ensures.count) in
    Gains-into (λ q. In q c.references.result.now)
    (Justifies g c.args.place) c.args.work.now c.claim_all-else-place-nodes.new.self
    (λ q h. Justifies.refers s is (subst (λ (l : List ℕ). In q l) c.references.ensures h))
    c.claim_all-else-place-nodes.ensures.gains

pub returns-else-place-nodes-clause-scanned : goal.returns-else-place-nodes-clause-scanned
returns-else-place-nodes-clause-scanned c =
    let g = c.args.graph.now in
    let s : ℕ = c.args.place - c.nodes-nodes.result in
    let marked = c.claim_all-else-place-nodes.new.self.order in
    let is : c.args.place ≡ node_count g + s = omega (arith, c.nodes-nodes.ensures.count) in
    subst (λ (p : ℕ). IsScanned g marked p) (sym is)
    (scanned_sleeper g marked s c.nodes-nodes.ensures.in_range
    (λ q h. c.claim_all-else-place-nodes.ensures.there q
    (subst (λ (l : List ℕ). In q l) (sym c.references.ensures) h)))
