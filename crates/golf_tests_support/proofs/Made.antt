-- A graph under construction gains a node, and a sleeper.
-- For: `node` and `sleeper`, src/graph_maker.rt; `IsInMaking`, specs/UnfinishedGraphs.antt
-- By: induction over the list of objects of the graph
use Rattle.std.proofs.Common.{◌≡◌, ℕ, ◌+◌, ◌<◌, ◌≤◌, List, [], ◌∷◌, ◌++◌, length, Bool, subst, sym, arith}
use Rattle.std.proofs.lemmas.List.{length_push}
use Rattle.golf_theory.specs.Membership.{Every}
use Rattle.golf_theory.proofs.Lists.{Every-push, Every-weaker}
use Rattle.golf_base.specs.declared.ids.ObjectId.{ObjectId}
use Rattle.golf_model.specs.declared.graph.GraphParts.{GraphParts}
use Rattle.golf_model.specs.Sleepers.{Sleeper}
use Rattle.golf_model.specs.Graph.{NumbersRise}
use Rattle.golf_tests_support.specs.UnfinishedGraphs.{NodesBelow, IsInMaking}

pub NumbersRise-push : (k : ℕ) (os : List ObjectId) (o : ObjectId) → k ≤ o.0 → Every (λ x. x.0 < o.0) os
    → NumbersRise k os → NumbersRise k (os ++ o ∷ [])
NumbersRise-push k [] o low below r = (low, tt)
NumbersRise-push k (x ∷ os) o low below r = (r.0, NumbersRise-push (x.0 + 1) os o (omega (arith, below.0)) below.1 r.1)

pub below-push : (os : List ObjectId) (o : ObjectId) → o.0 ≡ length os → Every (λ x. x.0 < length os) os
    → Every (λ x. x.0 < length (os ++ o ∷ [])) (os ++ o ∷ [])
below-push os o e below =
    let more = length_push os o in
    Every-push (λ x. x.0 < length (os ++ o ∷ [])) os o
    (Every-weaker (λ x. x.0 < length os) (λ x. x.0 < length (os ++ o ∷ []))
    (λ x h. omega (arith, h, more)) os below) (omega (arith, e, more))

-- one more node
pub IsInMaking-node : (count : ℕ) (g : GraphParts) (o : ObjectId) (row : List ℕ) (f : Bool) → IsInMaking count g
    → o.0 ≡ length g.children → NodesBelow count row
    → IsInMaking count (record {
      numbers = g.numbers ++ o ∷ [];
      children = g.children ++ row ∷ [];
      finalised = g.finalised ++ f ∷ [];
      roots = g.roots;
      sleepers = g.sleepers;
    })
IsInMaking-node count g o row f m number below =
    let numbers = length_push g.numbers o in
    let children = length_push g.children row in
    let next : o.0 ≡ length g.numbers = omega (arith, m.numbered) in
    record {
      small = m.small;
      numbered = omega (arith, numbers, children, m.numbered);
      flagged = omega (arith, length_push g.finalised f, children, m.flagged);
      rising = NumbersRise-push 0 g.numbers o (omega arith)
          (subst (λ (n : ℕ). Every (λ x. x.0 < n) g.numbers) (sym next) m.below) m.rising;
      below = below-push g.numbers o next m.below;
      children = Every-push (NodesBelow count) g.children row m.children below;
      roots = m.roots;
      waits = m.waits;
      references = m.references;
    }

-- one more sleeper
pub IsInMaking-sleeper : (count : ℕ) (g : GraphParts) (x : Sleeper) → IsInMaking count g → NodesBelow count x.waits
    → NodesBelow count x.references → IsInMaking count (record g { sleepers = g.sleepers ++ x ∷ [] })
IsInMaking-sleeper count g x m waits references = record {
  small = m.small;
  numbered = m.numbered;
  flagged = m.flagged;
  rising = m.rising;
  below = m.below;
  children = m.children;
  roots = m.roots;
  waits = Every-push (λ (y : Sleeper). NodesBelow count y.waits) g.sleepers x m.waits waits;
  references = Every-push (λ (y : Sleeper). NodesBelow count y.references) g.sleepers x m.references references;
}
