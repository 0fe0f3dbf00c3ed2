-- Places that are justified are places of the graph.
-- For: `Justifies` and `Least`, golf_model/specs/Graph.antt
-- By: induction over the list of rows, over the list of sleepers, and over how a place is reached
use Rattle.std.proofs.Common.{ℕ, zero, suc, ◌+◌, ◌<◌, List, [], ◌∷◌, length, arith}
use Rattle.std.specs.Prelude.{slice_get, unwrap_or, option_map}
use Rattle.golf_theory.specs.Membership.{In, Every}
use Rattle.golf_theory.proofs.Lists.{Every-at}
use Rattle.golf_theory.proofs.Derivations.{Reached-least}
use Rattle.golf_model.specs.declared.graph.GraphParts.{GraphParts}
use Rattle.golf_model.specs.Sleepers.{Sleeper}
use Rattle.golf_model.specs.Graph.{node_count, sleeper_count, children_of, sleeper_waits, sleeper_references, Justifies}
use Rattle.golf_model.specs.Graph.{Least, AreNodes, IsInRange}

-- the list of a row, and of a sleeper, has what each such list has
module _ (P : ℕ → Type 0) where
  of_row : (rows : List (List ℕ)) (k : ℕ) → Every (λ row. Every P row) rows → Every P (unwrap_or (slice_get rows k) [])
  of_row [] k a = tt
  of_row (row ∷ rows) zero a = a.0
  of_row (row ∷ rows) (suc k) a = of_row rows k a.1

  of_sleeper : (f : Sleeper → List ℕ) (xs : List Sleeper) (s : ℕ) → Every (λ x. Every P (f x)) xs
      → Every P (unwrap_or (option_map f (slice_get xs s)) [])
  of_sleeper f [] s a = tt
  of_sleeper f (x ∷ xs) zero a = a.0
  of_sleeper f (x ∷ xs) (suc s) a = of_sleeper f xs s a.1

-- past the last one it is empty
pub row_past : (rows : List (List ℕ)) (k p : ℕ) → In p (unwrap_or (slice_get rows k) []) → k < length rows
row_past [] k p h = absurd h
row_past (row ∷ rows) zero p h = omega arith
row_past (row ∷ rows) (suc k) p h = omega (arith, row_past rows k p h)

sleeper_past : (f : Sleeper → List ℕ) (xs : List Sleeper) (s p : ℕ)
    → In p (unwrap_or (option_map f (slice_get xs s)) []) → s < length xs
sleeper_past f [] s p h = absurd h
sleeper_past f (x ∷ xs) zero p h = omega arith
sleeper_past f (x ∷ xs) (suc s) p h = omega (arith, sleeper_past f xs s p h)

pub children-nodes : (g : GraphParts) → IsInRange g → (k : ℕ) → AreNodes g (children_of g k)
children-nodes g fit k = of_row (λ p. p < node_count g) g.children k fit.children

pub waits-nodes : (g : GraphParts) → IsInRange g → (s : ℕ) → AreNodes g (sleeper_waits g s)
waits-nodes g fit s = of_sleeper (λ p. p < node_count g) (λ x. x.waits) g.sleepers s fit.waits

pub references-nodes : (g : GraphParts) → IsInRange g → (s : ℕ) → AreNodes g (sleeper_references g s)
references-nodes g fit s = of_sleeper (λ p. p < node_count g) (λ x. x.references) g.sleepers s fit.references

-- who waits is a sleeper
pub waits-below : (g : GraphParts) (s p : ℕ) → In p (sleeper_waits g s) → s < sleeper_count g
waits-below g s p h = sleeper_past (λ x. x.waits) g.sleepers s p h

pub Justifies-below : (g : GraphParts) → IsInRange g → (q p : ℕ) → Justifies g q p → p < node_count g + sleeper_count g
Justifies-below g fit q p (Justifies.child i) =
    let b = Every-at (λ x. x < node_count g) (children_of g q) p (children-nodes g fit q) i in omega (arith, b)
Justifies-below g fit q p (Justifies.wakes s e i) = omega (arith, waits-below g s q i)
Justifies-below g fit q p (Justifies.refers s e i) =
    let b = Every-at (λ x. x < node_count g) (sleeper_references g s) p (references-nodes g fit s) i in omega (arith, b)

pub Least-below : (g : GraphParts) → IsInRange g → (p : ℕ) → Least g p → p < node_count g + sleeper_count g
Least-below g fit p d = Reached-least (λ x. In x g.roots) (Justifies g) (λ x. x < node_count g + sleeper_count g)
    (λ x h. let b = Every-at (λ y. y < node_count g) g.roots x fit.roots h in omega (arith, b))
    (λ q x _ j. Justifies-below g fit q x j) p d
