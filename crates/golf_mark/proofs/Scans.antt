-- A place is scanned once all that it justifies is in the list.
-- For: `scan`, src/work.rt; `IsScanned`, specs/UnderWay.antt
-- By: cases of why a place is justified; no induction
use Rattle.std.proofs.Common.{◌≡◌, ℕ, ◌+◌, ◌<◌, List, subst, sym, arith}
use Rattle.golf_theory.specs.Membership.{In}
use Rattle.golf_theory.proofs.Lists.{Every-at}
use Rattle.golf_model.specs.declared.graph.GraphParts.{GraphParts}
use Rattle.golf_model.specs.Graph.{node_count, children_of, sleeper_waits, sleeper_references, Justifies, IsInRange}
use Rattle.golf_mark.specs.UnderWay.{IsScanned}
use Rattle.golf_mark.proofs.Ranges.{row_past, waits-nodes}

pub scanned_node : (g : GraphParts) (marked : List ℕ) (p : ℕ) → p < node_count g
    → ((q : ℕ) → In q (children_of g p) → In q marked)
    → ((s : ℕ) → In p (sleeper_waits g s) → In (node_count g + s) marked)
    → IsScanned g marked p
scanned_node g marked p low children sleepers q (Justifies.child i) = children q i
scanned_node g marked p low children sleepers q (Justifies.wakes s e i) =
    subst (λ (y : ℕ). In y marked) (sym e) (sleepers s i)
scanned_node g marked p low children sleepers q (Justifies.refers s e i) = absurd (omega arith)

pub scanned_sleeper : (g : GraphParts) (marked : List ℕ) (s : ℕ) → IsInRange g
    → ((q : ℕ) → In q (sleeper_references g s) → In q marked)
    → IsScanned g marked (node_count g + s)
scanned_sleeper g marked s fit references q (Justifies.child i) =
    absurd (omega (arith, row_past g.children (node_count g + s) q i))
scanned_sleeper g marked s fit references q (Justifies.wakes t e i) =
    let b = Every-at (λ x. x < node_count g) (sleeper_waits g t) (node_count g + s) (waits-nodes g fit t) i in absurd
    (omega (arith, b))
scanned_sleeper g marked s fit references q (Justifies.refers t e i) =
    let same : t ≡ s = omega arith in references q (subst (λ (k : ℕ). In q (sleeper_references g k)) same i)
