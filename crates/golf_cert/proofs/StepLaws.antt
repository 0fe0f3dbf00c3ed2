-- The two parts of what a place justifies are all of it.
-- For: `referred_by`, `HasSleeperRows` (golf_cert/specs/Steps.antt) and `referred`, `woken_rows` (src/steps.rt)
-- By: cases of the place, a node or a sleeper; no induction
use Rattle.std.proofs.Common.{◌≡◌, ℕ, ◌+◌, ◌-◌, ◌<◌, ◌≤◌, ◌⊎◌, inl, inr, List, length, sym, subst, arith}
use Rattle.std.specs.Prelude.{nat_lt}
use Rattle.std.proofs.lemmas.Bool.{cases_lt, lt-ltb, le-ltb, cond-true, cond-false}
use Rattle.golf_theory.specs.Membership.{In, Every}
use Rattle.golf_theory.proofs.Lists.{Every-at, Every-from}
use Rattle.golf_rows.specs.Rows.{row_of, AddsTo}
use Rattle.golf_model.specs.declared.graph.GraphParts.{GraphParts}
use Rattle.golf_model.specs.Graph.{node_count, sleeper_count, sleeper_place, children_of, sleeper_waits}
use Rattle.golf_model.specs.Graph.{sleeper_references, Justifies, IsInRange}
use Rattle.golf_cert.specs.Steps.{place_count, referred_by, HasSleeperRows}
use Rattle.golf_mark.proofs.Ranges.{row_past, children-nodes, waits-nodes, waits-below, Justifies-below}

pub referred_by-node : (g : GraphParts) (p : ℕ) → p < node_count g → referred_by g p ≡ children_of g p
unfolding referred_by
referred_by-node g p low = cond-true (nat_lt p (node_count g)) (children_of g p)
    (sleeper_references g (p - node_count g)) (lt-ltb p (node_count g) low)

pub referred_by-sleeper : (g : GraphParts) (p : ℕ) → node_count g ≤ p
    → referred_by g p ≡ sleeper_references g (p - node_count g)
unfolding referred_by
referred_by-sleeper g p high = cond-false (nat_lt p (node_count g)) (children_of g p)
    (sleeper_references g (p - node_count g)) (le-ltb p (node_count g) high)

module _ (g : GraphParts) (rows : List (List ℕ)) (fit : IsInRange g)
    (woken : HasSleeperRows g (sleeper_count g) rows) where
  pub referred-justifies : (p q : ℕ) → In q (referred_by g p) → Justifies g p q
  referred-justifies p q h = elim (cases_lt p (node_count g)) [
    | inl low ↦ Justifies.child (subst (λ (l : List ℕ). In q l) (referred_by-node g p low) h)
    | inr high ↦ Justifies.refers (p - node_count g) (omega arith)
        (subst (λ (l : List ℕ). In q l) (referred_by-sleeper g p high) h)
  ]

  pub woken-justifies : (p q : ℕ) → In q (row_of rows p) → Justifies g p q
  woken-justifies p q h = let r = (woken.members p q).0 h in Justifies.wakes r.0 r.2 r.3

  -- all that a place justifies is in one of the parts
  pub justified-in : (p q : ℕ) → Justifies g p q → In q (referred_by g p) ⊎ In q (row_of rows p)
  justified-in p q (Justifies.child i) =
      let low : p < node_count g = omega (arith, row_past g.children p q i) in
      inl (subst (λ (l : List ℕ). In q l) (sym (referred_by-node g p low)) i)
  justified-in p q (Justifies.wakes s e i) = inr ((woken.members p q).1 (s, waits-below g s p i, e, i))
  justified-in p q (Justifies.refers s e i) =
      let high : node_count g ≤ p = omega (arith, e) in
      let same : s ≡ p - node_count g = omega (arith, e) in
      inl (subst (λ (l : List ℕ). In q l) (sym (referred_by-sleeper g p high))
      (subst (λ (t : ℕ). In q (sleeper_references g t)) same i))

  pub referred-below : (p : ℕ) → Every (λ q. q < place_count g) (referred_by g p)
  referred-below p = Every-from (λ q. q < place_count g) (referred_by g p)
      (λ q h. Justifies-below g fit p q (referred-justifies p q h))

  pub woken-below : (p : ℕ) → Every (λ q. q < place_count g) (row_of rows p)
  woken-below p = Every-from (λ q. q < place_count g) (row_of rows p)
      (λ q h. Justifies-below g fit p q (woken-justifies p q h))

-- one more sleeper is entered
pub HasSleeperRows-more : (g : GraphParts) (s : ℕ) (old new : List (List ℕ)) → length new ≡ length old
    → HasSleeperRows g s old
    → AddsTo (λ n. In n (sleeper_waits g s)) (sleeper_place g s) old new → HasSleeperRows g (s + 1) new
HasSleeperRows-more g s old new size w adds = record {
  row_count = omega (arith, w.row_count);
  members = λ n p. (
    λ h. elim ((adds n p).0 h) [
      | inl i ↦ let r = (w.members n p).0 i in (r.0, omega (arith, r.1), r.2, r.3)
      | inr e ↦ (s, omega arith, e.0, e.1)
    ],
    λ r. elim (cases_lt r.0 s) [
      | inl low ↦ (adds n p).1 (inl ((w.members n p).1 (r.0, low, r.2, r.3)))
      | inr high ↦
          let same : r.0 ≡ s = omega (arith, r.1) in
          (adds n p).1 (inr (
            subst (λ (t : ℕ). p ≡ sleeper_place g t) same r.2,
            subst (λ (t : ℕ). In n (sleeper_waits g t)) same r.3,
          ))
    ],
  );
}

pub HasSleeperRows-none : (g : GraphParts) (rows : List (List ℕ)) → length rows ≡ node_count g
    → ((n p : ℕ) → In p (row_of rows n) → ⊥) → HasSleeperRows g 0 rows
HasSleeperRows-none g rows size none = record {
  row_count = size;
  members = λ n p. (λ h. absurd (none n p h), λ r. absurd (omega (arith, r.1)));
}

-- a sleeper justifies what it refers to, and a node awakens who waits on it
pub refers_from : (g : GraphParts) (p q : ℕ) → IsInRange g → node_count g ≤ p → Justifies g p q
    → In q (sleeper_references g (p - node_count g))
refers_from g p q fit high (Justifies.child i) = absurd (omega (arith, row_past g.children p q i))
refers_from g p q fit high (Justifies.wakes s e i) =
    let b = Every-at (λ x. x < node_count g) (sleeper_waits g s) p (waits-nodes g fit s) i in absurd (omega (arith, b))
refers_from g p q fit high (Justifies.refers s e i) =
    let same : s ≡ p - node_count g = omega (arith, e) in subst (λ (t : ℕ). In q (sleeper_references g t)) same i

pub wakes_from : (g : GraphParts) (p q : ℕ) → IsInRange g → p < node_count g → node_count g ≤ q → Justifies g p q
    → In p (sleeper_waits g (q - node_count g))
wakes_from g p q fit low high (Justifies.child i) =
    let b = Every-at (λ x. x < node_count g) (children_of g p) q (children-nodes g fit p) i in absurd (omega (arith, b))
wakes_from g p q fit low high (Justifies.wakes s e i) =
    let same : s ≡ q - node_count g = omega (arith, e) in subst (λ (t : ℕ). In p (sleeper_waits g t)) same i
wakes_from g p q fit low high (Justifies.refers s e i) = absurd (omega (arith, e))

pub child_from : (g : GraphParts) (p q : ℕ) → p < node_count g → q < node_count g → Justifies g p q
    → In q (children_of g p)
child_from g p q low near (Justifies.child i) = i
child_from g p q low near (Justifies.wakes s e i) = absurd (omega (arith, e))
child_from g p q low near (Justifies.refers s e i) = absurd (omega (arith, e))
