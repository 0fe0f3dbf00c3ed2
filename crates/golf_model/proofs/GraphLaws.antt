-- The computed least closed set of a graph is the derived one.
-- For: `Least`, `least_places` (golf_model/specs/Graph.antt) and `least_law` (src/laws.rt)
-- By: induction over the lists of children and of sleepers; otherwise the laws of what is reached
use Rattle.std.proofs.Common.{◌≡◌, ℕ, zero, suc, ◌+◌, ◌-◌, ◌≤◌, true, ◌&&◌, List, [], ◌∷◌, inl, inr, subst, sym, arith}
use Rattle.std.specs.Prelude.{nat_le, slice_get, unwrap_or, option_map}
use Rattle.std.proofs.lemmas.Bool.{or_cases, or_left, or_right, and_parts, and_from, leb-true, le-leb}
use Rattle.golf_theory.specs.Membership.{In, is_in, any_of}
use Rattle.golf_theory.specs.Reached.{Follows}
use Rattle.golf_theory.proofs.Derivations.{Follows-grows}
use Rattle.golf_theory.proofs.LeastLaws.{Monotone, Covers, decided-sound, decided-complete}
use Rattle.golf_theory.proofs.Lists.{In-left, In-right}
use Rattle.golf_theory.proofs.Tests.{is_in-from, In-from, any_of-from, from_any_of}
use Rattle.golf_model.specs.declared.graph.GraphParts.{GraphParts}
use Rattle.golf_model.specs.Sleepers.{Sleeper}
use Rattle.golf_model.specs.Graph.{node_count, children_of, sleeper_waits, sleeper_references, Justifies, Least}
use Rattle.golf_model.specs.Graph.{justifies, is_justified_next, places_from, all_children, all_references}
use Rattle.golf_model.specs.Graph.{named_places, least_places}

-- ---- one step

by_sleeper-sound : (g : GraphParts) (from to : ℕ)
    → (nat_le (node_count g) to && is_in from (sleeper_waits g (to - node_count g))) ≡ true → Justifies g from to
by_sleeper-sound g from to h =
    let b = and_parts (nat_le (node_count g) to) (is_in from (sleeper_waits g (to - node_count g))) h in
    let l = leb-true (node_count g) to b.0 in
    Justifies.wakes (to - node_count g) (omega arith) (In-from from (sleeper_waits g (to - node_count g)) b.1)

by_reference-sound : (g : GraphParts) (from to : ℕ)
    → (nat_le (node_count g) from && is_in to (sleeper_references g (from - node_count g))) ≡ true → Justifies g from to
by_reference-sound g from to h =
    let b = and_parts (nat_le (node_count g) from) (is_in to (sleeper_references g (from - node_count g))) h in
    let l = leb-true (node_count g) from b.0 in
    Justifies.refers (from - node_count g) (omega arith) (In-from to (sleeper_references g (from - node_count g)) b.1)

pub justifies-sound : (g : GraphParts) (from to : ℕ) → justifies g from to ≡ true → Justifies g from to
justifies-sound g from to h = elim (or_cases (is_in to (children_of g from)) _ h) [
  | inl t ↦ Justifies.child (In-from to (children_of g from) t)
  | inr u ↦ elim (or_cases (nat_le (node_count g) to && is_in from (sleeper_waits g (to - node_count g))) _ u) [
    | inl t ↦ by_sleeper-sound g from to t
    | inr t ↦ by_reference-sound g from to t
  ]
]

-- the sleeper at a place
at_place : (n p s : ℕ) → p ≡ n + s → (n ≤ p) × (p - n ≡ s)
at_place n p s e = (omega arith, omega arith)

pub justifies-complete : (g : GraphParts) (from to : ℕ) → Justifies g from to → justifies g from to ≡ true
justifies-complete g from to (Justifies.child i) =
    or_left (is_in to (children_of g from)) _ (is_in-from to (children_of g from) i)
justifies-complete g from to (Justifies.wakes s e i) =
    let k = at_place (node_count g) to s e in
    or_right (is_in to (children_of g from)) _
    (or_left (nat_le (node_count g) to && is_in from (sleeper_waits g (to - node_count g))) _
    (and_from (nat_le (node_count g) to) (is_in from (sleeper_waits g (to - node_count g)))
    (le-leb (node_count g) to k.0)
    (is_in-from from (sleeper_waits g (to - node_count g)) (subst (λ n. In from (sleeper_waits g n)) (sym k.1) i))))
justifies-complete g from to (Justifies.refers s e i) =
    let k = at_place (node_count g) from s e in
    or_right (is_in to (children_of g from)) _
    (or_right (nat_le (node_count g) to && is_in from (sleeper_waits g (to - node_count g))) _
    (and_from (nat_le (node_count g) from) (is_in to (sleeper_references g (from - node_count g)))
    (le-leb (node_count g) from k.0)
    (is_in-from to (sleeper_references g (from - node_count g))
    (subst (λ n. In to (sleeper_references g n)) (sym k.1) i))))

abbrev pub LeastFollows : GraphParts → List ℕ → ℕ → Type 0
LeastFollows g = Follows (λ p. In p g.roots) (Justifies g)

pub next-sound : (g : GraphParts) (got : List ℕ) (p : ℕ) → is_justified_next g got p ≡ true → LeastFollows g got p
next-sound g got p h = elim (or_cases (is_in p g.roots) (any_of (λ q. justifies g q p) got) h) [
  | inl t ↦ inl (In-from p g.roots t)
  | inr t ↦ let r = from_any_of (λ q. justifies g q p) got t in inr (r.0, r.1, justifies-sound g r.0 p r.2)
]

pub next-complete : (g : GraphParts) (got : List ℕ) (p : ℕ) → LeastFollows g got p → is_justified_next g got p ≡ true
next-complete g got p (inl i) = or_left (is_in p g.roots) _ (is_in-from p g.roots i)
next-complete g got p (inr t) = or_right (is_in p g.roots) _
    (any_of-from (λ q. justifies g q p) got t.0 t.1 (justifies-complete g t.0 p t.2))

next-grows : (g : GraphParts) → Monotone (is_justified_next g)
next-grows g got more p h t = next-complete g more p
    (Follows-grows (λ q. In q g.roots) (Justifies g) got more p h (next-sound g got p t))

-- ---- every place that is justified is named

in_children : (rows : List (List ℕ)) (k p : ℕ) → In p (unwrap_or (slice_get rows k) []) → In p (all_children rows)
in_children [] k p h = absurd h
in_children (row ∷ rows) zero p h = In-left p row (all_children rows) h
in_children (row ∷ rows) (suc k) p h = In-right p row (all_children rows) (in_children rows k p h)

in_references : (xs : List Sleeper) (s p : ℕ) → In p (unwrap_or (option_map (λ x. x.references) (slice_get xs s)) [])
    → In p (all_references xs)
in_references [] s p h = absurd h
in_references (x ∷ xs) zero p h = In-left p x.references (all_references xs) h
in_references (x ∷ xs) (suc s) p h = In-right p x.references (all_references xs) (in_references xs s p h)

in_places : (xs : List Sleeper) (n s p q : ℕ) → p ≡ n + s
    → In q (unwrap_or (option_map (λ x. x.waits) (slice_get xs s)) []) → In p (places_from n xs)
in_places [] n s p q e h = absurd h
in_places (x ∷ xs) n zero p q e h = inl (omega arith)
in_places (x ∷ xs) n (suc s) p q e h = inr (in_places xs (n + 1) s p q (omega arith) h)

named : (g : GraphParts) (from to : ℕ) → Justifies g from to → In to (named_places g)
named g from to (Justifies.child i) = In-right to g.roots _
    (In-left to (all_children g.children) _ (in_children g.children from to i))
named g from to (Justifies.wakes s e i) =
    In-right to g.roots _ (In-right to (all_children g.children) _
    (In-left to (places_from (node_count g) g.sleepers) _ (in_places g.sleepers (node_count g) s to from e i)))
named g from to (Justifies.refers s e i) =
    In-right to g.roots _ (In-right to (all_children g.children) _
    (In-right to (places_from (node_count g) g.sleepers) _ (in_references g.sleepers s to i)))

next-covered : (g : GraphParts) → Covers (is_justified_next g) (named_places g)
next-covered g got p h t = elim (next-sound g got p t) [ inl i ↦ In-left p g.roots _ i | inr u ↦ named g u.0 p u.2 ]

pub least_places-sound : (g : GraphParts) (p : ℕ) → In p (least_places g) → Least g p
unfolding least_places
least_places-sound g p h = decided-sound (is_justified_next g) (LeastFollows g) (next-sound g) (next-complete g)
    (named_places g) p h

pub least_places-complete : (g : GraphParts) (p : ℕ) → Least g p → In p (least_places g)
unfolding least_places
least_places-complete g p d = decided-complete (is_justified_next g) (LeastFollows g) (next-sound g) (next-complete g)
    (named_places g) (next-grows g) (next-covered g) p d
