-- What leads to a node that prevents removal, forwards and backwards.
-- For: `keeps`, src/keep_rule.rt; `IsKept`, specs/KeepRule.antt
-- By: induction over the steps that lead to a node
use Rattle.std.proofs.Common.{◌≡◌, ℕ, ◌<◌, inl, inr, Bool, List, [], ◌∷◌, length, refl, sym, subst, arith}
use Rattle.std.specs.Prelude.{◌↔◌}
use Rattle.golf_theory.specs.Membership.{In}
use Rattle.golf_theory.proofs.Lists.{Every-at}
use Rattle.golf_theory.proofs.Derivations.{Reached-root, Reached-step, Reached-least}
use Rattle.golf_model.specs.declared.graph.GraphParts.{GraphParts}
use Rattle.golf_model.specs.Sleepers.{Sleeper}
use Rattle.golf_model.specs.declared.graph.Marked.{Marked}
use Rattle.golf_model.specs.Graph.{node_count, children_of, sleeper_waits, sleeper_references, Justifies, Least}
use Rattle.golf_model.specs.Graph.{IsInRange}
use Rattle.golf_marks.specs.Flags.{IsSet}
use Rattle.golf_marks.proofs.Flags.{IsSet-below}
use Rattle.golf_mark.specs.MarkingResult.{MarksLeast}
use Rattle.golf_mark.proofs.Ranges.{row_past, references-nodes}
use Rattle.golf_final.specs.KeepRule.{HasChild, IsReachedFrom, Prevents, IsKept}
use Rattle.golf_final.specs.Backward.{IsBackward}

module _ (g : GraphParts) (flags : List Bool) (sets : Bool) (b : GraphParts) (back : IsBackward g flags sets b) where
  -- it comes to a node that prevents removal
  abbrev Leads : ℕ → Type 0
  Leads x = (r : ℕ) × IsReachedFrom g (x ∷ []) r × Prevents g flags sets r

  -- what a child comes to
  from_child : (x q r : ℕ) → In q (children_of g x) → IsReachedFrom g (q ∷ []) r → IsReachedFrom g (x ∷ []) r
  from_child x q r child c = Reached-least (λ p. In p (q ∷ [])) (HasChild g) (IsReachedFrom g (x ∷ []))
      (λ y h. elim h [
        | inl e ↦ subst (IsReachedFrom g (x ∷ [])) (sym e)
            (Reached-step (λ p. In p (x ∷ [])) (HasChild g) x q
            (Reached-root (λ p. In p (x ∷ [])) (HasChild g) x (inl refl)) child)
        | inr none ↦ absurd none
      ])
      (λ y z d l. Reached-step (λ p. In p (x ∷ [])) (HasChild g) y z d l) r c

  -- what one of some nodes comes to
  from_one : (starts : List ℕ) (x r : ℕ) → In x starts → IsReachedFrom g (x ∷ []) r → IsReachedFrom g starts r
  from_one starts x r i c = Reached-least (λ p. In p (x ∷ [])) (HasChild g) (IsReachedFrom g starts)
      (λ y h. elim h [
        | inl e ↦ subst (IsReachedFrom g starts) (sym e)
            (Reached-root (λ p. In p starts) (HasChild g) x i)
        | inr none ↦ absurd none
      ])
      (λ y z d l. Reached-step (λ p. In p starts) (HasChild g) y z d l) r c

  no_waits : (xs : List Sleeper) (s p : ℕ) → xs ≡ [] → In p (sleeper_waits (record b { sleepers = xs }) s) → ⊥
  no_waits [] s p e h = h
  no_waits (x ∷ xs) s p e h = cc

  no_references : (xs : List Sleeper) (s p : ℕ) → xs ≡ [] → In p (sleeper_references (record b { sleepers = xs }) s) → ⊥
  no_references [] s p e h = h
  no_references (x ∷ xs) s p e h = cc

  justified : (q x : ℕ) → Justifies b q x → Leads q → Leads x
  justified q x (Justifies.child i) l = (l.0, from_child x q l.0 ((back.parents x q).0 i).1 l.1, l.2)
  justified q x (Justifies.wakes s e i) l = absurd (no_waits b.sleepers s q back.none i)
  justified q x (Justifies.refers s e i) l = absurd (no_references b.sleepers s x back.none i)

  marked-leads : (x : ℕ) → Least b x → Leads x
  marked-leads x d = Reached-least (λ p. In p b.roots) (Justifies b) Leads
      (λ y h. (y, Reached-root (λ p. In p (y ∷ [])) (HasChild g) y (inl refl), ((back.roots y).0 h).1))
      (λ q y l j. justified q y j l) x d

  pub leads : (starts : List ℕ) → ((x : ℕ) × In x starts × Least b x) → (r : ℕ) × IsReachedFrom g starts r
      × Prevents g flags sets r
  leads starts t = let l = marked-leads t.0 t.2 in (l.0, from_one starts t.0 l.0 t.1 l.1, l.2)

  prevents-below : length g.finalised ≡ node_count g → length flags ≡ node_count g → (r : ℕ) → Prevents g flags sets r
      → r < node_count g
  prevents-below a f r (inl h) = omega (arith, IsSet-below g.finalised r h, a)
  prevents-below a f r (inr h) = omega (arith, IsSet-below flags r h.1, f)

  pub led : length g.finalised ≡ node_count g → length flags ≡ node_count g → (starts : List ℕ)
      → ((r : ℕ) × IsReachedFrom g starts r × Prevents g flags sets r) → (x : ℕ) × In x starts × Least b x
  led a f starts t =
      Reached-least (λ p. In p starts) (HasChild g) (λ y. Least b y → (x : ℕ) × In x starts × Least b x)
      (λ y i d. (y, i, d))
      (λ q y up child d. up (Reached-step (λ p. In p b.roots) (Justifies b) y q d
      (Justifies.child ((back.parents q y).1 (row_past g.children q y child, child)))))
      t.0 t.1 (Reached-root (λ p. In p b.roots) (Justifies b) t.0
      ((back.roots t.0).1 (prevents-below a f t.0 t.2, t.2)))

-- a sleeper that is not awake has a reference that is marked backwards exactly if it is kept
pub kept-alike : (g : GraphParts) (m : Marked) (sets : Bool) (b : GraphParts) (leading : Marked) → IsInRange g
    → length m.flags ≡ node_count g → IsBackward g m.flags sets b → MarksLeast b leading → (s : ℕ)
    → ((IsSet m.awake s → ⊥) × ((p : ℕ) × In p (sleeper_references g s) × IsSet leading.flags p)) ↔ IsKept g m sets s
kept-alike g m sets b leading range size back marks s = (
  λ t. (t.0, leads g m.flags sets b back (sleeper_references g s) (t.1.0, t.1.1, ((marks.flags t.1.0).0 t.1.2).1)),
  λ t.
      let x = led g m.flags sets b back range.flagged size (sleeper_references g s) t.1 in
      let low = Every-at (λ p. p < node_count g) (sleeper_references g s) x.0 (references-nodes g range s) x.1 in
      (t.0, (x.0, x.1, (marks.flags x.0).1 (omega (arith, low, back.nodes), x.2))),
)
