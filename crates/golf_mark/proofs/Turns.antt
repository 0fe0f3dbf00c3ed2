-- The turns of a marking that goes through its own list.
-- For: `mark`, src/alone.rt; `IsMarkingUnderWay`, specs/UnderWay.antt
-- By: induction over how a place is reached from the roots, and over the list of marked places
use Rattle.std.proofs.Common.{◌≡◌, ℕ, zero, suc, ◌+◌, ◌<◌, ◌≤◌, inl, inr, List, [], ◌∷◌, length, length-append, get_or}
use Rattle.std.proofs.Common.{Some, None, sym, ap, ◌∙◌, subst, arith, below_more}
use Rattle.std.specs.Prelude.{slice_get}
use Rattle.std.proofs.lemmas.List.{get_or_append_left}
use Rattle.golf_theory.specs.Membership.{In}
use Rattle.golf_theory.proofs.Lists.{In-get_or}
use Rattle.golf_theory.proofs.Derivations.{Reached-root, Reached-step, Reached-least}
use Rattle.golf_model.specs.declared.graph.GraphParts.{GraphParts}
use Rattle.golf_model.specs.Graph.{node_count, sleeper_count, Justifies, Least}
use Rattle.golf_mark.specs.UnderWay.{Working, Gains, IsScanned, IsMarkingUnderWay}
use Rattle.golf_mark.proofs.Gaining.{place_of, Gains-keeps, Gains-cases}

pub slice_get-some : (xs : List ℕ) (k p : ℕ) → slice_get xs k ≡ Some p → (k < length xs) × (get_or xs k 0 ≡ p)
slice_get-some [] k p e = absurd (cc)
slice_get-some (x ∷ xs) zero p e = (omega arith, cc)
slice_get-some (x ∷ xs) (suc k) p e = let r = slice_get-some xs k p e in (omega (arith, r.0), r.1)

pub slice_get-none : (xs : List ℕ) (k : ℕ) → slice_get xs k ≡ None → length xs ≤ k
slice_get-none [] k e = omega arith
slice_get-none (x ∷ xs) zero e = absurd (cc)
slice_get-none (x ∷ xs) (suc k) e = omega (arith, slice_get-none xs k e)

-- the roots are marked, and nothing is scanned
pub begins : (g : GraphParts) (a b : Working) → a.places ≡ node_count g + sleeper_count g → a.order ≡ []
    → Gains (λ p. In p g.roots) a b → ((p : ℕ) → In p g.roots → In p b.order) → IsMarkingUnderWay g b 0
begins g a b places empty gains roots = record {
  places = gains.places ∙ places;
  within = omega arith;
  sound = λ p h. elim (Gains-cases (λ q. In q g.roots) a b p gains h) [
    | inl i ↦ absurd (subst (λ (l : List ℕ). In p l) empty i)
    | inr i ↦ Reached-root (λ q. In q g.roots) (Justifies g) p i
  ];
  roots = roots;
  done = λ k h. absurd (omega arith);
}

-- the next place is scanned
pub goes_on : (g : GraphParts) (a b : Working) (turn p : ℕ) → turn < length a.order → get_or a.order turn 0 ≡ p
    → IsMarkingUnderWay g a turn → Gains (Justifies g p) a b → IsScanned g b.order p → IsMarkingUnderWay g b (turn + 1)
goes_on g a b turn p low at u gains scanned =
    let here : In p a.order = subst (λ (x : ℕ). In x a.order) at (In-get_or a.order turn 0 low) in
    let kept : (k : ℕ) → k < length a.order → get_or b.order k 0 ≡ get_or a.order k 0 =
    λ k h. ap (λ (l : List ℕ). get_or l k 0) gains.added.1 ∙ get_or_append_left a.order gains.added.0 0 k h in
    record {
      places = gains.places ∙ u.places;
      within = omega (arith, ap length gains.added.1, length-append a.order gains.added.0);
      sound = λ q h. elim (Gains-cases (Justifies g p) a b q gains h) [
        | inl i ↦ u.sound q i
        | inr j ↦ Reached-step (λ x. In x g.roots) (Justifies g) p q (u.sound p here) j
      ];
      roots = λ q h. Gains-keeps (Justifies g p) a b q gains (u.roots q h);
      done = below_more _ _
          (λ k h. let low' : k < length a.order = omega (arith, u.within) in
          subst (λ (x : ℕ). IsScanned g b.order x) (sym (kept k low'))
          (λ q j. Gains-keeps (Justifies g p) a b q gains (u.done k h q j)))
          (subst (λ (x : ℕ). IsScanned g b.order x) (sym (kept turn low ∙ at)) scanned);
    }

-- all marked places are scanned
pub ends : (g : GraphParts) (w : Working) (turn : ℕ) → length w.order ≤ turn → IsMarkingUnderWay g w turn → (p : ℕ)
    → Least g p
    → In p w.order
ends g w turn all u p d = Reached-least (λ x. In x g.roots) (Justifies g) (λ x. In x w.order) u.roots
    (λ q x h j. let r = place_of w.order q h in
    let low : r.0 < turn = omega (arith, r.1) in
    u.done r.0 low x (subst (λ (y : ℕ). Justifies g y x) (sym r.2) j)) p d
