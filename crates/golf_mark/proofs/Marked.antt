-- From the bits of a marking to its flags.
-- For: `HasMarked`, golf_marks/specs/Flags.antt; `into_marked`, src/work.rt
-- By: arithmetic of the numbers in a list of bits that is cut; no induction
use Rattle.std.proofs.Common.{◌≡◌, ℕ, ◌+◌, ◌-◌, ◌<◌, ◌≤◌, List, length, take, drop, Bool, false, sym, ap, ◌∙◌, subst}
use Rattle.std.proofs.Common.{arith}
use Rattle.std.specs.Prelude.{◌↔◌}
use Rattle.std.specs.List.Sorted.{IsStrictlyIncreasing}
use Rattle.std.proofs.lemmas.List.{get_or-take, get_or-drop, length-take-le, length-drop}
use Rattle.golf_theory.specs.Membership.{In}
use Rattle.golf_model.specs.declared.graph.Marked.{Marked}
use Rattle.golf_marks.specs.Flags.{IsSet, HasMarked}
use Rattle.golf_marks.proofs.Flags.{IsSet-below}

pub take-IsSet : (n : ℕ) (bits : List Bool) (p : ℕ) → n ≤ length bits → IsSet (take n bits) p → (p < n) × IsSet bits p
take-IsSet n bits p low h =
    let within : p < n = omega (arith, IsSet-below (take n bits) p h, length-take-le n bits low) in
    (within, sym (get_or-take n bits p false within) ∙ h)

pub IsSet-take : (n : ℕ) (bits : List Bool) (p : ℕ) → p < n → IsSet bits p → IsSet (take n bits) p
IsSet-take n bits p within h = get_or-take n bits p false within ∙ h

-- bits cut in two, and the numbers of the front's
pub HasMarked-cut : (bits : List Bool) (order : List ℕ) (nodes : ℕ) (m : Marked) → nodes ≤ length bits
    → ((p : ℕ) → In p order ↔ IsSet bits p)
    → m.flags ≡ take nodes bits → m.awake ≡ drop nodes bits → IsStrictlyIncreasing m.order
    → ((n : ℕ) → In n m.order ↔ IsSet (take nodes bits) n)
    → HasMarked nodes (length bits - nodes) (λ p. In p order) m
HasMarked-cut bits order nodes m low listed flags awake rising members = record {
  flag_count = ap length flags ∙ length-take-le nodes bits low;
  awake_count = ap length awake ∙ length-drop nodes bits;
  flags = λ p. (
    λ h. let r = take-IsSet nodes bits p low (subst (λ (l : List Bool). IsSet l p) flags h) in (r.0, (listed p).1 r.1),
    λ h. subst (λ (l : List Bool). IsSet l p) (sym flags) (IsSet-take nodes bits p h.0 ((listed p).0 h.1)),
  );
  awake = λ s _. (
    λ h. (listed (nodes + s)).1 (sym (get_or-drop nodes bits s false) ∙ subst (λ (l : List Bool). IsSet l s) awake h),
    λ h. subst (λ (l : List Bool). IsSet l s) (sym awake) (get_or-drop nodes bits s false ∙ (listed (nodes + s)).0 h),
  );
  rising = rising;
  order = λ p. (
    λ h. subst (λ (l : List Bool). IsSet l p) (sym flags) ((members p).0 h),
    λ h. (members p).1 (subst (λ (l : List Bool). IsSet l p) flags h),
  );
}

-- the same places by another property, and by another count of sleepers
pub HasMarked-same : (nodes sleepers others : ℕ) (P Q : ℕ → Type 0) (m : Marked) → sleepers ≡ others
    → ((p : ℕ) → P p ↔ Q p) → HasMarked nodes sleepers P m → HasMarked nodes others Q m
HasMarked-same nodes sleepers others P Q m count same h = record {
  flag_count = h.flag_count;
  awake_count = h.awake_count ∙ count;
  flags = λ p. (λ i. let r = (h.flags p).0 i in (r.0, (same p).0 r.1), λ i. (h.flags p).1 (i.0, (same p).1 i.1));
  awake = λ s l. let r = h.awake s (omega (arith, l, count)) in (
    λ i. (same (nodes + s)).0 (r.0 i),
    λ i. r.1 ((same (nodes + s)).1 i),
  );
  rising = h.rising;
  order = h.order;
}
