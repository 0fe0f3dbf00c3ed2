-- What is told by a look that finds a deque empty was true before.
-- For: `TellsNothingNew`, specs/Laws.antt
-- By: induction over what is in the deque, for any rule; for the other that takes it, induction over the views
use Rattle.std.proofs.Common.{◌≡◌, ◌≢◌, ℕ, zero, suc, ◌<◌, List, [], ◌∷◌, set, refl, sym, ap, ◌∙◌, arith, ◌⊎◌, inl, inr}
use Rattle.std.proofs.Common.{⊎_elim}
use Rattle.std.specs.Prelude.{sum_by}
use Rattle.std.proofs.lemmas.List.Sums.{sum_by-cons}
use mathlib.Core.Option.{some, some-injective, some-ne-none}
use lib.ListN.{get_elem?}
use Rattle.crossbeam_deque.specs.Tasks.{Finds}
use Rattle.crossbeam_deque.proofs.Lists.{set_else, set_here}
use Rattle.golf_grey.specs.declared.rule.GreyView.{GreyView}
use Rattle.golf_grey.specs.Rule.{Balanced, WasEmpty}
use Rattle.golf_grey.specs.Laws.{TellsNothingNew}
use Rattle.golf_grey.proofs.Steps.{takes, finds}
use Rattle.golf_grey.proofs.Stages.{at_low}

-- Under any rule: where another port may take what is there, one task after another, each fact that a look at the empty
-- deque tells the port `port` is true.
pub nothing_new : {T V : Type 0} (holds : List T → List V → Type 0) (fits : V → Type 0) (port other : ℕ) (v : V)
    (fact : Type 0) → port ≢ other
    → ((u : V) → fits u → (x : T) (items : List T) (views : List V) → holds (x ∷ items) views
    → get_elem? views other ≡ some u → (w : V) × fits w × holds items (set views other w))
    → Finds holds port v fact → (items : List T) (views : List V) (u : V) → holds items views
    → get_elem? views port ≡ some v → get_elem? views other ≡ some u → fits u → fact
nothing_new holds fits port other v fact apart may tells [] views u h mine theirs fit = tells views h mine
nothing_new holds fits port other v fact apart may tells (x ∷ items) views u h mine theirs fit =
    let w = may u fit x items views h theirs in
    nothing_new holds fits port other v fact apart may tells items (set views other w.0) w.0 w.2
    (set_else views other port w.0 apart ∙ mine) (set_here views other w.0 (at_low views other u theirs)) w.1

none_or_some : (n : ℕ) → (n ≡ 0) ⊎ (0 < n)
none_or_some zero = inl refl
none_or_some (suc n) = inr (omega arith)

abbrev Something : {V : Type 0} → (V → ℕ) → List V → Type 0
Something {V} f views = (k : ℕ) × (u : V) × (get_elem? views k ≡ some u) × (0 < f u)

abbrev Another : {V : Type 0} → (V → ℕ) → List V → ℕ → Type 0
Another {V} f views port = (k : ℕ) × (u : V) × (port ≢ k) × (get_elem? views k ≡ some u) × (0 < f u)

something : {V : Type 0} (f : V → ℕ) (views : List V) → 0 < sum_by f views → Something f views
something f [] less = absurd (omega arith)
something f (x ∷ xs) less = ⊎_elim
    (λ (none : f x ≡ 0). let k : Something f xs = something f xs
    (omega (arith, less, none, sum_by-cons f x xs)) in (suc k.0, k.1, k.2, k.3))
    (λ (live : 0 < f x). (zero, x, refl, live))
    (none_or_some (f x))

-- who has not the whole leaves another something
another : {V : Type 0} (f : V → ℕ) (views : List V) (port : ℕ) (v : V) → get_elem? views port ≡ some v
    → f v < sum_by f views → Another f views port
another f [] port v e less = absurd (some-ne-none v (sym e))
another f (x ∷ xs) zero v e less = let k : Something f xs =
    something f xs (omega (arith, less, sum_by-cons f x xs, ap f (some-injective x v e))) in (
      suc k.0,
      k.1,
      (λ same. absurd (omega (arith, same))),
      k.2,
      k.3,
    )
another f (x ∷ xs) (suc port) v e less = ⊎_elim
    (λ (none : f x ≡ 0). let k : Another f xs port = another f xs port v e
    (omega (arith, less, none, sum_by-cons f x xs)) in (
      suc k.0,
      k.1,
      (λ same. k.2 (omega (arith, same))),
      k.3,
      k.4,
    ))
    (λ (live : 0 < f x). (zero, x, (λ same. absurd (omega (arith, same))), refl, live))
    (none_or_some (f x))

pub tells_nothing_new : TellsNothingNew
tells_nothing_new items views port v b at less =
    let k = another (λ (u : GreyView). u.parts) views port v at (omega (arith, b.2.parts, less)) in
    nothing_new Balanced (λ u. 0 < u.parts) port k.0 v (WasEmpty v) k.2
    (λ u live x rest vs h there. let t = takes k.0 u live (x ∷ []) rest vs (omega arith)
    (omega arith) h there in (t.0, omega (arith, live, ap (λ (y : GreyView). y.parts) t.2.view), t.1))
    (finds port v) items views k.1 b at k.3 k.4
