-- Places that are copied one after another.
-- For: `append_copies` (src/heap.rt)
-- By: induction over the list of places
use Rattle.std.proofs.Common.{◌≡◌, ℕ, zero, suc, ◌+◌, ◌≤◌, List, [], ◌∷◌, ◌++◌, drop, take, Some, sym, ap, ◌∙◌, subst}
use Rattle.std.proofs.Common.{slice_get, append_assoc, arith}
use Rattle.golf_data.specs.declared.value.Object.{Object}
use Rattle.golf_theory.specs.Maps.{Rises, add}
use Rattle.golf_heap.specs.declared.places.ObjectKey.{ObjectKey}
use Rattle.golf_heap.specs.Kept.{keyed, gathered, object_in}
use Rattle.slab.specs.Slab.{get}
use Rattle.golf_heap.proofs.Gathering.{Slots}

-- one place more
pub gathered-more : (s : Slots) (ps : List ObjectKey) (i : ℕ) (p : ObjectKey) → slice_get ps i ≡ Some p
    → gathered s (take (suc i) ps) ≡ gathered s (take i ps) ++ (p.number, object_in (get s p.key)) ∷ []
gathered-more s [] i p h = cc
gathered-more s (q ∷ ps) zero p h =
    let same : q ≡ p = cc in ap (λ (r : ObjectKey). (r.number, object_in (get s r.key)) ∷ []) same
gathered-more s (q ∷ ps) (suc i) p h =
    ap (λ (es : List (ℕ × Object)). (q.number, object_in (get s q.key)) ∷ es) (gathered-more s ps i p h)

-- the objects after one more place was copied
pub objects-more : (s : Slots) (ps : List ObjectKey) (i : ℕ) (p : ObjectKey) (old start : List (ℕ × Object)) (x : Object)
    → slice_get ps i ≡ Some p → x ≡ object_in (get s p.key) → old ≡ start ++ gathered s (take i ps)
    → add p.number x old ≡ start ++ gathered s (take (i + 1) ps)
objects-more s ps i p old start x h same is =
    let one : suc i ≡ i + 1 = omega arith in
    ap (λ (es : List (ℕ × Object)). es ++ (p.number, x) ∷ []) is
    ∙ append_assoc start (gathered s (take i ps)) ((p.number, x) ∷ [])
    ∙ ap (λ (y : Object). start ++ (gathered s (take i ps) ++ (p.number, y) ∷ [])) same
    ∙ ap (λ (es : List (ℕ × Object)). start ++ es) (sym (gathered-more s ps i p h))
    ∙ ap (λ (n : ℕ). start ++ gathered s (take n ps)) one

-- the place that comes next, and those after it
pub next-above : (n : ℕ) (ps : List ObjectKey) (i : ℕ) (p : ObjectKey) → slice_get ps i ≡ Some p
    → Rises n (keyed (drop i ps)) → (n ≤ p.number) × Rises (p.number + 1) (keyed (drop (i + 1) ps))
next-above n ps i p h r =
    let one : suc i ≡ i + 1 = omega arith in
    let a = above ps i h r in
    (a.0, subst (λ (m : ℕ). Rises (p.number + 1) (keyed (drop m ps))) one a.1)
  where
    above : (qs : List ObjectKey) (j : ℕ) → slice_get qs j ≡ Some p → Rises n (keyed (drop j qs))
        → (n ≤ p.number) × Rises (p.number + 1) (keyed (drop (suc j) qs))
    above [] j h r = cc
    above (q ∷ qs) zero h r =
        let same : q ≡ p = cc in
        let next : suc q.number ≡ q.number + 1 = omega arith in (
          subst (λ (x : ObjectKey). n ≤ x.number) same r.0,
          subst (λ (x : ObjectKey). Rises (x.number + 1) (keyed qs)) same (subst (λ m. Rises m (keyed qs)) next r.1),
        )
    above (q ∷ qs) (suc j) h r = above qs j h r
