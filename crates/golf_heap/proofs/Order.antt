-- The places of a heap in rising order of number.
-- For: `free`, `rank_of` (src/places.rt) and `at` (src/heap.rt)
-- By: induction over the list of places
use Rattle.std.proofs.Common.{◌≡◌, ◌≢◌, ◌⊎◌, inl, inr, ℕ, zero, suc, ◌<◌, ◌≤◌, List, [], ◌∷◌, length, get_or, Option}
use Rattle.std.proofs.Common.{Some, None, refl, sym, ap, ◌∙◌, arith, subst, slice_get}
use Rattle.std.specs.List.Sorted.{IsNonDecreasingBy}
use Rattle.std.proofs.lemmas.List.{get_or-map}
use Rattle.slab.specs.Slab.{get}
use Rattle.golf_data.specs.declared.value.Object.{Object}
use Rattle.golf_theory.specs.Maps.{Rises, keys, rank}
use Rattle.golf_heap.specs.declared.places.ObjectKey.{ObjectKey}
use Rattle.golf_heap.specs.Kept.{keyed, gathered, IsObjectOf, HoldsPlaces}
use Rattle.golf_theory.proofs.Ranks.{sorted, rank-is}
use Rattle.golf_heap.proofs.Gathering.{Slots, length-keyed}

pub number-at : (ps : List ObjectKey) (i : ℕ) (d : ObjectKey) (e : ℕ × ℕ) → i < length ps
    → (get_or (keyed ps) i e).0 ≡ (get_or ps i d).number
number-at ps i d e h = ap (λ (z : ℕ × ℕ). z.0) (get_or-map (λ (p : ObjectKey). (p.number, p.key)) ps i d e h)

pub places-sorted : (j : ℕ) (ps : List ObjectKey) → Rises j (keyed ps)
    → IsNonDecreasingBy (λ (p : ObjectKey). p.number) ps
places-sorted j ps r = λ m n d l h.
    let e : ℕ × ℕ = (d.number, d.key) in
    let a : (get_or (keyed ps) m e).0 ≤ (get_or (keyed ps) n e).0 =
    sorted j (keyed ps) r m n e l (omega (arith, h, length-keyed ps)) in
    omega (arith, a, number-at ps m d e (omega (arith, l, h)), number-at ps n d e h)

above : (j : ℕ) (ps : List ObjectKey) (i : ℕ) (d : ObjectKey) → Rises j (keyed ps) → i < length ps
    → j ≤ (get_or ps i d).number
above j [] i d r l = absurd (omega arith)
above j (p ∷ ps) zero d r l = r.0
above j (p ∷ ps) (suc i) d r l = let a = above (suc p.number) ps i d r.1 (omega arith) in omega (arith, r.0)

strict : (j : ℕ) (ps : List ObjectKey) (m n : ℕ) (d : ObjectKey) → Rises j (keyed ps) → m < n → n < length ps
    → (get_or ps m d).number < (get_or ps n d).number
strict j [] m n d r l h = absurd (omega arith)
strict j (p ∷ ps) m zero d r l h = absurd (omega arith)
strict j (p ∷ ps) zero (suc n) d r l h = let a = above (suc p.number) ps n d r.1 (omega arith) in omega arith
strict j (p ∷ ps) (suc m) (suc n) d r l h = strict (suc p.number) ps m n d r.1 (omega arith) (omega arith)

-- the slot of the place has its number
pub held-index : (s : Slots) (ps : List ObjectKey) (i : ℕ) (d : ObjectKey) → HoldsPlaces s ps → i < length ps
    → IsObjectOf (get_or ps i d).number (get s (get_or ps i d).key)
held-index s [] i d h l = absurd (omega arith)
held-index s (p ∷ ps) zero d h l = h.0
held-index s (p ∷ ps) (suc i) d h l = held-index s ps i d h.1 (omega arith)

one_number : (m n : ℕ) (o : Option (ℕ × Object)) → IsObjectOf m o → IsObjectOf n o → m ≡ n
one_number m n None a b = absurd a
one_number m n (Some e) a b = sym a ∙ b

-- different places have different keys
pub apart : (s : Slots) (j : ℕ) (ps : List ObjectKey) (m n : ℕ) (d : ObjectKey) → Rises j (keyed ps) → HoldsPlaces s ps
    → m < length ps → n < length ps → m ≢ n → (get_or ps m d).key ≢ (get_or ps n d).key
apart s j ps m n d r h a b differ = λ same.
    let one : (get_or ps m d).number ≡ (get_or ps n d).number =
    one_number (get_or ps m d).number (get_or ps n d).number (get s (get_or ps m d).key) (held-index s ps m d h a)
    (subst (λ (k : ℕ). IsObjectOf (get_or ps n d).number (get s k)) (sym same) (held-index s ps n d h b)) in
    elim (less m n differ) [
      | inl l ↦ let t = strict j ps m n d r l b in omega (arith, t, one)
      | inr l ↦ let t = strict j ps n m d r l a in omega (arith, t, one)
    ]
  where
    less : (m n : ℕ) → m ≢ n → m < n ⊎ n < m
    less zero zero d = absurd (d refl)
    less zero (suc n) d = inl (omega arith)
    less (suc m) zero d = inr (omega arith)
    less (suc m) (suc n) d = elim (less m n (λ e. d (ap suc e))) [
      | inl l ↦ inl (omega arith)
      | inr l ↦ inr (omega arith)
    ]

-- the place that parts the smaller numbers from the others
pub rank-places : (k i : ℕ) (ps : List ObjectKey) → i ≤ length ps
    → ((m : ℕ) (d : ObjectKey) → m < i → (get_or ps m d).number < k)
    → ((d : ObjectKey) → i < length ps → k ≤ (get_or ps i d).number) → i ≡ rank k (keyed ps)
rank-places k i ps l a b =
    rank-is k i (keyed ps) (omega (arith, l, length-keyed ps))
    (λ m d h. let p : ObjectKey = record { number = d.0; key = d.1 } in omega
    (arith, a m p h, number-at ps m p d (omega (arith, l, h))))
    (λ d h. let p : ObjectKey = record { number = d.0; key = d.1 } in omega
    (arith, b p (omega (arith, h, length-keyed ps)), number-at ps i p d (omega (arith, h, length-keyed ps))))

-- the number at a rank
pub key-at : (s : Slots) (ps : List ObjectKey) (i : ℕ) (d : ObjectKey) → i < length ps
    → slice_get (keys (gathered s ps)) i ≡ Some (get_or ps i d).number
key-at s [] i d h = absurd (omega arith)
key-at s (p ∷ ps) zero d h = refl
key-at s (p ∷ ps) (suc i) d h = key-at s ps i d (omega arith)
