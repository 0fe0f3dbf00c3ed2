-- The objects of a slab as a map by number, by the places of their numbers.
-- For: `gathered`, `HoldsPlaces` (golf_heap/specs/Kept.antt)
-- By: induction over the list of places
use Rattle.std.proofs.Common.{◌≡◌, ◌≢◌, ℕ, suc, true, false, cond, List, [], ◌∷◌, ◌++◌, length, Option, Some, None}
use Rattle.std.proofs.Common.{◌==◌, nat_lt, refl, sym, ap, ◌∙◌, option_map, subst}
use Rattle.std.proofs.lemmas.Bool.{eqb-true}
use Rattle.slab.specs.Slab.{Slab, get, Updates}
use Rattle.golf_data.specs.declared.value.Object.{Object}
use Rattle.golf_theory.specs.Maps.{find, Rises, rank}
use Rattle.golf_heap.specs.declared.places.ObjectKey.{ObjectKey}
use Rattle.golf_heap.specs.Kept.{keyed, gathered, object_in, IsObjectOf, HoldsPlaces}

abbrev pub Slots : Type 0
Slots = Slab (ℕ × Object)

pub length-gathered : (s : Slots) (ps : List ObjectKey) → length (gathered s ps) ≡ length ps
length-gathered s [] = refl
length-gathered s (p ∷ ps) = ap suc (length-gathered s ps)

pub length-keyed : (ps : List ObjectKey) → length (keyed ps) ≡ length ps
length-keyed [] = refl
length-keyed (p ∷ ps) = ap suc (length-keyed ps)

pub rank-gathered : (s : Slots) (k : ℕ) (ps : List ObjectKey) → rank k (keyed ps) ≡ rank k (gathered s ps)
rank-gathered s k [] = refl
rank-gathered s k (p ∷ ps) = ap (λ n. cond (nat_lt p.number k) (suc n) 0) (rank-gathered s k ps)

pub Rises-keyed : (s : Slots) (j : ℕ) (ps : List ObjectKey) → Rises j (gathered s ps) → Rises j (keyed ps)
Rises-keyed s j [] r = tt
Rises-keyed s j (p ∷ ps) r = (r.0, Rises-keyed s (suc p.number) ps r.1)

pub Rises-gathered : (s : Slots) (j : ℕ) (ps : List ObjectKey) → Rises j (keyed ps) → Rises j (gathered s ps)
Rises-gathered s j [] r = tt
Rises-gathered s j (p ∷ ps) r = (r.0, Rises-gathered s (suc p.number) ps r.1)

-- what is found at a number is in the slot of its key
pub find-gathered : (s : Slots) (k : ℕ) (ps : List ObjectKey)
    → find k (gathered s ps) ≡ option_map (λ key. object_in (get s key)) (find k (keyed ps))
find-gathered s k [] = refl
find-gathered s k (p ∷ ps) = elim (k == p.number) as (λ b. cond b (Some (object_in (get s p.key)))
    (find k (gathered s ps)) ≡ option_map (λ key. object_in (get s key)) (cond b (Some p.key) (find k (keyed ps)))) [
      | true ↦ refl
      | false ↦ find-gathered s k ps
    ]

pub full : (k : ℕ) (o : Option (ℕ × Object)) → IsObjectOf k o → (x : Object) × (o ≡ Some (k, x))
full k None h = absurd h
full k (Some e) h = (e.1, ap (λ n. Some (n, e.1)) h)

-- the slot of a number that has a key
pub held-at : (s : Slots) (k key : ℕ) (ps : List ObjectKey) → HoldsPlaces s ps → find k (keyed ps) ≡ Some key
    → (x : Object)
    × (get s key ≡ Some (k, x))
held-at s k key [] h f = absurd (cc)
held-at s k key (p ∷ ps) h f = elim (k == p.number) as (λ b. k == p.number ≡ b
    → cond b (Some p.key) (find k (keyed ps)) ≡ Some key → (x : Object) × (get s key ≡ Some (k, x))) [
      | true ↦ λ t e.
          let q = full p.number (get s p.key) h.0 in
          let same : p.key ≡ key = cc in
          let n : p.number ≡ k = sym (eqb-true k p.number t) in
          (q.0, ap (get s) (sym same) ∙ q.1 ∙ ap (λ m. Some (m, q.0)) n)
      | false ↦ λ t e. held-at s k key ps h.1 e
    ] refl f

vacant : (s : Slots) (k key at : ℕ) → IsObjectOf k (get s at) → get s key ≡ None → at ≢ key
vacant s k key at h n = λ same. subst (IsObjectOf k) (ap (get s) same ∙ n) h

-- one more place, whose key was vacant
pub gathered-added : (s after : Slots) (key n : ℕ) (x : Object) (ps : List ObjectKey) → HoldsPlaces s ps
    → get s key ≡ None
    → Updates s after key (Some (n, x)) → gathered after (ps ++ record { number = n; key = key } ∷ []) ≡ gathered s ps
    ++ (n, x) ∷ []
gathered-added s after key n x [] h v u = ap (λ o. (n, object_in o) ∷ []) u.changed
gathered-added s after key n x (p ∷ ps) h v u =
    ap (λ o. (p.number, object_in o) ∷ gathered after (ps ++ record { number = n; key = key } ∷ []))
    (u.others p.key (vacant s p.number key p.key h.0 v))
    ∙ ap (λ (es : List (ℕ × Object)). (p.number, object_in (get s p.key)) ∷ es)
    (gathered-added s after key n x ps h.1 v u)

pub HoldsPlaces-added : (s after : Slots) (key n : ℕ) (x : Object) (ps : List ObjectKey) → HoldsPlaces s ps
    → get s key ≡ None
    → Updates s after key (Some (n, x)) → HoldsPlaces after (ps ++ record { number = n; key = key } ∷ [])
HoldsPlaces-added s after key n x [] h v u = (subst (IsObjectOf n) (sym u.changed) refl, tt)
HoldsPlaces-added s after key n x (p ∷ ps) h v u = (
  subst (IsObjectOf p.number) (sym (u.others p.key (vacant s p.number key p.key h.0 v))) h.0,
  HoldsPlaces-added s after key n x ps h.1 v u,
)

-- slabs with the same values hold the same objects
pub gathered-same : (s after : Slots) (ps : List ObjectKey) → ((key : ℕ) → get after key ≡ get s key)
    → gathered after ps ≡ gathered s ps
gathered-same s after [] same = refl
gathered-same s after (p ∷ ps) same =
    ap (λ o. (p.number, object_in o) ∷ gathered after ps) (same p.key)
    ∙ ap (λ (es : List (ℕ × Object)). (p.number, object_in (get s p.key)) ∷ es) (gathered-same s after ps same)

pub HoldsPlaces-same : (s after : Slots) (ps : List ObjectKey) → ((key : ℕ) → get after key ≡ get s key)
    → HoldsPlaces s ps
    → HoldsPlaces after ps
HoldsPlaces-same s after [] same h = tt
HoldsPlaces-same s after (p ∷ ps) same h =
    (subst (IsObjectOf p.number) (sym (same p.key)) h.0, HoldsPlaces-same s after ps same h.1)
