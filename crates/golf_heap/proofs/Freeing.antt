-- Places and slots of which only the flagged ones are kept.
-- For: `kept` (golf_theory/specs/Flags.antt) and `free` (src/places.rt)
-- By: induction over the list of places, with their flags
use Rattle.std.proofs.Common.{◌≡◌, ◌≢◌, ◌⊎◌, inl, inr, ℕ, zero, suc, ◌<◌, Bool, true, false, cond, List, []}
use Rattle.std.proofs.Common.{◌∷◌, length, get_or, Option, Some, None, refl, sym, ap, ◌∙◌, arith}
use Rattle.std.proofs.Common.{subst}
use Rattle.std.specs.Prelude.{IsSome}
use Rattle.slab.specs.Slab.{get, Updates}
use Rattle.golf_data.specs.declared.value.Object.{Object}
use Rattle.golf_theory.specs.Maps.{Rises}
use Rattle.golf_heap.specs.declared.places.ObjectKey.{ObjectKey}
use Rattle.golf_theory.specs.Flags.{kept}
use Rattle.golf_heap.specs.Kept.{keyed, gathered, object_in, IsObjectOf, HoldsPlaces}
use Rattle.golf_heap.proofs.Gathering.{Slots}
use Rattle.golf_heap.proofs.Order.{apart}

-- the slots of the places below `at`, and of those that are flagged, are as they were
abbrev pub Spared : Slots → Slots → List ObjectKey → List Bool → ℕ → Type 0
Spared s now ps keep at = (i : ℕ) (d : ObjectKey) → i < length ps → (i < at) ⊎ (get_or keep i false ≡ true)
    → get now (get_or ps i d).key ≡ get s (get_or ps i d).key

pub spared-less : (s now : Slots) (ps : List ObjectKey) (keep : List Bool) (at : ℕ) → Spared s now ps keep (suc at)
    → Spared s now ps keep at
spared-less s now ps keep at p = λ i d l w. p i d l (elim w [
  | inl b ↦ inl (omega arith)
  | inr t ↦ inr t
])

other : (keep : List Bool) (at i : ℕ) → get_or keep at false ≡ false → (i < at) ⊎ (get_or keep i false ≡ true) → i ≢ at
other keep at i f (inl l) = λ same. omega (arith, l, same)
other keep at i f (inr t) = λ same. cc

-- the places rise from j and have their slots in s; the slot of the one at `at`, whose flag is false, is emptied now
pub record Empties (s now after : Slots) (ps : List ObjectKey) (keep : List Bool) (j at : ℕ)
    (d : ObjectKey) : Type 0 where
  pub rises : Rises j (keyed ps)
  pub held : HoldsPlaces s ps
  pub within : at < length ps
  pub flag : get_or keep at false ≡ false
  pub updates : Updates now after (get_or ps at d).key None

-- one of them, whose flag is false, is emptied
pub spared-freed : (s now after : Slots) (ps : List ObjectKey) (keep : List Bool) (j at : ℕ) (d : ObjectKey)
    → Empties s now after ps keep j at d → Spared s now ps keep (suc at) → Spared s after ps keep at
spared-freed s now after ps keep j at d one p = λ i e m w.
    let differ : (get_or ps i e).key ≢ (get_or ps at d).key =
    subst (λ (x : ObjectKey). (get_or ps i e).key ≢ x.key) (same_item ps at e d one.within)
    (apart s j ps i at e one.rises one.held m one.within (other keep at i one.flag w)) in
    one.updates.others (get_or ps i e).key differ ∙ spared-less s now ps keep at p i e m w
  where
    same_item : (ps : List ObjectKey) (i : ℕ) (d e : ObjectKey) → i < length ps → get_or ps i d ≡ get_or ps i e
    same_item [] i d e l = absurd (omega arith)
    same_item (p ∷ ps) zero d e l = refl
    same_item (p ∷ ps) (suc i) d e l = same_item ps i d e (omega arith)

-- what is left when all were looked at
pub gathered-kept : (s now : Slots) (keep : List Bool) (ps : List ObjectKey)
    → ((i : ℕ) (d : ObjectKey) → i < length ps → get_or keep i false ≡ true
    → get now (get_or ps i d).key ≡ get s (get_or ps i d).key) → gathered now (kept keep ps) ≡ kept keep (gathered s ps)
gathered-kept s now [] ps p = refl
gathered-kept s now (b ∷ bs) [] p = refl
gathered-kept s now (b ∷ bs) (x ∷ ps) p =
    let more : gathered now (kept bs ps) ≡ kept bs (gathered s ps) =
    gathered-kept s now bs ps (λ i d l t. p (suc i) d (omega arith) t) in
    elim b as (λ t. b ≡ t → gathered now (cond t (x ∷ kept bs ps) (kept bs ps)) ≡ cond t
    ((x.number, object_in (get s x.key)) ∷ kept bs (gathered s ps)) (kept bs (gathered s ps))) [
      | true ↦ λ t. ap (λ o. (x.number, object_in o) ∷ gathered now (kept bs ps)) (p 0 x (omega arith) t)
          ∙ ap (λ (es : List (ℕ × Object)). (x.number, object_in (get s x.key)) ∷ es) more
      | false ↦ λ t. more
    ] refl

pub HoldsPlaces-kept : (s now : Slots) (keep : List Bool) (ps : List ObjectKey)
    → ((i : ℕ) (d : ObjectKey) → i < length ps → get_or keep i false ≡ true
    → get now (get_or ps i d).key ≡ get s (get_or ps i d).key) → HoldsPlaces s ps → HoldsPlaces now (kept keep ps)
HoldsPlaces-kept s now [] ps p h = tt
HoldsPlaces-kept s now (b ∷ bs) [] p h = tt
HoldsPlaces-kept s now (b ∷ bs) (x ∷ ps) p h =
    let more : HoldsPlaces now (kept bs ps) =
    HoldsPlaces-kept s now bs ps (λ i d l t. p (suc i) d (omega arith) t) h.1 in
    elim b as (λ t. b ≡ t → HoldsPlaces now (cond t (x ∷ kept bs ps) (kept bs ps))) [
      | true ↦ λ t. (subst (IsObjectOf x.number) (sym (p 0 x (omega arith) t)) h.0, more)
      | false ↦ λ t. more
    ] refl

pub is-filled : (k : ℕ) (o : Option (ℕ × Object)) → IsObjectOf k o → IsSome o
is-filled k None h = absurd h
is-filled k (Some e) h = refl
