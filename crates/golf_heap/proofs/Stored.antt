-- What a heap's changes keep of its places and its slab.
-- For: `IsStored` (golf_heap/specs/Kept.antt) and `append` (src/heap.rt)
-- By: the lemmas on what is gathered; no induction
use Rattle.std.proofs.Common.{◌≡◌, ◌<◌, ℕ, ◌+◌, List, [], ◌∷◌, ◌++◌, Some, None, sym, ap, ◌∙◌, arith, subst, length-append}
use Rattle.slab.specs.Slab.{get, Updates, slab_len}
use Rattle.golf_data.specs.declared.value.Object.{Object}
use Rattle.golf_heap.specs.declared.places.ObjectKey.{ObjectKey}
use Rattle.golf_heap.specs.Objects.{IsNumbered, appended}
use Rattle.golf_heap.specs.Kept.{gathered, HoldsPlaces, IsStored}
use Rattle.golf_heap.proofs.Gathering.{Slots, gathered-same, HoldsPlaces-same, gathered-added, HoldsPlaces-added}
use Rattle.golf_heap.proofs.Numbers.{IsNumbered-appended}

pub IsStored-room : (s after : Slots) (ps : List ObjectKey) (last : ℕ) → after ≡ record s { capacity = after.capacity }
    → IsStored s ps last → IsStored after ps last
IsStored-room s after ps last e i =
    let same : (key : ℕ) → get after key ≡ get s key = λ key. ap (λ (z : Slots). get z key) e in
    record {
      numbers = subst (λ (es : List (ℕ × Object)). IsNumbered (record { objects = es; last = last }))
          (sym (gathered-same s after ps same)) i.numbers;
      held = HoldsPlaces-same s after ps same i.held;
      only = ap (λ (z : Slots). slab_len z) e ∙ i.only;
    }

-- the object x is put into the vacant slot of the key, with a number above the last
pub record IsPut (s after : Slots) (key n last : ℕ) (x : Object) : Type 0 where
  pub vacant : get s key ≡ None
  pub updates : Updates s after key (Some (n, x))
  pub above : last < n

pub IsStored-appended : (s after : Slots) (key n last : ℕ) (x : Object) (ps : List ObjectKey) → IsStored s ps last
    → IsPut s after key n last x → slab_len after ≡ slab_len s + 1
    → IsStored after (ps ++ record { number = n; key = key } ∷ []) n
IsStored-appended s after key n last x ps i put l = record {
  numbers =
      subst (λ (es : List (ℕ × Object)). IsNumbered (record { objects = es; last = n }))
      (sym (gathered-added s after key n x ps i.held put.vacant put.updates))
      (IsNumbered-appended (record { objects = gathered s ps; last = last }) n x put.above i.numbers);
  held = HoldsPlaces-added s after key n x ps i.held put.vacant put.updates;
  only = l ∙ omega (arith, i.only, length-append ps (record { number = n; key = key } ∷ []));
}

pub view-appended : (s mid after : Slots) (key n last : ℕ) (x : Object) (ps : List ObjectKey)
    → mid ≡ record s { capacity = mid.capacity } → HoldsPlaces mid ps → IsPut mid after key n last x
    → record { objects = gathered after (ps ++ record { number = n; key = key } ∷ []); last = n } ≡ appended n x
    (record { objects = gathered s ps; last = last })
view-appended s mid after key n last x ps room h put =
    let first : gathered after (ps ++ record { number = n; key = key } ∷ []) ≡ gathered s ps ++ (n, x) ∷ [] =
    gathered-added mid after key n x ps h put.vacant put.updates
    ∙ ap (λ (es : List (ℕ × Object)). es ++ (n, x) ∷ [])
    (gathered-same s mid ps (λ k. ap (λ (z : Slots). get z k) room)) in
    ap (λ (es : List (ℕ × Object)). record { objects = es; last = n }) first
