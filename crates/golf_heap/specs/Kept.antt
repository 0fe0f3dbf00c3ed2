-- How a heap keeps its objects: the objects in a slab, each with its number, and a list of the key of each number.
use Rattle.std.specs.Prelude.{◌≡◌, ℕ, false, List, [], ◌∷◌, length, map, Option, Some, None}
use Rattle.slab.specs.Slab.{Slab, get, slab_len}
use Rattle.golf_data.specs.declared.value.Object.{Object}
use Rattle.golf_heap.specs.declared.places.ObjectKey.{ObjectKey}
use Rattle.golf_heap.specs.Objects.{IsNumbered}

-- the keys of the slots by number
abbrev pub keyed : List ObjectKey → List (ℕ × ℕ)
keyed ps = map (λ p. (p.number, p.key)) ps

-- the object of a slot; an empty slot stands for an unlocked mutex, but no place has one
abbrev pub object_in : Option (ℕ × Object) → Object
object_in None = Object.Mutex false
object_in (Some e) = e.1

-- the objects by number
abbrev pub gathered : Slab (ℕ × Object) → List ObjectKey → List (ℕ × Object)
gathered s [] = []
gathered s (p ∷ ps) = (p.number, object_in (get s p.key)) ∷ gathered s ps

-- the slot has an object of this number
abbrev pub IsObjectOf : ℕ → Option (ℕ × Object) → Type 0
IsObjectOf k None = ⊥
IsObjectOf k (Some e) = e.0 ≡ k

-- the slot of each place has the place's number
abbrev pub HoldsPlaces : Slab (ℕ × Object) → List ObjectKey → Type 0
HoldsPlaces s [] = Unit {0}
HoldsPlaces s (p ∷ ps) = IsObjectOf p.number (get s p.key) × HoldsPlaces s ps

-- the slab has the objects of these places, and no others
pub record IsStored (s : Slab (ℕ × Object)) (ps : List ObjectKey) (last : ℕ) : Type 0 where
  pub numbers : IsNumbered (record { objects = gathered s ps; last = last })
  pub held : HoldsPlaces s ps
  pub only : slab_len s ≡ length ps
