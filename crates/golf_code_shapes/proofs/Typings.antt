-- What the tests of the checker say of the types of shapes.
-- For: `value_type` and `layers_type`, specs/Types.antt
-- By: induction over the layers of a type
use Rattle.std.proofs.Common.{◌≡◌, ◌⊎◌, inl, inr, ℕ, Bool, true, false, not, ◌&&◌, ◌||◌, ◌==◌, List, [], ◌∷◌, ◌++◌}
use Rattle.std.proofs.Common.{Some, refl, ap, ◌∙◌, arith}
use Rattle.std.proofs.lemmas.Bool.{and_parts, or_cases}
use Rattle.golf_check_types.specs.declared.types.Layer.{Layer}
use Rattle.golf_check_types.specs.declared.types.Layer.TheVariants as layer
use Rattle.golf_check_types.specs.declared.types.Base.{Base}
use Rattle.golf_check_types.specs.declared.types.Base.TheVariants as base
use Rattle.golf_check_types.specs.declared.types.GoType.{GoType}
use Rattle.golf_check_types.specs.declared.operands.Given.{Given}
use Rattle.golf_check_types.specs.declared.operands.Given.TheVariants as given_as
use Rattle.golf_check_types.specs.Types.{same_layers, same_base, same_type, narrows, assignable_type, assignable}
use Rattle.golf_check_types.specs.Types.{takes_nil, has_layer, is_slice, is_channel, is_any, gives, takes, starts_with}
use Rattle.golf_check_types.specs.Types.{inside, element}
use Rattle.golf_check_types.specs.Faults.{broken}
use Rattle.golf_check_types.specs.Statements.{is_carried}
use Rattle.golf_model_typing.specs.Types.{ValueType, IsNilable}
use Rattle.golf_code_shapes.specs.Types.{base_type, layers_type, value_type}

-- faults that are none

pub none-left : {X : Type 0} (xs ys : List X) → xs ++ ys ≡ [] → xs ≡ []
none-left [] ys e = refl
none-left (x ∷ xs) ys e = cc

pub none-right : {X : Type 0} (xs ys : List X) → xs ++ ys ≡ [] → ys ≡ []
none-right [] ys e = e
none-right (x ∷ xs) ys e = cc

pub kept : (l r : ℕ) (b : Bool) → broken l r b ≡ [] → b ≡ true
kept l r true e = refl
kept l r false e = cc

same-layers : (xs ys : List Layer) (b : Base) → same_layers xs ys ≡ true → layers_type xs b ≡ layers_type ys b
same-layers [] [] b e = refl
same-layers (layer.Slice ∷ xs) (layer.Slice ∷ ys) b e = ap ValueType.Slice (same-layers xs ys b e)
same-layers (layer.Chan ∷ xs) (layer.Chan ∷ ys) b e = ap ValueType.Chan (same-layers xs ys b e)
same-layers (layer.SendChan ∷ xs) (layer.SendChan ∷ ys) b e = ap ValueType.Chan (same-layers xs ys b e)
same-layers (layer.ReceiveChan ∷ xs) (layer.ReceiveChan ∷ ys) b e = ap ValueType.Chan (same-layers xs ys b e)
same-layers _ _ b e = cc

same-number : (i j : ℕ) → (i == j) ≡ true → i ≡ j
same-number i j e = grind (arith, e)

same-base : (a b : Base) → same_base a b ≡ true → base_type a ≡ base_type b
same-base (base.Pointer i) (base.Pointer j) e = ap ValueType.Struct (same-number i j e)
same-base base.Int base.Int e = refl
same-base base.Bool base.Bool e = refl
same-base base.Text base.Text e = refl
same-base base.Unit base.Unit e = refl
same-base base.Mutex base.Mutex e = refl
same-base base.Group base.Group e = refl
same-base base.ReadWriteMutex base.ReadWriteMutex e = refl
same-base base.Condition base.Condition e = refl
same-base a b e = cc

on-base : (xs : List Layer) (a b : Base) → base_type a ≡ base_type b → layers_type xs a ≡ layers_type xs b
on-base [] a b e = e
on-base (layer.Slice ∷ xs) a b e = ap ValueType.Slice (on-base xs a b e)
on-base (layer.Chan ∷ xs) a b e = ap ValueType.Chan (on-base xs a b e)
on-base (layer.SendChan ∷ xs) a b e = ap ValueType.Chan (on-base xs a b e)
on-base (layer.ReceiveChan ∷ xs) a b e = ap ValueType.Chan (on-base xs a b e)

pub same-value : (xs ys : List Layer) (a b : Base) → (same_layers xs ys && same_base a b) ≡ true
    → layers_type xs a ≡ layers_type ys b
same-value xs ys a b e = let p = and_parts (same_layers xs ys) (same_base a b) e in same-layers xs ys a p.0
    ∙ on-base ys a b (same-base a b p.1)

narrow-value : (xs ys : List Layer) (b : Base) → narrows xs ys ≡ true → layers_type xs b ≡ layers_type ys b
narrow-value (layer.Chan ∷ xs) (layer.SendChan ∷ ys) b e = ap ValueType.Chan (same-layers xs ys b e)
narrow-value (layer.Chan ∷ xs) (layer.ReceiveChan ∷ ys) b e = ap ValueType.Chan (same-layers xs ys b e)
narrow-value xs ys b e = cc

-- what is assignable has the same type, if directions are forgotten
pub assigned-value : (a b : GoType) → assignable_type a b ≡ true → value_type a ≡ value_type b
assigned-value a b e = elim (or_cases (same_type a b) (narrows a.layers b.layers && same_base a.base b.base) e) [
  | inl p ↦ same-value a.layers b.layers a.base b.base p
  | inr p ↦ (let q = and_parts (narrows a.layers b.layers)
      (same_base a.base b.base) p in narrow-value a.layers b.layers a.base q.0
      ∙ on-base b.layers a.base b.base (same-base a.base b.base q.1))
]

pub nilable : (xs : List Layer) (b : Base) → takes_nil xs b ≡ true → IsNilable (layers_type xs b)
nilable [] (base.Pointer n) e = tt
nilable [] base.Mutex e = tt
nilable [] base.Group e = tt
nilable [] base.ReadWriteMutex e = tt
nilable [] base.Condition e = tt
nilable [] base.Int e = cc
nilable [] base.Bool e = cc
nilable [] base.Text e = cc
nilable [] base.Unit e = cc
nilable (layer.Slice ∷ xs) b e = tt
nilable (layer.Chan ∷ xs) b e = tt
nilable (layer.SendChan ∷ xs) b e = tt
nilable (layer.ReceiveChan ∷ xs) b e = tt

-- what is received is of the type that the channel carries
pub carried-by : (xs : List Layer) (b : Base) → starts_with gives xs ≡ true → (e : GoType) × (inside xs b ≡ Some e)
    × (layers_type xs b ≡ ValueType.Chan (value_type e))
carried-by [] b e = cc
carried-by (layer.Slice ∷ xs) b e = cc
carried-by (layer.Chan ∷ xs) b e = (record { layers = xs; base = b }, refl, refl)
carried-by (layer.SendChan ∷ xs) b e = cc
carried-by (layer.ReceiveChan ∷ xs) b e = (record { layers = xs; base = b }, refl, refl)

pub sent-on : (xs : List Layer) (b : Base) → starts_with takes xs ≡ true → (e : GoType) × (inside xs b ≡ Some e)
    × (layers_type xs b ≡ ValueType.Chan (value_type e))
sent-on [] b e = cc
sent-on (layer.Slice ∷ xs) b e = cc
sent-on (layer.Chan ∷ xs) b e = (record { layers = xs; base = b }, refl, refl)
sent-on (layer.SendChan ∷ xs) b e = (record { layers = xs; base = b }, refl, refl)
sent-on (layer.ReceiveChan ∷ xs) b e = cc

is-a-channel : (xs : List Layer) → starts_with takes xs ≡ true → starts_with is_channel xs ≡ true
is-a-channel [] e = cc
is-a-channel (layer.Slice ∷ xs) e = cc
is-a-channel (layer.Chan ∷ xs) e = refl
is-a-channel (layer.SendChan ∷ xs) e = refl
is-a-channel (layer.ReceiveChan ∷ xs) e = cc

has-channel : (c : Given) → has_layer takes c ≡ true → has_layer is_channel c ≡ true
has-channel (given_as.Typed a) e = is-a-channel a.layers e
has-channel given_as.Nil e = cc
has-channel given_as.Unknown e = refl

where-true : (a b : Bool) → a ≡ true → (not a || b) ≡ true → b ≡ true
where-true true b h e = e
where-true false b h e = cc

-- what may be sent is of the type that the channel carries
pub carried-on : (c v : Given) → has_layer takes c ≡ true → is_carried c v ≡ true → assignable v (element c) ≡ true
carried-on c v e h = where-true (has_layer is_channel c) (assignable v (element c)) (has-channel c e) h

pub slice-of : (xs : List Layer) (b : Base) → starts_with is_slice xs ≡ true → (e : GoType) × (inside xs b ≡ Some e)
    × (layers_type xs b ≡ ValueType.Slice (value_type e))
slice-of (layer.Slice ∷ xs) b e = (record { layers = xs; base = b }, refl, refl)
slice-of _ b e = cc

pub measured : (xs : List Layer) (b : Base) → starts_with is_any xs ≡ true → (e : ValueType)
    × ((layers_type xs b ≡ ValueType.Slice e) ⊎ (layers_type xs b ≡ ValueType.Chan e))
measured [] b e = cc
measured (layer.Slice ∷ xs) b e = (layers_type xs b, inl refl)
measured (layer.Chan ∷ xs) b e = (layers_type xs b, inr refl)
measured (layer.SendChan ∷ xs) b e = (layers_type xs b, inr refl)
measured (layer.ReceiveChan ∷ xs) b e = (layers_type xs b, inr refl)
