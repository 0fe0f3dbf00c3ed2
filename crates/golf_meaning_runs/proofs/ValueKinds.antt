-- The kinds of values, by what the checker says of their types.
-- For: `is_of`, specs/Sound.antt; `fits_layers`, golf_meaning_source/specs/Operations.antt
-- By: cases of the type and of the value; no induction
use Rattle.std.proofs.Common.{◌≡◌, Bool, true, false, ◌&&◌, List, [], ◌∷◌, Some, refl, sym, ◌∙◌, arith}
use Rattle.golf_data.specs.declared.value.Value.{Value}
use Rattle.golf_model.specs.Values.{equality}
use Rattle.golf_check_types.specs.declared.types.Layer.{Layer}
use Rattle.golf_check_types.specs.declared.types.Layer.TheVariants as layer
use Rattle.golf_check_types.specs.declared.types.Base.{Base}
use Rattle.golf_check_types.specs.declared.types.Base.TheVariants as base
use Rattle.golf_check_types.specs.declared.types.GoType.{GoType}
use Rattle.golf_model_typing.specs.Types.{ValueType}
use Rattle.golf_code_shapes.specs.Types.{base_type, layers_type, value_type}
use Rattle.golf_meaning_source.specs.Operations.{Taking, fits_base, fits_layers, fits}
use Rattle.golf_meaning_runs.specs.Sound.{is_of, One, AllFit}

fits-base : (b : Base) (v : Value) → fits_base b v ≡ is_of (base_type b) v
fits-base base.Int v = refl
fits-base base.Bool v = refl
fits-base base.Text v = refl
fits-base base.Unit v = refl
fits-base (base.Pointer k) v = refl
fits-base base.Mutex v = refl
fits-base base.Group v = refl
fits-base base.ReadWriteMutex v = refl
fits-base base.Condition v = refl

-- whether a value fits a type is told by its kind
pub fits-kind : (xs : List Layer) (b : Base) (v : Value) → fits_layers xs b v ≡ is_of (layers_type xs b) v
fits-kind [] b v = fits-base b v
fits-kind (layer.Slice ∷ xs) b v = refl
fits-kind (layer.Chan ∷ xs) b v = refl
fits-kind (layer.SendChan ∷ xs) b v = refl
fits-kind (layer.ReceiveChan ∷ xs) b v = refl

abbrev Compared : Value → Value → Type 0
Compared v x = (b : Bool) × (equality v x ≡ Some b)

nilable-compared : (v x : Value) → is_of ValueType.Mutex v ≡ true → is_of ValueType.Mutex x ≡ true → Compared v x
nilable-compared Value.Nil Value.Nil h k = (_, refl)
nilable-compared Value.Nil (Value.Ref o) h k = (_, refl)
nilable-compared (Value.Ref o) Value.Nil h k = (_, refl)
nilable-compared (Value.Ref o) (Value.Ref p) h k = (_, refl)
nilable-compared v x h k = cc

pub same-compared : (u : ValueType) (v x : Value) → is_of u v ≡ true → is_of u x ≡ true → Compared v x
same-compared ValueType.Int (Value.Int n) (Value.Int m) h k = (_, refl)
same-compared ValueType.Bool (Value.Bool n) (Value.Bool m) h k = (_, refl)
same-compared ValueType.Text (Value.Text n) (Value.Text m) h k = (_, refl)
same-compared ValueType.EmptyStruct Value.Unit Value.Unit h k = (_, refl)
same-compared (ValueType.Struct q) v x h k = nilable-compared v x h k
same-compared ValueType.Mutex v x h k = nilable-compared v x h k
same-compared ValueType.Group v x h k = nilable-compared v x h k
same-compared ValueType.Rw v x h k = nilable-compared v x h k
same-compared ValueType.Cond v x h k = nilable-compared v x h k
same-compared (ValueType.Slice e) v x h k = nilable-compared v x h k
same-compared (ValueType.Chan e) v x h k = nilable-compared v x h k
same-compared u v x h k = cc

module _ (taking : Taking) where
  -- what an answer leaves is one value of the type
  pub one-fits : (e : GoType) (vs : List Value) → AllFit taking (Some e ∷ []) vs → One taking (value_type e) vs
  one-fits e [] h = let n = h.0 in absurd (omega (arith, n))
  one-fits e (v ∷ []) h = λ strict. sym (fits-kind e.layers e.base v) ∙ left (fits (Some e) v) (h.1 strict)
    where
      left : (b : Bool) → (b && true) ≡ true → b ≡ true
      left true q = refl
      left false q = q
  one-fits e (v ∷ (x ∷ vs)) h = let n = h.0 in absurd (omega (arith, n))
  -- values of one type are compared
