-- What holds of the type of what is given, if the checker's tests of it hold.
-- For: `ByType`, specs/Types.antt
-- By: cases of what is given; no induction
use Rattle.std.proofs.Common.{◌≡◌, true, not, [], ◌&&◌, ◌||◌, Some, sym, subst, inl, inr}
use Rattle.std.proofs.lemmas.Bool.{and_parts, or_cases}
use Rattle.golf_check_types.specs.declared.types.Base.{Base}
use Rattle.golf_check_types.specs.declared.types.GoType.{GoType}
use Rattle.golf_check_types.specs.declared.operands.Given.{Given}
use Rattle.golf_check_types.specs.declared.operands.Given.TheVariants as given_as
use Rattle.golf_check_types.specs.Types.{assignable, assignable_type, comparable, has_base, has_layer, is_slice, gives}
use Rattle.golf_check_types.specs.Types.{takes, element, starts_with}
use Rattle.golf_model_typing.specs.Types.{ValueType}
use Rattle.golf_code_shapes.specs.Types.{base_type, value_type, ByType}
use Rattle.golf_code_shapes.proofs.Typings.{same-value, assigned-value, nilable, carried-by, sent-on, slice-of}

module _ (P : ValueType → Type 0) where
  pub based : (b : Base) (g : Given) → has_base b g ≡ true → ByType P g → P (base_type b)
  based b (given_as.Typed e) holds h = subst P (same-value e.layers [] e.base b holds) h
  based b given_as.Nil holds h = cc
  based b given_as.Unknown holds h = absurd h

  pub assigned : (g : Given) (e : GoType) → assignable g (Some e) ≡ true → ByType P g → P (value_type e)
  assigned (given_as.Typed a) e holds h = subst P (assigned-value a e holds) h
  assigned given_as.Nil e holds h = h (value_type e) (nilable e.layers e.base holds)
  assigned given_as.Unknown e holds h = absurd h

  -- a channel that can be received from, one that can be sent on, and a slice
  pub giving : (g : Given) → has_layer gives g ≡ true → ByType P g → (e : GoType) × (element g ≡ Some e)
      × P (ValueType.Chan (value_type e))
  giving (given_as.Typed a) holds h = let c = carried-by a.layers a.base holds in (c.0, c.1, subst P c.2 h)
  giving given_as.Nil holds h = cc
  giving given_as.Unknown holds h = absurd h

  pub taking : (g : Given) → has_layer takes g ≡ true → ByType P g → (e : GoType) × (element g ≡ Some e)
      × P (ValueType.Chan (value_type e))
  taking (given_as.Typed a) holds h = let c = sent-on a.layers a.base holds in (c.0, c.1, subst P c.2 h)
  taking given_as.Nil holds h = cc
  taking given_as.Unknown holds h = absurd h

  pub sliced : (g : Given) → has_layer is_slice g ≡ true → ByType P g → (e : GoType) × (element g ≡ Some e)
      × P (ValueType.Slice (value_type e))
  sliced (given_as.Typed a) holds h = let c = slice-of a.layers a.base holds in (c.0, c.1, subst P c.2 h)
  sliced given_as.Nil holds h = cc
  sliced given_as.Unknown holds h = absurd h

module _ (P Q : ValueType → Type 0) where
  pub alike : (b : Base) (g h : Given) → (has_base b g && has_base b h) ≡ true → ByType P g → ByType Q h
      → P (base_type b) × Q (base_type b)
  alike b g h holds x y =
      let k = and_parts (has_base b g) (has_base b h) holds in (based P b g k.0 x, based Q b h k.1 y)

  -- two operands that may be compared are of one type
  pub compared : (g h : Given) → comparable g h ≡ true → ByType P g → ByType Q h → (u : ValueType) × P u × Q u
  compared (given_as.Typed a) (given_as.Typed b) holds x y =
      let same = elim (or_cases (assignable_type a b) (assignable_type b a)
      (and_parts (assignable_type a b || assignable_type b a) (not (starts_with is_slice a.layers)) holds).0) as (λ
      z. value_type b ≡ value_type a) [
        | inl e ↦ sym (assigned-value a b e)
        | inr e ↦ assigned-value b a e
      ] in
      (value_type a, x, subst Q same y)
  compared (given_as.Typed a) given_as.Nil holds x y =
      (value_type a, x, y (value_type a) (nilable a.layers a.base holds))
  compared given_as.Nil (given_as.Typed b) holds x y =
      (value_type b, x (value_type b) (nilable b.layers b.base holds), y)
  compared given_as.Nil given_as.Nil holds x y = cc
  compared given_as.Unknown h holds x y = absurd x
  compared g given_as.Unknown holds x y = absurd y
