-- Operations of a source, and their answers.
use Rattle.std.specs.Prelude.{◌==◌, ◌&&◌, ◌||◌, Bool, true, false, not, is_some, List, [], ◌∷◌, ◌++◌, length, Option}
use Rattle.std.specs.Prelude.{Some, None}
use Rattle.golf_data.specs.declared.value.Value.{Value}
use Rattle.golf_data.specs.declared.code.Instr.{Instr}
use Rattle.golf_model.specs.Values.{int_of, bool_of, text_of}
use Rattle.golf_check_types.specs.declared.types.Layer.{Layer}
use Rattle.golf_check_types.specs.declared.types.Base.{Base}
use Rattle.golf_check_types.specs.declared.types.Base.TheVariants as base
use Rattle.golf_check_types.specs.declared.types.GoType.{GoType}
use Rattle.golf_data.specs.Effects.{taken}
use Rattle.golf_meaning_flat.specs.Worlds.{Misfit, Halt, World, Part, bind, asks}
use Rattle.golf_meaning_flat.specs.InstructionEffects.{unfit, miscount, wrong_kind, gets, chosen_by}

-- Whether a value is of a type, by its kind.

abbrev pub is_unit : Value → Bool
is_unit Value.Unit = true
is_unit _ = false

abbrev pub is_nilable : Value → Bool
is_nilable Value.Nil = true
is_nilable (Value.Ref o) = true
is_nilable _ = false

abbrev pub fits_base : Base → Value → Bool
fits_base base.Int v = is_some (int_of v)
fits_base base.Bool v = is_some (bool_of v)
fits_base base.Text v = is_some (text_of v)
fits_base base.Unit v = is_unit v
fits_base _ v = is_nilable v

abbrev pub fits_layers : List Layer → Base → Value → Bool
fits_layers [] b v = fits_base b v
fits_layers (x ∷ xs) b v = is_nilable v

abbrev pub fits : Option GoType → Value → Bool
fits None v = false
fits (Some t) v = fits_layers t.layers t.base v

abbrev pub all_fit : List (Option GoType) → List Value → Bool
all_fit [] [] = true
all_fit (t ∷ ts) (v ∷ vs) = fits t v && all_fit ts vs
all_fit _ _ = false

-- A part of a meaning that gives values in source order.
abbrev pub Gives : Type 0
Gives = World → Part (List Value)

abbrev pub gives : List Value → Gives
gives vs w = Part.Gives vs w

-- one and then the other
abbrev pub both : Gives → Gives → Gives
both f g w = bind (f w) (λ xs u. bind (g u) (λ ys v. Part.Gives (xs ++ ys) v))

abbrev pub then_do : Gives → (List Value → Gives) → Gives
then_do f g w = bind (f w) g

abbrev pub in_order : List Gives → Gives
in_order [] w = Part.Gives [] w
in_order (f ∷ fs) w = both f (in_order fs) w

-- How answers are taken: `gives` says which functions give a value, and with that how many values an answer has; a
-- strict taking also asks that the values are of the types that the operation leaves.
pub record Taking : Type 0 where
  pub gives : List Bool
  pub strict : Bool

abbrev pub misfit : {A : Type 0} → World → Part A
misfit w = Part.Stops (Halt.Unfit Misfit.OfAnswer) w.operations

-- `panic`, which has no answer
abbrev pub panicking : List Value → Gives
panicking vs w = chosen_by (length vs == 1) (bind (asks Instr.Panic vs w) (λ a u. miscount u)) (unfit w)

abbrev pub on_one : (World → Value → Part Value) → List Value → Gives
on_one f (x ∷ []) w = bind (f w x) (λ v u. Part.Gives (v ∷ []) u)
on_one f _ w = unfit w

abbrev pub on_two : (World → Value → Value → Part Value) → List Value → Gives
on_two f (x ∷ (y ∷ [])) w = bind (f w x y) (λ v u. Part.Gives (v ∷ []) u)
on_two f _ w = unfit w

-- goes on by one truth value
abbrev pub by_bool : Option Bool → {A : Type 0} → World → Part A → Part A → Part A
by_bool None w p q = wrong_kind w
by_bool (Some b) w p q = chosen_by b p q

abbrev pub if_true : List Value → Gives → Gives → Gives
if_true (x ∷ []) f g w = by_bool (bool_of x) w (f w) (g w)
if_true _ f g w = unfit w

module _ (taking : Taking) where
  -- an operation with these operands; its answer has values of these types
  abbrev pub answered : Instr → List (Option GoType) → List Value → Gives
  answered i leaves vs w = bind (gets taking.gives i vs w)
      (λ a u. chosen_by (not taking.strict || all_fit leaves a.values) (Part.Gives a.values u) (misfit u))

  abbrev pub visible : Instr → List (Option GoType) → List Value → Gives
  visible i leaves vs w = chosen_by (length vs == taken i) (answered i leaves vs w) (unfit w)
