-- Meanings that lack no rule, and the kinds of values.
use Rattle.std.specs.Prelude.{◌≡◌, ℕ, Bool, true, false, is_some, unwrap_or, List, [], ◌∷◌, length, Option, Some, None}
use Rattle.std.specs.Prelude.{slice_get}
use Rattle.golf_data.specs.declared.value.Value.{Value}
use Rattle.golf_model.specs.Values.{int_of, bool_of, text_of}
use Rattle.golf_check_types.specs.declared.types.GoType.{GoType}
use Rattle.golf_check_types.specs.declared.locals.Local.{Local}
use Rattle.golf_check_types.specs.declared.scopes.FileScope.{FileScope}
use Rattle.golf_check_types.specs.declared.operands.Operand.{Operand}
use Rattle.golf_check_types.specs.declared.operands.Operand.TheVariants as operand
use Rattle.golf_check_types.specs.declared.operands.Given.{Given}
use Rattle.golf_model_typing.specs.Types.{ValueType, Signature, Types}
use Rattle.golf_code_shapes.specs.Types.{value_type, ByType}
use Rattle.golf_code_shapes.specs.Sound.{FileFits}
use Rattle.golf_code_of.specs.declared.tables.Tables.{Tables}
use Rattle.golf_meaning_flat.specs.Worlds.{Misfit, Halt, World, Part}
use Rattle.golf_meaning_source.specs.Names.{Env}
use Rattle.golf_meaning_source.specs.Operations.{Taking, Gives, is_unit, is_nilable, all_fit}

-- No rule is lacking at a halt. A halt is unfit by a kind only where kinds are looked at: in an answer if the taking is
-- strict, and otherwise where a value is used.
abbrev pub HaltSound : Bool → Halt → Type 0
HaltSound strict (Halt.Unfit Misfit.OfAnswer) = strict ≡ true
HaltSound strict (Halt.Unfit Misfit.OfKind) = strict ≡ false
HaltSound strict (Halt.Unfit Misfit.OfRule) = ⊥
HaltSound strict h = Unit {0}

-- whether a value is of this type, by its kind
abbrev pub is_of : ValueType → Value → Bool
is_of ValueType.Int v = is_some (int_of v)
is_of ValueType.Bool v = is_some (bool_of v)
is_of ValueType.Text v = is_some (text_of v)
is_of ValueType.EmptyStruct v = is_unit v
is_of (ValueType.Struct k) v = is_nilable v
is_of ValueType.Mutex v = is_nilable v
is_of ValueType.Group v = is_nilable v
is_of ValueType.Rw v = is_nilable v
is_of ValueType.Cond v = is_nilable v
is_of (ValueType.Slice e) v = is_nilable v
is_of (ValueType.Chan e) v = is_nilable v

module _ (taking : Taking) where
  -- no rule is lacking, and K holds of the result
  abbrev pub SoundPart : {A : Type 0} → (A → Type 0) → Part A → Type 0
  SoundPart K (Part.Gives a w) = K a
  SoundPart K (Part.Stops h os) = HaltSound taking.strict h

  -- the value is of this type; this is asked only if kinds are looked at in answers
  abbrev pub IsOf : ValueType → Value → Type 0
  IsOf u v = taking.strict ≡ true → is_of u v ≡ true

  -- as many values as types, and values of these types
  abbrev pub AllFit : List (Option GoType) → List Value → Type 0
  AllFit types vs = (length vs ≡ length types) × (taking.strict ≡ true → all_fit types vs ≡ true)

  -- one value, of this type
  abbrev pub One : ValueType → List Value → Type 0
  One u [] = ⊥
  One u (v ∷ []) = IsOf u v
  One u (v ∷ (x ∷ vs)) = ⊥

  -- gives one value of this type in every world
  abbrev pub Yields : ValueType → Gives → Type 0
  Yields u f = (w : World) → SoundPart (One u) (f w)

  -- gives one value of the given type; nil is of each type that has nil
  abbrev pub YieldsBy : Given → Gives → Type 0
  YieldsBy g f = ByType (λ u. Yields u f) g

  -- the operand is a value
  abbrev pub ShownBySource : Operand → Gives → Type 0
  ShownBySource (operand.Value (Some e)) f = Yields (value_type e) f
  ShownBySource (operand.Outcome (Some e)) f = Yields (value_type e) f
  ShownBySource (operand.Element (Some e)) f = Yields (value_type e) f
  ShownBySource _ f = ⊥

  -- a value of a known type
  abbrev pub Held : Option GoType → Value → Type 0
  Held None v = ⊥
  Held (Some e) v = IsOf (value_type e) v

  -- the environment has the names of the locals, with values of their types, which are known
  abbrev pub NamesHaveValues : List Local → Env → Type 0
  NamesHaveValues [] [] = Unit {0}
  NamesHaveValues [] (x ∷ xs) = ⊥
  NamesHaveValues (d ∷ ds) [] = ⊥
  NamesHaveValues (d ∷ ds) (x ∷ xs) = (x.name ≡ d.name) × Held d.of_type x.value × NamesHaveValues ds xs

  -- The names of a file mean what the types of the code say, and an answer to a call is taken to have a value exactly
  -- when the function gives one.
  pub record FileTaken (types : Types) (t : Tables) (f : FileScope) : Type 0 where
    pub fits : FileFits types t f
    pub counts : (k : ℕ) (callee : Signature) → slice_get types.functions k ≡ Some callee
        → unwrap_or (slice_get taking.gives k) false ≡ is_some callee.result
