-- What expressions give, by their judgments: values of their types, and places that hold such values.
use Rattle.std.specs.Prelude.{◌≡◌, ℕ, List, [], ◌∷◌, ◌++◌, length, Option, Some, None}
use Rattle.golf_data.specs.declared.value.Value.{Value}
use Rattle.golf_check_types.specs.declared.types.Base.{Base}
use Rattle.golf_check_types.specs.declared.operands.Operand.{Operand}
use Rattle.golf_check_types.specs.declared.operands.Operand.TheVariants as operand
use Rattle.golf_check_types.specs.declared.locals.Local.{Local}
use Rattle.golf_check_types.specs.declared.scopes.FileScope.{FileScope}
use Rattle.golf_model_typing.specs.Types.{ValueType, IsNilable, Types}
use Rattle.golf_code_of.specs.declared.tables.Tables.{Tables}
use Rattle.golf_code_of.specs.Calls.{receiver_base}
use Rattle.golf_code_shapes.specs.Types.{base_type, value_type}
use Rattle.golf_code_shapes.specs.Sound.{Callee}
use Rattle.golf_meaning_flat.specs.Worlds.{World}
use Rattle.golf_meaning_source.specs.Names.{Env}
use Rattle.golf_meaning_source.specs.Operations.{Taking, Gives}
use Rattle.golf_meaning_source.specs.Exprs.{Location, read, store}
use Rattle.golf_meaning_runs.specs.Sound.{SoundPart, Yields, NamesHaveValues, IsOf}

module _ (taking : Taking) where
  -- gives n values
  abbrev pub Many : ℕ → Gives → Type 0
  Many n f = (w : World) → SoundPart taking (λ vs. length vs ≡ n) (f w)

  -- a place of this type, named by `told` values: it can be read, and a value of the type can be stored, after which
  -- the names still have values of their types
  pub record Placed (ds : List Local) (env : Env) (u : ValueType) (place : Location) (tells : Gives) : Type 0 where
    pub told : ℕ
    pub parts : Many told tells
    pub reads : (vs : List Value) → length vs ≡ told → Yields taking u (read taking env place vs)
    pub stores : (vs : List Value) (v : Value) → length vs ≡ told → IsOf taking u v → (w : World)
        → SoundPart taking (NamesHaveValues taking ds) (store taking env place (vs ++ v ∷ []) w)

  -- the receiver of a method of package sync, or nothing
  abbrev pub GivesReceiver : Option Base → Gives → Type 0
  GivesReceiver None f = Many 0 f
  GivesReceiver (Some b) f = Many 1 f

  module _ (types : Types) (t : Tables) (ds : List Local) (f : FileScope) (env : Env) where
    -- the value of an expression, its place and the operands that name the place fit the expression's judgment
    abbrev pub Meets : Operand → Gives → Location → Gives → Type 0
    Meets (operand.Value (Some e)) v p q = Yields taking (value_type e) v
    Meets (operand.Outcome (Some e)) v p q = Yields taking (value_type e) v
    Meets (operand.Constant k b) v p q = Yields taking (base_type b) v
    Meets (operand.Truth b) v p q = Yields taking ValueType.Bool v
    Meets (operand.Variable w (Some e)) v p q = Yields taking (value_type e) v × Placed ds env (value_type e) p q
    Meets (operand.Field i (Some e)) v p q = Yields taking (value_type e) v × Placed ds env (value_type e) p q
    Meets (operand.Element (Some e)) v p q = Yields taking (value_type e) v × Placed ds env (value_type e) p q
    Meets operand.Nil v p q = (u : ValueType) → IsNilable u → Yields taking u v
    Meets operand.Blank v p q = (p ≡ Location.Blank) × Many 0 q
    Meets (operand.Nothing late) v p q = Many 0 v
    Meets (operand.Function k) v p q = Many 0 v × Callee types t f k []
    Meets (operand.Method k) v p q = (j : ℕ) × Many 1 v × Callee types t f k (ValueType.Struct j ∷ [])
    Meets (operand.BuiltIn b) v p q = GivesReceiver (receiver_base b) v
    Meets (operand.Package k) v p q = Many 0 v
    Meets (operand.Struct k) v p q = Unit {0}
    Meets operand.TypeName v p q = Unit {0}
    Meets _ v p q = ⊥
