-- What is said of the code of expressions and statements: names mean what the types of the code say, and code that
-- breaks no rule has shapes.
use Rattle.std.specs.Prelude.{◌≡◌, ℕ, ◌+◌, ◌<◌, List, [], ◌∷◌, ◌++◌, Option, Some, None, slice_get}
use Rattle.std.specs.Option.{option_map, option_and_then}
use Rattle.golf_theory.specs.Membership.{In, Every}
use Rattle.golf_check_types.specs.declared.types.Base.{Base}
use Rattle.golf_check_types.specs.declared.types.GoType.{GoType}
use Rattle.golf_check_types.specs.declared.operands.Where.TheVariants as place
use Rattle.golf_check_types.specs.declared.operands.Signature.{Signature as Declared}
use Rattle.golf_check_types.specs.declared.operands.Operand.{Operand}
use Rattle.golf_check_types.specs.declared.operands.Operand.TheVariants as operand
use Rattle.golf_check_types.specs.declared.operands.Given.{Given}
use Rattle.golf_check_types.specs.declared.locals.Local.{Local}
use Rattle.golf_check_types.specs.declared.scopes.Member.{Member}
use Rattle.golf_check_types.specs.declared.scopes.Member.TheVariants as members
use Rattle.golf_check_types.specs.declared.scopes.FileScope.{FileScope}
use Rattle.golf_check_types.specs.declared.scopes.Scope.{Scope}
use Rattle.golf_check_types.specs.Scopes.{type_at, file_operand, member}
use Rattle.golf_model_typing.specs.Types.{ValueType, IsNilable, Shape, Signature, FunctionTypes, Types, ValueFits}
use Rattle.golf_model_typing.specs.Shapes.{slot_types}
use Rattle.golf_code_layout.specs.Piece.{Piece}
use Rattle.golf_code_shapes.specs.Has.{shape, Has}
use Rattle.golf_code_of.specs.Table.{text_number}
use Rattle.golf_code_of.specs.declared.tables.Tables.{Tables}
use Rattle.golf_code_of.specs.Values.{constant}
use Rattle.golf_code_of.specs.Expressions.{Made}
use Rattle.golf_code_of.specs.Calls.{receiver_base}
use Rattle.golf_code_shapes.specs.Types.{base_type, value_type, known_types, ByType}

abbrev pub IsKnown : Option GoType → Type 0
IsKnown o = (t : GoType) × (o ≡ Some t)

-- the type of the field at a place of a struct
abbrev pub type_of_field : FileScope → ℕ → ℕ → Option GoType
type_of_field f k i = option_and_then (λ ts. type_at ts i) (slice_get f.fields k)

module _ (types : Types) (t : Tables) where
  -- the function of this number of a file has these types in the code; a method has its receiver as the first parameter
  abbrev pub Callee : FileScope → ℕ → List ValueType → Type 0
  Callee f k receiver =
      (sig : Declared) × (callee : Signature) × (slice_get f.functions k ≡ Some sig)
      × (slice_get types.functions (k + 1) ≡ Some callee)
      × (callee.params ≡ receiver ++ known_types sig.parameters) × (callee.result ≡ option_map value_type sig.result)
      × Every IsKnown sig.parameters

  -- the meaning of a name of the file
  abbrev pub NameFits : FileScope → Operand → Type 0
  NameFits f (operand.Variable (place.Global g) (Some of_type)) = slice_get types.globals g ≡ Some (value_type of_type)
  NameFits f (operand.Constant k b) = ValueFits types [] (constant t k) (base_type b)
  NameFits f (operand.Function k) = Callee f k []
  NameFits f (operand.Struct k) = (ts : List ValueType) × (slice_get types.structs k ≡ Some ts)
  NameFits f _ = ⊥

  abbrev pub MemberFits : FileScope → ℕ → Member → Type 0
  MemberFits f k (members.Field i) = (ts : List ValueType) × (of_type : GoType) × (slice_get types.structs k ≡ Some ts)
      × (type_of_field f k i ≡ Some of_type) × (slice_get ts i ≡ Some (value_type of_type))
  MemberFits f k (members.Method q) = Callee f q (ValueType.Struct k ∷ [])

  -- the names of a file mean what the types of the code say
  pub record FileFits (f : FileScope) : Type 0 where
    pub texts : (bytes : List ℕ) → text_number t.texts bytes < types.texts
    pub names : (n : List ℕ) (m : Operand) → file_operand f n ≡ Some m → NameFits f m
    pub members : (k : ℕ) (n : List ℕ) (m : Member) → member f k n ≡ Some m → MemberFits f k m

module _ (types : Types) (t : Tables) (ft : FunctionTypes) where
  -- a local is in a slot of its type, which is assigned
  abbrev pub LocalFits : List ℕ → Local → Type 0
  LocalFits assigned d = (of_type : GoType) × (d.of_type ≡ Some of_type) × In d.slot assigned
      × (slice_get (slot_types ft) d.slot ≡ Some (value_type of_type))

  pub record ScopeFits (assigned : List ℕ) (s : Scope) : Type 0 where
    pub file : FileFits types t s.file
    pub locals : Every (LocalFits assigned) s.locals
    pub result : ft.result ≡ option_map value_type s.result

module _ (types : Types) (ft : FunctionTypes) (assigned : List ℕ) where
  -- the piece takes these operands, the top one first, and leaves those
  abbrev pub TurnsOperands : Piece → List ValueType → List ValueType → Type 0
  TurnsOperands p takes leaves = (ops : List ValueType) (exits : List Shape)
      → Has types ft p (shape (takes ++ ops) assigned) (shape (leaves ++ ops) assigned) exits

  abbrev pub Pushes : Piece → ValueType → Type 0
  Pushes p e = TurnsOperands p [] (e ∷ [])

  -- the piece leaves the operands as they are
  abbrev pub Silent : Piece → Type 0
  Silent p = TurnsOperands p [] []

  -- a place that holds a value of this type, named by operands of the types in `told`
  pub record Places (x : Made) (e : ValueType) : Type 0 where
    pub told : List ValueType
    pub parts : TurnsOperands x.parts [] told
    pub twice : (ops : List ValueType) (exits : List Shape)
        → Has types ft x.twice (shape (told ++ ops) assigned) (shape (told ++ (told ++ ops)) assigned) exits
    pub read : TurnsOperands x.read told (e ∷ [])
    pub store : TurnsOperands x.store (e ∷ told) []

  abbrev pub PlaceOf : Made → ValueType → Type 0
  PlaceOf x e = Pushes x.piece e × Places x e

  -- the receiver of a method of package sync
  abbrev pub PushesReceiver : Option Base → Piece → Type 0
  PushesReceiver None p = Silent p
  PushesReceiver (Some b) p = Pushes p (base_type b)

module _ (types : Types) (t : Tables) (ft : FunctionTypes) (assigned : List ℕ) (f : FileScope) where
  -- what the code of an expression does, by the expression's judgment
  abbrev pub Shown : Operand → Made → Type 0
  Shown (operand.Value (Some e)) x = Pushes types ft assigned x.piece (value_type e)
  Shown (operand.Outcome (Some e)) x = Pushes types ft assigned x.piece (value_type e)
  Shown (operand.Constant k b) x = Pushes types ft assigned x.piece (base_type b)
  Shown (operand.Truth b) x = Pushes types ft assigned x.piece ValueType.Bool
  Shown (operand.Variable w (Some e)) x = PlaceOf types ft assigned x (value_type e)
  Shown (operand.Field i (Some e)) x = PlaceOf types ft assigned x (value_type e)
  Shown (operand.Element (Some e)) x = PlaceOf types ft assigned x (value_type e)
  Shown operand.Nil x = (e : ValueType) → IsNilable e → Pushes types ft assigned x.piece e
  Shown operand.Blank x = Silent types ft assigned x.parts
      × ((e : ValueType) → TurnsOperands types ft assigned x.store (e ∷ []) [])
  Shown (operand.Nothing None) x = Silent types ft assigned x.piece
  Shown (operand.Nothing (Some rule)) x = Unit {0}
  Shown (operand.Function k) x = Silent types ft assigned x.piece × Callee types t f k []
  Shown (operand.Method k) x = (j : ℕ) × Pushes types ft assigned x.piece (ValueType.Struct j)
      × Callee types t f k (ValueType.Struct j ∷ [])
  Shown (operand.BuiltIn b) x = PushesReceiver types ft assigned (receiver_base b) x.piece
  Shown (operand.Package p) x = Silent types ft assigned x.piece
  Shown (operand.Struct k) x = Unit {0}
  Shown operand.TypeName x = Unit {0}
  Shown _ x = ⊥

  -- the code pushes such a value
  abbrev pub PushesGiven : Given → Piece → Type 0
  PushesGiven g p = ByType (Pushes types ft assigned p) g
