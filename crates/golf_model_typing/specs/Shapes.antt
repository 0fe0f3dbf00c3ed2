-- Code that has shapes: what each instruction asks of the shape at its position and of the next shapes.
use Rattle.std.specs.Prelude.{◌≡◌, ◌⊎◌, ℕ, ◌+◌, ◌<◌, true, List, [], ◌∷◌, ◌++◌, length, Option, Some, None}
use Rattle.std.specs.Prelude.{option_to_list, slice_get}
use Rattle.golf_theory.specs.Membership.{In, Every}
use Rattle.golf_data.specs.declared.value.Value.{Value}
use Rattle.golf_data.specs.declared.code.Code.{Code}
use Rattle.golf_data.specs.declared.code.Function.{Function}
use Rattle.golf_data.specs.declared.code.CodeLine.{CodeLine}
use Rattle.golf_data.specs.declared.code.Instr.{Instr}
use Rattle.golf_data.specs.declared.code.SelectCase.{SelectCase}
use Rattle.golf_data.specs.declared.code.CaseKind.{CaseKind}
use Rattle.golf_data.specs.Masks.{stays_under}
use Rattle.golf_model.specs.Values.{zero_of, zeros_of}
use Rattle.golf_model_typing.specs.Types.{ValueType, IsNilable, Shape, Signature, FunctionTypes, Types, Typing}
use Rattle.golf_model_typing.specs.Types.{with_shapes, ValueFits, ValuesFit}

-- the types of a function's slots
abbrev pub slot_types : FunctionTypes → List ValueType
slot_types ft = ft.params ++ ft.locals

-- the types, in source order, on top of these
abbrev pub pushed : List ValueType → List ValueType → List ValueType
pushed [] rest = rest
pushed (t ∷ ts) rest = pushed ts (t ∷ rest)

-- the code goes on at a position with these operands; the shape there asks only for these slots
abbrev pub LeadsToShape : FunctionTypes → List ValueType → List ℕ → ℕ → Type 0
LeadsToShape ft ts assigned k = (next : Shape) × (slice_get ft.shapes k ≡ Some next) × (next.operands ≡ ts)
    × Every (λ i. In i assigned) next.assigned

-- takes operands of these types, the top one first, and leaves others; the code goes on at the next position
abbrev pub Takes : FunctionTypes → ℕ → Shape → List ValueType → List ValueType → Type 0
Takes ft k sh takes leaves = (rest : List ValueType) × (sh.operands ≡ takes ++ rest)
    × LeadsToShape ft (leaves ++ rest) sh.assigned (k + 1)

-- a call of a function of the code with its arguments; it leaves these operands
abbrev pub TakesArguments : Types → FunctionTypes → ℕ → Shape → ℕ → ℕ → (Signature → List ValueType) → Type 0
TakesArguments types ft k sh f n leaves =
    (callee : Signature) × (rest : List ValueType) × (slice_get types.functions f ≡ Some callee)
    × (n ≡ length callee.params)
    × (sh.operands ≡ pushed callee.params rest) × LeadsToShape ft (leaves callee ++ rest) sh.assigned (k + 1)

-- the operands that a case of a `select` takes, on top of these, and those that it leaves at its target
abbrev pub case_takes : CaseKind → ValueType → List ValueType → List ValueType
case_takes CaseKind.Send e rest = e ∷ ValueType.Chan e ∷ rest
case_takes CaseKind.Take e rest = ValueType.Chan e ∷ rest
case_takes CaseKind.TakeOk e rest = ValueType.Chan e ∷ rest

abbrev pub case_leaves : CaseKind → ValueType → List ValueType
case_leaves CaseKind.Send e = []
case_leaves CaseKind.Take e = e ∷ []
case_leaves CaseKind.TakeOk e = ValueType.Bool ∷ e ∷ []

-- the operands of the cases were pushed in source order on top of `rest`; the code can go on at the target of each case
-- and of `default`
abbrev pub CasesFit : FunctionTypes → List ℕ → List ValueType → List SelectCase → List ValueType → List ValueType
    → Type 0
CasesFit ft assigned below [] rest operands = operands ≡ rest
CasesFit ft assigned below (k ∷ ks) rest operands = (e : ValueType)
    × LeadsToShape ft (case_leaves k.kind e ++ below) assigned k.target
    × CasesFit ft assigned below ks (case_takes k.kind e rest) operands

abbrev pub DefaultFits : FunctionTypes → List ℕ → List ValueType → Option ℕ → Type 0
DefaultFits ft assigned below None = Unit {0}
DefaultFits ft assigned below (Some target) = LeadsToShape ft below assigned target

-- the types that `Println` takes
abbrev pub IsPrintable : ValueType → Type 0
IsPrintable ValueType.Int = Unit {0}
IsPrintable ValueType.Bool = Unit {0}
IsPrintable ValueType.Text = Unit {0}
IsPrintable _ = ⊥

-- what each instruction asks of the shape at its position, and of the shapes where it goes on
abbrev pub InstructionFits : Types → FunctionTypes → ℕ → Instr → Shape → Type 0
InstructionFits types ft k (Instr.Int n) sh = Takes ft k sh [] (ValueType.Int ∷ [])
InstructionFits types ft k (Instr.Bool b) sh = Takes ft k sh [] (ValueType.Bool ∷ [])
InstructionFits types ft k (Instr.Text j) sh = (j < types.texts) × Takes ft k sh [] (ValueType.Text ∷ [])
InstructionFits types ft k Instr.Unit sh = Takes ft k sh [] (ValueType.EmptyStruct ∷ [])
InstructionFits types ft k Instr.Nil sh = (t : ValueType) × IsNilable t × Takes ft k sh [] (t ∷ [])
InstructionFits types ft k (Instr.Load i) sh = (t : ValueType) × In i sh.assigned
    × (slice_get (slot_types ft) i ≡ Some t) × Takes ft k sh [] (t ∷ [])
InstructionFits types ft k (Instr.Store i) sh = (t : ValueType) × (rest : List ValueType)
    × (slice_get (slot_types ft) i ≡ Some t) × (sh.operands ≡ t ∷ rest) × LeadsToShape ft rest (i ∷ sh.assigned) (k + 1)
InstructionFits types ft k (Instr.LoadGlobal i) sh = (t : ValueType) × (slice_get types.globals i ≡ Some t)
    × Takes ft k sh [] (t ∷ [])
InstructionFits types ft k (Instr.StoreGlobal i) sh = (t : ValueType) × (slice_get types.globals i ≡ Some t)
    × Takes ft k sh (t ∷ []) []
InstructionFits types ft k Instr.Drop sh = (t : ValueType) × Takes ft k sh (t ∷ []) []
InstructionFits types ft k Instr.Dup sh = (t : ValueType) × Takes ft k sh (t ∷ []) (t ∷ t ∷ [])
InstructionFits types ft k Instr.Dup2 sh = (t u : ValueType) × Takes ft k sh (u ∷ t ∷ []) (u ∷ t ∷ u ∷ t ∷ [])
InstructionFits types ft k Instr.Neg sh = Takes ft k sh (ValueType.Int ∷ []) (ValueType.Int ∷ [])
InstructionFits types ft k Instr.Not sh = Takes ft k sh (ValueType.Bool ∷ []) (ValueType.Bool ∷ [])
InstructionFits types ft k Instr.Add sh = Takes ft k sh (ValueType.Int ∷ ValueType.Int ∷ []) (ValueType.Int ∷ [])
InstructionFits types ft k Instr.Sub sh = Takes ft k sh (ValueType.Int ∷ ValueType.Int ∷ []) (ValueType.Int ∷ [])
InstructionFits types ft k Instr.Mul sh = Takes ft k sh (ValueType.Int ∷ ValueType.Int ∷ []) (ValueType.Int ∷ [])
InstructionFits types ft k Instr.Div sh = Takes ft k sh (ValueType.Int ∷ ValueType.Int ∷ []) (ValueType.Int ∷ [])
InstructionFits types ft k Instr.Rem sh = Takes ft k sh (ValueType.Int ∷ ValueType.Int ∷ []) (ValueType.Int ∷ [])
InstructionFits types ft k Instr.Eq sh = (t : ValueType) × Takes ft k sh (t ∷ t ∷ []) (ValueType.Bool ∷ [])
InstructionFits types ft k Instr.Less sh = Takes ft k sh (ValueType.Int ∷ ValueType.Int ∷ []) (ValueType.Bool ∷ [])
InstructionFits types ft k Instr.AtMost sh = Takes ft k sh (ValueType.Int ∷ ValueType.Int ∷ []) (ValueType.Bool ∷ [])
InstructionFits types ft k (Instr.Jump target) sh = LeadsToShape ft sh.operands sh.assigned target
InstructionFits types ft k (Instr.JumpIfNot target) sh = (rest : List ValueType) × (sh.operands ≡ ValueType.Bool ∷ rest)
    × LeadsToShape ft rest sh.assigned (k + 1) × LeadsToShape ft rest sh.assigned target
InstructionFits types ft k (Instr.NewStruct j) sh = (ts : List ValueType) × (slice_get types.structs j ≡ Some ts)
    × Takes ft k sh [] (ValueType.Struct j ∷ [])
InstructionFits types ft k Instr.NewMutex sh = Takes ft k sh [] (ValueType.Mutex ∷ [])
InstructionFits types ft k Instr.NewGroup sh = Takes ft k sh [] (ValueType.Group ∷ [])
InstructionFits types ft k Instr.NewRw sh = Takes ft k sh [] (ValueType.Rw ∷ [])
InstructionFits types ft k Instr.NewCond sh = Takes ft k sh (ValueType.Mutex ∷ []) (ValueType.Cond ∷ [])
InstructionFits types ft k (Instr.Field i) sh =
    (j : ℕ) × (ts : List ValueType) × (t : ValueType) × (slice_get types.structs j ≡ Some ts)
    × (slice_get ts i ≡ Some t) × Takes ft k sh (ValueType.Struct j ∷ []) (t ∷ [])
InstructionFits types ft k (Instr.SetField i) sh =
    (j : ℕ) × (ts : List ValueType) × (t : ValueType) × (slice_get types.structs j ≡ Some ts)
    × (slice_get ts i ≡ Some t) × Takes ft k sh (t ∷ ValueType.Struct j ∷ []) []
InstructionFits types ft k (Instr.NewSlice z) sh = (e : ValueType) × ValueFits types [] (zero_of z) e
    × Takes ft k sh (ValueType.Int ∷ []) (ValueType.Slice e ∷ [])
InstructionFits types ft k (Instr.NewChan z) sh = (e : ValueType) × ValueFits types [] (zero_of z) e
    × Takes ft k sh (ValueType.Int ∷ []) (ValueType.Chan e ∷ [])
InstructionFits types ft k Instr.Index sh = (e : ValueType)
    × Takes ft k sh (ValueType.Int ∷ ValueType.Slice e ∷ []) (e ∷ [])
InstructionFits types ft k Instr.SetIndex sh = (e : ValueType)
    × Takes ft k sh (e ∷ ValueType.Int ∷ ValueType.Slice e ∷ []) []
InstructionFits types ft k Instr.Len sh = (t e : ValueType) × ((t ≡ ValueType.Slice e) ⊎ (t ≡ ValueType.Chan e))
    × Takes ft k sh (t ∷ []) (ValueType.Int ∷ [])
InstructionFits types ft k Instr.Send sh = (e : ValueType) × Takes ft k sh (e ∷ ValueType.Chan e ∷ []) []
InstructionFits types ft k Instr.Receive sh = (e : ValueType) × Takes ft k sh (ValueType.Chan e ∷ []) (e ∷ [])
InstructionFits types ft k Instr.ReceiveOk sh = (e : ValueType)
    × Takes ft k sh (ValueType.Chan e ∷ []) (ValueType.Bool ∷ e ∷ [])
InstructionFits types ft k Instr.Close sh = (e : ValueType) × Takes ft k sh (ValueType.Chan e ∷ []) []
InstructionFits types ft k (Instr.Select cases otherwise) sh = (below : List ValueType)
    × CasesFit ft sh.assigned below cases below sh.operands × DefaultFits ft sh.assigned below otherwise
InstructionFits types ft k Instr.Lock sh = Takes ft k sh (ValueType.Mutex ∷ []) []
InstructionFits types ft k Instr.Unlock sh = Takes ft k sh (ValueType.Mutex ∷ []) []
InstructionFits types ft k Instr.GroupAdd sh = Takes ft k sh (ValueType.Int ∷ ValueType.Group ∷ []) []
InstructionFits types ft k Instr.GroupWait sh = Takes ft k sh (ValueType.Group ∷ []) []
InstructionFits types ft k Instr.RwLock sh = Takes ft k sh (ValueType.Rw ∷ []) []
InstructionFits types ft k Instr.RwUnlock sh = Takes ft k sh (ValueType.Rw ∷ []) []
InstructionFits types ft k Instr.ReadLock sh = Takes ft k sh (ValueType.Rw ∷ []) []
InstructionFits types ft k Instr.ReadUnlock sh = Takes ft k sh (ValueType.Rw ∷ []) []
InstructionFits types ft k Instr.CondMutex sh = Takes ft k sh (ValueType.Cond ∷ []) (ValueType.Mutex ∷ [])
InstructionFits types ft k Instr.CondWait sh = Takes ft k sh (ValueType.Cond ∷ []) []
InstructionFits types ft k Instr.CondSignal sh = Takes ft k sh (ValueType.Cond ∷ []) []
InstructionFits types ft k Instr.CondBroadcast sh = Takes ft k sh (ValueType.Cond ∷ []) []
InstructionFits types ft k (Instr.Call f n) sh =
    TakesArguments types ft k sh f n (λ callee. option_to_list callee.result)
InstructionFits types ft k (Instr.Go f n) sh = TakesArguments types ft k sh f n (λ callee. [])
InstructionFits types ft k (Instr.Defer f n) sh = TakesArguments types ft k sh f n (λ callee. [])
InstructionFits types ft k Instr.Return sh = ft.result ≡ None
InstructionFits types ft k Instr.ReturnValue sh = (t : ValueType) × (rest : List ValueType) × (ft.result ≡ Some t)
    × (sh.operands ≡ t ∷ rest)
InstructionFits types ft k (Instr.Print n) sh =
    (ts : List ValueType) × (rest : List ValueType) × (n ≡ length ts) × Every IsPrintable ts
    × (sh.operands ≡ pushed ts rest) × LeadsToShape ft rest sh.assigned (k + 1)
InstructionFits types ft k Instr.Collect sh = Takes ft k sh [] []
InstructionFits types ft k (Instr.SetFinalizer f) sh = (j : ℕ) × (sig : Signature)
    × (slice_get types.functions f ≡ Some sig) × (sig.params ≡ ValueType.Struct j ∷ [])
    × Takes ft k sh (ValueType.Struct j ∷ []) []
InstructionFits types ft k Instr.ClearFinalizer sh = (j : ℕ) × Takes ft k sh (ValueType.Struct j ∷ []) []
InstructionFits types ft k Instr.Panic sh = (rest : List ValueType) × (sh.operands ≡ ValueType.Text ∷ rest)

-- a body fits its types: it begins without operands and with only its parameters assigned, and each position that has a
-- shape has an instruction whose rule holds
pub record FunctionFits (types : Types) (fn : Function) (ft : FunctionTypes) : Type 0 where
  pub slots : fn.slots ≡ length (slot_types ft)
  pub begins : (sh : Shape) × (slice_get ft.shapes 0 ≡ Some sh) × (sh.operands ≡ [])
      × Every (λ i. i < length ft.params) sh.assigned
  pub each : (k : ℕ) (sh : Shape) → slice_get ft.shapes k ≡ Some sh → (l : CodeLine) × (slice_get fn.body k ≡ Some l)
      × InstructionFits types ft k l.instr sh

-- the slots for which shapes ask stay under the masks of their positions
abbrev pub MasksCover : Function → List Shape → Type 0
MasksCover fn own = (k : ℕ) (sh : Shape) → slice_get own k ≡ Some sh
    → Every (λ i. stays_under (slice_get fn.live k) i ≡ true) sh.assigned

-- the tables of the code have the given types, each function of the types has a body that fits its shapes, and function
-- 0 takes no arguments
pub record HasShapes (code : Code) (types : Typing) : Type 0 where
  pub texts : types.of.texts ≡ length code.texts
  pub globals : ValuesFit types.of [] (zeros_of code.globals) types.of.globals
  pub structs : (k : ℕ) (ts : List ValueType) → slice_get types.of.structs k ≡ Some ts → (row : List Value)
      × (slice_get code.structs k ≡ Some row) × ValuesFit types.of [] (zeros_of row) ts
  pub functions : (f : ℕ) (sig : Signature) → slice_get types.of.functions f ≡ Some sig → (own : List Shape)
      × (fn : Function) × (slice_get types.shapes f ≡ Some own) × (slice_get code.functions f ≡ Some fn)
      × FunctionFits types.of fn (with_shapes sig own) × MasksCover fn own
  pub first : (sig : Signature) × (slice_get types.of.functions 0 ≡ Some sig) × (sig.params ≡ [])
