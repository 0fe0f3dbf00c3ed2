-- The code of calls (Go specification, "Calls", "Built-in functions"; packages fmt, runtime and sync).
use Rattle.std.specs.Prelude.{ℕ, ◌+◌, negsuc, cond, List, [], ◌∷◌, length, map, Option, Some, None}
use Rattle.golf_data.specs.declared.code.Instr.{Instr}
use Rattle.golf_check_types.specs.declared.types.Base.{Base}
use Rattle.golf_check_types.specs.declared.types.Base.TheVariants as base
use Rattle.golf_check_types.specs.declared.types.GoType.{GoType}
use Rattle.golf_check_types.specs.declared.operands.Operand.{Operand}
use Rattle.golf_check_types.specs.declared.operands.Operand.TheVariants as operand
use Rattle.golf_check_types.specs.declared.operands.BuiltIn.{BuiltIn}
use Rattle.golf_check_types.specs.declared.operands.BuiltIn.TheVariants as built_in
use Rattle.golf_check_types.specs.Types.{plain, type_given, given}
use Rattle.golf_check_types.specs.Calls.{sets_finaliser}
use Rattle.golf_code_layout.specs.Piece.{Piece, all, op}
use Rattle.golf_code_of.specs.declared.surroundings.Making.{Making}
use Rattle.golf_code_of.specs.Expressions.{Made, only}

-- the code of a built-in call, after its operands; there are n of them
abbrev pub operation : ℕ → BuiltIn → ℕ → Piece
operation l built_in.Length n = op l Instr.Len
operation l built_in.Close n = op l Instr.Close
operation l built_in.Panic n = op l Instr.Panic
operation l built_in.Print n = op l (Instr.Print n)
operation l built_in.Collect n = op l Instr.Collect
operation l built_in.SetFinalizer n = Piece.Empty
operation l built_in.NewCondition n = op l Instr.NewCond
operation l built_in.Lock n = op l Instr.Lock
operation l built_in.Unlock n = op l Instr.Unlock
operation l built_in.Add n = op l Instr.GroupAdd
operation l built_in.Done n = all (op l (Instr.Int (negsuc 0)) ∷ op l Instr.GroupAdd ∷ [])
operation l built_in.WaitGroup n = op l Instr.GroupWait
operation l built_in.WriteLock n = op l Instr.RwLock
operation l built_in.WriteUnlock n = op l Instr.RwUnlock
operation l built_in.ReadLock n = op l Instr.ReadLock
operation l built_in.ReadUnlock n = op l Instr.ReadUnlock
operation l built_in.WaitCondition n = op l Instr.CondWait
operation l built_in.Signal n = op l Instr.CondSignal
operation l built_in.Broadcast n = op l Instr.CondBroadcast

-- Function 0 of a code runs the initialisers, so the functions of the file have numbers one higher. A method takes its
-- receiver as one more argument.
abbrev pub calling : ℕ → Operand → ℕ → Piece
calling l (operand.Function k) n = op l (Instr.Call (k + 1) n)
calling l (operand.Method k) n = op l (Instr.Call (k + 1) (n + 1))
calling l (operand.BuiltIn b) n = operation l b n
calling l _ n = Piece.Empty

-- an expression as an argument: its meaning and its code
pub record ArgumentCode : Type 0 where
  pub meaning : Operand
  pub piece : Piece

abbrev pub pushes : List ArgumentCode → Piece
pushes xs = all (map (λ x. x.piece) xs)

-- a function as a finaliser, or nil
abbrev pub finaliser : ℕ → Operand → Piece
finaliser l (operand.Function k) = op l (Instr.SetFinalizer (k + 1))
finaliser l _ = op l Instr.ClearFinalizer

-- `SetFinalizer(p, f)`: the instruction names the function
abbrev pub finalising : ℕ → List ArgumentCode → Piece
finalising l (x ∷ (y ∷ ys)) = all (x.piece ∷ finaliser l y.meaning ∷ [])
finalising l _ = Piece.Empty

-- receiver, arguments, and the call
abbrev pub call : ℕ → Operand → Piece → List ArgumentCode → Made
call l f receiver xs = only (cond (sets_finaliser f) (finalising l xs)
    (all (receiver ∷ pushes xs ∷ calling l f (length xs) ∷ [])))

-- Go and defer statements begin a function. For a built-in call a function is made.

abbrev pub receiver_base : BuiltIn → Option Base
receiver_base built_in.Lock = Some base.Mutex
receiver_base built_in.Unlock = Some base.Mutex
receiver_base built_in.Add = Some base.Group
receiver_base built_in.Done = Some base.Group
receiver_base built_in.WaitGroup = Some base.Group
receiver_base built_in.WriteLock = Some base.ReadWriteMutex
receiver_base built_in.WriteUnlock = Some base.ReadWriteMutex
receiver_base built_in.ReadLock = Some base.ReadWriteMutex
receiver_base built_in.ReadUnlock = Some base.ReadWriteMutex
receiver_base built_in.WaitCondition = Some base.Condition
receiver_base built_in.Signal = Some base.Condition
receiver_base built_in.Broadcast = Some base.Condition
receiver_base built_in.Length = None
receiver_base built_in.Close = None
receiver_base built_in.Panic = None
receiver_base built_in.Print = None
receiver_base built_in.Collect = None
receiver_base built_in.SetFinalizer = None
receiver_base built_in.NewCondition = None

abbrev pub with_receiver : Option Base → List (Option GoType) → List (Option GoType)
with_receiver None ts = ts
with_receiver (Some b) ts = Some (plain b) ∷ ts

-- the types of receiver and arguments
abbrev pub begun_parameters : BuiltIn → List ArgumentCode → List (Option GoType)
begun_parameters b xs = with_receiver (receiver_base b) (map (λ (x : ArgumentCode). type_given (given x.meaning)) xs)

abbrev pub makings : ℕ → Operand → List ArgumentCode → List Making
makings l (operand.BuiltIn b) xs = record { operation = b; parameters = begun_parameters b xs; line = l } ∷ []
makings l _ xs = []

-- `go` or `defer`; the next function that is made has the number `next`
abbrev pub beginning : ℕ → (ℕ → ℕ → Instr) → ℕ → Operand → List ArgumentCode → Piece
beginning l begin next (operand.Function k) xs = op l (begin (k + 1) (length xs))
beginning l begin next (operand.Method k) xs = op l (begin (k + 1) (length xs + 1))
beginning l begin next (operand.BuiltIn b) xs = op l (begin next (length (begun_parameters b xs)))
beginning l begin next _ xs = Piece.Empty
