-- What is said of the code of statements: it leads from the slots assigned before it to those assigned after it.
use Rattle.std.specs.Prelude.{◌≡◌, ℕ, ◌+◌, true, List, [], ◌∷◌, Option, Some, slice_get}
use Rattle.golf_theory.specs.Membership.{In, Every}
use Rattle.golf_check_types.specs.declared.types.GoType.{GoType}
use Rattle.golf_check_types.specs.declared.operands.BuiltIn.{BuiltIn}
use Rattle.golf_check_types.specs.declared.operands.BuiltIn.TheVariants as built_in
use Rattle.golf_check_types.specs.declared.scopes.Scope.{Scope}
use Rattle.golf_check_types.specs.Statements.{Walk, behind}
use Rattle.golf_model_typing.specs.Types.{ValueType, Shape, Signature, FunctionTypes, Types}
use Rattle.golf_model_typing.specs.Shapes.{slot_types}
use Rattle.golf_code_layout.specs.Piece.{Piece}
use Rattle.golf_code_shapes.specs.Has.{shape, Has, Reaches}
use Rattle.golf_code_of.specs.declared.tables.Tables.{Tables}
use Rattle.golf_code_of.specs.declared.surroundings.Making.{Making}
use Rattle.golf_code_of.specs.declared.surroundings.Around.{Around}
use Rattle.golf_code_of.specs.Statements.{Lay}
use Rattle.golf_code_shapes.specs.Types.{known_type, known_types}
use Rattle.golf_code_shapes.specs.Sound.{ScopeFits}

-- the slots from this one on have these types
abbrev pub Slotted : FunctionTypes → ℕ → List (Option GoType) → Type 0
Slotted ft n [] = Unit {0}
Slotted ft n (o ∷ os) = (slice_get (slot_types ft) n ≡ Some (known_type o)) × Slotted ft (n + 1) os

-- the functions from number n on are those that are made
abbrev pub MadeFit : Types → ℕ → List Making → Type 0
MadeFit types n [] = Unit {0}
MadeFit types n (m ∷ ms) = ((callee : Signature) × (slice_get types.functions n ≡ Some callee)
    × (callee.params ≡ known_types m.parameters)) × MadeFit types (n + 1) ms

-- the operands of a built-in operation that `go` and `defer` begin, in source order
abbrev pub TakesOperands : BuiltIn → List ValueType → Type 0
TakesOperands built_in.Close ts = (e : ValueType) × (ts ≡ ValueType.Chan e ∷ [])
TakesOperands built_in.Lock ts = ts ≡ ValueType.Mutex ∷ []
TakesOperands built_in.Unlock ts = ts ≡ ValueType.Mutex ∷ []
TakesOperands built_in.Add ts = ts ≡ ValueType.Group ∷ ValueType.Int ∷ []
TakesOperands built_in.Done ts = ts ≡ ValueType.Group ∷ []
TakesOperands built_in.WaitGroup ts = ts ≡ ValueType.Group ∷ []
TakesOperands built_in.WriteLock ts = ts ≡ ValueType.Rw ∷ []
TakesOperands built_in.WriteUnlock ts = ts ≡ ValueType.Rw ∷ []
TakesOperands built_in.ReadLock ts = ts ≡ ValueType.Rw ∷ []
TakesOperands built_in.ReadUnlock ts = ts ≡ ValueType.Rw ∷ []
TakesOperands built_in.WaitCondition ts = ts ≡ ValueType.Cond ∷ []
TakesOperands built_in.Signal ts = ts ≡ ValueType.Cond ∷ []
TakesOperands built_in.Broadcast ts = ts ≡ ValueType.Cond ∷ []
TakesOperands _ ts = ⊥

-- the parameters of a function that is made are the operands that its operation takes
abbrev pub IsMaking : Making → Type 0
IsMaking m = TakesOperands m.operation (known_types m.parameters)

-- the targets of `break` and `continue` take no operands, and ask only for these slots
pub record WaysFit (assigned : List ℕ) (exits : List Shape) (s : Scope) (a : Around) : Type 0 where
  pub breaks : s.breaks ≡ true → Reaches exits [] assigned a.breaks
  pub continues : s.loops ≡ true → Reaches exits [] assigned a.continues

-- the piece leads on, with more slots assigned, and after it the names fit
abbrev pub LeadsOnward : Types → Tables → FunctionTypes → List ℕ → List Shape → Scope → Piece → Type 0
LeadsOnward types t ft assigned exits s p = (more : List ℕ) × Every (λ i. In i more) assigned
    × ScopeFits types t ft more s
    × Has types ft p (shape [] assigned) (shape [] more) exits

-- if the names of a scope fit, a statement that breaks no rule leads on
abbrev pub StatementFits : Types → Tables → FunctionTypes → Walk → Lay → Type 0
StatementFits types t ft w x =
    (a : Around) (s : Scope) (assigned : List ℕ) (exits : List Shape) → ScopeFits types t ft assigned s
    → WaysFit assigned exits s a → Slotted ft s.next (w s).slots → MadeFit types a.functions (x a s).made
    → (w s).faults ≡ []
    → LeadsOnward types t ft assigned exits (behind s (w s)) (x a s).piece × Every IsMaking (x a s).made

-- the same for a piece that no jump leaves
abbrev pub Moves : Types → Tables → FunctionTypes → List ℕ → Scope → Piece → Type 0
Moves types t ft assigned s p = (more : List ℕ) × Every (λ i. In i more) assigned × ScopeFits types t ft more s
    × ((exits : List Shape) → Has types ft p (shape [] assigned) (shape [] more) exits)

-- if the names of a scope fit, a simple statement that breaks no rule moves on
abbrev pub SimpleFits : Types → Tables → FunctionTypes → Walk → (Scope → Piece) → Type 0
SimpleFits types t ft w p =
    (s : Scope) (assigned : List ℕ) → ScopeFits types t ft assigned s → Slotted ft s.next (w s).slots
    → (w s).faults ≡ [] → Moves types t ft assigned (behind s (w s)) (p s)
