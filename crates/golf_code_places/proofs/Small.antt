-- The code of each kind of expression has at most eight instructions for each of its words, if its parts have.
-- For: `bodies_are_small`, src/lib.rt
-- By: induction over the list of parts, with their words; else arithmetic
use Rattle.std.proofs.Common.{ℕ, ◌+◌, ◌*◌, ◌≤◌, Bool, true, false, cond, List, [], ◌∷◌, length, Option, Some, None}
use Rattle.std.proofs.Common.{arith}
use Rattle.golf_syntax_trees.specs.declared.expressions.UnaryOperator.{UnaryOperator}
use Rattle.golf_syntax_trees.specs.declared.expressions.BinaryOperator.{BinaryOperator}
use Rattle.golf_syntax_trees.specs.declared.expressions.BinaryOperator.TheVariants as binary
use Rattle.golf_syntax_trees.specs.Words.{Word}
use Rattle.golf_check_types.specs.declared.types.Base.{Base}
use Rattle.golf_check_types.specs.declared.types.Base.TheVariants as base
use Rattle.golf_check_types.specs.declared.types.GoType.{GoType}
use Rattle.golf_check_types.specs.declared.operands.Operand.{Operand}
use Rattle.golf_check_types.specs.declared.operands.Operand.TheVariants as operand
use Rattle.golf_check_types.specs.declared.operands.Where.{Where}
use Rattle.golf_check_types.specs.declared.operands.Where.TheVariants as place
use Rattle.golf_check_types.specs.declared.operands.BuiltIn.{BuiltIn}
use Rattle.golf_check_types.specs.declared.operands.BuiltIn.TheVariants as built_in
use Rattle.golf_check_types.specs.declared.scopes.FileScope.{FileScope}
use Rattle.golf_check_types.specs.Calls.{sets_finaliser}
use Rattle.golf_code_layout.specs.Piece.{Piece, size, all}
use Rattle.golf_code_of.specs.declared.tables.Tables.{Tables}
use Rattle.golf_code_of.specs.Expressions.{Made, only, variable, name, puts, struct_literal, new_sync, elements}
use Rattle.golf_code_of.specs.Expressions.{slice_literal, selector, index, unary_operator, binary_piece}
use Rattle.golf_code_of.specs.Expressions.{binary_operator}
use Rattle.golf_code_of.specs.Calls.{ArgumentCode, operation, calling, pushes, finaliser, finalising, call}
use Rattle.golf_code_places.proofs.Words.{total}

-- With room for two instructions more: the code that pushes a value, and all that there is of a place.
pub record Small (n : ℕ) (m : Made) : Type 0 where
  pub piece : 2 + size m.piece ≤ 8 * n
  pub place : 2 + (size m.parts + (size m.twice + (size m.read + size m.store))) ≤ 8 * n

pub alone : (n : ℕ) (p : Piece) → 2 + size p ≤ 8 * n → Small n (only p)
alone n p h = record { piece = h; place = omega arith }

on-variable : (l : ℕ) (w : Where) → Small 1 (variable l w)
on-variable l (place.Slot i) = record { piece = omega arith; place = omega arith }
on-variable l (place.Global g) = record { piece = omega arith; place = omega arith }

pub on-name : (l : ℕ) (t : Tables) (m : Operand) → Small 1 (name l t m)
on-name l t (operand.Variable w e) = on-variable l w
on-name l t operand.Blank = record { piece = omega arith; place = omega arith }
on-name l t _ = alone 1 _ (omega arith)

-- Lists of expressions: each piece is small beside its words.

abbrev pub Beside : List Piece → List (List Word) → Type 0
Beside [] ws = Unit {0}
Beside (p ∷ ps) [] = ⊥
Beside (p ∷ ps) (w ∷ ws) = (2 + size p ≤ 8 * length w) × Beside ps ws

pub all-small : (ps : List Piece) (ws : List (List Word)) → Beside ps ws → size (all ps) ≤ 8 * total ws
all-small [] ws h = omega arith
all-small (p ∷ ps) [] h = absurd h
all-small (p ∷ ps) (w ∷ ws) h = let i = all-small ps ws h.1 in omega (arith, h.0, i)

elements-small : (l i : ℕ) (ps : List Piece) (ws : List (List Word)) → Beside ps ws
    → size (elements l i ps) ≤ 8 * total ws + 8 * length ws
elements-small l i [] ws h = omega arith
elements-small l i (p ∷ ps) [] h = absurd h
elements-small l i (p ∷ ps) (w ∷ ws) h = let j = elements-small l (i + 1) ps ws h.1 in omega (arith, h.0, j)

puts-small : (l : ℕ) (f : FileScope) (b : Option Base) (ns : List (List ℕ)) (ps : List Piece) (ws : List (List Word))
    → Beside ps ws → size (puts l f b ns ps) ≤ 8 * total ws + 8 * length ws
puts-small l f b [] ps ws h = omega arith
puts-small l f b (n ∷ ns) [] ws h = omega arith
puts-small l f b (n ∷ ns) (p ∷ ps) [] h = absurd h
puts-small l f b (n ∷ ns) (p ∷ ps) (w ∷ ws) h = let j = puts-small l f b ns ps ws h.1 in omega (arith, h.0, j)

-- Literals, `make` and `new`.

pub on-struct-literal : (l : ℕ) (f : FileScope) (b : Option Base) (ns : List (List ℕ)) (ps : List Piece)
    (ws : List (List Word)) (n : ℕ) → Beside ps ws → total ws + length ws + 1 ≤ n → Small n (struct_literal l f b ns ps)
on-struct-literal l f b ns ps ws n h few = alone n _ (let j = puts-small l f b ns ps ws h in omega (arith, j, few))

pub on-slice-literal : (l : ℕ) (e : Option GoType) (ps : List Piece) (ws : List (List Word)) (n : ℕ) → Beside ps ws
    → total ws + length ws + 1 ≤ n → Small n (slice_literal l e ps)
on-slice-literal l e ps ws n h few = alone n _ (let j = elements-small l 0 ps ws h in omega (arith, j, few))

pub on-new-sync : (l : ℕ) (b : Option Base) (n : ℕ) → 1 ≤ n → Small n (new_sync l b)
on-new-sync l None n h = alone n _ (omega (arith, h))
on-new-sync l (Some base.Mutex) n h = alone n _ (omega (arith, h))
on-new-sync l (Some base.Group) n h = alone n _ (omega (arith, h))
on-new-sync l (Some base.ReadWriteMutex) n h = alone n _ (omega (arith, h))
on-new-sync l (Some base.Condition) n h = alone n _ (omega (arith, h))
on-new-sync l (Some base.Int) n h = alone n _ (omega (arith, h))
on-new-sync l (Some base.Bool) n h = alone n _ (omega (arith, h))
on-new-sync l (Some base.Text) n h = alone n _ (omega (arith, h))
on-new-sync l (Some base.Unit) n h = alone n _ (omega (arith, h))
on-new-sync l (Some (base.Pointer k)) n h = alone n _ (omega (arith, h))

-- Selectors and operators.

pub on-selector : (l : ℕ) (m : Operand) (x : Made) (n k : ℕ) → Small n x → n + 1 ≤ k → Small k (selector l m x.piece)
on-selector l (operand.Field i e) x n k h more =
    record { piece = omega (arith, h.piece, more); place = omega (arith, h.piece, more) }
on-selector l (operand.Value e) x n k h more = alone k _ (omega (arith, h.piece, more))
on-selector l (operand.Method j) x n k h more = alone k _ (omega (arith, h.piece, more))
on-selector l (operand.BuiltIn b) x n k h more = alone k _ (omega (arith, h.piece, more))
on-selector l _ x n k h more = alone k _ (omega (arith, more))

pub on-index : (l : ℕ) (x y : Made) (n m k : ℕ) → Small n x → Small m y → n + m + 1 ≤ k
    → Small k (index l x.piece y.piece)
on-index l x y n m k h i more = record {
  piece = omega (arith, h.piece, i.piece, more);
  place = omega (arith, h.piece, i.piece, more);
}

pub on-unary : (l : ℕ) (o : UnaryOperator) (x : Made) (n k : ℕ) → Small n x → n + 1 ≤ k
    → Small k (unary_operator l o x.piece)
on-unary l o x n k h more = alone k _ (omega (arith, h.piece, more))

binary-small : (l : ℕ) (o : BinaryOperator) (p q : Piece) → size (binary_piece l o p q) ≤ size p + size q + 4
binary-small l binary.Or p q = omega arith
binary-small l binary.And p q = omega arith
binary-small l binary.Equal p q = omega arith
binary-small l binary.NotEqual p q = omega arith
binary-small l binary.Less p q = omega arith
binary-small l binary.AtMost p q = omega arith
binary-small l binary.Greater p q = omega arith
binary-small l binary.AtLeast p q = omega arith
binary-small l binary.Add p q = omega arith
binary-small l binary.Subtract p q = omega arith
binary-small l binary.Multiply p q = omega arith
binary-small l binary.Divide p q = omega arith
binary-small l binary.Remainder p q = omega arith

pub on-binary : (l : ℕ) (o : BinaryOperator) (x y : Made) (n m k : ℕ) → Small n x → Small m y → n + m + 1 ≤ k
    → Small k (binary_operator l o x.piece y.piece)
on-binary l o x y n m k h i more = alone k _
    (let j = binary-small l o x.piece y.piece in omega (arith, h.piece, i.piece, j, more))

-- Calls.

pub operation-small : (l : ℕ) (b : BuiltIn) (n : ℕ) → size (operation l b n) ≤ 2
operation-small l built_in.SetFinalizer n = omega arith
operation-small l built_in.Done n = omega arith
operation-small l built_in.Length n = omega arith
operation-small l built_in.Close n = omega arith
operation-small l built_in.Panic n = omega arith
operation-small l built_in.Print n = omega arith
operation-small l built_in.Collect n = omega arith
operation-small l built_in.NewCondition n = omega arith
operation-small l built_in.Lock n = omega arith
operation-small l built_in.Unlock n = omega arith
operation-small l built_in.Add n = omega arith
operation-small l built_in.WaitGroup n = omega arith
operation-small l built_in.WriteLock n = omega arith
operation-small l built_in.WriteUnlock n = omega arith
operation-small l built_in.ReadLock n = omega arith
operation-small l built_in.ReadUnlock n = omega arith
operation-small l built_in.WaitCondition n = omega arith
operation-small l built_in.Signal n = omega arith
operation-small l built_in.Broadcast n = omega arith

calling-small : (l : ℕ) (m : Operand) (n : ℕ) → size (calling l m n) ≤ 2
calling-small l (operand.BuiltIn b) n = operation-small l b n
calling-small l _ n = omega arith

finaliser-small : (l : ℕ) (m : Operand) → size (finaliser l m) ≤ 1
finaliser-small l (operand.Function k) = omega arith
finaliser-small l (operand.Method k) = omega arith
finaliser-small l (operand.BuiltIn b) = omega arith
finaliser-small l (operand.Variable w e) = omega arith
finaliser-small l (operand.Constant k b) = omega arith
finaliser-small l (operand.Truth b) = omega arith
finaliser-small l operand.Nil = omega arith
finaliser-small l operand.Blank = omega arith
finaliser-small l (operand.Value e) = omega arith
finaliser-small l (operand.Outcome e) = omega arith
finaliser-small l (operand.Field i e) = omega arith
finaliser-small l (operand.Element e) = omega arith
finaliser-small l operand.Unknown = omega arith
finaliser-small l (operand.Nothing late) = omega arith
finaliser-small l (operand.Package q) = omega arith
finaliser-small l (operand.Struct k) = omega arith
finaliser-small l operand.TypeName = omega arith

finalising-small : (l : ℕ) (xs : List ArgumentCode) → size (finalising l xs) ≤ size (pushes xs) + 1
finalising-small l [] = omega arith
finalising-small l (x ∷ []) = omega arith
finalising-small l (x ∷ (y ∷ ys)) = let e = finaliser-small l y.meaning in omega (arith, e)

either-small : (b : Bool) (p q : Piece) (k : ℕ) → size p ≤ k → size q ≤ k → size (cond b p q) ≤ k
either-small true p q k h i = h
either-small false p q k h i = i

pub on-call : (l : ℕ) (m : Operand) (r : Made) (xs : List ArgumentCode) (ws : List (List Word)) (n k : ℕ) → Small n r
    → size (pushes xs) ≤ 8 * total ws → n + total ws + 1 ≤ k → Small k (call l m r.piece xs)
on-call l m r xs ws n k h args more =
    let c = calling-small l m (length xs) in
    let f = finalising-small l xs in
    let e = either-small (sets_finaliser m) (finalising l xs) (all (r.piece ∷ pushes xs ∷ calling l m (length xs) ∷ []))
    (size r.piece + (size (pushes xs) + 3)) (omega (arith, f)) (omega (arith, c)) in
    alone k _ (omega (arith, h.piece, args, more, e))
