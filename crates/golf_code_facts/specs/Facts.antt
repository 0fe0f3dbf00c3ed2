-- The contents of facts, and which facts are left.
use Rattle.std.specs.Prelude.{ℕ, zero, suc, ℤ, pos, List, [], ◌∷◌, drop, Option, Some, None}
use Rattle.golf_check_types.specs.declared.facts.Fact.{Fact}
use Rattle.golf_check_types.specs.declared.facts.Fact.TheVariants as fact
use Rattle.golf_check_types.specs.declared.types.Base.{Base}
use Rattle.golf_check_types.specs.declared.types.GoType.{GoType}
use Rattle.golf_check_types.specs.declared.operands.Operand.{Operand}
use Rattle.golf_check_types.specs.declared.operands.Operand.TheVariants as operand

-- the operand of an expression, or the target of a store
abbrev pub operand_in : Fact → Operand
operand_in (fact.Expression m n) = m
operand_in (fact.Target m) = m
operand_in _ = operand.Unknown

-- how many facts after this one belong to it
abbrev pub parts_in : Fact → ℕ
parts_in (fact.Expression m n) = n
parts_in (fact.Part n) = n
parts_in (fact.Function a s n) = n
parts_in _ = 0

-- the value of an integer
abbrev pub number_in : Fact → ℤ
number_in (fact.Number n) = n
number_in _ = pos 0

-- the place of a field
abbrev pub field_in : Fact → ℕ
field_in (fact.Field i) = i
field_in _ = 0

-- the first hidden slot of a `range`
abbrev pub hidden_in : Fact → ℕ
hidden_in (fact.Hidden i) = i
hidden_in _ = 0

-- how many slots of a function hold receiver and parameters, and how many slots it has
abbrev pub arguments_in : Fact → ℕ
arguments_in (fact.Function a s n) = a
arguments_in _ = 0

abbrev pub slots_in : Fact → ℕ
slots_in (fact.Function a s n) = s
slots_in _ = 0

abbrev pub type_of_value : Operand → Option GoType
type_of_value (operand.Value t) = t
type_of_value _ = None

abbrev pub base_of : Option GoType → Option Base
base_of None = None
base_of (Some t) = Some t.base

-- the type of the value that an expression makes, and its base
abbrev pub type_in : Fact → Option GoType
type_in f = type_of_value (operand_in f)

abbrev pub base_in : Fact → Option Base
base_in f = base_of (type_in f)

-- The first facts of a list.

-- the next fact; without one, a fact that says nothing
abbrev pub next : List Fact → Fact
next [] = fact.Part 0
next (f ∷ fs) = f

-- the operand of the next expression, or the target of the next store
abbrev pub next_is : List Fact → Operand
next_is fs = operand_in (next fs)

-- the facts after the next one
abbrev pub past_one : List Fact → List Fact
past_one [] = []
past_one (f ∷ fs) = fs

-- the facts after the next one and all facts that belong to it
abbrev pub skip : List Fact → List Fact
skip [] = []
skip (f ∷ fs) = drop (parts_in f) fs

abbrev pub skip_all : ℕ → List Fact → List Fact
skip_all zero fs = fs
skip_all (suc n) fs = skip_all n (skip fs)
