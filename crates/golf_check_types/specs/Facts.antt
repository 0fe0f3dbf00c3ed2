-- The facts of the parts of a tree, in the order of the walk.
use Rattle.std.specs.Prelude.{true, false, Bool, List, [], ◌∷◌, length, Option}
use Rattle.golf_check_types.specs.declared.types.GoType.{GoType}
use Rattle.golf_check_types.specs.declared.operands.Operand.{Operand}
use Rattle.golf_check_types.specs.declared.operands.Operand.TheVariants as operand
use Rattle.golf_check_types.specs.declared.operands.Where.TheVariants as place
use Rattle.golf_check_types.specs.declared.facts.Fact.{Fact}
use Rattle.golf_check_types.specs.declared.facts.Fact.TheVariants as fact
use Rattle.golf_check_types.specs.declared.scopes.Scope.{Scope}
use Rattle.golf_check_types.specs.Types.{type_of}

-- the fact of an expression, and then those of its parts
abbrev pub with_parts : Operand → List Fact → List Fact
with_parts m inner = fact.Expression m (length inner) ∷ inner

-- the facts of a part that may be left out or come later, with their number
abbrev pub part : List Fact → List Fact
part inner = fact.Part (length inner) ∷ inner

-- the target of the variable that the next declaration gives a slot
abbrev pub new_target : Scope → Option GoType → Fact
new_target s t = fact.Target (operand.Variable (place.Slot s.next) t)

-- the target of a store to a name: a new variable, or the name's own operand
abbrev pub target : Bool → Operand → Scope → Option GoType → Fact
target true kept s t = new_target s t
target false kept s t = fact.Target kept

-- The types of the expressions of these facts, in order.
abbrev pub types_told : List Fact → List (Option GoType)
types_told [] = []
types_told (fact.Expression m parts ∷ fs) = type_of m ∷ types_told fs
types_told (f ∷ fs) = types_told fs
