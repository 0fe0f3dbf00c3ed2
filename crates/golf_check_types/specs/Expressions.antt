-- The judgments of expressions: what they are, which rules they break, and the facts of their parts (Go specification,
-- "Expressions").
use Rattle.std.specs.Prelude.{ℕ, ◌+◌, ◌*◌, ◌-◌, Bool, true, false, not, ◌&&◌, nat_le, cond, is_some, List, [], ◌∷◌}
use Rattle.std.specs.Prelude.{◌++◌, map, flat_map, slice_get, Option, Some, None, codes, pos}
use Rattle.std.specs.List.{list_any}
use Rattle.std.specs.Option.{option_map, option_and_then}
use Rattle.std.specs.Str.{bytes_eq}
use Rattle.golf_syntax_trees.specs.declared.expressions.UnaryOperator.{UnaryOperator}
use Rattle.golf_syntax_trees.specs.declared.expressions.UnaryOperator.TheVariants as unary
use Rattle.golf_syntax_trees.specs.declared.expressions.BinaryOperator.{BinaryOperator}
use Rattle.golf_syntax_trees.specs.declared.expressions.BinaryOperator.TheVariants as binary
use Rattle.golf_check_types.specs.declared.rules.TheConstants.{UNKNOWN_NAME, UNKNOWN_TYPE, NOT_STEADY, WRONG_OPERAND}
use Rattle.golf_check_types.specs.declared.rules.TheConstants.{NOT_ASSIGNABLE, WRONG_CALL, WRONG_CHANNEL, WRONG_USE}
use Rattle.golf_check_types.specs.declared.rules.TheConstants.{TOO_LARGE, WRONG_LITERAL}
use Rattle.golf_check_types.specs.declared.types.Layer.{Layer}
use Rattle.golf_check_types.specs.declared.types.Base.{Base}
use Rattle.golf_check_types.specs.declared.types.Base.TheVariants as base
use Rattle.golf_check_types.specs.declared.types.GoType.{GoType}
use Rattle.golf_check_types.specs.declared.operands.Operand.{Operand}
use Rattle.golf_check_types.specs.declared.operands.Operand.TheVariants as operand
use Rattle.golf_check_types.specs.declared.facts.Fact.{Fact}
use Rattle.golf_check_types.specs.declared.facts.Fact.TheVariants as fact
use Rattle.golf_check_types.specs.declared.operands.Where.TheVariants as place
use Rattle.golf_check_types.specs.declared.operands.BuiltIn.{BuiltIn}
use Rattle.golf_check_types.specs.declared.operands.BuiltIn.TheVariants as built_in
use Rattle.golf_check_types.specs.declared.operands.Package.{Package}
use Rattle.golf_check_types.specs.declared.operands.Package.TheVariants as packages
use Rattle.golf_check_types.specs.declared.operands.Given.{Given}
use Rattle.golf_check_types.specs.declared.operands.Given.TheVariants as given_as
use Rattle.golf_check_types.specs.declared.scopes.Member.{Member}
use Rattle.golf_check_types.specs.declared.scopes.Member.TheVariants as members
use Rattle.golf_check_types.specs.declared.scopes.FileScope.{FileScope}
use Rattle.golf_check_types.specs.declared.scopes.Scope.{Scope}
use Rattle.golf_check_types.specs.Faults.{Fault, broken}
use Rattle.golf_check_types.specs.Facts.{with_parts}
use Rattle.golf_check_types.specs.Types.{plain, given, has_base, has_layer, is_slice, is_channel, is_any, gives}
use Rattle.golf_check_types.specs.Types.{element, assignable, comparable}
use Rattle.golf_check_types.specs.Names.{is_blank}
use Rattle.golf_check_types.specs.Scopes.{meaning, type_at, member}
use Rattle.golf_check_types.specs.Written.{Written, made_base, sync_base, of_sync}

-- A judgment: what an expression is, the rules that it breaks, and the facts of its parts in the order of their prints.
pub record Judged : Type 0 where
  pub meaning : Operand
  pub faults : List Fault
  pub inner : List Fact

-- the fact of an expression and those of its parts
abbrev pub facts_of : Judged → List Fact
facts_of j = with_parts j.meaning j.inner

abbrev pub value : Base → Operand
value b = operand.Value (Some (plain b))

abbrev pub leaf : Operand → List Fault → Judged
leaf m faults = record { meaning = m; faults = faults; inner = [] }

-- The rules for the use of an expression.

-- the rule that the arguments of a call without a result break, if there is one
abbrev pub late_faults : ℕ → Option ℕ → List Fault
late_faults l None = []
late_faults l (Some rule) = broken l rule false

-- A call without a result is no value (rule 18, before 21 and 22).
abbrev pub nothing_faults : ℕ → Option ℕ → List Fault
nothing_faults l late = broken l WRONG_USE false ++ late_faults l late

-- Used as a value: rules 3 and 18.
abbrev pub value_faults : ℕ → Operand → List Fault
value_faults l operand.Blank = broken l UNKNOWN_NAME false
value_faults l (operand.Nothing late) = nothing_faults l late
value_faults l (operand.Function k) = broken l UNKNOWN_NAME false
value_faults l (operand.Method k) = broken l UNKNOWN_NAME false
value_faults l (operand.BuiltIn b) = broken l UNKNOWN_NAME false
value_faults l (operand.Package p) = broken l UNKNOWN_NAME false
value_faults l (operand.Struct k) = broken l UNKNOWN_NAME false
value_faults l operand.TypeName = broken l UNKNOWN_NAME false
value_faults l _ = []

-- Used as the callee, as the second argument of `SetFinalizer`, or on a left side that is read: `_` cannot be read, and
-- a call without a result is nothing.
abbrev pub name_faults : ℕ → Operand → List Fault
name_faults l operand.Blank = broken l UNKNOWN_NAME false
name_faults l (operand.Nothing late) = nothing_faults l late
name_faults l _ = []

-- the faults of an expression that is used as a value
abbrev pub used : ℕ → Judged → List Fault
used l j = j.faults ++ value_faults l j.meaning

-- the faults of an expression that can be a name of any kind
abbrev pub named_or_used : ℕ → Judged → List Fault
named_or_used l j = j.faults ++ name_faults l j.meaning

abbrev pub given_by : Judged → Given
given_by j = given j.meaning

-- Names.

-- the number of the global that a name reads, if it reads one
abbrev pub reads_global : Operand → Option ℕ
reads_global (operand.Variable (place.Global k) t) = Some k
reads_global _ = None

-- Rule 7: the initialiser of a global reads only globals above it.
abbrev pub is_above : Option ℕ → Option ℕ → Bool
is_above None k = true
is_above (Some g) None = true
is_above (Some g) (Some k) = nat_le (k + 1) g

abbrev pub found_name : ℕ → Option ℕ → Operand → Judged
found_name l g m = leaf m (broken l NOT_STEADY (is_above g (reads_global m)))

-- Rule 3: the name is known.
abbrev pub known_name : ℕ → Option ℕ → Option Operand → Judged
known_name l g None = leaf (operand.Value None) (broken l UNKNOWN_NAME false)
known_name l g (Some m) = found_name l g m

abbrev pub named : ℕ → Scope → List ℕ → Judged
named l s n = cond (is_blank n) (leaf operand.Blank []) (known_name l s.initialises (meaning s n))

-- A package in parentheses cannot be a qualifier.
abbrev pub without_package : Operand → Operand
without_package (operand.Package p) = operand.TypeName
without_package m = m

abbrev pub in_parens : Judged → Judged
in_parens x = record { meaning = without_package x.meaning; faults = x.faults; inner = facts_of x }

-- Literals, `make` and `new`.

-- the number for which the digits of n and then these digits stand
abbrev pub value_from : ℕ → List ℕ → ℕ
value_from n [] = n
value_from n (d ∷ ds) = value_from (10 * n + (d - 48)) ds

-- Rule 19: an `int` has 64 bits.
unfoldable pub fits_int : List ℕ → Bool
fits_int digits = nat_le (value_from 0 digits) 9223372036854775807

-- an integer literal; its value comes after its fact
abbrev pub integer : ℕ → List ℕ → Judged
integer l digits = record {
  meaning = value base.Int;
  faults = broken l TOO_LARGE (fits_int digits);
  inner = fact.Number (pos (value_from 0 digits)) ∷ [];
}

-- `&sync.T{}` and `new(sync.T)`
abbrev pub made_sync : ℕ → Scope → List ℕ → Judged
made_sync l s n = leaf (operand.Value (of_sync l s.file.imports.sync (made_base n)).type)
    (of_sync l s.file.imports.sync (made_base n)).faults

abbrev pub pointer_value : Option Base → Operand
pointer_value b = operand.Value (option_map plain b)

-- Rule 4 for `new(T)`.
abbrev pub made_struct : ℕ → Option Base → Judged
made_struct l b = leaf (pointer_value b) (broken l UNKNOWN_TYPE (is_some b))

-- the type of a field of the struct to which a pointer refers
abbrev pub field_of_member : FileScope → ℕ → Option Member → Option (Option GoType)
field_of_member f k (Some (members.Field i)) = Some (option_and_then (λ ts. type_at ts i) (slice_get f.fields k))
field_of_member f k _ = None

unfoldable pub field_type : FileScope → Option Base → List ℕ → Option (Option GoType)
field_type f (Some (base.Pointer k)) n = field_of_member f k (member f k n)
field_type f _ n = None

-- Rule 9 for a value that is put into a known field.
abbrev pub put_faults : ℕ → Option (Option GoType) → Given → List Fault
put_faults l None v = []
put_faults l (Some t) v = broken l NOT_ASSIGNABLE (assignable v t)

-- the faults of the values for the fields of these names
abbrev pub all_put_faults : ℕ → FileScope → Option Base → List (List ℕ) → List Given → List Fault
all_put_faults l f b (n ∷ ns) (v ∷ vs) = put_faults l (field_type f b n) v ++ all_put_faults l f b ns vs
all_put_faults l f b _ _ = []

-- whether each name is a field, and none comes twice
abbrev pub fields_differ : FileScope → Option Base → List (List ℕ) → List (List ℕ) → Bool
fields_differ f b seen [] = true
fields_differ f b seen (n ∷ ns) = (is_some (field_type f b n) && not (list_any (bytes_eq n) seen))
    && fields_differ f b (seen ++ n ∷ []) ns

-- the number of the struct to which a pointer refers
abbrev pub struct_of : Option Base → ℕ
struct_of (Some (base.Pointer k)) = k
struct_of _ = 0

abbrev pub place_of : Option Member → ℕ
place_of (Some (members.Field i)) = i
place_of _ = 0

-- the place of a field
abbrev pub field_place : FileScope → Option Base → List ℕ → ℕ
field_place f b n = place_of (member f (struct_of b) n)

-- the facts of the values for fields, each after the place of its field
abbrev pub put_facts : FileScope → Option Base → List (List ℕ) → List Judged → List Fact
put_facts f b (n ∷ ns) (x ∷ xs) = fact.Field (field_place f b n) ∷ (facts_of x ++ put_facts f b ns xs)
put_facts f b _ _ = []

-- `&T{f: e, ..}`: the values from left to right, rule 9 for each, then rule 20
abbrev pub struct_literal : ℕ → FileScope → Option Base → List (List ℕ) → List Judged → Judged
struct_literal l f b names xs = record {
  meaning = pointer_value b;
  faults = flat_map (used l) xs ++ (all_put_faults l f b names (map given_by xs)
      ++ broken l WRONG_LITERAL (is_some b && fields_differ f b [] names));
  inner = put_facts f b names xs;
}

-- `[]T{e, ..}`: the type, the values from left to right, then rule 9 for each
abbrev pub slice_literal : ℕ → Written → Option GoType → List Judged → Judged
slice_literal l t slice xs = record {
  meaning = operand.Value slice;
  faults = t.faults ++ (flat_map (used l) xs
      ++ flat_map (λ v. broken l NOT_ASSIGNABLE (assignable v t.type)) (map given_by xs));
  inner = flat_map facts_of xs;
}

-- Rule 11 for `make(T)`: T is a channel.
abbrev pub made : ℕ → Written → Judged
made l t = leaf (operand.Value t.type) (t.faults
    ++ broken l WRONG_CALL (has_layer is_channel (given (operand.Value t.type))))

-- Rules 8 and 11 for `make(T, e)`: T is a slice or a channel, and e is a size.
abbrev pub made_sized : ℕ → Written → Judged → Judged
made_sized l t e = record {
  meaning = operand.Value t.type;
  faults = t.faults ++ (used l e ++ (broken l WRONG_OPERAND (has_base base.Int (given_by e))
      ++ broken l WRONG_CALL (has_layer is_any (given (operand.Value t.type)))));
  inner = facts_of e;
}

-- Selectors.

unfoldable pub fmt_member : List ℕ → Option BuiltIn
fmt_member n = cond (bytes_eq n (codes "Println")) (Some built_in.Print) None

unfoldable pub runtime_member : List ℕ → Option BuiltIn
runtime_member n = cond (bytes_eq n (codes "GC")) (Some built_in.Collect)
    (cond (bytes_eq n (codes "SetFinalizer")) (Some built_in.SetFinalizer) None)

unfoldable pub sync_member : List ℕ → Option BuiltIn
sync_member n = cond (bytes_eq n (codes "NewCond")) (Some built_in.NewCondition) None

abbrev pub package_member : Package → List ℕ → Option BuiltIn
package_member packages.Fmt n = fmt_member n
package_member packages.Runtime n = runtime_member n
package_member packages.Sync n = sync_member n

-- whether a package has a type of this name
abbrev pub has_type : Package → List ℕ → Bool
has_type packages.Sync n = is_some (sync_base n)
has_type p n = false

-- Rule 3: the name after a dot is known.
abbrev pub called_name : ℕ → Option BuiltIn → Judged
called_name l None = leaf operand.Unknown (broken l UNKNOWN_NAME false)
called_name l (Some b) = leaf (operand.BuiltIn b) []

-- a name of a package: a type, which is no value, or a function
abbrev pub package_selected : ℕ → Package → List ℕ → Judged
package_selected l p n = cond (has_type p n) (leaf operand.TypeName []) (called_name l (package_member p n))

unfoldable pub mutex_method : List ℕ → Option BuiltIn
mutex_method n = cond (bytes_eq n (codes "Lock")) (Some built_in.Lock)
    (cond (bytes_eq n (codes "Unlock")) (Some built_in.Unlock) None)

unfoldable pub group_method : List ℕ → Option BuiltIn
group_method n =
    cond (bytes_eq n (codes "Add")) (Some built_in.Add)
    (cond (bytes_eq n (codes "Done")) (Some built_in.Done)
    (cond (bytes_eq n (codes "Wait")) (Some built_in.WaitGroup) None))

unfoldable pub write_method : List ℕ → Option BuiltIn
write_method n = cond (bytes_eq n (codes "Lock")) (Some built_in.WriteLock)
    (cond (bytes_eq n (codes "Unlock")) (Some built_in.WriteUnlock) None)

unfoldable pub read_method : List ℕ → Option BuiltIn
read_method n = cond (bytes_eq n (codes "RLock")) (Some built_in.ReadLock)
    (cond (bytes_eq n (codes "RUnlock")) (Some built_in.ReadUnlock) (write_method n))

unfoldable pub condition_method : List ℕ → Option BuiltIn
condition_method n =
    cond (bytes_eq n (codes "Wait")) (Some built_in.WaitCondition)
    (cond (bytes_eq n (codes "Signal")) (Some built_in.Signal)
    (cond (bytes_eq n (codes "Broadcast")) (Some built_in.Broadcast) None))

-- The mutex of a condition is a value and no place.
unfoldable pub condition_member : ℕ → List ℕ → Judged
condition_member l n = cond (bytes_eq n (codes "L")) (leaf (value base.Mutex) []) (called_name l (condition_method n))

abbrev pub struct_member : ℕ → FileScope → ℕ → Option Member → Judged
struct_member l f k None = leaf operand.Unknown (broken l UNKNOWN_NAME false)
struct_member l f k (Some (members.Field i)) =
    leaf (operand.Field i (option_and_then (λ ts. type_at ts i) (slice_get f.fields k))) []
struct_member l f k (Some (members.Method m)) = leaf (operand.Method m) []

abbrev pub wrong_selector : ℕ → Judged
wrong_selector l = leaf operand.Unknown (broken l WRONG_OPERAND false)

-- Rule 8: a selector is on a pointer to a struct of the file or of package sync.
abbrev pub base_member : ℕ → FileScope → List ℕ → Base → Judged
base_member l f n (base.Pointer k) = struct_member l f k (member f k n)
base_member l f n base.Mutex = called_name l (mutex_method n)
base_member l f n base.Group = called_name l (group_method n)
base_member l f n base.ReadWriteMutex = called_name l (read_method n)
base_member l f n base.Condition = condition_member l n
base_member l f n _ = wrong_selector l

abbrev pub type_member : ℕ → FileScope → List ℕ → List Layer → Base → Judged
type_member l f n [] b = base_member l f n b
type_member l f n (x ∷ xs) b = wrong_selector l

-- A value whose type is not known may have any member.
abbrev pub value_member : ℕ → FileScope → List ℕ → Given → Judged
value_member l f n (given_as.Typed t) = type_member l f n t.layers t.base
value_member l f n given_as.Nil = wrong_selector l
value_member l f n given_as.Unknown = leaf operand.Unknown []

-- the name after the dot of a package, or of a value
abbrev pub selected_from : ℕ → FileScope → List ℕ → Operand → Judged
selected_from l f n (operand.Package p) = package_selected l p n
selected_from l f n m = record {
  meaning = (value_member l f n (given m)).meaning;
  faults = value_faults l m ++ (value_member l f n (given m)).faults;
  inner = [];
}

-- `e.n`
abbrev pub selector : ℕ → Scope → List ℕ → Judged → Judged
selector l s n e = record {
  meaning = (selected_from l s.file n e.meaning).meaning;
  faults = e.faults ++ (selected_from l s.file n e.meaning).faults;
  inner = facts_of e;
}

-- Operators.

-- Rule 7: the initialiser of a global receives nothing.
abbrev pub unary_faults : ℕ → Scope → UnaryOperator → Given → List Fault
unary_faults l s unary.Negate x = broken l WRONG_OPERAND (has_base base.Int x)
unary_faults l s unary.Not x = broken l WRONG_OPERAND (has_base base.Bool x)
unary_faults l s unary.Receive x = broken l NOT_STEADY (not (is_some s.initialises))
    ++ broken l WRONG_CHANNEL (has_layer gives x)

abbrev pub unary_meaning : UnaryOperator → Given → Operand
unary_meaning unary.Negate x = value base.Int
unary_meaning unary.Not x = value base.Bool
unary_meaning unary.Receive x = operand.Outcome (element x)

abbrev pub unary_judged : ℕ → Scope → UnaryOperator → Judged → Judged
unary_judged l s o x = record {
  meaning = unary_meaning o (given_by x);
  faults = used l x ++ unary_faults l s o (given_by x);
  inner = facts_of x;
}

abbrev pub result_base : BinaryOperator → Base
result_base binary.Add = base.Int
result_base binary.Subtract = base.Int
result_base binary.Multiply = base.Int
result_base binary.Divide = base.Int
result_base binary.Remainder = base.Int
result_base _ = base.Bool

abbrev pub operand_base : BinaryOperator → Base
operand_base binary.Or = base.Bool
operand_base binary.And = base.Bool
operand_base _ = base.Int

-- Rule 8 for two operands.
abbrev pub binary_fits : BinaryOperator → Given → Given → Bool
binary_fits binary.Equal x y = comparable x y
binary_fits binary.NotEqual x y = comparable x y
binary_fits o x y = has_base (operand_base o) x && has_base (operand_base o) y

abbrev pub binary_judged : ℕ → BinaryOperator → Judged → Judged → Judged
binary_judged l o x y = record {
  meaning = value (result_base o);
  faults = used l x ++ (used l y ++ broken l WRONG_OPERAND (binary_fits o (given_by x) (given_by y)));
  inner = facts_of x ++ facts_of y;
}

abbrev pub index_judged : ℕ → Judged → Judged → Judged
index_judged l x i = record {
  meaning = operand.Element (element (given_by x));
  faults = used l x ++ (used l i ++ broken l WRONG_OPERAND
      (has_layer is_slice (given_by x) && has_base base.Int (given_by i)));
  inner = facts_of x ++ facts_of i;
}
