-- The walk of statements: what they declare, which rules they break, and the facts of their parts (Go specification,
-- "Statements", "Blocks", "Declarations and scope").
use Rattle.std.specs.Prelude.{ℕ, ◌==◌, length, Bool, true, false, not, ◌&&◌, ◌||◌, cond, is_some, is_none, List, []}
use Rattle.std.specs.Prelude.{◌∷◌, ◌++◌, map, Option, Some, None, unwrap_or}
use Rattle.std.specs.Str.{bytes_eq}
use Rattle.golf_syntax_trees.specs.declared.types.TypeExpr.{TypeExpr}
use Rattle.golf_syntax_trees.specs.declared.expressions.Expr.{Expr}
use Rattle.golf_syntax_trees.specs.declared.statements.Simple.{Simple}
use Rattle.golf_syntax_trees.specs.declared.statements.SimpleKind.{SimpleKind}
use Rattle.golf_syntax_trees.specs.declared.statements.SimpleKind.TheVariants as simple
use Rattle.golf_syntax_trees.specs.declared.statements.VarContent.{VarContent}
use Rattle.golf_syntax_trees.specs.declared.statements.VarContent.TheVariants as content
use Rattle.golf_syntax_trees.specs.declared.statements.Header.{Header}
use Rattle.golf_syntax_trees.specs.declared.statements.Header.TheVariants as header
use Rattle.golf_syntax_trees.specs.declared.statements.RangeNames.{RangeNames}
use Rattle.golf_syntax_trees.specs.declared.statements.RangeNames.TheVariants as range
use Rattle.golf_syntax_trees.specs.declared.statements.Communication.{Communication}
use Rattle.golf_syntax_trees.specs.declared.statements.Communication.TheVariants as comm
use Rattle.golf_syntax_trees.specs.declared.statements.Stmt.{Stmt}
use Rattle.golf_syntax_trees.specs.declared.statements.Clause.{Clause}
use Rattle.golf_syntax_trees.specs.declared.statements.Clause.TheOpen as S
use Rattle.golf_syntax_trees.specs.declared.statements.Clause.TheOpen.{Stmt-F, Clause-F}
use Rattle.golf_syntax_trees.specs.declared.statements.Clause.TheFolds.{fold-Stmt, fold-Clause}
use Rattle.golf_check_types.specs.declared.rules.TheConstants.{NOT_DECLARABLE, UNKNOWN_NAME, WRONG_OPERAND}
use Rattle.golf_check_types.specs.declared.rules.TheConstants.{NOT_ASSIGNABLE, NO_PLACE, NOT_BEGUN, WRONG_RETURN}
use Rattle.golf_check_types.specs.declared.rules.TheConstants.{NOTHING_TO_LEAVE, WRONG_CHANNEL, WRONG_RANGE, WRONG_USE}
use Rattle.golf_check_types.specs.declared.rules.TheConstants.{NIL_WITHOUT_TYPE, NOTHING_NEW}
use Rattle.golf_check_types.specs.declared.types.Layer.{Layer}
use Rattle.golf_check_types.specs.declared.types.Layer.TheVariants as layer
use Rattle.golf_check_types.specs.declared.types.Base.TheVariants as base
use Rattle.golf_check_types.specs.declared.types.GoType.{GoType}
use Rattle.golf_check_types.specs.declared.operands.Operand.{Operand}
use Rattle.golf_check_types.specs.declared.operands.Operand.TheVariants as operand
use Rattle.golf_check_types.specs.declared.operands.BuiltIn.{BuiltIn}
use Rattle.golf_check_types.specs.declared.operands.BuiltIn.TheVariants as built_in
use Rattle.golf_check_types.specs.declared.operands.Given.{Given}
use Rattle.golf_check_types.specs.declared.operands.Given.TheVariants as given_as
use Rattle.golf_check_types.specs.declared.facts.Fact.{Fact}
use Rattle.golf_check_types.specs.declared.facts.Fact.TheVariants as fact
use Rattle.golf_check_types.specs.declared.locals.Local.{Local}
use Rattle.golf_check_types.specs.declared.scopes.Scope.{Scope}
use Rattle.golf_check_types.specs.Faults.{Fault, broken}
use Rattle.golf_check_types.specs.Facts.{part, new_target, target}
use Rattle.golf_check_types.specs.Types.{plain, given, given_type, type_of, type_given, is_nil, has_base, has_layer}
use Rattle.golf_check_types.specs.Types.{starts_with, is_slice, is_channel, is_any, gives, takes, element, assignable}
use Rattle.golf_check_types.specs.Names.{is_blank, look}
use Rattle.golf_check_types.specs.Scopes.{meaning, is_here, is_reserved, may_be_declared, declared, begun, variable}
use Rattle.golf_check_types.specs.Written.{write_at}
use Rattle.golf_check_types.specs.Expressions.{facts_of, used, named_or_used, given_by, value_faults, late_faults}
use Rattle.golf_check_types.specs.Expressions.{nothing_faults}
use Rattle.golf_check_types.specs.Calls.{call_judged}
use Rattle.golf_check_types.specs.Judgments.{judge_at}

-- the locals that are declared after a statement, the types of the slots that it hands out, the rules that it breaks,
-- and the facts of its parts
pub record Walked : Type 0 where
  pub declares : List Local
  pub slots : List (Option GoType)
  pub faults : List Fault
  pub facts : List Fact

abbrev pub Walk : Type 0
Walk = Scope → Walked

abbrev pub nothing : Walked
nothing = record { declares = []; slots = []; faults = []; facts = [] }

-- a walk that only breaks rules
abbrev pub breaks : List Fault → Walked
breaks faults = record { declares = []; slots = []; faults = faults; facts = [] }

-- a walk that breaks rules and has facts
abbrev pub judges : List Fault → List Fact → Walked
judges faults facts = record { declares = []; slots = []; faults = faults; facts = facts }

-- a walk that declares a variable of this name and type
abbrev pub declares_one : Scope → List ℕ → Option GoType → List Fault → List Fact → Walked
declares_one s n t faults facts = record {
  declares = variable s n t ∷ [];
  slots = t ∷ [];
  faults = faults;
  facts = facts;
}

-- the walk with these facts
abbrev pub told : Walked → List Fact → Walked
told w facts = record { declares = w.declares; slots = w.slots; faults = w.faults; facts = facts }

abbrev pub both : Walked → Walked → Walked
both a b = record {
  declares = a.declares ++ b.declares;
  slots = a.slots ++ b.slots;
  faults = a.faults ++ b.faults;
  facts = a.facts ++ b.facts;
}

-- the scope after a walk
abbrev pub behind : Scope → Walked → Scope
behind s w = declared s w.declares (length w.slots)

-- one walk and then another; the names that the first declares are known in the second
abbrev pub then : Walk → Walk → Walk
then a b s = both (a s) (b (behind s (a s)))

abbrev pub in_order : List Walk → Walk
in_order [] s = nothing
in_order (w ∷ ws) s = both (w s) (in_order ws (behind s (w s)))

-- a walk in a block of its own; its names are not known after it
abbrev pub closed : Walked → Walked
closed w = record { declares = []; slots = w.slots; faults = w.faults; facts = w.facts }

abbrev pub in_block : Walk → Walk
in_block w s = closed (w (begun s))

abbrev pub block : List Walk → Walk
block body = in_block (in_order body)

-- a part that may be left out or come later: its facts are counted
abbrev pub counted : Walk → Walk
counted w s = told (w s) (part (w s).facts)

-- Simple statements.

-- Rule 18: an expression statement is a call or a receive.
abbrev pub action_faults : ℕ → Operand → List Fault
action_faults l (operand.Outcome t) = []
action_faults l (operand.Nothing late) = late_faults l late
action_faults l m = value_faults l m ++ broken l WRONG_USE false

abbrev pub action : ℕ → Expr → Walk
action l e s = judges ((judge_at l s e).faults ++ action_faults l (judge_at l s e).meaning) (facts_of (judge_at l s e))

-- Whether a value is assignable to the elements of a channel. It passes if the first is no channel.
abbrev pub is_carried : Given → Given → Bool
is_carried c v = not (has_layer is_channel c) || assignable v (element c)

-- Rules 9 and 16 for a send.
abbrev pub send_faults : ℕ → Given → Given → List Fault
send_faults l c v = broken l NOT_ASSIGNABLE (is_carried c v) ++ broken l WRONG_CHANNEL (has_layer takes c)

abbrev pub send : ℕ → Expr → Expr → Walk
send l c e s = judges
    (used l (judge_at l s c) ++ (used l (judge_at l s e)
    ++ send_faults l (given_by (judge_at l s c)) (given_by (judge_at l s e))))
    (facts_of (judge_at l s c) ++ facts_of (judge_at l s e))

-- whether an operand is a variable, a field or an element
abbrev pub is_place : Operand → Bool
is_place (operand.Variable w t) = true
is_place (operand.Field i t) = true
is_place (operand.Element t) = true
is_place operand.Unknown = true
is_place _ = false

-- `p++` and `p--`: rules 8 and 10
abbrev pub step_faults : ℕ → Operand → List Fault
step_faults l p = broken l WRONG_OPERAND (has_base base.Int (given p)) ++ broken l NO_PLACE (is_place p)

abbrev pub step : ℕ → Expr → Walk
step l p s = judges (named_or_used l (judge_at l s p) ++ step_faults l (judge_at l s p).meaning)
    (facts_of (judge_at l s p))

-- `p += e` and its like: rules 8 and 10
abbrev pub update_faults : ℕ → Operand → Given → List Fault
update_faults l p v = broken l WRONG_OPERAND (has_base base.Int (given p) && has_base base.Int v)
    ++ broken l NO_PLACE (is_place p)

abbrev pub update : ℕ → Expr → Expr → Walk
update l p e s = judges
    (named_or_used l (judge_at l s p) ++ (used l (judge_at l s e)
    ++ update_faults l (judge_at l s p).meaning (given_by (judge_at l s e))))
    (facts_of (judge_at l s p) ++ facts_of (judge_at l s e))

-- A call without a result cannot be on a left side.
abbrev pub left_faults : ℕ → Operand → List Fault
left_faults l (operand.Nothing late) = nothing_faults l late
left_faults l m = []

-- Rules 9 and 10 for `=`. An operand that has a type but no place breaks rule 9 before rule 10.
abbrev pub assign_faults : ℕ → Operand → Given → List Fault
assign_faults l operand.Blank v = []
assign_faults l p v = broken l NOT_ASSIGNABLE (assignable v (type_of p)) ++ broken l NO_PLACE (is_place p)

abbrev pub assignment : ℕ → Expr → Expr → Walk
assignment l p e s = judges
    ((judge_at l s p).faults ++ (left_faults l (judge_at l s p).meaning
    ++ (used l (judge_at l s e) ++ assign_faults l (judge_at l s p).meaning (given_by (judge_at l s e)))))
    (facts_of (judge_at l s p) ++ facts_of (judge_at l s e))

-- `n := e`: rules 2, 23 and 24
abbrev pub definition : ℕ → List ℕ → Expr → Walk
definition l n e s = declares_one s n (type_given (given_by (judge_at l s e)))
    (used l (judge_at l s e) ++ (broken l NOT_DECLARABLE (not (is_blank n) && not (is_reserved n))
    ++ (broken l NIL_WITHOUT_TYPE (not (is_nil (given_by (judge_at l s e))))
    ++ broken l NOTHING_NEW (not (is_here s n)))))
    (facts_of (judge_at l s e) ++ new_target s (type_given (given_by (judge_at l s e))) ∷ [])

-- Rule 16 for a receive.
abbrev pub receive_faults : ℕ → Given → List Fault
receive_faults l c = broken l WRONG_CHANNEL (has_layer gives c)

abbrev pub received : ℕ → Expr → Walk
received l e s = judges (used l (judge_at l s e) ++ receive_faults l (given_by (judge_at l s e)))
    (facts_of (judge_at l s e))

-- the type of a received value
abbrev pub carried : ℕ → Expr → Scope → Option GoType
carried l e s = element (given_by (judge_at l s e))

abbrev pub bool_type : Option GoType
bool_type = Some (plain base.Bool)

-- Two names left of `:=`.

-- whether a name would be declared
abbrev pub is_new : Scope → List ℕ → Bool
is_new s n = not (is_blank n) && not (is_here s n)

abbrev pub kept_local : ℕ → ℕ → Option Local → Option GoType → List Fault
kept_local l depth None t = []
kept_local l depth (Some d) t = cond (d.depth == depth)
    (broken l NOT_ASSIGNABLE (assignable (given_type t) d.of_type)) []

-- Rule 9 for a name that this block has declared already: it is assigned.
unfoldable pub kept_faults : ℕ → Scope → List ℕ → Option GoType → List Fault
kept_faults l s n t = kept_local l s.depth (look s.locals n) t

-- Rule 2 for two names: neither is reserved, and they are not the same new name.
unfoldable pub pair_differs : Scope → List ℕ → List ℕ → Bool
pair_differs s n m = not (is_reserved n) && (not (is_reserved m) && not (bytes_eq n m && is_new s n))

-- Rule 9 for two names. If both are one name, it is not assigned: a known name twice breaks rule 24.
abbrev pub kept_pair_faults : ℕ → Scope → List ℕ → List ℕ → Option GoType → List Fault
kept_pair_faults l s n m t = cond (bytes_eq n m) [] (kept_faults l s n t ++ kept_faults l s m bool_type)

abbrev pub pair_faults : ℕ → Scope → List ℕ → List ℕ → Option GoType → List Fault
pair_faults l s n m t =
    broken l NOT_DECLARABLE (pair_differs s n m)
    ++ (kept_pair_faults l s n m t ++ broken l NOTHING_NEW (is_new s n || is_new s m))

abbrev pub one_new : Bool → List ℕ → Option GoType → Walk
one_new true n t s = declares_one s n t [] []
one_new false n t s = nothing

-- declares the name if it is new; its fact is the target of the store
abbrev pub new_or_kept : Bool → Operand → List ℕ → Option GoType → Walk
new_or_kept new kept n t s = told (one_new new n t s) (target new kept s t ∷ [])

-- the operand to which a name left of `=` assigns
unfoldable pub assigned_name : Scope → List ℕ → Option Operand
assigned_name s n = cond (is_blank n) (Some operand.Blank) (meaning s n)

abbrev pub assigned : Scope → List ℕ → Operand
assigned s n = unwrap_or (assigned_name s n) operand.Unknown

-- the names of `n, m := <-e`, after the receive
abbrev pub pair : ℕ → List ℕ → List ℕ → Option GoType → Walk
pair l n m t s = both (breaks (pair_faults l s n m t))
    (then (new_or_kept (is_new s n) (assigned s n) n t) (new_or_kept (is_new s m) (assigned s m) m bool_type) s)

abbrev pub define_received : ℕ → ℕ → List ℕ → List ℕ → Expr → Walk
define_received l k n m e s = both (received l e s) (pair k n m (carried l e s) s)

-- Names left of `=`.

unfoldable pub put_in_faults : ℕ → Option Operand → Option GoType → List Fault
put_in_faults l None t = []
put_in_faults l (Some operand.Blank) t = []
put_in_faults l (Some p) t = broken l NOT_ASSIGNABLE (assignable (given_type t) (type_of p))

abbrev pub takes_value : Option Operand → Bool
takes_value None = true
takes_value (Some operand.Blank) = true
takes_value (Some p) = is_place p

-- one operand: rules 3, 9 and 10
abbrev pub assigned_faults : ℕ → Option Operand → Option GoType → List Fault
assigned_faults l p t = broken l UNKNOWN_NAME (is_some p) ++ (put_in_faults l p t ++ broken l NO_PLACE (takes_value p))

-- two operands, of which the second takes a truth value
abbrev pub assigned_pair_faults : ℕ → Option Operand → Option Operand → Option GoType → List Fault
assigned_pair_faults l p q t = broken l UNKNOWN_NAME (is_some p && is_some q)
    ++ (put_in_faults l p t ++ (put_in_faults l q bool_type ++ broken l NO_PLACE (takes_value p && takes_value q)))

-- the names of `n = <-e` and of `n, m = <-e`, after the receive

abbrev pub assign_name : ℕ → List ℕ → Option GoType → Walk
assign_name l n t s = judges (assigned_faults l (assigned_name s n) t) (fact.Target (assigned s n) ∷ [])

abbrev pub assign_pair : ℕ → List ℕ → List ℕ → Option GoType → Walk
assign_pair l n m t s = judges (assigned_pair_faults l (assigned_name s n) (assigned_name s m) t)
    (fact.Target (assigned s n) ∷ (fact.Target (assigned s m) ∷ []))

abbrev pub assign_received : ℕ → List ℕ → List ℕ → Expr → Walk
assign_received l n m e s = both (received l e s) (assign_pair l n m (carried l e s) s)

abbrev pub simple_kind : ℕ → SimpleKind → Walk
simple_kind l (simple.Expression e) = action l e
simple_kind l (simple.Send c e) = send l c e
simple_kind l (simple.Increment p) = step l p
simple_kind l (simple.Decrement p) = step l p
simple_kind l (simple.Assign p e) = assignment l p e
simple_kind l (simple.Update p o e) = update l p e
simple_kind l (simple.Define n e) = definition l n e
simple_kind l (simple.DefineReceived n m e) = define_received l l n m e
simple_kind l (simple.AssignReceived n m e) = assign_received l n m e

abbrev pub simple_walk : Simple → Walk
simple_walk x = simple_kind x.line x.kind

-- Variables.

-- `var n T`: the type, then rule 2
abbrev pub zero : ℕ → List ℕ → TypeExpr → Walk
zero l n t s = declares_one s n (write_at l s t).type
    ((write_at l s t).faults ++ broken l NOT_DECLARABLE (may_be_declared s n)) (new_target s (write_at l s t).type ∷ [])

-- `var n T = e`: the type, the expression, then rules 2 and 9
abbrev pub typed : ℕ → List ℕ → TypeExpr → Expr → Walk
typed l n t e s = declares_one s n (write_at l s t).type
    ((write_at l s t).faults ++ (used l (judge_at l s e)
    ++ (broken l NOT_DECLARABLE (may_be_declared s n)
    ++ broken l NOT_ASSIGNABLE (assignable (given_by (judge_at l s e)) (write_at l s t).type))))
    (facts_of (judge_at l s e) ++ new_target s (write_at l s t).type ∷ [])

-- `var n = e`: the expression, then rules 2 and 23
abbrev pub untyped : ℕ → List ℕ → Expr → Walk
untyped l n e s = declares_one s n (type_given (given_by (judge_at l s e)))
    (used l (judge_at l s e) ++ (broken l NOT_DECLARABLE (may_be_declared s n)
    ++ broken l NIL_WITHOUT_TYPE (not (is_nil (given_by (judge_at l s e))))))
    (facts_of (judge_at l s e) ++ new_target s (type_given (given_by (judge_at l s e))) ∷ [])

abbrev pub var_content : ℕ → List ℕ → VarContent → Walk
var_content l n (content.Zero t) = zero l n t
var_content l n (content.Typed t e) = typed l n t e
var_content l n (content.Untyped e) = untyped l n e

-- Go and defer statements.

-- Rule 12 for built-in operations: `close`, and the methods of package sync.
abbrev pub can_begin : BuiltIn → Bool
can_begin built_in.Length = false
can_begin built_in.Close = true
can_begin built_in.Panic = false
can_begin built_in.Print = false
can_begin built_in.Collect = false
can_begin built_in.SetFinalizer = false
can_begin built_in.NewCondition = false
can_begin built_in.Lock = true
can_begin built_in.Unlock = true
can_begin built_in.Add = true
can_begin built_in.Done = true
can_begin built_in.WaitGroup = true
can_begin built_in.WriteLock = true
can_begin built_in.WriteUnlock = true
can_begin built_in.ReadLock = true
can_begin built_in.ReadUnlock = true
can_begin built_in.WaitCondition = true
can_begin built_in.Signal = true
can_begin built_in.Broadcast = true

-- Rule 12: a function or method of the file, `close`, or a method of package sync.
abbrev pub may_be_begun : Operand → Bool
may_be_begun (operand.BuiltIn b) = can_begin b
may_be_begun (operand.Function k) = true
may_be_begun (operand.Method k) = true
may_be_begun operand.Unknown = true
may_be_begun _ = false

-- A call that is a statement is no value; rules 21 and 22 come after its other rules.
abbrev pub done_faults : ℕ → Operand → List Fault
done_faults l (operand.Nothing late) = late_faults l late
done_faults l m = []

abbrev pub begin_call : ℕ → Expr → List Expr → Walk
begin_call l f xs s = judges
    ((call_judged l s (judge_at l s f) (map (judge_at l s) xs)).faults
    ++ (done_faults l (call_judged l s (judge_at l s f) (map (judge_at l s) xs)).meaning
    ++ broken l NOT_BEGUN (may_be_begun (judge_at l s f).meaning)))
    (call_judged l s (judge_at l s f) (map (judge_at l s) xs)).inner

-- Return, break, continue.

-- Rules 9 and 13 for `return e`.
abbrev pub result_faults : ℕ → Option GoType → Given → List Fault
result_faults l None v = broken l WRONG_RETURN false
result_faults l (Some t) v = broken l NOT_ASSIGNABLE (assignable v (Some t))

abbrev pub returned : ℕ → Option Expr → Walk
returned l None s = breaks (broken l WRONG_RETURN (is_none s.result))
returned l (Some e) s = judges (used l (judge_at l s e) ++ result_faults l s.result (given_by (judge_at l s e)))
    (facts_of (judge_at l s e))

-- Rule 15.
abbrev pub break_walk : ℕ → Walk
break_walk l s = breaks (broken l NOTHING_TO_LEAVE s.breaks)

abbrev pub continue_walk : ℕ → Walk
continue_walk l s = breaks (broken l NOTHING_TO_LEAVE s.loops)

-- If.

-- Rule 8 for a condition.
abbrev pub condition : ℕ → Expr → Walk
condition l e s = judges (used l (judge_at l s e)
    ++ broken l WRONG_OPERAND (has_base base.Bool (given_by (judge_at l s e)))) (facts_of (judge_at l s e))

abbrev pub optional : Option Simple → Walk
optional None s = nothing
optional (Some x) s = simple_walk x s

-- a condition and the walk after it
abbrev pub behind_test : ℕ → Expr → Walk → Walk
behind_test l test w s = both (condition l test s) (w s)

abbrev pub then_walk : ℕ → Option Simple → Expr → List Walk → Walk
then_walk l first test body = then (optional first) (behind_test l test (block body))

abbrev pub if_walk : ℕ → Option Simple → Expr → List Walk → Walk
if_walk l first test body = in_block (then_walk l first test body)

abbrev pub else_walk : ℕ → Option Simple → Expr → List Walk → Walk → Walk
else_walk l first test body otherwise = in_block (then (then_walk l first test body) otherwise)

-- For.

-- the inside of a loop, which `break` and `continue` can leave
abbrev pub looping : Walk → Walk
looping w s = w (record s { breaks = true; loops = true })

abbrev pub loop_body : List Walk → Walk
loop_body body = looping (block body)

abbrev pub optional_test : ℕ → Option Expr → Walk
optional_test l None s = nothing
optional_test l (Some e) s = condition l e s

abbrev pub behind_optional : ℕ → Option Expr → Walk → Walk
behind_optional l test w s = both (optional_test l test s) (w s)

abbrev pub steps : ℕ → Option Simple → Option Expr → Option Simple → List Walk → Walk
steps l first test post body = then (optional first)
    (behind_optional l test (then (counted (optional post)) (loop_body body)))

-- Range.

-- Rule 2 for the names of a `range`.
unfoldable pub range_names_differ : RangeNames → Bool
range_names_differ range.Neither = true
range_names_differ (range.One n) = not (is_reserved n)
range_names_differ (range.Two n m) = not (is_reserved n) && (not (is_reserved m) && (is_blank n || not (bytes_eq n m)))

abbrev pub are_two : RangeNames → Bool
are_two (range.Two n m) = true
are_two _ = false

-- whether the layer is a channel that can only be sent on
abbrev pub only_takes : Layer → Bool
only_takes layer.SendChan = true
only_takes _ = false

abbrev pub is_outer : (Layer → Bool) → Given → Bool
is_outer fits (given_as.Typed t) = starts_with fits t.layers
is_outer fits _ = false

-- Rules 2, 16 and 17.
abbrev pub range_faults : ℕ → RangeNames → Given → List Fault
range_faults l names v =
    broken l NOT_DECLARABLE (range_names_differ names)
    ++ (broken l WRONG_CHANNEL (not (is_outer only_takes v))
    ++ broken l WRONG_RANGE (has_layer is_any v && not (are_two names && is_outer is_channel v)))

abbrev pub int_type : Option GoType
int_type = Some (plain base.Int)

-- The hidden slots of a range: for a slice the slice, its length and the next index; for a channel the channel.
abbrev pub hidden : Bool → Option GoType → List (Option GoType)
hidden true t = t ∷ (int_type ∷ (int_type ∷ []))
hidden false t = t ∷ []

abbrev pub hides : List (Option GoType) → Walked
hides ts = record { declares = []; slots = ts; faults = []; facts = [] }

abbrev pub range_name : List ℕ → Option GoType → Walk
range_name n t s = new_or_kept (not (is_blank n)) operand.Blank n t s

-- the type of the first name of a `range`: an index for a slice, and the element type for a channel
abbrev pub first_type : Bool → Option GoType → Option GoType
first_type true t = int_type
first_type false t = t

abbrev pub range_names : RangeNames → Bool → Option GoType → Walk
range_names range.Neither slice t s = nothing
range_names (range.One n) slice t s = range_name n (first_type slice t) s
range_names (range.Two n m) slice t s = then (range_name n (first_type slice t)) (range_name m t) s

abbrev pub range_head : ℕ → RangeNames → Expr → Walk
range_head l names e s = judges (used l (judge_at l s e) ++ range_faults l names (given_by (judge_at l s e)))
    (facts_of (judge_at l s e) ++ fact.Hidden s.next ∷ [])

abbrev pub range_slots : RangeNames → Given → Walk
range_slots names v = then (λ s. hides (hidden (is_outer is_slice v) (type_given v)))
    (range_names names (is_outer is_slice v) (element v))

abbrev pub range_walk : ℕ → RangeNames → Expr → List Walk → Walk
range_walk l names e body s = both (range_head l names e s)
    (then (range_slots names (given_by (judge_at l s e))) (loop_body body) s)

abbrev pub header_walk : ℕ → Header → List Walk → Walk
header_walk l header.Forever body = loop_body body
header_walk l (header.While e) body = behind_test l e (loop_body body)
header_walk l (header.Steps first test post) body = steps l first test post body
header_walk l (header.Range names e) body = range_walk l names e body

abbrev pub for_walk : ℕ → Header → List Walk → Walk
for_walk l h body = in_block (header_walk l h body)

-- Select. The operands and the communication are on the line of `select`, the names on that of `case`.

-- Rule 2 for the name of a received value.
abbrev pub define_name : ℕ → List ℕ → Option GoType → Walk
define_name k n t s = declares_one s n t (broken k NOT_DECLARABLE (may_be_declared s n)) (new_target s t ∷ [])

abbrev pub communication : ℕ → ℕ → Communication → Walk
communication l k (comm.Send c e) s = send l c e s
communication l k (comm.Receive e) s = received l e s
communication l k (comm.Define n e) s = both (received l e s) (define_name k n (carried l e s) s)
communication l k (comm.Assign n e) s = both (received l e s) (assign_name k n (carried l e s) s)
communication l k (comm.DefineReceived n m e) s = define_received l k n m e s

-- the inside of a clause, which `break` can leave
abbrev pub breaking : Walk → Walk
breaking w s = w (record s { breaks = true })

abbrev pub case_walk : ℕ → ℕ → Communication → List Walk → Walk
case_walk l k c body = counted (in_block (then (communication l k c) (breaking (in_order body))))

abbrev pub default_walk : List Walk → Walk
default_walk body = counted (in_block (breaking (in_order body)))

-- Statements.

abbrev pub clause_step : Clause-F (ℕ → Walk) Walk → ℕ → Walk
clause_step (S.Case k c body) l = case_walk l k c body
clause_step (S.Default k body) l = default_walk body

abbrev pub stmt_step : Stmt-F (ℕ → Walk) Walk → Walk
stmt_step (S.Var v) = var_content v.line v.name v.content
stmt_step (S.Simple x) = simple_walk x
stmt_step (S.Go l f xs) = begin_call l f xs
stmt_step (S.Defer l f xs) = begin_call l f xs
stmt_step (S.Return l e) = returned l e
stmt_step (S.Break l) = break_walk l
stmt_step (S.Continue l) = continue_walk l
stmt_step (S.Block l body) = block body
stmt_step (S.If l first test body) = if_walk l first test body
stmt_step (S.IfElse l first test body otherwise) = else_walk l first test body otherwise
stmt_step (S.For l h body) = for_walk l h body
stmt_step (S.Select l clauses) = in_order (map (λ c. c l) clauses)

unfoldable pub walk : Stmt → Walk
walk = fold-Stmt (ℕ → Walk) Walk clause_step stmt_step

unfoldable pub walk_clause : Clause → ℕ → Walk
walk_clause = fold-Clause (ℕ → Walk) Walk clause_step stmt_step

-- a clause of the `select` on this line
abbrev pub walk_clause_at : ℕ → Clause → Walk
walk_clause_at l c = walk_clause c l
