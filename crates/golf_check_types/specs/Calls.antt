-- The rules for the arguments of calls, and what calls give (Go specification, "Calls", "Built-in functions"; packages
-- fmt, runtime and sync).
use Rattle.std.specs.Prelude.{ℕ, ◌==◌, Bool, true, false, ◌&&◌, ◌||◌, cond, is_none, List, [], ◌∷◌, ◌++◌, length, map}
use Rattle.std.specs.Prelude.{flat_map, slice_get, Option, Some, None}
use Rattle.std.specs.List.{list_all}
use Rattle.golf_check_types.specs.declared.rules.TheConstants.{NOT_STEADY, WRONG_OPERAND, NOT_ASSIGNABLE, WRONG_CALL}
use Rattle.golf_check_types.specs.declared.rules.TheConstants.{WRONG_CHANNEL, NOT_PRINTABLE, WRONG_FINALISER}
use Rattle.golf_check_types.specs.declared.types.Layer.{Layer}
use Rattle.golf_check_types.specs.declared.types.Base.{Base}
use Rattle.golf_check_types.specs.declared.types.Base.TheVariants as base
use Rattle.golf_check_types.specs.declared.types.GoType.{GoType}
use Rattle.golf_check_types.specs.declared.operands.Operand.{Operand}
use Rattle.golf_check_types.specs.declared.operands.Operand.TheVariants as operand
use Rattle.golf_check_types.specs.declared.operands.BuiltIn.{BuiltIn}
use Rattle.golf_check_types.specs.declared.operands.BuiltIn.TheVariants as built_in
use Rattle.golf_check_types.specs.declared.operands.Signature.{Signature}
use Rattle.golf_check_types.specs.declared.operands.Given.{Given}
use Rattle.golf_check_types.specs.declared.operands.Given.TheVariants as given_as
use Rattle.golf_check_types.specs.declared.scopes.FileScope.{FileScope}
use Rattle.golf_check_types.specs.declared.scopes.Scope.{Scope}
use Rattle.golf_check_types.specs.Faults.{Fault, broken}
use Rattle.golf_check_types.specs.Types.{same_type, plain, type_given, has_base, has_layer, is_any, takes, assignable}
use Rattle.golf_check_types.specs.Expressions.{Judged, facts_of, used, named_or_used, given_by}

-- Rule 9 for the arguments that have a parameter.
abbrev pub argument_faults : ℕ → List (Option GoType) → List Given → List Fault
argument_faults l (p ∷ ps) (v ∷ vs) = broken l NOT_ASSIGNABLE (assignable v p) ++ argument_faults l ps vs
argument_faults l _ _ = []

abbrev pub same_number : List (Option GoType) → List Given → Bool
same_number ps vs = length ps == length vs

-- Rules 9 and 11 for these parameters.
abbrev pub parameter_faults : ℕ → List (Option GoType) → List Given → List Fault
parameter_faults l ps vs = argument_faults l ps vs ++ broken l WRONG_CALL (same_number ps vs)

-- Functions and methods of the file.

abbrev pub signature_faults : ℕ → Option Signature → List Given → List Fault
signature_faults l None vs = []
signature_faults l (Some f) vs = parameter_faults l f.parameters vs

abbrev pub of_result : Option GoType → Operand
of_result None = operand.Nothing None
of_result (Some t) = operand.Outcome (Some t)

abbrev pub signature_result : Option Signature → Operand
signature_result None = operand.Outcome None
signature_result (Some f) = of_result f.result

-- Built-in calls.

abbrev pub any_type : Option GoType
any_type = None

-- the types of the parameters
abbrev pub parameters_of : BuiltIn → List (Option GoType)
parameters_of built_in.Length = any_type ∷ []
parameters_of built_in.Close = any_type ∷ []
parameters_of built_in.Panic = any_type ∷ []
parameters_of built_in.SetFinalizer = any_type ∷ any_type ∷ []
parameters_of built_in.NewCondition = Some (plain base.Mutex) ∷ []
parameters_of built_in.Add = Some (plain base.Int) ∷ []
parameters_of built_in.Print = []
parameters_of built_in.Collect = []
parameters_of built_in.Lock = []
parameters_of built_in.Unlock = []
parameters_of built_in.Done = []
parameters_of built_in.WaitGroup = []
parameters_of built_in.WriteLock = []
parameters_of built_in.WriteUnlock = []
parameters_of built_in.ReadLock = []
parameters_of built_in.ReadUnlock = []
parameters_of built_in.WaitCondition = []
parameters_of built_in.Signal = []
parameters_of built_in.Broadcast = []

abbrev pub all_first : (Given → Bool) → List Given → Bool
all_first fits [] = true
all_first fits (v ∷ vs) = fits v

-- Rule 8 for `len`, rules 9 and 11 for all, rule 16 for `close`. `Println` takes any number of arguments.
abbrev pub built_in_faults : ℕ → BuiltIn → List Given → List Fault
built_in_faults l built_in.Length vs = broken l WRONG_OPERAND (all_first (has_layer is_any) vs)
    ++ parameter_faults l (parameters_of built_in.Length) vs
built_in_faults l built_in.Close vs = parameter_faults l (parameters_of built_in.Close) vs
    ++ broken l WRONG_CHANNEL (all_first (has_layer takes) vs)
built_in_faults l built_in.Print vs = []
built_in_faults l built_in.Panic vs = parameter_faults l (parameters_of built_in.Panic) vs
built_in_faults l built_in.Collect vs = parameter_faults l (parameters_of built_in.Collect) vs
built_in_faults l built_in.SetFinalizer vs = parameter_faults l (parameters_of built_in.SetFinalizer) vs
built_in_faults l built_in.NewCondition vs = parameter_faults l (parameters_of built_in.NewCondition) vs
built_in_faults l built_in.Lock vs = parameter_faults l (parameters_of built_in.Lock) vs
built_in_faults l built_in.Unlock vs = parameter_faults l (parameters_of built_in.Unlock) vs
built_in_faults l built_in.Add vs = parameter_faults l (parameters_of built_in.Add) vs
built_in_faults l built_in.Done vs = parameter_faults l (parameters_of built_in.Done) vs
built_in_faults l built_in.WaitGroup vs = parameter_faults l (parameters_of built_in.WaitGroup) vs
built_in_faults l built_in.WriteLock vs = parameter_faults l (parameters_of built_in.WriteLock) vs
built_in_faults l built_in.WriteUnlock vs = parameter_faults l (parameters_of built_in.WriteUnlock) vs
built_in_faults l built_in.ReadLock vs = parameter_faults l (parameters_of built_in.ReadLock) vs
built_in_faults l built_in.ReadUnlock vs = parameter_faults l (parameters_of built_in.ReadUnlock) vs
built_in_faults l built_in.WaitCondition vs = parameter_faults l (parameters_of built_in.WaitCondition) vs
built_in_faults l built_in.Signal vs = parameter_faults l (parameters_of built_in.Signal) vs
built_in_faults l built_in.Broadcast vs = parameter_faults l (parameters_of built_in.Broadcast) vs

abbrev pub is_empty : List Judged → Bool
is_empty [] = true
is_empty (x ∷ xs) = false

-- Rules 21 and 22, which are judged after rule 18.

abbrev pub rule_unless : ℕ → Bool → Option ℕ
rule_unless rule true = None
rule_unless rule false = Some rule

abbrev pub prints : Given → Bool
prints v = has_base base.Int v || (has_base base.Bool v || has_base base.Text v)

abbrev pub is_struct_base : Base → Bool
is_struct_base (base.Pointer k) = true
is_struct_base _ = false

abbrev pub is_struct_type : List Layer → Base → Bool
is_struct_type [] b = is_struct_base b
is_struct_type (x ∷ xs) b = false

-- whether the value is a pointer to a struct of the file
abbrev pub is_struct_pointer : Given → Bool
is_struct_pointer (given_as.Typed t) = is_struct_type t.layers t.base
is_struct_pointer given_as.Nil = false
is_struct_pointer given_as.Unknown = true

abbrev pub same_known : Option GoType → Option GoType → Bool
same_known (Some a) (Some b) = same_type a b
same_known _ _ = true

-- whether the parameters are exactly one of this type
abbrev pub takes_alone : Option GoType → List (Option GoType) → Bool
takes_alone t (p ∷ []) = same_known p t
takes_alone t _ = false

abbrev pub signature_takes : Option GoType → Option Signature → Bool
signature_takes t None = false
signature_takes t (Some f) = takes_alone t f.parameters

abbrev pub finalises_by : FileScope → Option GoType → Operand → Bool
finalises_by f t operand.Nil = true
finalises_by f t (operand.Function k) = signature_takes t (slice_get f.functions k)
finalises_by f t _ = false

abbrev pub finalises : FileScope → Given → Operand → Bool
finalises f v m = is_struct_pointer v && finalises_by f (type_given v) m

abbrev pub late_rule : BuiltIn → List Given → Option ℕ
late_rule built_in.Print vs = rule_unless NOT_PRINTABLE (list_all prints vs)
late_rule built_in.Panic vs = rule_unless NOT_PRINTABLE (all_first (has_base base.Text) vs)
late_rule built_in.Length vs = None
late_rule built_in.Close vs = None
late_rule built_in.Collect vs = None
late_rule built_in.SetFinalizer vs = None
late_rule built_in.NewCondition vs = None
late_rule built_in.Lock vs = None
late_rule built_in.Unlock vs = None
late_rule built_in.Add vs = None
late_rule built_in.Done vs = None
late_rule built_in.WaitGroup vs = None
late_rule built_in.WriteLock vs = None
late_rule built_in.WriteUnlock vs = None
late_rule built_in.ReadLock vs = None
late_rule built_in.ReadUnlock vs = None
late_rule built_in.WaitCondition vs = None
late_rule built_in.Signal vs = None
late_rule built_in.Broadcast vs = None

abbrev pub built_in_result : BuiltIn → Option ℕ → Operand
built_in_result built_in.Length late = operand.Value (Some (plain base.Int))
built_in_result built_in.NewCondition late = operand.Value (Some (plain base.Condition))
built_in_result built_in.Close late = operand.Nothing late
built_in_result built_in.Panic late = operand.Nothing late
built_in_result built_in.Print late = operand.Nothing late
built_in_result built_in.Collect late = operand.Nothing late
built_in_result built_in.SetFinalizer late = operand.Nothing late
built_in_result built_in.Lock late = operand.Nothing late
built_in_result built_in.Unlock late = operand.Nothing late
built_in_result built_in.Add late = operand.Nothing late
built_in_result built_in.Done late = operand.Nothing late
built_in_result built_in.WaitGroup late = operand.Nothing late
built_in_result built_in.WriteLock late = operand.Nothing late
built_in_result built_in.WriteUnlock late = operand.Nothing late
built_in_result built_in.ReadLock late = operand.Nothing late
built_in_result built_in.ReadUnlock late = operand.Nothing late
built_in_result built_in.WaitCondition late = operand.Nothing late
built_in_result built_in.Signal late = operand.Nothing late
built_in_result built_in.Broadcast late = operand.Nothing late

-- Any call.

-- Rule 7: the initialiser of a global calls only `len` and `NewCond`.
abbrev pub is_steady_call : BuiltIn → Bool
is_steady_call built_in.Length = true
is_steady_call built_in.Close = false
is_steady_call built_in.Panic = false
is_steady_call built_in.Print = false
is_steady_call built_in.Collect = false
is_steady_call built_in.SetFinalizer = false
is_steady_call built_in.NewCondition = true
is_steady_call built_in.Lock = false
is_steady_call built_in.Unlock = false
is_steady_call built_in.Add = false
is_steady_call built_in.Done = false
is_steady_call built_in.WaitGroup = false
is_steady_call built_in.WriteLock = false
is_steady_call built_in.WriteUnlock = false
is_steady_call built_in.ReadLock = false
is_steady_call built_in.ReadUnlock = false
is_steady_call built_in.WaitCondition = false
is_steady_call built_in.Signal = false
is_steady_call built_in.Broadcast = false

abbrev pub is_steady : Operand → Bool
is_steady (operand.BuiltIn b) = is_steady_call b
is_steady _ = false

abbrev pub steady_faults : ℕ → Option ℕ → Operand → List Fault
steady_faults l initialises f = broken l NOT_STEADY (is_none initialises || is_steady f)

-- Rules 8, 9, 11 and 16. An operand that is not known may be a method, and breaks none.
abbrev pub call_faults : ℕ → FileScope → Operand → List Given → List Fault
call_faults l f (operand.Function k) vs = signature_faults l (slice_get f.functions k) vs
call_faults l f (operand.Method k) vs = signature_faults l (slice_get f.functions k) vs
call_faults l f (operand.BuiltIn b) vs = built_in_faults l b vs
call_faults l f operand.Unknown vs = []
call_faults l f _ vs = broken l WRONG_CALL false

abbrev pub called : FileScope → Operand → List Given → Operand
called f (operand.Function k) vs = signature_result (slice_get f.functions k)
called f (operand.Method k) vs = signature_result (slice_get f.functions k)
called f (operand.BuiltIn b) vs = built_in_result b (late_rule b vs)
called f _ vs = operand.Outcome None

-- the arguments from left to right, and then the call
abbrev pub plain_call : ℕ → Scope → Operand → List Judged → Judged
plain_call l s f xs = record {
  meaning = called s.file f (map given_by xs);
  faults = flat_map (used l) xs ++ (steady_faults l s.initialises f ++ call_faults l s.file f (map given_by xs));
  inner = flat_map facts_of xs;
}

-- `SetFinalizer`: the second argument can be a name of any kind
abbrev pub finaliser_call : ℕ → Scope → Operand → List Judged → Judged
finaliser_call l s f (x ∷ (y ∷ ys)) = record {
  meaning = operand.Nothing (rule_unless WRONG_FINALISER (finalises s.file (given_by x) y.meaning));
  faults = used l x ++ (named_or_used l y
      ++ (flat_map (used l) ys ++ (steady_faults l s.initialises f ++ broken l WRONG_CALL (is_empty ys))));
  inner = facts_of x ++ (facts_of y ++ flat_map facts_of ys);
}
finaliser_call l s f xs = record {
  meaning = operand.Nothing None;
  faults = flat_map (used l) xs ++ (steady_faults l s.initialises f ++ broken l WRONG_CALL false);
  inner = flat_map facts_of xs;
}

abbrev pub sets_finaliser : Operand → Bool
sets_finaliser (operand.BuiltIn built_in.SetFinalizer) = true
sets_finaliser _ = false

abbrev pub called_with : ℕ → Scope → Operand → List Judged → Judged
called_with l s f xs = cond (sets_finaliser f) (finaliser_call l s f xs) (plain_call l s f xs)

abbrev pub call_judged : ℕ → Scope → Judged → List Judged → Judged
call_judged l s f xs = record {
  meaning = (called_with l s f.meaning xs).meaning;
  faults = named_or_used l f ++ (called_with l s f.meaning xs).faults;
  inner = facts_of f ++ (called_with l s f.meaning xs).inner;
}
