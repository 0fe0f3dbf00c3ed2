-- What the constructs of statements do, over the scopes of the checker (Go specification, "Statements").
use Rattle.std.specs.Prelude.{ℕ, zero, suc, ◌+◌, cond, int_lt, Bool, true, false, List, [], ◌∷◌, ◌++◌, length, map}
use Rattle.std.specs.Prelude.{Option, Some, None}
use Rattle.golf_syntax_trees.specs.declared.expressions.Expr.{Expr}
use Rattle.golf_syntax_trees.specs.declared.statements.UpdateOperator.{UpdateOperator}
use Rattle.golf_syntax_trees.specs.declared.statements.UpdateOperator.TheVariants as update
use Rattle.golf_syntax_trees.specs.declared.statements.Simple.{Simple}
use Rattle.golf_syntax_trees.specs.declared.statements.SimpleKind.{SimpleKind}
use Rattle.golf_syntax_trees.specs.declared.statements.SimpleKind.TheVariants as simple
use Rattle.golf_syntax_trees.specs.declared.statements.VarContent.{VarContent}
use Rattle.golf_syntax_trees.specs.declared.statements.VarContent.TheVariants as content
use Rattle.golf_syntax_trees.specs.declared.statements.Header.{Header}
use Rattle.golf_syntax_trees.specs.declared.statements.Header.TheVariants as header
use Rattle.golf_syntax_trees.specs.declared.statements.RangeNames.{RangeNames}
use Rattle.golf_syntax_trees.specs.declared.statements.RangeNames.TheVariants as range
use Rattle.golf_data.specs.declared.value.Value.{Value}
use Rattle.golf_data.specs.declared.code.Instr.{Instr}
use Rattle.golf_model.specs.Values.{zero_of, bool_of}
use Rattle.golf_model.specs.Arithmetic.{sum, difference, product, quotient, remainder}
use Rattle.golf_check_types.specs.declared.operands.Operand.{Operand}
use Rattle.golf_check_types.specs.declared.operands.Operand.TheVariants as operand
use Rattle.golf_check_types.specs.declared.scopes.Scope.{Scope}
use Rattle.golf_check_types.specs.Scopes.{begun}
use Rattle.golf_check_types.specs.Written.{write_at}
use Rattle.golf_check_types.specs.Judgments.{judge_at}
use Rattle.golf_check_types.specs.Types.{is_slice, element}
use Rattle.golf_check_types.specs.Names.{is_blank}
use Rattle.golf_check_types.specs.Expressions.{given_by}
use Rattle.golf_check_types.specs.declared.types.GoType.{GoType}
use Rattle.golf_check_types.specs.Statements.{behind, is_outer, range_slots, int_type, bool_type, carried, is_new}
use Rattle.golf_code_of.specs.declared.surroundings.Around.{Around}
use Rattle.golf_code_of.specs.declared.tables.Tables.{Tables}
use Rattle.golf_code_of.specs.Values.{zero_value}
use Rattle.golf_code_of.specs.Calls as K
use Rattle.golf_code_of.specs.ExpressionCode.{argument_at}
use Rattle.golf_code_of.specs.Statements.{StatementPart, past, within}
use Rattle.golf_code_of.specs.Statements as L
use Rattle.golf_meaning_flat.specs.Worlds as W
use Rattle.golf_meaning_flat.specs.Worlds.{Halt, World, bind, halted}
use Rattle.golf_meaning_flat.specs.InstructionEffects.{unfit, computed, divided, compared}
use Rattle.golf_meaning_source.specs.Names.{Env}
use Rattle.golf_meaning_source.specs.Operations.{Taking, Gives, gives, both, visible, on_two}
use Rattle.golf_meaning_source.specs.Exprs.{Does, Location, ArgumentMeaning, values_of, if_none, read, store, dropped}
use Rattle.golf_meaning_source.specs.Exprs.{int_value}
use Rattle.golf_meaning_source.specs.Exprs.{name_does}
use Rattle.golf_meaning_source.specs.ExpressionMeaning.{meant, outer}
use Rattle.golf_meaning_statements.specs.Flows.{Course, Flow, on, after, then_flow, cut, ends_here, or_else, unfit_flow}
use Rattle.golf_meaning_statements.specs.Flows.{guarded, by_test, tested, turned, turns, then_post}

-- a part of a meaning that gives an environment
abbrev pub Deals : Type 0
Deals = Env → World → W.Part Env

abbrev pub bound : Env → List ℕ → Value → Env
bound env n v = env ++ record { name = n; value = v } ∷ []

-- declares a name with one value
abbrev pub declared : Env → List ℕ → List Value → World → W.Part Env
declared env n (v ∷ []) w = W.Part.Gives (bound env n v) w
declared env n _ w = unfit w

-- drops the value that a call or receive leaves
abbrev pub drops : Operand → Env → List Value → World → W.Part Env
drops (operand.Nothing late) env vs w = if_none vs w (W.Part.Gives env w)
drops m env vs w = dropped env vs w

abbrev pub update_operation : UpdateOperator → World → Value → Value → W.Part Value
update_operation update.Add = computed sum
update_operation update.Subtract = computed difference
update_operation update.Multiply = computed product
update_operation update.Divide = divided quotient
update_operation update.Remainder = divided remainder

abbrev pub with_new : Bool → List ℕ → Value → Env → Env
with_new b n v env = cond b (bound env n v) env

abbrev pub one : Gives
one w = W.Part.Gives (int_value 1 ∷ []) w

-- Statements: they know what their code knows, and the bound on the rounds of a loop.
abbrev pub Deed : Type 0
Deed = Around → Scope → ℕ → Env → World → Flow

-- a statement beside its code, of which only the walk and the made functions are used
pub record Step : Type 0 where
  pub part : StatementPart
  pub deed : Deed

abbrev pub nothing : Deed
nothing a s n env w = Flow.Goes Course.On env w

abbrev pub then_deed : StatementPart → Deed → Deed → Deed
then_deed x d e a s n env w = then_flow (d a s n env w) (e (past a (x.lay a s)) (behind s (x.walk s)) n)

abbrev pub in_order : List Step → Deed
in_order [] = nothing
in_order (x ∷ xs) = then_deed x.part x.deed (in_order xs)

abbrev pub in_block : Deed → Deed
in_block d a s n env w = cut (length env) (d a (begun s) n env w)

abbrev pub block : List Step → Deed
block xs = in_block (in_order xs)

abbrev pub returned : List Value → World → Flow
returned (v ∷ []) w = Flow.Ends (halted (Halt.Returned (Some v)) w.operations)
returned _ w = unfit_flow w

abbrev pub parts : List Step → List StatementPart
parts xs = map (λ (x : Step). x.part) xs

abbrev pub in_loop : ℕ → ℕ → Deed → Deed
in_loop breaks continues d a s n env w =
    d (record { breaks = breaks; continues = continues; functions = a.functions })
    (record s { breaks = true; loops = true }) n env w

abbrev pub forever : Deed → Deed
forever d a s n env w = turns n (d a s n) env w

-- whether a post statement declares nothing
abbrev pub is_plain_kind : SimpleKind → Bool
is_plain_kind (simple.Define n e) = false
is_plain_kind (simple.DefineReceived n m e) = false
is_plain_kind _ = true

abbrev pub is_plain : Option Simple → Bool
is_plain None = true
is_plain (Some x) = is_plain_kind x.kind

abbrev pub named_one : List ℕ → Value → Env → Env
named_one n v env = cond (is_blank n) env (bound env n v)

-- the rounds of a range from an index on
abbrev pub ranges : ℕ → Value → (Value → Env → World → Flow) → Value → Env → World → Flow
ranges zero long step i env w = Flow.Ends (W.cut_short w)
ranges (suc m) long step i env w =
    after (compared int_lt w i long) (λ b u. by_test (bool_of b) u
    (turned (step i env u) (λ e v. after (computed sum v i (int_value 1)) (λ k x. ranges m long step k e x)))
    (Flow.Goes Course.On env u))

abbrev pub measured : List Value → World → (Value → World → Flow) → Flow
measured (v ∷ []) w f = f v w
measured _ w f = unfit_flow w

abbrev pub channel_named : RangeNames → Value → Env → Env
channel_named (range.One n) v env = named_one n v env
channel_named _ v env = env

abbrev pub received_two : List Value → World → (Value → Value → World → Flow) → Flow
received_two (v ∷ (ok ∷ [])) w f = f v ok w
received_two _ w f = unfit_flow w

abbrev pub channel_step : RangeNames → (Env → World → Flow) → Value → Env → World → Flow
channel_step names d v env w = cut (length env) (d (channel_named names v env) w)

-- a range over a channel has at most one name
abbrev pub by_channel : RangeNames → Flow → World → Flow
by_channel (range.Two n m) f w = unfit_flow w
by_channel _ f w = f

module _ (taking : Taking) where
  -- an expression on a line
  abbrev pub does_at : Tables → ℕ → Scope → Expr → Does
  does_at t l s e = (meant taking t e).does l s

  abbrev pub value_at : Tables → ℕ → Scope → Expr → Env → Gives
  value_at t l s e env = (does_at t l s e).value env

  -- Simple statements.

  -- `p op= e`: the place is evaluated once, and read before e
  abbrev pub updates : Does → Gives → (World → Value → Value → W.Part Value) → Deals
  updates p e f env w =
      bind (p.parts env w) (λ told u. bind (read taking env (p.place env) told u) (λ xs v.
      bind (e v) (λ ys x. bind (on_two f (xs ++ ys) x) (λ zs y. store taking env (p.place env) (told ++ zs) y))))

  -- `p = e`
  abbrev pub assigns : Does → Gives → Deals
  assigns p e env w = bind (p.parts env w)
      (λ told u. bind (e u) (λ xs v. store taking env (p.place env) (told ++ xs) v))

  -- the place of a name left of `=`
  abbrev pub name_place : Tables → Scope → List ℕ → Env → Location
  name_place t s n env = (name_does taking t (is_blank n) n (outer s n)).place env

  -- stores a received value and `ok`; `ok` is stored first
  abbrev pub stores_pair : Tables → Scope → List ℕ → List ℕ → Env → List Value → World → W.Part Env
  stores_pair t s n m env (v ∷ (ok ∷ [])) w =
      bind (store taking env (name_place t s m env) (ok ∷ []) w) (λ e u. store taking e (name_place t s n e) (v ∷ []) u)
  stores_pair t s n m env _ w = unfit w

  -- names left of `:=`: a known name is assigned, and a new one is declared

  abbrev pub stores_unless : Bool → Tables → Scope → List ℕ → Env → Value → World → W.Part Env
  stores_unless true t s n env v w = W.Part.Gives env w
  stores_unless false t s n env v w = store taking env (name_place t s n env) (v ∷ []) w

  abbrev pub defines_pair : Tables → Scope → List ℕ → List ℕ → Env → List Value → World → W.Part Env
  defines_pair t s n m env (v ∷ (ok ∷ [])) w =
      bind (stores_unless (is_new s m) t s m env ok w)
      (λ e u. bind (stores_unless (is_new s n) t s n e v u)
      (λ e2 x. W.Part.Gives (with_new (is_new s m) m ok (with_new (is_new s n) n v e2)) x))
  defines_pair t s n m env _ w = unfit w

  abbrev pub simple_deals : Tables → ℕ → SimpleKind → Scope → Deals
  simple_deals t l (simple.Expression e) s env w = bind (value_at t l s e env w) (drops (judge_at l s e).meaning env)
  simple_deals t l (simple.Send c e) s env w =
      bind (both (value_at t l s c env) (value_at t l s e env) w)
      (λ vs u. bind (visible taking Instr.Send [] vs u) (λ us v. if_none us v (W.Part.Gives env v)))
  simple_deals t l (simple.Increment p) s env w = updates (does_at t l s p) one (computed sum) env w
  simple_deals t l (simple.Decrement p) s env w = updates (does_at t l s p) one (computed difference) env w
  simple_deals t l (simple.Assign p e) s env w = assigns (does_at t l s p) (value_at t l s e env) env w
  simple_deals t l (simple.Update p o e) s env w =
      updates (does_at t l s p) (value_at t l s e env) (update_operation o) env w
  simple_deals t l (simple.Define n e) s env w = bind (value_at t l s e env w) (declared env n)
  simple_deals t l (simple.AssignReceived n m e) s env w =
      bind (value_at t l s e env w) (λ vs u. bind
      (visible taking Instr.ReceiveOk (carried l e s ∷ (bool_type ∷ [])) vs u) (stores_pair t s n m env))
  simple_deals t l (simple.DefineReceived n m e) s env w =
      bind (value_at t l s e env w) (λ vs u. bind
      (visible taking Instr.ReceiveOk (carried l e s ∷ (bool_type ∷ [])) vs u) (defines_pair t s n m env))

  abbrev pub simple_deed : Tables → Simple → Deed
  simple_deed t x a s n env w = on (simple_deals t x.line x.kind s env w)

  abbrev pub optional : Tables → Option Simple → Deed
  optional t None = nothing
  optional t (Some x) = simple_deed t x

  -- Variables.

  abbrev pub first_value : Tables → ℕ → VarContent → Scope → Env → Gives
  first_value t l (content.Zero of_type) s env w =
      W.Part.Gives (zero_of (zero_value (write_at l s of_type).type) ∷ []) w
  first_value t l (content.Typed of_type e) s env w = value_at t l s e env w
  first_value t l (content.Untyped e) s env w = value_at t l s e env w

  abbrev pub var_deed : Tables → ℕ → List ℕ → VarContent → Deed
  var_deed t l n x a s k env w = on (bind (first_value t l x s env w) (declared env n))

  -- Go and defer statements: receiver and arguments are evaluated now.

  abbrev pub argument : Tables → ℕ → Scope → Env → Expr → ArgumentMeaning
  argument t l s env e = record { meaning = (judge_at l s e).meaning; value = value_at t l s e env }

  -- begins a call by `go` or `defer`; the next function that is made has the number `next`
  abbrev pub beginning : (ℕ → ℕ → Instr) → ℕ → Operand → List K.ArgumentCode → List Value → Gives
  beginning begin next (operand.Function k) xs = visible taking (begin (k + 1) (length xs)) []
  beginning begin next (operand.Method k) xs = visible taking (begin (k + 1) (length xs + 1)) []
  beginning begin next (operand.BuiltIn b) xs = visible taking (begin next (length (K.begun_parameters b xs))) []
  beginning begin next _ xs = gives

  abbrev pub begin_deals : Tables → ℕ → (ℕ → ℕ → Instr) → Expr → List Expr → ℕ → Scope → Deals
  begin_deals t l begin f xs next s env w =
      bind (both (value_at t l s f env) (values_of (map (argument t l s env) xs)) w) (λ vs u.
      bind (beginning begin next (judge_at l s f).meaning (map (argument_at t l s) xs) vs u)
      (λ us v. if_none us v (W.Part.Gives env v)))

  abbrev pub begin_deed : Tables → ℕ → (ℕ → ℕ → Instr) → Expr → List Expr → Deed
  begin_deed t l begin f xs a s n env w = on (begin_deals t l begin f xs a.functions s env w)

  -- Return, break, continue.

  abbrev pub return_deed : Tables → ℕ → Option Expr → Deed
  return_deed t l None a s n env w = Flow.Ends (halted (Halt.Returned None) w.operations)
  return_deed t l (Some e) a s n env w = after (value_at t l s e env w) returned

  -- Conditions.

  abbrev pub after_test : Tables → ℕ → Expr → Deed → Deed
  after_test t l test d a s n env w = after (value_at t l s test env w)
      (λ vs u. tested vs u (d a s n env u) (Flow.Goes Course.Skips env u))

  abbrev pub then_step : Tables → ℕ → Option Simple → Expr → List Step → Deed
  then_step t l first test body = then_deed (L.optional t first) (optional t first) (after_test t l test (block body))

  abbrev pub if_deed : Tables → ℕ → Option Simple → Expr → List Step → Deed
  if_deed t l first test body = in_block (λ a s n env w. ends_here
      (then_step t l first test body (within 1 a) s n env w))

  abbrev pub else_deed : Tables → ℕ → Option Simple → Expr → List Step → Step → Deed
  else_deed t l first test body otherwise = in_block (λ a s n env w.
      let x = L.then_part t l first test (parts body) in
      or_else (then_step t l first test body (within 2 a) s n env w)
      (λ env u. ends_here (otherwise.deed (within 1 (past a (x.lay (within 2 a) s)))
      (behind s (x.walk s)) n env u)))

  -- Loops: at most n rounds begin, and each round begins with the test of the condition.

  abbrev pub while : Tables → ℕ → Expr → Deed → Deed
  while t l test d a s n env w = turns n (after_test t l test d a s n) env w

  abbrev pub after_optional : Tables → ℕ → Option Expr → Deed → Deed
  after_optional t l None d = d
  after_optional t l (Some test) d = after_test t l test d

  abbrev pub with_post : Tables → Option Simple → Deed → Deed
  with_post t post d a s n env w = then_post
      (d (past a ((L.optional t post).lay a s)) (behind s ((L.optional t post).walk s)) n env w) (optional t post a s n)

  abbrev pub stepping : Tables → ℕ → Option Expr → Option Simple → Deed → Deed
  stepping t l test post d a s n env w = guarded (is_plain post) w
      (turns n (after_optional t l test (with_post t post d) a s n) env w)

  -- Range: a slice and its length are evaluated once.

  abbrev pub element_named : Option GoType → List ℕ → Value → Value → Env → World → W.Part Env
  element_named e m x i env w = cond (is_blank m) (W.Part.Gives env w)
      (bind (visible taking Instr.Index (e ∷ []) (x ∷ (i ∷ [])) w) (declared env m))

  abbrev pub range_named : Option GoType → RangeNames → Value → Value → Env → World → W.Part Env
  range_named e range.Neither x i env w = W.Part.Gives env w
  range_named e (range.One n) x i env w = W.Part.Gives (named_one n i env) w
  range_named e (range.Two n m) x i env w = element_named e m x i (named_one n i env) w

  abbrev pub range_step : Option GoType → RangeNames → Value → (Env → World → Flow) → Value → Env → World → Flow
  range_step e names x d i env w = cut (length env) (after (range_named e names x i env w) d)

  abbrev pub over_slice : ℕ → Option GoType → RangeNames → (Env → World → Flow) → Value → Env → World → Flow
  over_slice n e names d x env w = after (visible taking Instr.Len (int_type ∷ []) (x ∷ []) w)
      (λ ls u. measured ls u (λ long v. ranges n long (range_step e names x d) (int_value 0) env v))

  -- A channel is evaluated once, and received from until it is closed.

  abbrev pub receives : ℕ → Option GoType → Value → (Value → Env → World → Flow) → Env → World → Flow
  receives zero e c step env w = Flow.Ends (W.cut_short w)
  receives (suc m) e c step env w =
      after (visible taking Instr.ReceiveOk (e ∷ (bool_type ∷ [])) (c ∷ []) w)
      (λ vs u. received_two vs u (λ v ok y. by_test (bool_of ok) y (turned (step v env y) (receives m e c step))
      (Flow.Goes Course.On env y)))

  abbrev pub over : Bool → ℕ → Option GoType → RangeNames → (Env → World → Flow) → Value → Env → World → Flow
  over true n e names d x env w = over_slice n e names d x env w
  over false n e names d x env w = by_channel names (receives n e x (channel_step names d) env w) w

  abbrev pub ranging : Tables → ℕ → RangeNames → Expr → Deed → Deed
  ranging t l names e d a s n env w =
      let v = given_by (judge_at l s e) in
      after (value_at t l s e env w) (λ vs u. measured vs u
      (λ x y. over (is_outer is_slice v) n (element v) names (d a (behind s (range_slots names v s)) n) x env y))

  abbrev pub header_deed : Tables → ℕ → Header → List Step → Deed
  header_deed t l header.Forever body = forever (in_loop 1 0 (block body))
  header_deed t l (header.While e) body = while t l e (in_loop 1 0 (block body))
  header_deed t l (header.Steps first test post) body =
      then_deed (L.optional t first) (optional t first) (stepping t l test post (in_loop 2 0 (block body)))
  header_deed t l (header.Range names e) body = ranging t l names e (in_loop 2 0 (block body))

  abbrev pub for_deed : Tables → ℕ → Header → List Step → Deed
  for_deed t l h body = in_block (header_deed t l h body)
