-- How the small bodies of the examples are written: each statement with what it does, by the equations for its kind.
-- For: `step`, golf_meaning_statements/specs/Statements.antt
-- By: the equations for each kind, and induction over the list of the parts of a tree
use Rattle.std.specs.Prelude.{◌≡◌, ℕ, List, [], ◌∷◌, Option, Some, None, map}
use Rattle.std.proofs.Common.{refl, ap, ap₂, ◌∙◌}
use Rattle.golf_syntax_trees.specs.declared.types.TypeExpr.{TypeExpr}
use Rattle.golf_syntax_trees.specs.declared.expressions.Expr.{Expr}
use Rattle.golf_syntax_trees.specs.declared.statements.UpdateOperator.{UpdateOperator}
use Rattle.golf_syntax_trees.specs.declared.statements.Simple.{Simple}
use Rattle.golf_syntax_trees.specs.declared.statements.SimpleKind.{SimpleKind}
use Rattle.golf_syntax_trees.specs.declared.statements.SimpleKind.TheVariants as simple
use Rattle.golf_syntax_trees.specs.declared.statements.VarContent.{VarContent}
use Rattle.golf_syntax_trees.specs.declared.statements.VarContent.TheVariants as content
use Rattle.golf_syntax_trees.specs.declared.statements.Header.TheVariants as header
use Rattle.golf_syntax_trees.specs.declared.statements.RangeNames.{RangeNames}
use Rattle.golf_syntax_trees.specs.declared.statements.Communication.{Communication}
use Rattle.golf_syntax_trees.specs.declared.statements.Communication.TheVariants as comm
use Rattle.golf_syntax_trees.specs.declared.statements.Stmt.{Stmt}
use Rattle.golf_syntax_trees.specs.declared.statements.Stmt.TheVariants as st
use Rattle.golf_syntax_trees.specs.declared.statements.Clause.{Clause}
use Rattle.golf_syntax_trees.specs.declared.statements.Clause.TheVariants as cl
use Rattle.golf_syntax_trees.specs.declared.statements.Clause.TheOpen as F
use Rattle.golf_data.specs.declared.code.Instr.{Instr}
use Rattle.golf_model.specs.Values.{zero_of}
use Rattle.golf_model.specs.Arithmetic.{sum, difference}
use Rattle.golf_check_types.specs.declared.scopes.Scope.{Scope}
use Rattle.golf_check_types.specs.Types.{is_slice, element}
use Rattle.golf_check_types.specs.Expressions.{given_by}
use Rattle.golf_check_types.specs.declared.types.GoType.{GoType}
use Rattle.golf_check_types.specs.Written.{WriteType}
use Rattle.golf_check_types.specs.Judgments.{Judge, judge, judge_at}
use Rattle.golf_check_types.specs.Statements as V
use Rattle.golf_check_types.specs.Statements.{behind, is_outer, range_slots, bool_type}
use Rattle.golf_code_layout.specs.Piece.{all}
use Rattle.golf_code_of.specs.Values.{zero_value}
use Rattle.golf_code_of.specs.Calls as C
use Rattle.golf_code_of.specs.Calls.{makings, pushes}
use Rattle.golf_code_of.specs.ExpressionCode.{piece_at, argument_at}
use Rattle.golf_code_of.specs.Statements as L
use Rattle.golf_code_of.specs.Statements.{StatementPart, within, past}
use Rattle.golf_code_of.specs.Loops as O
use Rattle.golf_code_of.specs.Selects as K
use Rattle.golf_code_of.proofs.Examples.Writing.{WrittenType, tables}
use Rattle.golf_meaning_flat.specs.Worlds.{bind}
use Rattle.golf_meaning_flat.specs.InstructionEffects.{computed}
use Rattle.golf_meaning_source.specs.Names.{Env}
use Rattle.golf_meaning_source.specs.Operations.{both, visible}
use Rattle.golf_meaning_source.specs.Exprs.{ArgumentMeaning, values_of, if_none}
use Rattle.golf_meaning_source.specs.ExpressionMeaning.{Meant, meant}
use Rattle.golf_meaning_statements.specs.Flows.{Course, Flow, on, after, ends_here, or_else, guarded, tested, turns}
use Rattle.golf_meaning_statements.specs.Flows.{then_post}
use Rattle.golf_meaning_statements.specs.Steps.{Deals, Deed, Step, declared, drops, update_operation, updates, assigns}
use Rattle.golf_meaning_statements.specs.Steps.{one, stores_pair, defines_pair, simple_deals, nothing, beginning}
use Rattle.golf_meaning_statements.specs.Steps.{then_deed, in_order, in_block, block, returned, parts, in_loop}
use Rattle.golf_meaning_statements.specs.Steps.{is_plain, measured, over}
use Rattle.golf_meaning_statements.specs.Selects.{ClauseStep, communicates, breaking}
use Rattle.golf_meaning_statements.specs.Statements.{step, step_step, clause_step, clause_step_step}
use Rattle.golf_meaning_statements.proofs.Equations as e
use Rattle.golf_meaning_flat.specs.Worlds as W
use Rattle.golf_meaning_statements.proofs.SamplesOfExpressions.{gives_on, maps-same}
pub use Rattle.golf_meaning_statements.proofs.SamplesOfExpressions.{strictly, Sample, name, integer, text, parens, dot}
pub use Rattle.golf_meaning_statements.proofs.SamplesOfExpressions.{index, unary_of, binary_of, call, empty_literal}
pub use Rattle.golf_meaning_statements.proofs.SamplesOfExpressions.{sync_literal, new, new_sync, make, make_sized}
pub use Rattle.golf_meaning_statements.proofs.SamplesOfExpressions.{slice_literal, struct_literal}

-- Simple statements, on line 1.

pub record KindSample : Type 0 where
  pub kind : SimpleKind
  pub deals : Scope → Deals
  pub same : simple_deals strictly tables 1 kind ≡ deals

abbrev simple_statement : {d : Scope → Deals} (x : SimpleKind) → simple_deals strictly tables 1 x ≡ d → KindSample
simple_statement {d} x same = record { kind = x; deals = d; same = same }

abbrev expression_deals : Meant → Judge → Scope → Deals
expression_deals m k s env w = bind (gives_on m 1 s env w) (drops (k 1 s).meaning env)

abbrev pub expression : Sample → KindSample
expression a = simple_statement (simple.Expression a.tree)
    (ap₂ expression_deals a.same a.alike)

abbrev send_deals : Meant → Meant → Scope → Deals
send_deals m k s env w = bind (both (gives_on m 1 s env) (gives_on k 1 s env) w)
    (λ vs u. bind (visible strictly Instr.Send [] vs u) (λ us v. if_none us v (W.Part.Gives env v)))

abbrev pub send : Sample → Sample → KindSample
send a b = simple_statement (simple.Send a.tree b.tree)
    (ap₂ send_deals a.same b.same)

abbrev increment_deals : Meant → Scope → Deals
increment_deals m s env w = updates strictly (m.does 1 s) one (computed sum) env w

abbrev pub increment : Sample → KindSample
increment a = simple_statement (simple.Increment a.tree) (ap increment_deals a.same)

abbrev decrement_deals : Meant → Scope → Deals
decrement_deals m s env w = updates strictly (m.does 1 s) one (computed difference) env w

abbrev pub decrement : Sample → KindSample
decrement a = simple_statement (simple.Decrement a.tree) (ap decrement_deals a.same)

abbrev assign_deals : Meant → Meant → Scope → Deals
assign_deals m k s env w = assigns strictly (m.does 1 s) (gives_on k 1 s env) env w

abbrev pub assign : Sample → Sample → KindSample
assign a b = simple_statement (simple.Assign a.tree b.tree)
    (ap₂ assign_deals a.same b.same)

abbrev update_deals : UpdateOperator → Meant → Meant → Scope → Deals
update_deals o m k s env w = updates strictly (m.does 1 s) (gives_on k 1 s env) (update_operation o) env w

abbrev pub update_by : UpdateOperator → Sample → Sample → KindSample
update_by o a b = simple_statement (simple.Update a.tree o b.tree)
    (ap₂ (update_deals o) a.same b.same)

abbrev define_deals : List ℕ → Meant → Scope → Deals
define_deals n m s env w = bind (gives_on m 1 s env w) (declared env n)

abbrev pub define : List ℕ → Sample → KindSample
define n a = simple_statement (simple.Define n a.tree) (ap (define_deals n) a.same)

abbrev pair_deals : List ℕ → List ℕ → Meant → Judge → Scope → Deals
pair_deals n q m k s env w = bind (gives_on m 1 s env w)
    (λ vs u. bind (visible strictly Instr.ReceiveOk (element (given_by (k 1 s)) ∷ (bool_type ∷ [])) vs u)
    (defines_pair strictly tables s n q env))

abbrev pub define_received : List ℕ → List ℕ → Sample → KindSample
define_received n q a = simple_statement (simple.DefineReceived n q a.tree)
    (ap₂ (pair_deals n q) a.same a.alike)

abbrev assign_pair_deals : List ℕ → List ℕ → Meant → Judge → Scope → Deals
assign_pair_deals n q m k s env w = bind (gives_on m 1 s env w)
    (λ vs u. bind (visible strictly Instr.ReceiveOk (element (given_by (k 1 s)) ∷ (bool_type ∷ [])) vs u)
    (stores_pair strictly tables s n q env))

abbrev pub assign_received : List ℕ → List ℕ → Sample → KindSample
assign_received n q a = simple_statement (simple.AssignReceived n q a.tree)
    (ap₂ (assign_pair_deals n q) a.same a.alike)

-- Statements.

pub record StmtSample : Type 0 where
  pub tree : Stmt
  pub value : Step
  pub same : step strictly tables tree ≡ value

abbrev statement : {y : Step} (x : Stmt) → step strictly tables x ≡ y → StmtSample
statement {y} x same = record { tree = x; value = y; same = same }

abbrev pub trees : List StmtSample → List Stmt
trees xs = map (λ (x : StmtSample). x.tree) xs

abbrev pub values : List StmtSample → List Step
values xs = map (λ (x : StmtSample). x.value) xs

pub all-same : (xs : List StmtSample) → map (step strictly tables) (trees xs) ≡ values xs
all-same xs = maps-same (step strictly tables) (λ (x : StmtSample). x.tree) (λ (x : StmtSample). x.value)
    (λ (x : StmtSample). x.same) xs

abbrev pub line : KindSample → Simple
line k = record { line = 1; kind = k.kind }

abbrev deals_deed : (Scope → Deals) → Deed
deals_deed d a s n env w = on (d s env w)

abbrev does_step : Simple → (Scope → Deals) → Step
does_step x d = record { part = L.simple_part tables x; deed = deals_deed d }

abbrev pub does : KindSample → StmtSample
does k = statement (st.Simple (line k)) (e.step-Simple strictly tables (line k) ∙ ap (does_step (line k)) k.same)

abbrev return_step : Expr → Meant → Step
return_step x m = record {
  part = L.return_part tables 1 (Some x);
  deed = λ a s n env w. after (gives_on m 1 s env w) returned;
}

abbrev pub returns : Sample → StmtSample
returns a = statement (st.Return 1 (Some a.tree))
    (e.step-Return strictly tables 1 (Some a.tree) ∙ ap (return_step a.tree) a.same)

abbrev pub returns_nothing : StmtSample
returns_nothing = statement (st.Return 1 None) (e.step-Return strictly tables 1 None)

abbrev pub breaks : StmtSample
breaks = statement (st.Break 1) (e.step-Break strictly tables 1)

abbrev pub continues : StmtSample
continues = statement (st.Continue 1) (e.step-Continue strictly tables 1)

abbrev pub block_of : List StmtSample → StmtSample
block_of xs = statement (st.Block 1 (trees xs))
    (e.step-Block strictly tables 1 (trees xs) ∙ ap (λ ys. step_step strictly tables (F.Block 1 ys)) (all-same xs))

-- Variables.

abbrev var_zero_step : List ℕ → TypeExpr → WriteType → Step
var_zero_step n t x = record {
  part = L.var_part tables 1 n (content.Zero t);
  deed = λ a s k env w. on (bind (W.Part.Gives (zero_of (zero_value (x 1 s).type) ∷ []) w) (declared env n));
}

abbrev pub var_zero : List ℕ → WrittenType → StmtSample
var_zero n t = statement (st.Var (record { line = 1; name = n; content = content.Zero t.tree }))
    (e.step-Var strictly tables (record { line = 1; name = n; content = content.Zero t.tree })
    ∙ ap (var_zero_step n t.tree) t.same)

abbrev var_step : List ℕ → VarContent → Meant → Step
var_step n x m = record {
  part = L.var_part tables 1 n x;
  deed = λ a s k env w. on (bind (gives_on m 1 s env w) (declared env n));
}

abbrev pub var_typed : List ℕ → WrittenType → Sample → StmtSample
var_typed n t a = statement (st.Var (record { line = 1; name = n; content = content.Typed t.tree a.tree }))
    (e.step-Var strictly tables (record { line = 1; name = n; content = content.Typed t.tree a.tree })
    ∙ ap (var_step n (content.Typed t.tree a.tree)) a.same)

abbrev pub var_untyped : List ℕ → Sample → StmtSample
var_untyped n a = statement (st.Var (record { line = 1; name = n; content = content.Untyped a.tree }))
    (e.step-Var strictly tables (record { line = 1; name = n; content = content.Untyped a.tree })
    ∙ ap (var_step n (content.Untyped a.tree)) a.same)

-- `go` and `defer`.

-- a call of f is begun, by what f is and does, and by the values of the arguments
abbrev begin_step : (ℕ → ℕ → Instr) → Expr → List Expr → (Scope → Env → List ArgumentMeaning) → Meant → Judge → Step
begin_step begin f xs given m k = record {
  part = record {
    walk = V.begin_call 1 f xs;
    lay = λ a s. record {
      piece = all (piece_at tables 1 s f ∷ pushes (map (argument_at tables 1 s) xs)
          ∷ C.beginning 1 begin a.functions (k 1 s).meaning (map (argument_at tables 1 s) xs) ∷ []);
      made = makings 1 (k 1 s).meaning (map (argument_at tables 1 s) xs);
    };
  };
  deed = λ a s n env w. on (
      bind (both (gives_on m 1 s env) (values_of (given s env)) w) (λ vs u.
      bind (beginning strictly begin a.functions (k 1 s).meaning (map (argument_at tables 1 s) xs) vs u)
      (λ us v. if_none us v (W.Part.Gives env v))));
}

-- without arguments
abbrev begin_alone : (ℕ → ℕ → Instr) → Expr → Meant → Judge → Step
begin_alone begin f = begin_step begin f [] (λ s env. [])

-- with one
abbrev begin_with : (ℕ → ℕ → Instr) → Expr → Expr → Meant → Meant → Judge → Step
begin_with begin f x p = begin_step begin f (x ∷ [])
    (λ s env. record { meaning = (judge_at 1 s x).meaning; value = gives_on p 1 s env } ∷ [])

pub begins-alone : (begin : ℕ → ℕ → Instr) (f : Sample)
    → begin_alone begin f.tree (meant strictly tables f.tree) (judge f.tree)
    ≡ begin_alone begin f.tree f.value f.judged
begins-alone begin f = ap₂ (begin_alone begin f.tree) f.same f.alike

pub begins-with : (begin : ℕ → ℕ → Instr) (f a : Sample)
    → begin_with begin f.tree a.tree (meant strictly tables a.tree) (meant strictly tables f.tree) (judge f.tree)
    ≡ begin_with begin f.tree a.tree a.value f.value f.judged
begins-with begin f a =
    ap (λ p. begin_with begin f.tree a.tree p (meant strictly tables f.tree) (judge f.tree)) a.same
    ∙ ap₂ (begin_with begin f.tree a.tree a.value) f.same f.alike

abbrev pub go_alone : Sample → StmtSample
go_alone f = statement (st.Go 1 f.tree []) (e.step-Go strictly tables 1 f.tree [] ∙ begins-alone Instr.Go f)

abbrev pub go : Sample → Sample → StmtSample
go f a = statement (st.Go 1 f.tree (a.tree ∷ []))
    (e.step-Go strictly tables 1 f.tree (a.tree ∷ []) ∙ begins-with Instr.Go f a)

abbrev pub defer_alone : Sample → StmtSample
defer_alone f = statement (st.Defer 1 f.tree []) (e.step-Defer strictly tables 1 f.tree [] ∙ begins-alone Instr.Defer f)

abbrev pub defer : Sample → Sample → StmtSample
defer f a = statement (st.Defer 1 f.tree (a.tree ∷ []))
    (e.step-Defer strictly tables 1 f.tree (a.tree ∷ []) ∙ begins-with Instr.Defer f a)

-- Conditions.

-- a condition, and what it guards
abbrev tests : Meant → Deed → Deed
tests m d a s n env w = after (gives_on m 1 s env w)
    (λ vs u. tested vs u (d a s n env u) (Flow.Goes Course.Skips env u))

-- what stands before a condition, then the condition, and what it guards
abbrev then_of : Option Simple → Deed → List Step → Meant → Deed
then_of x d ys m = then_deed (L.optional tables x) d (tests m (block ys))

abbrev if_step : Option Simple → Expr → List Step → Deed → Meant → Step
if_step x t ys d m = record {
  part = L.if_part tables 1 x t (parts ys);
  deed = in_block (λ a s n env w. ends_here (then_of x d ys m (within 1 a) s n env w));
}

abbrev pub if_then : Sample → List StmtSample → StmtSample
if_then a xs = statement (st.If 1 None a.tree (trees xs))
    (e.step-If strictly tables 1 None a.tree (trees xs)
    ∙ ap (λ ys. step_step strictly tables (F.If 1 None a.tree ys)) (all-same xs)
    ∙ ap (if_step None a.tree (values xs) nothing) a.same)

-- `if first; a { }`
abbrev pub if_first_then : KindSample → Sample → List StmtSample → StmtSample
if_first_then k a xs = statement (st.If 1 (Some (line k)) a.tree (trees xs))
    (e.step-If strictly tables 1 (Some (line k)) a.tree (trees xs)
    ∙ ap (λ ys. step_step strictly tables (F.If 1 (Some (line k)) a.tree ys)) (all-same xs)
    ∙ ap (λ d. if_step (Some (line k)) a.tree (values xs) (deals_deed d) (meant strictly tables a.tree)) k.same
    ∙ ap (if_step (Some (line k)) a.tree (values xs) (deals_deed k.deals)) a.same)

abbrev else_step : Option Simple → Expr → List Step → Step → Deed → Meant → Step
else_step x t ys z d m = record {
  part = L.else_part tables 1 x t (parts ys) z.part;
  deed = in_block (λ a s n env w.
      let p = L.then_part tables 1 x t (parts ys) in
      or_else (then_of x d ys m (within 2 a) s n env w)
      (λ env u. ends_here (z.deed (within 1 (past a (p.lay (within 2 a) s))) (behind s (p.walk s)) n env u)));
}

abbrev pub if_else : Sample → List StmtSample → StmtSample → StmtSample
if_else a xs z = statement (st.IfElse 1 None a.tree (trees xs) z.tree)
    (e.step-IfElse strictly tables 1 None a.tree (trees xs) z.tree
    ∙ ap (λ ys. step_step strictly tables (F.IfElse 1 None a.tree ys (step strictly tables z.tree))) (all-same xs)
    ∙ ap (λ y. step_step strictly tables (F.IfElse 1 None a.tree (values xs) y)) z.same
    ∙ ap (else_step None a.tree (values xs) z.value nothing) a.same)

-- `if first; a { } else z`
abbrev pub if_first_else : KindSample → Sample → List StmtSample → StmtSample → StmtSample
if_first_else k a xs z = statement (st.IfElse 1 (Some (line k)) a.tree (trees xs) z.tree)
    (e.step-IfElse strictly tables 1 (Some (line k)) a.tree (trees xs) z.tree
    ∙ ap (λ ys. step_step strictly tables (F.IfElse 1 (Some (line k)) a.tree ys (step strictly tables z.tree)))
    (all-same xs) ∙ ap (λ y. step_step strictly tables (F.IfElse 1 (Some (line k)) a.tree (values xs) y)) z.same
    ∙ ap (λ d. else_step (Some (line k)) a.tree (values xs) z.value (deals_deed d) (meant strictly tables a.tree))
    k.same ∙ ap (else_step (Some (line k)) a.tree (values xs) z.value (deals_deed k.deals)) a.same)

-- Loops.

abbrev pub forever : List StmtSample → StmtSample
forever xs = statement (st.For 1 header.Forever (trees xs))
    (e.step-For strictly tables 1 header.Forever (trees xs)
    ∙ ap (λ ys. step_step strictly tables (F.For 1 header.Forever ys)) (all-same xs))

abbrev while_step : Expr → List Step → Meant → Step
while_step x ys m = record {
  part = O.for_part tables 1 (header.While x) (parts ys);
  deed = in_block (λ a s n env w. turns n (tests m (in_loop 1 0 (block ys)) a s n) env w);
}

abbrev pub while : Sample → List StmtSample → StmtSample
while a xs = statement (st.For 1 (header.While a.tree) (trees xs))
    (e.step-For strictly tables 1 (header.While a.tree) (trees xs)
    ∙ ap (λ ys. step_step strictly tables (F.For 1 (header.While a.tree) ys)) (all-same xs)
    ∙ ap (while_step a.tree (values xs)) a.same)

-- `for first; test; post { }`, each part of which may be missing
abbrev steps_step : Option Simple → Option Expr → Option Simple → List Step → Deed → (Deed → Deed) → Deed → Step
steps_step x t y ys d test f = record {
  part = O.for_part tables 1 (header.Steps x t y) (parts ys);
  deed = in_block (then_deed (L.optional tables x) d (λ a s n env w.
      guarded (is_plain y) w (turns n (test (λ a s n env w. then_post
      (in_loop 2 0 (block ys) (past a ((L.optional tables y).lay a s))
      (behind s ((L.optional tables y).walk s)) n env w) (f a s n)) a s n) env w)));
}

abbrev untested : Deed → Deed
untested d = d

abbrev pub stepping : KindSample → Sample → KindSample → List StmtSample → StmtSample
stepping k a q xs = statement (st.For 1 (header.Steps (Some (line k)) (Some a.tree) (Some (line q))) (trees xs))
    (e.step-For strictly tables 1 (header.Steps (Some (line k)) (Some a.tree) (Some (line q))) (trees xs)
    ∙ ap (λ ys. step_step strictly tables (F.For 1 (header.Steps (Some (line k)) (Some a.tree) (Some (line q))) ys))
    (all-same xs) ∙ ap (λ d. steps_step (Some (line k)) (Some a.tree) (Some (line q)) (values xs) (deals_deed d)
    (tests (meant strictly tables a.tree)) (deals_deed (simple_deals strictly tables 1 q.kind))) k.same
    ∙ ap (λ m. steps_step (Some (line k)) (Some a.tree) (Some (line q)) (values xs) (deals_deed k.deals) (tests m)
    (deals_deed (simple_deals strictly tables 1 q.kind))) a.same
    ∙ ap (λ f. steps_step (Some (line k)) (Some a.tree) (Some (line q)) (values xs) (deals_deed k.deals) (tests a.value)
    (deals_deed f)) q.same)

-- `for ; test; post { }`
abbrev pub stepping_on : Sample → KindSample → List StmtSample → StmtSample
stepping_on a q xs = statement (st.For 1 (header.Steps None (Some a.tree) (Some (line q))) (trees xs))
    (e.step-For strictly tables 1 (header.Steps None (Some a.tree) (Some (line q))) (trees xs)
    ∙ ap (λ ys. step_step strictly tables (F.For 1 (header.Steps None (Some a.tree) (Some (line q))) ys)) (all-same xs)
    ∙ ap (λ m. steps_step None (Some a.tree) (Some (line q)) (values xs) nothing (tests m)
    (deals_deed (simple_deals strictly tables 1 q.kind))) a.same
    ∙ ap (λ f. steps_step None (Some a.tree) (Some (line q)) (values xs) nothing (tests a.value) (deals_deed f)) q.same)

-- `for first; ; post { }`
abbrev pub stepping_untested : KindSample → KindSample → List StmtSample → StmtSample
stepping_untested k q xs = statement (st.For 1 (header.Steps (Some (line k)) None (Some (line q))) (trees xs))
    (e.step-For strictly tables 1 (header.Steps (Some (line k)) None (Some (line q))) (trees xs)
    ∙ ap (λ ys. step_step strictly tables (F.For 1 (header.Steps (Some (line k)) None (Some (line q))) ys))
    (all-same xs) ∙ ap (λ d. steps_step (Some (line k)) None (Some (line q)) (values xs) (deals_deed d) untested
    (deals_deed (simple_deals strictly tables 1 q.kind))) k.same
    ∙ ap (λ f. steps_step (Some (line k)) None (Some (line q)) (values xs) (deals_deed k.deals) untested (deals_deed f))
    q.same)

-- `for ; ; { }`
abbrev pub stepping_alone : List StmtSample → StmtSample
stepping_alone xs = statement (st.For 1 (header.Steps None None None) (trees xs))
    (e.step-For strictly tables 1 (header.Steps None None None) (trees xs)
    ∙ ap (λ ys. step_step strictly tables (F.For 1 (header.Steps None None None) ys)) (all-same xs))

abbrev range_deed : RangeNames → List Step → Meant → Judge → Deed
range_deed names ys m k a s n env w =
    let v = given_by (k 1 s) in
    after (gives_on m 1 s env w) (λ vs u. measured vs u
    (λ x y. over strictly (is_outer is_slice v) n (element v) names
    (in_loop 2 0 (block ys) a (behind s (range_slots names v s)) n) x env y))

abbrev range_of : RangeNames → Expr → List Step → Meant → Judge → Step
range_of names x ys m k = record {
  part = O.for_part tables 1 (header.Range names x) (parts ys);
  deed = in_block (range_deed names ys m k);
}

abbrev pub ranges_over : RangeNames → Sample → List StmtSample → StmtSample
ranges_over names a xs = statement (st.For 1 (header.Range names a.tree) (trees xs))
    (e.step-For strictly tables 1 (header.Range names a.tree) (trees xs)
    ∙ ap (λ ys. step_step strictly tables (F.For 1 (header.Range names a.tree) ys)) (all-same xs)
    ∙ ap (λ m. range_of names a.tree (values xs) m (judge a.tree)) a.same
    ∙ ap (λ k. range_of names a.tree (values xs) a.value k) a.alike)

-- Clauses of a `select`.

pub record ClauseSample : Type 0 where
  pub tree : Clause
  pub value : ClauseStep
  pub same : clause_step strictly tables tree ≡ value

abbrev clause : {y : ClauseStep} (x : Clause) → clause_step strictly tables x ≡ y → ClauseSample
clause {y} x same = record { tree = x; value = y; same = same }

abbrev send_clause : Expr → Expr → List Step → Meant → Meant → ClauseStep
send_clause x y ys m k = record {
  part = K.case_clause tables 1 (comm.Send x y) (parts ys);
  operands = λ l s env. both (gives_on m l s env) (gives_on k l s env);
  leaves = λ l s. [];
  deed = λ l vs. in_block (then_deed (K.communication tables l 1 (comm.Send x y))
      (communicates strictly tables (comm.Send x y) vs) (breaking (in_order ys)));
}

abbrev pub case_send : Sample → Sample → List StmtSample → ClauseSample
case_send a b xs = clause (cl.Case 1 (comm.Send a.tree b.tree) (trees xs))
    (e.step-Case strictly tables 1 (comm.Send a.tree b.tree) (trees xs)
    ∙ ap (λ ys. clause_step_step strictly tables (F.Case 1 (comm.Send a.tree b.tree) ys)) (all-same xs)
    ∙ ap (λ m. send_clause a.tree b.tree (values xs) m (meant strictly tables b.tree)) a.same
    ∙ ap (λ m. send_clause a.tree b.tree (values xs) a.value m) b.same)

-- what receives has the channel for an operand, and is told what it leaves by the type that the channel carries
abbrev taking_clause : Communication → (Option GoType → List (Option GoType)) → List Step → Meant → Judge → ClauseStep
taking_clause c leaves ys m k = record {
  part = K.case_clause tables 1 c (parts ys);
  operands = λ l s env. gives_on m l s env;
  leaves = λ l s. leaves (element (given_by (k l s)));
  deed = λ l vs. in_block (then_deed (K.communication tables l 1 c) (communicates strictly tables c vs)
      (breaking (in_order ys)));
}

abbrev taking : (c : Communication) (leaves : Option GoType → List (Option GoType)) (a : Sample) (xs : List StmtSample)
    → ((ys : List Step) → clause_step_step strictly tables (F.Case 1 c ys) ≡ taking_clause c leaves ys
    (meant strictly tables a.tree) (judge a.tree)) → ClauseSample
taking c leaves a xs known = clause (cl.Case 1 c (trees xs))
    (e.step-Case strictly tables 1 c (trees xs)
    ∙ ap (λ ys. clause_step_step strictly tables (F.Case 1 c ys)) (all-same xs) ∙ known (values xs)
    ∙ ap (λ m. taking_clause c leaves (values xs) m (judge a.tree)) a.same
    ∙ ap (λ k. taking_clause c leaves (values xs) a.value k) a.alike)

abbrev one_left : Option GoType → List (Option GoType)
one_left t = t ∷ []

abbrev two_left : Option GoType → List (Option GoType)
two_left t = t ∷ (bool_type ∷ [])

abbrev pub case_receive : Sample → List StmtSample → ClauseSample
case_receive a xs = taking (comm.Receive a.tree) one_left a xs (λ ys. refl)

abbrev pub case_define : List ℕ → Sample → List StmtSample → ClauseSample
case_define n a xs = taking (comm.Define n a.tree) one_left a xs (λ ys. refl)

abbrev pub case_assign : List ℕ → Sample → List StmtSample → ClauseSample
case_assign n a xs = taking (comm.Assign n a.tree) one_left a xs (λ ys. refl)

abbrev pub case_define_received : List ℕ → List ℕ → Sample → List StmtSample → ClauseSample
case_define_received n q a xs = taking (comm.DefineReceived n q a.tree) two_left a xs (λ ys. refl)

abbrev pub default : List StmtSample → ClauseSample
default xs = clause (cl.Default 1 (trees xs))
    (e.step-Default strictly tables 1 (trees xs)
    ∙ ap (λ ys. clause_step_step strictly tables (F.Default 1 ys)) (all-same xs))

abbrev pub clause_trees : List ClauseSample → List Clause
clause_trees cs = map (λ (c : ClauseSample). c.tree) cs

abbrev pub clause_values : List ClauseSample → List ClauseStep
clause_values cs = map (λ (c : ClauseSample). c.value) cs

pub clauses-same : (cs : List ClauseSample) → map (clause_step strictly tables) (clause_trees cs) ≡ clause_values cs
clauses-same cs = maps-same (clause_step strictly tables) (λ (c : ClauseSample). c.tree) (λ (c : ClauseSample). c.value)
    (λ (c : ClauseSample). c.same) cs

abbrev pub selects : List ClauseSample → StmtSample
selects cs = statement (st.Select 1 (clause_trees cs))
    (e.step-Select strictly tables 1 (clause_trees cs)
    ∙ ap (λ ys. step_step strictly tables (F.Select 1 ys)) (clauses-same cs))
