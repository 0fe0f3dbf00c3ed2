-- Select statements (Go specification, "Select statements"; this runtime's rule): the operands of all clauses are
-- evaluated once, in source order, and one operation chooses a clause. The operation and its answer name a clause by
-- its place in source order, from 0.
use Rattle.std.specs.Prelude.{ℕ, zero, suc, ◌==◌, ◌&&◌, ◌||◌, not, is_some, cond, Bool, true, List, [], ◌∷◌, length}
use Rattle.std.specs.Prelude.{map, Option}
use Rattle.golf_syntax_trees.specs.declared.statements.Communication.{Communication}
use Rattle.golf_syntax_trees.specs.declared.statements.Communication.TheVariants as comm
use Rattle.golf_data.specs.declared.value.Value.{Value}
use Rattle.golf_data.specs.declared.code.Instr.{Instr}
use Rattle.golf_check_types.specs.declared.types.GoType.{GoType}
use Rattle.golf_check_types.specs.declared.scopes.Scope.{Scope}
use Rattle.golf_check_types.specs.Statements.{behind, bool_type, carried}
use Rattle.golf_data.specs.Effects.{cases_taken}
use Rattle.golf_code_of.specs.declared.tables.Tables.{Tables}
use Rattle.golf_code_of.specs.Statements.{past}
use Rattle.golf_code_of.specs.Selects as K
use Rattle.golf_code_of.specs.Selects.{ClausePart, cases_from, default_from, in_clause}
use Rattle.golf_meaning_flat.specs.Worlds.{Part}
use Rattle.golf_meaning_flat.specs.InstructionEffects.{gets}
use Rattle.golf_meaning_source.specs.Names.{Env}
use Rattle.golf_meaning_source.specs.Operations as O
use Rattle.golf_meaning_source.specs.Operations.{Taking, Gives, gives, both, all_fit}
use Rattle.golf_meaning_source.specs.Exprs.{store, dropped}
use Rattle.golf_meaning_statements.specs.Flows.{Course, Flow, on, after, unfit_flow, guarded, if_fits}
use Rattle.golf_meaning_statements.specs.Steps.{Deals, Deed, Step, value_at, declared, name_place, defines_pair}
use Rattle.golf_meaning_statements.specs.Steps.{then_deed, in_order, in_block, parts}

-- A clause beside its code, of which only the walk, the kind and the made functions are used. It has its operands, on
-- the line of the `select`, the types of the values that it leaves if it is chosen, and what it does with these values.
pub record ClauseStep : Type 0 where
  pub part : ClausePart
  pub operands : ℕ → Scope → Env → Gives
  pub leaves : ℕ → Scope → List (Option GoType)
  pub deed : ℕ → List Value → Deed

-- the types of the received values
abbrev pub received_types : Communication → ℕ → Scope → List (Option GoType)
received_types (comm.Send c e) l s = []
received_types (comm.Receive e) l s = carried l e s ∷ []
received_types (comm.Define n e) l s = carried l e s ∷ []
received_types (comm.Assign n e) l s = carried l e s ∷ []
received_types (comm.DefineReceived n m e) l s = carried l e s ∷ (bool_type ∷ [])

abbrev pub breaking : Deed → Deed
breaking d a s n env w = d a (record s { breaks = true }) n env w

abbrev pub default_step : ℕ → List Step → ClauseStep
default_step k body = record {
  part = K.default_clause k (parts body);
  operands = λ l s env. gives [];
  leaves = λ l s. [];
  deed = λ l vs. in_block (breaking (in_order body));
}

abbrev pub clause_parts : List ClauseStep → List ClausePart
clause_parts cs = map (λ (c : ClauseStep). c.part) cs

-- the number of clauses
abbrev pub many : List ClauseStep → ℕ
many cs = length (clause_parts cs)

-- at most one clause is `default`

abbrev pub no_default : List ClausePart → Bool
no_default [] = true
no_default (c ∷ cs) = is_some c.kind && no_default cs

abbrev pub one_default : List ClausePart → Bool
one_default [] = true
one_default (c ∷ cs) = cond (is_some c.kind) (one_default cs) (no_default cs)

-- `break` leaves the `select`
abbrev pub out_of_select : Flow → Flow
out_of_select (Flow.Goes Course.On env w) = Flow.Goes Course.On env w
out_of_select (Flow.Goes Course.Breaks env w) = Flow.Goes Course.On env w
out_of_select (Flow.Goes Course.Continues env w) = Flow.Goes Course.Continues env w
out_of_select (Flow.Goes Course.Skips env w) = unfit_flow w
out_of_select (Flow.Ends t) = Flow.Ends t

module _ (taking : Taking) where
  -- Communications.

  abbrev pub operands_given : Tables → Communication → ℕ → Scope → Env → Gives
  operands_given t (comm.Send c e) l s env = both (value_at taking t l s c env) (value_at taking t l s e env)
  operands_given t (comm.Receive e) l s env = value_at taking t l s e env
  operands_given t (comm.Define n e) l s env = value_at taking t l s e env
  operands_given t (comm.Assign n e) l s env = value_at taking t l s e env
  operands_given t (comm.DefineReceived n m e) l s env = value_at taking t l s e env

  -- what a chosen clause does with the received values
  abbrev pub takes_in : Tables → Communication → List Value → Scope → Deals
  takes_in t (comm.Send c e) vs s env w = Part.Gives env w
  takes_in t (comm.Receive e) vs s env w = dropped env vs w
  takes_in t (comm.Define n e) vs s env w = declared env n vs w
  takes_in t (comm.Assign n e) vs s env w = store taking env (name_place taking t s n env) vs w
  takes_in t (comm.DefineReceived n m e) vs s env w = defines_pair taking t s n m env vs w

  abbrev pub communicates : Tables → Communication → List Value → Deed
  communicates t c vs a s n env w = on (takes_in t c vs s env w)

  -- Clauses, each in a block of its own, which `break` leaves.

  abbrev pub case_step : Tables → ℕ → Communication → List Step → ClauseStep
  case_step t k c body = record {
    part = K.case_clause t k c (parts body);
    operands = operands_given t c;
    leaves = received_types c;
    deed = λ l vs. in_block (then_deed (K.communication t l k c) (communicates t c vs) (breaking (in_order body)));
  }

  -- the clause at this place, with these values; the scope of each clause follows the clauses before it
  abbrev pub chosen : ℕ → ℕ → List Value → List ClauseStep → Deed
  chosen l k vs [] a s n env w = unfit_flow w
  chosen l zero vs (c ∷ cs) a s n env w =
      guarded (length vs == length (c.leaves l s)) w
      (if_fits (not taking.strict || all_fit (c.leaves l s) vs) w (c.deed l vs (in_clause (many cs) a) s n env w))
  chosen l (suc k) vs (c ∷ cs) a s n env w =
      chosen l k vs cs (past a (c.part.lay l (in_clause (many cs) a) s)) (behind s (c.part.walk l s)) n env w

  -- one operation with the operands of all clauses, and then the clause that the answer names
  abbrev pub chooses : ℕ → List ClauseStep → List Value → Deed
  chooses l cs vs a s n env w =
      guarded (length vs == cases_taken (cases_from 0 (clause_parts cs))) w
      (after (gets taking.gives (Instr.Select (cases_from 0 (clause_parts cs)) (default_from 0 (clause_parts cs))) vs w)
      (λ x u. out_of_select (chosen l x.clause x.values cs a s n env u)))

  abbrev pub select_deed : ℕ → List ClauseStep → Deed
  select_deed l cs a s n env w = guarded (one_default (clause_parts cs)) w
      (after (O.in_order (map (λ (c : ClauseStep). c.operands l s env) cs) w) (λ vs u. chooses l cs vs a s n env u))
