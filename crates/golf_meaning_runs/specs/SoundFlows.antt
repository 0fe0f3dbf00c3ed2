-- Statements that lack no rule: after them the names have values of their types.
use Rattle.std.specs.Prelude.{◌≡◌, ℕ, Bool, true, List, [], ◌++◌}
use Rattle.golf_check_types.specs.declared.locals.Local.{Local}
use Rattle.golf_check_types.specs.declared.scopes.Scope.{Scope}
use Rattle.golf_check_types.specs.Statements.{Walk, behind}
use Rattle.golf_model_typing.specs.Types.{Types}
use Rattle.golf_code_of.specs.declared.tables.Tables.{Tables}
use Rattle.golf_code_of.specs.declared.surroundings.Around.{Around}
use Rattle.golf_meaning_flat.specs.Worlds.{End, World}
use Rattle.golf_meaning_source.specs.Names.{Env}
use Rattle.golf_meaning_source.specs.Operations.{Taking}
use Rattle.golf_meaning_statements.specs.Flows.{Course, Flow}
use Rattle.golf_meaning_statements.specs.Steps.{Deed}
use Rattle.golf_meaning_runs.specs.Sound.{HaltSound, NamesHaveValues, FileTaken}

-- no rule is lacking
abbrev pub EndSound : Bool → End → Type 0
EndSound strict (End.Halts h) = HaltSound strict h
EndSound strict End.Short = Unit {0}

abbrev pub Never : Env → Type 0
Never env = ⊥

module _ (taking : Taking) where
  -- no rule is lacking; and if the flow goes on, its environment has the property for its course: on, `break`,
  -- `continue`, or past the guarded statements
  abbrev pub Fitting : (Env → Type 0) → (Env → Type 0) → (Env → Type 0) → (Env → Type 0) → Flow → Type 0
  Fitting K B C S (Flow.Goes Course.On env w) = K env
  Fitting K B C S (Flow.Goes Course.Breaks env w) = B env
  Fitting K B C S (Flow.Goes Course.Continues env w) = C env
  Fitting K B C S (Flow.Goes Course.Skips env w) = S env
  Fitting K B C S (Flow.Ends t) = EndSound taking.strict t.end

  -- the environment begins with these locals, with values of their types
  abbrev pub BeginsWithLocals : List Local → Env → Type 0
  BeginsWithLocals ds env = (more : List Local) × NamesHaveValues taking (ds ++ more) env

  -- the course is allowed, and the environment begins with these locals
  abbrev pub Out : Bool → List Local → Env → Type 0
  Out b ds env = (b ≡ true) × BeginsWithLocals ds env

  -- a flow from this scope goes on with these locals; `break` and `continue` come only if the scope allows them
  abbrev pub FlowFits : Scope → List Local → Flow → Type 0
  FlowFits s after = Fitting (NamesHaveValues taking after) (Out s.breaks s.locals) (Out s.loops s.locals) Never

  -- a statement that breaks no rule lacks no rule, if names have values of their types; after it they have them, too
  abbrev pub StatementIsSound : Types → Tables → Walk → Deed → Type 0
  StatementIsSound types t walk d =
      (a : Around) (s : Scope) (n : ℕ) (env : Env) (w : World) → FileTaken taking types t s.file
      → NamesHaveValues taking s.locals env → (walk s).faults ≡ []
      → FlowFits s (behind s (walk s)).locals (d a s n env w)
