-- The meaning of a function with its arguments, by its source and by its flat code.
use Rattle.std.specs.Prelude.{ℕ, ◌-◌, pos, Bool, List, [], ◌∷◌, ◌++◌, length, replicate, map, Option, Some, None}
use Rattle.golf_syntax_trees.specs.declared.declarations.Func.{Func}
use Rattle.golf_data.specs.declared.value.Value.{Value}
use Rattle.golf_data.specs.declared.code.Function.{Function}
use Rattle.golf_model.specs.Values.{zero_of}
use Rattle.golf_check_types.specs.declared.types.GoType.{GoType}
use Rattle.golf_check_types.specs.declared.locals.Local.{Local}
use Rattle.golf_check_types.specs.declared.scopes.Scope.{Scope}
use Rattle.golf_check_types.specs.Files.{result_type, body_scope}
use Rattle.golf_code_of.specs.declared.tables.Tables.{Tables}
use Rattle.golf_code_of.specs.Values.{zero_value}
use Rattle.golf_meaning_flat.specs.Worlds.{Answer, Misfit, Halt, Told, World, halted}
use Rattle.golf_meaning_flat.specs.Flat.{exec}
use Rattle.golf_meaning_source.specs.Names.{Env}
use Rattle.golf_meaning_source.specs.Operations.{Taking}
use Rattle.golf_meaning_statements.specs.Flows.{Course, Flow}
use Rattle.golf_meaning_statements.specs.Steps.{in_order}
use Rattle.golf_meaning_statements.specs.Statements.{step}

-- the names of receiver and parameters, with the arguments as values
abbrev pub named : List Local → List Value → Env
named (d ∷ ds) (v ∷ vs) = record { name = d.name; value = v } ∷ named ds vs
named _ _ = []

abbrev pub begins : List Answer → World
begins answers = record { answers = answers; operations = [] }

-- the value that a body gives when it reaches its end
abbrev pub at_end : Option GoType → Option Value
at_end None = None
at_end (Some t) = Some (zero_of (zero_value (Some t)))

abbrev pub told_by : Option GoType → Flow → Told
told_by r (Flow.Goes Course.On env w) = halted (Halt.Returned (at_end r)) w.operations
told_by r (Flow.Goes Course.Breaks env w) = halted (Halt.Unfit Misfit.OfRule) w.operations
told_by r (Flow.Goes Course.Continues env w) = halted (Halt.Unfit Misfit.OfRule) w.operations
told_by r (Flow.Goes Course.Skips env w) = halted (Halt.Unfit Misfit.OfRule) w.operations
told_by r (Flow.Ends t) = t

-- The meaning of a function of a file; `functions` is the number of functions before the next one that is made. Each
-- loop begins at most n rounds. A test that ends the loop counts as a round.
abbrev pub Meaning : Taking → Tables → Scope → ℕ → Func → List Value → List Answer → ℕ → Told
Meaning taking t file functions f arguments answers n =
    told_by (result_type file f.result) (in_order (map (step taking t) f.body)
    (record { breaks = 0; continues = 0; functions = functions }) (body_scope file f) n
    (named (body_scope file f).locals arguments) (begins answers))

-- the arguments are in the first slots, and the others hold 0 (this runtime's rule); no slot is cleared
abbrev pub filled : Function → List Value → List Value
filled fn arguments = arguments ++ replicate (fn.slots - length arguments) (Value.Int (pos 0))

-- The meaning of flat code: at most n instructions of a function. `gives` says which functions give a value.
abbrev pub CodeMeaning : List Bool → Function → List Value → List Answer → ℕ → Told
CodeMeaning gives fn arguments answers n =
    exec gives fn.body n 0 (record { slots = filled fn arguments; operands = [] }) (begins answers)
