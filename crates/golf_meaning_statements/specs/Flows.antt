-- How statements leave, and how they are put together.
use Rattle.std.specs.Prelude.{ℕ, zero, suc, Bool, true, false, List, [], ◌∷◌, take, Option, Some, None}
use Rattle.golf_data.specs.declared.value.Value.{Value}
use Rattle.golf_model.specs.Values.{bool_of}
use Rattle.golf_meaning_flat.specs.Worlds.{Misfit, Halt, Told, World, Part, halted, cut_short}
use Rattle.golf_meaning_source.specs.Names.{Env}

-- the course of a statement: on to what follows, out of the loop or `select`, to the next round, or past the guarded
-- statements
pub data Course : Type 0 where
  On : Course
  Breaks : Course
  Continues : Course
  Skips : Course

pub data Flow : Type 0 where
  Goes : (way : Course) (env : Env) (w : World) → Flow
  Ends : (t : Told) → Flow

abbrev pub unfit_flow : World → Flow
unfit_flow w = Flow.Ends (halted (Halt.Unfit Misfit.OfRule) w.operations)

abbrev pub misfit_flow : World → Flow
misfit_flow w = Flow.Ends (halted (Halt.Unfit Misfit.OfAnswer) w.operations)

abbrev pub wrong_kind_flow : World → Flow
wrong_kind_flow w = Flow.Ends (halted (Halt.Unfit Misfit.OfKind) w.operations)

abbrev pub on : Part Env → Flow
on (Part.Gives env w) = Flow.Goes Course.On env w
on (Part.Stops h os) = Flow.Ends (halted h os)

-- goes on after a part
abbrev pub after : {A : Type 0} → Part A → (A → World → Flow) → Flow
after (Part.Gives a w) f = f a w
after (Part.Stops h os) f = Flow.Ends (halted h os)

abbrev pub then_flow : Flow → (Env → World → Flow) → Flow
then_flow (Flow.Goes Course.On env w) f = f env w
then_flow (Flow.Goes Course.Breaks env w) f = Flow.Goes Course.Breaks env w
then_flow (Flow.Goes Course.Continues env w) f = Flow.Goes Course.Continues env w
then_flow (Flow.Goes Course.Skips env w) f = unfit_flow w
then_flow (Flow.Ends t) f = Flow.Ends t

-- forgets the names that were declared inside
abbrev pub cut : ℕ → Flow → Flow
cut k (Flow.Goes Course.On env w) = Flow.Goes Course.On (take k env) w
cut k (Flow.Goes Course.Breaks env w) = Flow.Goes Course.Breaks (take k env) w
cut k (Flow.Goes Course.Continues env w) = Flow.Goes Course.Continues (take k env) w
cut k (Flow.Goes Course.Skips env w) = unfit_flow w
cut k (Flow.Ends t) = Flow.Ends t

-- a false condition without an `else` has no further effect
abbrev pub ends_here : Flow → Flow
ends_here (Flow.Goes Course.On env w) = Flow.Goes Course.On env w
ends_here (Flow.Goes Course.Breaks env w) = Flow.Goes Course.Breaks env w
ends_here (Flow.Goes Course.Continues env w) = Flow.Goes Course.Continues env w
ends_here (Flow.Goes Course.Skips env w) = Flow.Goes Course.On env w
ends_here (Flow.Ends t) = Flow.Ends t

-- goes on with f if the condition is false
abbrev pub or_else : Flow → (Env → World → Flow) → Flow
or_else (Flow.Goes Course.On env w) f = Flow.Goes Course.On env w
or_else (Flow.Goes Course.Breaks env w) f = Flow.Goes Course.Breaks env w
or_else (Flow.Goes Course.Continues env w) f = Flow.Goes Course.Continues env w
or_else (Flow.Goes Course.Skips env w) f = f env w
or_else (Flow.Ends t) f = Flow.Ends t

-- the flow, or unfit if the test fails
abbrev pub guarded : Bool → World → Flow → Flow
guarded true w f = f
guarded false w f = unfit_flow w

-- the flow, or a misfit if the answer does not fit
abbrev pub if_fits : Bool → World → Flow → Flow
if_fits true w f = f
if_fits false w f = misfit_flow w

abbrev pub by_test : Option Bool → World → Flow → Flow → Flow
by_test None w f g = wrong_kind_flow w
by_test (Some true) w f g = f
by_test (Some false) w f g = g

abbrev pub tested : List Value → World → Flow → Flow → Flow
tested (x ∷ []) w f g = by_test (bool_of x) w f g
tested _ w f g = unfit_flow w

-- a round of a loop: at its end and at `continue` the next round begins; at `break`, and if the condition is false, the
-- loop is left
abbrev pub turned : Flow → (Env → World → Flow) → Flow
turned (Flow.Goes Course.On env w) next = next env w
turned (Flow.Goes Course.Continues env w) next = next env w
turned (Flow.Goes Course.Breaks env w) next = Flow.Goes Course.On env w
turned (Flow.Goes Course.Skips env w) next = Flow.Goes Course.On env w
turned (Flow.Ends t) next = Flow.Ends t

-- at most m rounds begin
abbrev pub turns : ℕ → (Env → World → Flow) → Env → World → Flow
turns zero step env w = Flow.Ends (cut_short w)
turns (suc m) step env w = turned (step env w) (turns m step)

-- `continue` goes on at the post statement
abbrev pub then_post : Flow → (Env → World → Flow) → Flow
then_post (Flow.Goes Course.On env w) f = f env w
then_post (Flow.Goes Course.Continues env w) f = f env w
then_post (Flow.Goes Course.Breaks env w) f = Flow.Goes Course.Breaks env w
then_post (Flow.Goes Course.Skips env w) f = unfit_flow w
then_post (Flow.Ends t) f = Flow.Ends t
