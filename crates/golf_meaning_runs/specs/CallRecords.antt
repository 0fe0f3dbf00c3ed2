-- The record of a call: what it has shown and got, who began it, and the calls that it began.
use Rattle.std.specs.Prelude.{ℕ, Bool, true, false, List, [], ◌∷◌, ◌++◌}
use Rattle.golf_data.specs.declared.value.Value.{Value}
use Rattle.golf_data.specs.declared.code.Instr.{Instr}
use Rattle.golf_data.specs.declared.goroutine.Deferred.{Deferred}
use Rattle.golf_data.specs.declared.goroutine.Leaving.{Leaving}
use Rattle.golf_meaning_flat.specs.Worlds.{Operation, Answer, Halt}
use Rattle.golf_meaning_runs.specs.TurnsInLives.{Asked}

-- a call goes on, or its last operation waits for its answer, or it has returned or divided by zero
pub data Standing : Type 0 where
  Goes : Standing
  Asks : (q : Asked) → Standing
  Ended : (h : Halt) → Standing

-- a call as it stood once: its function, its arguments, the shown operations, the answers, and how it stood
pub record CallSnapshot : Type 0 where
  pub function : ℕ
  pub arguments : List Value
  pub shown : List Operation
  pub got : List Answer
  pub standing : Standing

-- Who began a call, as it stood then: a call by its call instruction; a call by its `go`; a call that had ended and had
-- deferred it. Or no call did: it is the call of function 0, or of a finaliser.
pub data Origin : Type 0 where
  Opening : Origin
  Finalising : Origin
  Calling : (by : CallSnapshot) → Origin
  Starting : (by : CallSnapshot) → Origin
  Deferring : (by : CallSnapshot) → Origin

-- a call that has left, whether it panicked, and the call that began it as it stood then
pub record Child : Type 0 where
  pub one : CallSnapshot
  pub panicked : Bool
  pub after : CallSnapshot

-- a goroutine that a call started: its number, and the function and the arguments of its first call
pub record StartedCall : Type 0 where
  pub number : ℕ
  pub function : ℕ
  pub arguments : List Value

-- The function, the arguments, the shown operations, the answers, the present standing, and who began it. Of the calls
-- that it has made, those that have left, in order; its deferred calls that have left, in order; the goroutines that it
-- has started; and whether it has left by a panic.
pub record Call : Type 0 where
  pub function : ℕ
  pub arguments : List Value
  pub shown : List Operation
  pub got : List Answer
  pub standing : Standing
  pub origin : Origin
  pub made : List Child
  pub late : List Child
  pub spawned : List StartedCall
  pub panicked : Bool

-- how a call was begun
pub record Beginning : Type 0 where
  pub function : ℕ
  pub arguments : List Value
  pub origin : Origin

abbrev pub fresh : Origin → ℕ → List Value → Call
fresh o f vs = record {
  function = f;
  arguments = vs;
  shown = [];
  got = [];
  standing = Standing.Goes;
  origin = o;
  made = [];
  late = [];
  spawned = [];
  panicked = false;
}

abbrev pub as_seen : Call → CallSnapshot
as_seen k = record {
  function = k.function;
  arguments = k.arguments;
  shown = k.shown;
  got = k.got;
  standing = k.standing;
}

abbrev pub call_of : CallSnapshot → Call
call_of x = record {
  function = x.function;
  arguments = x.arguments;
  shown = x.shown;
  got = x.got;
  standing = x.standing;
  origin = Origin.Opening;
  made = [];
  late = [];
  spawned = [];
  panicked = false;
}

abbrev pub beginning : Call → Beginning
beginning k = record { function = k.function; arguments = k.arguments; origin = k.origin }

-- the call that began one
abbrev pub beginners : Origin → List CallSnapshot
beginners Origin.Opening = []
beginners Origin.Finalising = []
beginners (Origin.Calling by) = by ∷ []
beginners (Origin.Starting by) = by ∷ []
beginners (Origin.Deferring by) = by ∷ []

-- who begins the call that is entered: its caller, or a call that is being left
abbrev pub origin_by : Leaving → Call → Origin
origin_by Leaving.No k = Origin.Calling (as_seen k)
origin_by (Leaving.Returning v) k = Origin.Deferring (as_seen k)
origin_by (Leaving.Unwinding x) k = Origin.Deferring (as_seen k)

-- whether a panic has reached the call
abbrev pub is_unwinding : Leaving → Bool
is_unwinding Leaving.No = false
is_unwinding (Leaving.Returning v) = false
is_unwinding (Leaving.Unwinding x) = true

-- a call that leaves
abbrev pub leaving_so : Leaving → Call → Call
leaving_so l k = record k { panicked = is_unwinding l }

abbrev pub child : Call → CallSnapshot → Child
child x by = record { one = as_seen x; panicked = x.panicked; after = by }

-- it is noted by the one that began it
abbrev pub noted : Origin → Call → Call → Call
noted Origin.Opening x k = k
noted Origin.Finalising x k = k
noted (Origin.Calling by) x k = record k { made = k.made ++ child x by ∷ [] }
noted (Origin.Starting by) x k = k
noted (Origin.Deferring by) x k = record k { late = k.late ++ child x by ∷ [] }

abbrev pub noted_below : Origin → Call → List Call → List Call
noted_below o x [] = []
noted_below o x (k ∷ ks) = noted o x k ∷ ks

-- a goroutine that starts is noted by the call that started it
abbrev pub with_start : ℕ → ℕ → List Value → Call → Call
with_start h f vs k = record k { spawned = k.spawned ++ record { number = h; function = f; arguments = vs } ∷ [] }

abbrev pub noting_start : ℕ → List Call → List Call → List Call
noting_start h [] ks = ks
noting_start h (n ∷ ns) [] = []
noting_start h (n ∷ ns) (k ∷ ks) = with_start h n.function n.arguments k ∷ ks

-- ---- the goroutines that operations start

abbrev pub starting : Instr → List Value → List (ℕ × List Value)
starting (Instr.Go f n) vs = (f, vs) ∷ []
starting _ vs = []

-- the function and the arguments of each `go` among these operations, in order
abbrev pub starts : List Operation → List (ℕ × List Value)
starts [] = []
starts (o ∷ os) = starting o.instr o.operands ++ starts os

abbrev pub started_as : StartedCall → ℕ × List Value
started_as x = (x.function, x.arguments)

-- ---- the deferred calls that operations ask for

abbrev pub deferral : Instr → List Value → List Deferred → List Deferred
deferral (Instr.Defer f n) vs ds = record { function = f; arguments = vs } ∷ ds
deferral _ vs ds = ds

abbrev pub deferrals_from : List Operation → List Deferred → List Deferred
deferrals_from [] ds = ds
deferrals_from (o ∷ os) ds = deferrals_from os (deferral o.instr o.operands ds)

-- the function and the arguments of each `defer` among these operations, the latest first
abbrev pub deferrals : List Operation → List Deferred
deferrals os = deferrals_from os []
