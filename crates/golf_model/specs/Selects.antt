-- `select` (Go specification, "Select statements").
use Rattle.std.specs.Prelude.{ℕ, ◌%◌, Bool, true, false, ◌&&◌, ◌||◌, List, [], ◌∷◌, ◌++◌, length, Option, Some, None}
use Rattle.std.specs.Prelude.{is_some, slice_get, nat_lt}
use Rattle.golf_theory.specs.Maps.{find}
use Rattle.golf_data.specs.declared.value.Value.{Value}
use Rattle.golf_data.specs.declared.value.Object.{Object}
use Rattle.golf_data.specs.declared.value.Channel.{Channel}
use Rattle.golf_data.specs.declared.code.SelectCase.{SelectCase}
use Rattle.golf_data.specs.declared.code.CaseKind.{CaseKind}
use Rattle.golf_data.specs.declared.goroutine.Side.{Side}
use Rattle.golf_data.specs.declared.goroutine.Wait.{Wait}
use Rattle.golf_data.specs.declared.goroutine.WaitKind.{WaitKind}
use Rattle.golf_model.specs.Views.{FrameView, GoroutineView}
use Rattle.golf_model.specs.State.{State, not_empty}
use Rattle.golf_model.specs.Waiters.{first, send_wait, receive_wait}
use Rattle.golf_model.specs.Changes.{Change}
use Rattle.golf_model.specs.Actors.{Actor, next, jumps, blocks, choose, at_reference_or}
use Rattle.golf_model.specs.Channels.{sends_on, receives_on}

-- a case with its operands
pub record Offer : Type 0 where
  pub kind : CaseKind
  pub channel : Value
  pub value : Value
  pub target : ℕ

-- the cases taken so far with their operands, and the operands below them
abbrev pub Taken : Type 0
Taken = List Offer × List Value

-- one more case is taken; its operands lie below those of the later cases
abbrev pub take_receive : SelectCase → Taken → Option Taken
take_receive k (os, []) = None
take_receive k (os, c ∷ rest) = Some (
  record { kind = k.kind; channel = c; value = Value.Nil; target = k.target } ∷ os,
  rest,
)

abbrev pub take_send : SelectCase → Taken → Option Taken
take_send k (os, []) = None
take_send k (os, v ∷ []) = None
take_send k (os, v ∷ c ∷ rest) = Some (record { kind = k.kind; channel = c; value = v; target = k.target } ∷ os, rest)

abbrev pub take_case : SelectCase → CaseKind → Taken → Option Taken
take_case k CaseKind.Send t = take_send k t
take_case k CaseKind.Take t = take_receive k t
take_case k CaseKind.TakeOk t = take_receive k t

abbrev pub and_case : SelectCase → Option Taken → Option Taken
and_case k None = None
and_case k (Some t) = take_case k k.kind t

-- the cases with their operands, which were pushed in source order
abbrev pub offers_of : List SelectCase → List Value → Option Taken
offers_of [] operands = Some ([], operands)
offers_of (k ∷ ks) operands = and_case k (offers_of ks operands)

-- whether an object is a channel
abbrev pub is_channel : Option Object → Bool
is_channel None = false
is_channel (Some (Object.Struct fields)) = false
is_channel (Some (Object.Slice elements)) = false
is_channel (Some (Object.Chan c)) = true
is_channel (Some (Object.Mutex locked)) = false
is_channel (Some (Object.Group n)) = false
is_channel (Some (Object.Rw n)) = false
is_channel (Some (Object.Cond v)) = false

-- whether a value is nil or a channel
abbrev pub is_nil_or_channel : State → Value → Bool
is_nil_or_channel s (Value.Int n) = false
is_nil_or_channel s (Value.Bool b) = false
is_nil_or_channel s (Value.Text k) = false
is_nil_or_channel s Value.Unit = false
is_nil_or_channel s Value.Nil = true
is_nil_or_channel s (Value.Ref o) = is_channel (find o.0 s.objects)

-- whether each case is on nil or on a channel
abbrev pub all_on_channels : State → List Offer → Bool
all_on_channels s [] = true
all_on_channels s (x ∷ xs) = is_nil_or_channel s x.channel && all_on_channels s xs

-- whether a send, or a receive, on this channel can proceed at once
abbrev pub can_send : ℕ → List (ℕ × GoroutineView) → Channel → Bool
can_send o gs c = c.closed || (is_some (first o Side.Receive gs) || nat_lt (length c.buffer) c.capacity)

abbrev pub can_receive : ℕ → List (ℕ × GoroutineView) → Channel → Bool
can_receive o gs c = not_empty c.buffer || (is_some (first o Side.Send gs) || c.closed)

abbrev pub can_proceed : CaseKind → ℕ → List (ℕ × GoroutineView) → Channel → Bool
can_proceed CaseKind.Send o gs c = can_send o gs c
can_proceed CaseKind.Take o gs c = can_receive o gs c
can_proceed CaseKind.TakeOk o gs c = can_receive o gs c

-- the same test for an object; only a channel passes it
abbrev pub is_ready_at : CaseKind → ℕ → List (ℕ × GoroutineView) → Option Object → Bool
is_ready_at kind o gs None = false
is_ready_at kind o gs (Some (Object.Struct fields)) = false
is_ready_at kind o gs (Some (Object.Slice elements)) = false
is_ready_at kind o gs (Some (Object.Chan c)) = can_proceed kind o gs c
is_ready_at kind o gs (Some (Object.Mutex locked)) = false
is_ready_at kind o gs (Some (Object.Group n)) = false
is_ready_at kind o gs (Some (Object.Rw n)) = false
is_ready_at kind o gs (Some (Object.Cond v)) = false

-- a case on nil is never ready
abbrev pub is_ready_on : CaseKind → State → Value → Bool
is_ready_on kind s (Value.Int n) = false
is_ready_on kind s (Value.Bool b) = false
is_ready_on kind s (Value.Text k) = false
is_ready_on kind s Value.Unit = false
is_ready_on kind s Value.Nil = false
is_ready_on kind s (Value.Ref o) = is_ready_at kind o.0 s.goroutines (find o.0 s.objects)

abbrev pub is_ready : State → Offer → Bool
is_ready s x = is_ready_on x.kind s x.channel

abbrev pub kept_if : {X : Type 0} → Bool → X → List X → List X
kept_if true x xs = x ∷ xs
kept_if false x xs = xs

-- the ready cases, in source order
abbrev pub ready : State → List Offer → List Offer
ready s [] = []
ready s (x ∷ xs) = kept_if (is_ready s x) x (ready s xs)

-- the goroutine does the operation of the case, and goes on at the case's target
abbrev pub proceeds_by : Actor → FrameView → CaseKind → Value → State → ℕ → List Change
proceeds_by a after CaseKind.Send v s o = sends_on a after v s o
proceeds_by a after CaseKind.Take v s o = receives_on a after false s o
proceeds_by a after CaseKind.TakeOk v s o = receives_on a after true s o

abbrev pub proceeds : Actor → List Value → State → Offer → List Change
proceeds a rest s x = at_reference_or []
    (proceeds_by a (record a.frame { at = x.target; operands = rest }) x.kind x.value s) x.channel

-- the wait of a goroutine for a case; a case on nil has none
abbrev pub wait_of : Offer → CaseKind → ℕ → Wait
wait_of x CaseKind.Send o = send_wait o x.value (Some x.target)
wait_of x CaseKind.Take o = receive_wait o (Some x.target) false
wait_of x CaseKind.TakeOk o = receive_wait o (Some x.target) true

abbrev pub case_waits : Offer → Value → List Wait
case_waits x (Value.Int n) = []
case_waits x (Value.Bool b) = []
case_waits x (Value.Text k) = []
case_waits x Value.Unit = []
case_waits x Value.Nil = []
case_waits x (Value.Ref o) = wait_of x x.kind o.0 ∷ []

abbrev pub offered_waits : List Offer → List Wait
offered_waits [] = []
offered_waits (x ∷ xs) = case_waits x x.channel ++ offered_waits xs

abbrev pub select_kind : List Offer → WaitKind
select_kind [] = WaitKind.SelectNone
select_kind (x ∷ xs) = WaitKind.Select

-- no case is ready: the goroutine goes on at `default`, or blocks if there is none
abbrev pub selects_none : Actor → List Value → List Offer → Option ℕ → List Change
selects_none a rest xs None = blocks a (next a.frame rest) (select_kind xs) (offered_waits xs)
selects_none a rest xs (Some target) = jumps a target rest

abbrev pub selects_one : Actor → List Value → State → List Offer → Option ℕ → Option Offer → List Change
selects_one a rest s xs otherwise None = selects_none a rest xs otherwise
selects_one a rest s xs otherwise (Some x) = proceeds a rest s x

-- the ready case at the chosen place, counted modulo their number (Go specification: "a single one that can proceed is
-- chosen via a uniform pseudo-random selection"; here the schedule chooses, which is this runtime's rule)
abbrev pub chosen : ℕ → List Offer → Option Offer
chosen choice xs = slice_get xs (choice % length xs)

-- if the channel of a case is neither nil nor a channel, no rule fits
abbrev pub selects_from : Actor → State → ℕ → Option ℕ → Option Taken → List Change
selects_from a s choice otherwise None = []
selects_from a s choice otherwise (Some t) =
    choose (all_on_channels s t.0) (selects_one a t.1 s t.0 otherwise (chosen choice (ready s t.0))) []

-- `select`: takes the operands of all cases, and does a ready case, `default`, or blocks
abbrev pub selects : Actor → State → ℕ → List SelectCase → Option ℕ → List Change
selects a s choice cases otherwise = selects_from a s choice otherwise (offers_of cases a.frame.operands)
