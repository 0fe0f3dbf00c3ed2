-- Channels: send, receive, close (Go specification, "Channel types", "Send statements", "Receive operator", "Close").
use Rattle.std.specs.Prelude.{ℕ, Bool, true, false, List, [], ◌∷◌, ◌++◌, length, Option, Some, None, nat_lt}
use Rattle.golf_theory.specs.Maps.{find}
use Rattle.golf_data.specs.declared.value.Value.{Value}
use Rattle.golf_data.specs.declared.value.Object.{Object}
use Rattle.golf_data.specs.declared.value.Channel.{Channel}
use Rattle.golf_data.specs.declared.goroutine.PanicKind.{PanicKind}
use Rattle.golf_data.specs.declared.goroutine.Side.{Side}
use Rattle.golf_data.specs.declared.goroutine.WaitKind.{WaitKind}
use Rattle.golf_model.specs.Views.{FrameView}
use Rattle.golf_model.specs.State.{State}
use Rattle.golf_model.specs.Waiters.{Waiter, first, send_wait, receive_wait}
use Rattle.golf_model.specs.Wakes.{Waking, received, resumed}
use Rattle.golf_model.specs.Changes.{Change}
use Rattle.golf_model.specs.Actors.{Actor, next, stands, goes, panics, blocks, taking_one, taking_two, choose}
use Rattle.golf_model.specs.Actors.{at_reference_or, at_channel}

-- the waiter goes on with these values
abbrev pub served : Waiter → List Value → Change
served w vs = Change.Become w.number (resumed w.wait vs w.goroutine)

-- the value is appended if the buffer has room; else the sender blocks
abbrev pub buffers : Actor → FrameView → ℕ → Value → Channel → List Change
buffers a after o v c =
    choose (nat_lt (length c.buffer) c.capacity)
    (Change.Replace o (Object.Chan (record c { buffer = c.buffer ++ v ∷ [] })) ∷ stands a after)
    (blocks a after WaitKind.Send (send_wait o v None ∷ []))

-- the first receiver gets the value
abbrev pub sends_to : Actor → FrameView → ℕ → Value → Channel → Option Waiter → List Change
sends_to a after o v c None = buffers a after o v c
sends_to a after o v c (Some w) = stands a after ++ (served w (received w.wait.with_ok v true) ∷ [])

-- a send of v on channel o, after which the sender has this frame
abbrev pub sends_on : Actor → FrameView → Value → State → ℕ → List Change
sends_on a after v s o =
    at_channel (λ c. choose c.closed (panics a PanicKind.SendClosed)
    (sends_to a after o v c (first o Side.Receive s.goroutines))) (find o s.objects)

-- `c, v ->`; on nil it blocks for ever
abbrev pub sends : Actor → State → List Change
sends a s =
    taking_two (λ c v rest. at_reference_or (blocks a (next a.frame rest) WaitKind.SendNil [])
    (sends_on a (next a.frame rest) v s) c) a.frame.operands

-- the receiver's frame with the received values on top
abbrev pub given : FrameView → List Value → FrameView
given after vs = record after { operands = vs ++ after.operands }

-- the value that a waiting sender has to send, and the change by which the sender goes on
abbrev pub sent_by : Option Waiter → List Value
sent_by None = []
sent_by (Some w) = w.wait.value ∷ []

abbrev pub sender_served : Option Waiter → List Change
sender_served None = []
sender_served (Some w) = served w [] ∷ []

-- the buffer is empty: the receiver gets the first sender's value; else the zero value of a closed channel; else it
-- blocks
abbrev pub receives_unbuffered : Actor → FrameView → Bool → ℕ → Channel → Option Waiter → List Change
receives_unbuffered a after with_ok o c None =
    choose c.closed (stands a (given after (received with_ok c.zero false)))
    (blocks a after WaitKind.Receive (receive_wait o None with_ok ∷ []))
receives_unbuffered a after with_ok o c (Some w) = stands a (given after (received with_ok w.wait.value true))
    ++ (served w [] ∷ [])

-- the receiver gets the first buffered value, and the first sender's value takes the free place
abbrev pub receives_from : Actor → FrameView → Bool → ℕ → Channel → List Value → Option Waiter → List Change
receives_from a after with_ok o c [] w = receives_unbuffered a after with_ok o c w
receives_from a after with_ok o c (v ∷ vs) w =
    Change.Replace o (Object.Chan (record c { buffer = vs ++ sent_by w }))
    ∷ (stands a (given after (received with_ok v true)) ++ sender_served w)

-- a receive from channel o, after which the receiver has this frame with the received values
abbrev pub receives_on : Actor → FrameView → Bool → State → ℕ → List Change
receives_on a after with_ok s o =
    at_channel (λ c. receives_from a after with_ok o c c.buffer (first o Side.Send s.goroutines)) (find o s.objects)

-- `c -> v` and `c -> v, ok`; on nil it blocks for ever
abbrev pub receives : Bool → Actor → State → List Change
receives with_ok a s =
    taking_one (λ c rest. at_reference_or (blocks a (next a.frame rest) WaitKind.ReceiveNil [])
    (receives_on a (next a.frame rest) with_ok s) c) a.frame.operands

-- a closed channel panics; an open one becomes closed and wakes all its waiters
abbrev pub closes_open : Actor → List Value → ℕ → Channel → List Change
closes_open a rest o c =
    choose c.closed (panics a PanicKind.CloseClosed)
    (Change.Replace o (Object.Chan (record c { closed = true }))
    ∷ (goes a rest ++ (Change.WakeAll o (Waking.Closing c.zero) ∷ [])))

-- `c ->`; a nil channel panics
abbrev pub closes : Actor → State → List Change
closes a s =
    taking_one (λ c rest. at_reference_or (panics a PanicKind.CloseNil)
    (λ o. at_channel (closes_open a rest o) (find o s.objects)) c) a.frame.operands
