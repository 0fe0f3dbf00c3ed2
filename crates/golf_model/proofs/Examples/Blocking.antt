-- How a goroutine is blocked: as what, at which line, on what, and with which ticket.
use Rattle.std.specs.Prelude.{◌≡◌, ℕ, List, [], ◌∷◌, ◌++◌, Option, Some, None, refl, true, false}
use Rattle.golf_data.specs.declared.code.CaseKind.{CaseKind}
use Rattle.golf_data.specs.declared.code.Instr.{Instr}
use Rattle.golf_data.specs.declared.goroutine.Mode.{Mode}
use Rattle.golf_data.specs.declared.goroutine.Side.{Side}
use Rattle.golf_data.specs.declared.goroutine.WaitKind.{WaitKind}
use Rattle.golf_model.specs.Waiters.{bare_wait, send_wait, receive_wait}
use Rattle.golf_model.proofs.Examples.Writing.{number, push, new_channel, straight, case, lowest, after, mode_of}

-- goroutine 1 after so many turns
abbrev blocked : List Instr → ℕ → Option Mode
blocked body n = mode_of 1 (after (straight body) (lowest n))

pub receiving : blocked (new_channel 0 ++ (Instr.Receive ∷ [])) 3 ≡ Some
    (Mode.Blocked WaitKind.Receive 3 (receive_wait 1 None false ∷ []) 0)
receiving = refl

pub receiving_with_ok : blocked (new_channel 0 ++ (Instr.ReceiveOk ∷ [])) 3 ≡ Some
    (Mode.Blocked WaitKind.Receive 3 (receive_wait 1 None true ∷ []) 0)
receiving_with_ok = refl

pub sending : blocked (new_channel 0 ++ (push 7 ∷ Instr.Send ∷ [])) 4 ≡ Some
    (Mode.Blocked WaitKind.Send 4 (send_wait 1 (number 7) None ∷ []) 0)
sending = refl

-- a full buffer blocks its sender
pub sending_past_the_buffer : blocked (new_channel 1 ++ (Instr.Dup ∷ push 7 ∷ Instr.Send ∷ push 8 ∷ Instr.Send ∷ [])) 7
    ≡ Some (Mode.Blocked WaitKind.Send 7 (send_wait 1 (number 8) None ∷ []) 0)
sending_past_the_buffer = refl

-- on nil it waits for nothing, for ever
pub receiving_from_nil : blocked (Instr.Nil ∷ Instr.Receive ∷ []) 2 ≡ Some (Mode.Blocked WaitKind.ReceiveNil 2 [] 0)
receiving_from_nil = refl

pub sending_to_nil : blocked (Instr.Nil ∷ push 7 ∷ Instr.Send ∷ []) 3 ≡ Some (Mode.Blocked WaitKind.SendNil 3 [] 0)
sending_to_nil = refl

-- a `select` waits with each case, in source order, and with none on nil
pub selecting : blocked (new_channel 0 ++
    (Instr.Store 0 ∷ Instr.Load 0 ∷ Instr.Nil ∷ Instr.Load 0 ∷ push 7
    ∷ Instr.Select (case CaseKind.TakeOk 9 ∷ case CaseKind.Take 9 ∷ case CaseKind.Send 9 ∷ []) None ∷ [])) 8
    ≡ Some (Mode.Blocked WaitKind.Select 8 (receive_wait 1 (Some 9) true ∷ send_wait 1 (number 7) (Some 9) ∷ []) 0)
selecting = refl

pub selecting_on_nil : blocked (Instr.Nil ∷ Instr.Select (case CaseKind.Take 2 ∷ []) None ∷ []) 2 ≡ Some
    (Mode.Blocked WaitKind.Select 2 [] 0)
selecting_on_nil = refl

pub selecting_nothing : blocked (Instr.Select [] None ∷ []) 1 ≡ Some (Mode.Blocked WaitKind.SelectNone 1 [] 0)
selecting_nothing = refl

pub locking : blocked (Instr.NewMutex ∷ Instr.Dup ∷ Instr.Lock ∷ Instr.Lock ∷ []) 4 ≡ Some
    (Mode.Blocked WaitKind.Lock 4 (bare_wait 1 Side.Lock ∷ []) 0)
locking = refl

pub waiting_for_group : blocked (Instr.NewGroup ∷ Instr.Dup ∷ push 1 ∷ Instr.GroupAdd ∷ Instr.GroupWait ∷ []) 5 ≡ Some
    (Mode.Blocked WaitKind.Group 5 (bare_wait 1 Side.Group ∷ []) 0)
waiting_for_group = refl

pub reading : blocked (Instr.NewRw ∷ Instr.Dup ∷ Instr.RwLock ∷ Instr.ReadLock ∷ []) 4 ≡ Some
    (Mode.Blocked WaitKind.ReadLock 4 (bare_wait 1 Side.Read ∷ []) 0)
reading = refl

pub writing : blocked (Instr.NewRw ∷ Instr.Dup ∷ Instr.ReadLock ∷ Instr.RwLock ∷ []) 4 ≡ Some
    (Mode.Blocked WaitKind.WriteLock 4 (bare_wait 1 Side.Write ∷ []) 0)
writing = refl

pub waiting_on_condition : blocked (Instr.NewMutex ∷ Instr.Dup ∷ Instr.Lock ∷ Instr.NewCond ∷ Instr.CondWait ∷ []) 5
    ≡ Some (Mode.Blocked WaitKind.Condition 5 (bare_wait 2 Side.Cond ∷ []) 0)
waiting_on_condition = refl

-- who blocks later has a later ticket
pub later_ticket : (after (straight (Instr.Nil ∷ Instr.Receive ∷ [])) (lowest 2)).next_ticket ≡ 1
later_ticket = refl
