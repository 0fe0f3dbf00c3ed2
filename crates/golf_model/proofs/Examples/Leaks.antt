-- What is live, what is reported, and what a collection takes back.
use Rattle.golf_theory.specs.Maps.{keys}
use Rattle.golf_model.specs.LiveSet.{live_objects}
use Rattle.std.specs.Prelude.{◌≡◌, ℕ, true, false, List, [], ◌∷◌, ◌++◌, None, refl}
use Rattle.std.specs.Fmt.{digits}
use Rattle.golf_data.specs.declared.value.Value.{Value}
use Rattle.golf_data.specs.declared.value.Object.{Object}
use Rattle.golf_data.specs.declared.code.Code.{Code}
use Rattle.golf_data.specs.declared.code.Function.{Function}
use Rattle.golf_data.specs.declared.code.Instr.{Instr}
use Rattle.golf_data.specs.declared.code.CaseKind.{CaseKind}
use Rattle.golf_data.specs.declared.goroutine.WaitKind.{WaitKind}
use Rattle.golf_data.specs.declared.report.Entry.{Entry}
use Rattle.golf_model.specs.Reach.{reach}
use Rattle.golf_model.specs.LiveSet.{live_list}
use Rattle.golf_model.specs.Reports.{real_run, real_reports}
use Rattle.golf_model.proofs.Examples.Writing.{after, function, push, new_channel, code_with, turns, lowest, second}
use Rattle.golf_model.proofs.Examples.Writing.{third, reports, quiet, case}

-- the goroutine is blocked as this, at this line, and was started at that one
abbrev entry : ℕ → WaitKind → ℕ → ℕ → Entry
entry g kind line started = record { goroutine = record { 0 = g }; wait = kind; line = line; started = started }

-- function 1 receives from its channel
abbrev receiving : List Instr → Code
receiving main =
    code_with [] (function 0 0 1 main ∷ function 1 1 11 (Instr.Load 0 ∷ Instr.Receive ∷ Instr.Drop ∷ Instr.Return ∷ [])
    ∷ [])

-- the classic leak: nobody else has the channel
abbrev leak : Code
leak = receiving (new_channel 0 ++ (Instr.Go 1 1 ∷ Instr.Collect ∷ Instr.Return ∷ []))

abbrev leak_turns : List ℕ
leak_turns = lowest 3 ++ (second 2 ++ lowest 1)

pub leak_is_reported : reports leak leak_turns false
    ≡ record {
      number = 1;
      marked = 0;
      reported = entry 2 WaitKind.Receive 12 3 ∷ [];
      kept = 1;
      reclaimed = 0;
      objects = 1;
    } ∷ []
unfolding reach live_list
leak_is_reported = refl

pub leak_is_taken_back : reports leak leak_turns true
    ≡ record {
      number = 1;
      marked = 0;
      reported = entry 2 WaitKind.Receive 12 3 ∷ [];
      kept = 0;
      reclaimed = 1;
      objects = 0;
    } ∷ []
unfolding reach live_list
leak_is_taken_back = refl

pub leak_is_gone : (real_run leak (turns leak_turns) true).objects ≡ []
unfolding reach live_list
leak_is_gone = refl

pub leaker_is_gone : keys (real_run leak (turns leak_turns) true).goroutines ≡ 0 ∷ 1 ∷ []
unfolding reach live_list
leaker_is_gone = refl

pub leak_reports_agree : real_reports leak (turns leak_turns) true ≡ reports leak leak_turns true
unfolding reach live_list
leak_reports_agree = refl

-- `main` still has the channel
abbrev held : Code
held = receiving (new_channel 0 ++ (Instr.Dup ∷ Instr.Go 1 1 ∷ Instr.Collect ∷ Instr.Return ∷ []))

pub held_channel_is_live : reports held (lowest 4 ++ (second 2 ++ lowest 1)) true ≡ quiet 1 1 1 ∷ []
unfolding reach live_list
held_channel_is_live = refl

-- two rounds of root growth: the global channel awakens goroutine 2, whose other channel awakens goroutine 3
abbrev growing : Code
growing =
    code_with (Value.Nil ∷ [])
    (function 0 0 1 (new_channel 0 ++ (Instr.StoreGlobal 0
    ∷ (new_channel 0 ++ (Instr.Dup ∷ Instr.Go 1 1 ∷ Instr.Go 2 1 ∷ Instr.Collect ∷ Instr.Return ∷ []))))
    ∷ function 1 1 11 (Instr.LoadGlobal 0 ∷ Instr.Receive ∷ Instr.Drop ∷ Instr.Load 0 ∷ push 1 ∷ Instr.Send
    ∷ Instr.Return ∷ [])
    ∷ function 1 1 21 (Instr.Load 0 ∷ Instr.Receive ∷ Instr.Drop ∷ Instr.Return ∷ [])
    ∷ [])

abbrev growing_turns : List ℕ
growing_turns = lowest 8 ++ (second 2 ++ (second 2 ++ lowest 1))

pub two_rounds : reports growing growing_turns true ≡ quiet 1 2 2 ∷ []
unfolding reach live_list
two_rounds = refl

-- two goroutines wait for each other
abbrev cycle : Code
cycle =
    code_with []
    (function 0 0 1 (Instr.Call 1 0 ∷ Instr.Collect ∷ Instr.Collect ∷ Instr.Return ∷ [])
    ∷ function 0 2 11 (new_channel 0 ++ (Instr.Store 0
    ∷ (new_channel 0 ++ (Instr.Store 1 ∷ Instr.Load 0 ∷ Instr.Load 1 ∷ Instr.Go 2 2 ∷ Instr.Load 1 ∷ Instr.Load 0
    ∷ Instr.Go 2 2 ∷ Instr.Return ∷ []))))
    ∷ function 2 2 31 (Instr.Load 0 ∷ Instr.Receive ∷ Instr.Drop ∷ Instr.Load 1 ∷ push 1 ∷ Instr.Send ∷ Instr.Return
    ∷ [])
    ∷ [])

abbrev cycle_turns : List ℕ
cycle_turns = lowest 14 ++ (second 2 ++ (second 2 ++ lowest 2))

pub cycle_is_reported_once : reports cycle cycle_turns false ≡
    record {
      number = 1;
      marked = 0;
      reported = entry 2 WaitKind.Receive 32 19 ∷ entry 3 WaitKind.Receive 32 22 ∷ [];
      kept = 2;
      reclaimed = 0;
      objects = 2;
    }
    ∷ record { number = 2; marked = 0; reported = []; kept = 2; reclaimed = 0; objects = 2 } ∷ []
unfolding reach live_list
cycle_is_reported_once = refl

pub cycle_is_taken_back : reports cycle cycle_turns true ≡
    record {
      number = 1;
      marked = 0;
      reported = entry 2 WaitKind.Receive 32 19 ∷ entry 3 WaitKind.Receive 32 22 ∷ [];
      kept = 0;
      reclaimed = 2;
      objects = 0;
    }
    ∷ quiet 2 0 0 ∷ []
unfolding reach live_list
cycle_is_taken_back = refl

-- a `select` with one live channel
abbrev selecting : Code
selecting =
    code_with (Value.Nil ∷ [])
    (function 0 0 1 (new_channel 0 ++ (Instr.StoreGlobal 0
    ∷ (new_channel 0 ++ (Instr.Go 1 1 ∷ Instr.Collect ∷ Instr.Return ∷ []))))
    ∷ function 1 1 11 (Instr.LoadGlobal 0 ∷ Instr.Load 0
    ∷ Instr.Select (case CaseKind.Take 3 ∷ case CaseKind.Take 3 ∷ []) None ∷ Instr.Drop ∷ Instr.Return ∷ [])
    ∷ [])

pub one_live_channel_is_enough : reports selecting (lowest 6 ++ (second 3 ++ lowest 1)) true ≡ quiet 1 2 2 ∷ []
unfolding reach live_list
one_live_channel_is_enough = refl

-- nothing can wake these
abbrev never : Code
never =
    code_with []
    (function 0 0 1 (Instr.Go 1 0 ∷ Instr.Nil ∷ Instr.Go 2 1 ∷ Instr.Collect ∷ Instr.Return ∷ [])
    ∷ function 0 0 11 (Instr.Select [] None ∷ Instr.Return ∷ [])
    ∷ function 1 1 21 (Instr.Load 0 ∷ push 1 ∷ Instr.Send ∷ Instr.Return ∷ [])
    ∷ [])

pub empty_waits : reports never (lowest 3 ++ (second 1 ++ (second 3 ++ lowest 1))) false ≡
    record {
      number = 1;
      marked = 0;
      reported = entry 2 WaitKind.SelectNone 11 1 ∷ entry 3 WaitKind.SendNil 23 3 ∷ [];
      kept = 2;
      reclaimed = 0;
      objects = 0;
    } ∷ []
unfolding reach live_list
empty_waits = refl

-- a dead goroutine holds a global mutex, for which another one waits
abbrev holding : Code
holding =
    code_with (Value.Nil ∷ [])
    (function 0 0 1 (Instr.NewMutex ∷ Instr.StoreGlobal 0
    ∷ (new_channel 0 ++ (Instr.Go 1 1 ∷ Instr.Go 2 0 ∷ Instr.Collect ∷ Instr.Return ∷ [])))
    ∷ function 1 1 11 (Instr.LoadGlobal 0 ∷ Instr.Lock ∷ Instr.Load 0 ∷ Instr.Receive ∷ Instr.Drop ∷ Instr.Return ∷ [])
    ∷ function 0 0 21 (Instr.LoadGlobal 0 ∷ Instr.Lock ∷ Instr.Return ∷ [])
    ∷ [])

abbrev holding_turns : List ℕ
holding_turns = lowest 6 ++ (second 4 ++ (second 2 ++ lowest 1))

-- the one that waits for it is not reported, and the mutex stays locked
pub holder_is_taken_back : reports holding holding_turns true
    ≡ record {
      number = 1;
      marked = 1;
      reported = entry 2 WaitKind.Receive 14 5 ∷ [];
      kept = 0;
      reclaimed = 1;
      objects = 1;
    } ∷ []
unfolding reach live_list
holder_is_taken_back = refl

pub mutex_stays_locked : (real_run holding (turns holding_turns) true).objects ≡ (1, Object.Mutex true) ∷ []
unfolding reach live_list
mutex_stays_locked = refl

-- a dead goroutine that holds an object with a finaliser is kept, and the finaliser does not run
abbrev finalised : Code
finalised =
    code_with []
    (function 0 0 1 (Instr.NewStruct 0 ∷ Instr.Dup ∷ Instr.SetFinalizer 2
    ∷ (new_channel 0 ++ (Instr.Go 1 2 ∷ Instr.Collect ∷ Instr.Return ∷ [])))
    ∷ function 2 2 11 (Instr.Load 1 ∷ Instr.Receive ∷ Instr.Drop ∷ Instr.Return ∷ [])
    ∷ function 1 1 21 (Instr.Return ∷ [])
    ∷ [])

abbrev finalised_turns : List ℕ
finalised_turns = lowest 6 ++ (second 2 ++ lowest 1)

pub finalised_is_kept : reports finalised finalised_turns true
    ≡ record {
      number = 1;
      marked = 0;
      reported = entry 2 WaitKind.Receive 12 6 ∷ [];
      kept = 1;
      reclaimed = 0;
      objects = 2;
    } ∷ []
unfolding reach live_list
finalised_is_kept = refl

pub finaliser_is_not_queued : (real_run finalised (turns finalised_turns) true).queue ≡ []
unfolding reach live_list
finaliser_is_not_queued = refl

-- a dead goroutine shares a live object that gets a finaliser later
abbrev sharing : Code
sharing =
    code_with (Value.Nil ∷ [])
    (function 0 0 1 (Instr.NewStruct 0 ∷ Instr.StoreGlobal 0 ∷ Instr.LoadGlobal 0
    ∷ (new_channel 0 ++ (Instr.Go 1 2 ∷ Instr.Collect ∷ Instr.LoadGlobal 0 ∷ Instr.SetFinalizer 2 ∷ Instr.Nil
    ∷ Instr.StoreGlobal 0 ∷ Instr.Collect ∷ Instr.Return ∷ [])))
    ∷ function 2 2 21 (Instr.Load 1 ∷ Instr.Receive ∷ Instr.Drop ∷ Instr.Return ∷ [])
    ∷ function 1 1 31 (Instr.Return ∷ [])
    ∷ [])

abbrev sharing_turns : List ℕ
sharing_turns = lowest 6 ++ (second 2 ++ lowest 6)

pub sharer_is_kept : reports sharing sharing_turns true ≡
    record {
      number = 1;
      marked = 1;
      reported = entry 2 WaitKind.Receive 22 6 ∷ [];
      kept = 1;
      reclaimed = 0;
      objects = 2;
    }
    ∷ record { number = 2; marked = 0; reported = []; kept = 1; reclaimed = 0; objects = 2 } ∷ []
unfolding reach live_list
sharer_is_kept = refl

pub later_finaliser_is_not_queued : (real_run sharing (turns sharing_turns) true).queue ≡ []
unfolding reach live_list
later_finaliser_is_not_queued = refl

-- an unreachable object with a finaliser holds the channel that goroutine 2 waits on
abbrev reviving : Code
reviving =
    code_with []
    (function 0 0 1 (Instr.Call 1 0 ∷ Instr.Collect ∷ Instr.Collect ∷ Instr.Return ∷ [])
    ∷ function 0 0 11 (Instr.NewStruct 0 ∷ Instr.Dup
    ∷ (new_channel 0 ++ (Instr.SetField 0 ∷ Instr.Dup ∷ Instr.SetFinalizer 2 ∷ Instr.Field 0 ∷ Instr.Go 3 1
    ∷ Instr.Return ∷ [])))
    ∷ function 1 1 31 (Instr.Load 0 ∷ Instr.Field 0 ∷ push 9 ∷ Instr.Send ∷ Instr.Return ∷ [])
    ∷ function 1 1 41 (Instr.Load 0 ∷ Instr.Receive ∷ Instr.Print 1 ∷ Instr.Return ∷ [])
    ∷ [])

-- it is queued and sends; then nothing is left
abbrev reviving_turns : List ℕ
reviving_turns = lowest 11 ++ (second 2 ++
    (lowest 1 ++ (lowest 5 ++ (third 1 ++ (lowest 1 ++ (second 1 ++ lowest 1))))))

pub revived_sends : (real_run reviving (turns reviving_turns) true).output ≡ 57 ∷ 10 ∷ []
unfolding reach live_list digits
revived_sends = refl

pub waiter_is_live : reports reviving reviving_turns true ≡ quiet 1 1 2 ∷ quiet 2 0 0 ∷ []
unfolding reach live_list
waiter_is_live = refl

-- what is in the queue is live, and so is what it refers to: two collections before the finaliser runs
abbrev queued_turns : List ℕ
queued_turns = lowest 11 ++ (second 2 ++ (lowest 1 ++ second 1))

pub queue_is_live : reports reviving queued_turns true ≡ quiet 1 1 2 ∷ quiet 2 2 2 ∷ []
unfolding reach live_list
queue_is_live = refl

-- the live objects at the collection of one goroutine's code
abbrev marked : List Instr → ℕ → List ℕ
marked main n = live_objects (after (code_with (Value.Nil ∷ [])
    (function 0 1 1 main ∷ function 1 1 11 (Instr.Return ∷ [])
    ∷ function 0 0 21 (Instr.Defer 3 0 ∷ Instr.NewStruct 0 ∷ Instr.ReturnValue ∷ [])
    ∷ function 0 0 31 (Instr.Collect ∷ Instr.Return ∷ []) ∷ [])) (lowest n))

-- what a slot, an operand, a global, and an argument of a deferred call refer to is live; what was dropped is not
pub slot_is_live : marked (Instr.NewStruct 0 ∷ Instr.Store 0 ∷ []) 2 ≡ 1 ∷ []
unfolding live_list
slot_is_live = refl

pub operand_is_live : marked (Instr.NewStruct 0 ∷ []) 1 ≡ 1 ∷ []
unfolding live_list
operand_is_live = refl

pub global_is_live : marked (Instr.NewStruct 0 ∷ Instr.StoreGlobal 0 ∷ []) 2 ≡ 1 ∷ []
unfolding live_list
global_is_live = refl

pub deferred_argument_is_live : marked (Instr.NewStruct 0 ∷ Instr.Defer 1 1 ∷ []) 2 ≡ 1 ∷ []
unfolding live_list
deferred_argument_is_live = refl

pub dropped_is_not_live : marked (Instr.NewStruct 0 ∷ Instr.Drop ∷ []) 2 ≡ []
unfolding live_list
dropped_is_not_live = refl

-- so is the value of a returning frame
pub returned_value_is_live : marked (Instr.Call 2 0 ∷ []) 5 ≡ 1 ∷ []
unfolding live_list
returned_value_is_live = refl

-- and what a live object refers to: a field, a buffered value, and the mutex of a condition
pub field_is_live : marked (Instr.NewStruct 0 ∷ Instr.Dup ∷ Instr.NewStruct 0 ∷ Instr.SetField 0 ∷ []) 4 ≡ 1 ∷ 2 ∷ []
unfolding live_list
field_is_live = refl

pub buffered_value_is_live : marked (new_channel 1 ++ (Instr.Dup ∷ Instr.NewStruct 0 ∷ Instr.Send ∷ [])) 5 ≡ 1 ∷ 2 ∷ []
unfolding live_list
buffered_value_is_live = refl

pub mutex_of_a_condition_is_live : marked (Instr.NewMutex ∷ Instr.NewCond ∷ []) 2 ≡ 1 ∷ 2 ∷ []
unfolding live_list
mutex_of_a_condition_is_live = refl

-- a live goroutine waits on a channel that only its `select` names, and sends a struct that only its wait names
abbrev waiting : Code
waiting =
    code_with (Value.Nil ∷ [])
    (function 0 0 1 (new_channel 0 ++ (Instr.StoreGlobal 0 ∷ Instr.Go 1 0 ∷ Instr.Collect ∷ Instr.Return ∷ []))
    ∷ function 0 0 11 (Instr.LoadGlobal 0 ∷ Instr.NewStruct 0
    ∷ (new_channel 0 ++ (Instr.Select (case CaseKind.Send 5 ∷ case CaseKind.Take 5 ∷ []) None ∷ Instr.Return ∷ [])))
    ∷ [])

pub waits_are_references : reports waiting (lowest 4 ++ (second 5 ++ lowest 1)) true ≡ quiet 1 3 3 ∷ []
unfolding reach live_list
waits_are_references = refl

-- the channel is in a slot that is not read again: with its masks `main` lets it go, without them it holds it
abbrev with_masks : List ℕ → Function → Function
with_masks masks fn = record fn { live = masks }

abbrev in_slot : List ℕ → Code
in_slot masks =
    code_with [] (with_masks masks (function 0 1 1
    (new_channel 0 ++ (Instr.Store 0 ∷ Instr.Load 0 ∷ Instr.Go 1 1 ∷ Instr.Collect ∷ Instr.Return ∷ [])))
    ∷ function 1 1 11 (Instr.Load 0 ∷ Instr.Receive ∷ Instr.Drop ∷ Instr.Return ∷ []) ∷ [])

abbrev slot_turns : List ℕ
slot_turns = lowest 5 ++ (second 2 ++ lowest 1)

pub dead_slot_lets_go : reports (in_slot (0 ∷ 0 ∷ 0 ∷ 1 ∷ 0 ∷ 0 ∷ 0 ∷ [])) slot_turns false
    ≡ record {
      number = 1;
      marked = 0;
      reported = entry 2 WaitKind.Receive 12 5 ∷ [];
      kept = 1;
      reclaimed = 0;
      objects = 1;
    } ∷ []
unfolding reach live_list
dead_slot_lets_go = refl

pub live_slot_holds : reports (in_slot []) slot_turns false ≡ quiet 1 1 1 ∷ []
unfolding reach live_list
live_slot_holds = refl
