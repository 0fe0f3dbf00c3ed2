-- If no rule fits: the turn has no changes, and the state stays.
use Rattle.std.specs.Prelude.{◌≡◌, List, [], ◌∷◌, ◌++◌, length, map, replicate, Some, None, refl, true, false}
use Rattle.golf_data.specs.declared.code.Code.{Code}
use Rattle.golf_data.specs.declared.code.CaseKind.{CaseKind}
use Rattle.golf_data.specs.declared.code.Instr.{Instr}
use Rattle.golf_model.specs.State.{State}
use Rattle.golf_model.specs.Changes.{Change}
use Rattle.golf_model.specs.Turn.{turn_changes, whose_turn, wants_collection}
use Rattle.golf_model.proofs.Examples.Writing.{number, push, new_channel, straight, case, lowest, after}

abbrev next_changes : Code → State → List Change
next_changes code s = turn_changes code 0 s (whose_turn s 0)

-- the changes of an instruction after these
abbrev then : List Instr → Instr → List Change
then before i = next_changes (straight (before ++ (i ∷ [])))
    (after (straight (before ++ (i ∷ []))) (lowest (length before)))

-- operands that are missing
pub missing_operands : map (then []) (Instr.Drop ∷ Instr.Dup ∷ Instr.Neg ∷ Instr.Not ∷ Instr.Store 0 ∷ Instr.JumpIfNot 0
    ∷ Instr.Receive ∷ Instr.Close ∷ Instr.ReturnValue ∷ Instr.Print 1 ∷ Instr.Panic ∷ []) ≡ replicate 11 []
missing_operands = refl

pub one_operand_missing : map (then (push 1 ∷ []))
    (Instr.Add ∷ Instr.Eq ∷ Instr.Dup2 ∷ Instr.Send ∷ Instr.SetField 0 ∷ Instr.Print 2 ∷ Instr.GroupAdd ∷ [])
    ≡ replicate 7 []
one_operand_missing = refl

-- integers and truth values if the other is wanted, or two kinds compared
pub mixed_operands : map (then (push 1 ∷ Instr.Bool true ∷ []))
    (Instr.Add ∷ Instr.Sub ∷ Instr.Mul ∷ Instr.Div ∷ Instr.Rem ∷ Instr.Less ∷ Instr.AtMost ∷ Instr.Eq ∷ Instr.Neg
    ∷ Instr.NewSlice (number 0) ∷ Instr.NewChan (number 0) ∷ Instr.Panic ∷ []) ≡ replicate 12 []
mixed_operands = refl

-- an integer if an object or a truth value is wanted
pub integer_alone : map (then (push 1 ∷ []))
    (Instr.Not ∷ Instr.JumpIfNot 0 ∷ Instr.Field 0 ∷ Instr.Len ∷ Instr.Receive ∷ Instr.ReceiveOk ∷ Instr.Close
    ∷ Instr.Lock ∷ Instr.Unlock ∷ Instr.GroupWait ∷ Instr.RwLock ∷ Instr.RwUnlock ∷ Instr.ReadLock
    ∷ Instr.ReadUnlock ∷ Instr.NewCond ∷ Instr.CondMutex ∷ Instr.CondWait ∷ Instr.CondSignal ∷ Instr.CondBroadcast
    ∷ Instr.SetFinalizer 0 ∷ Instr.ClearFinalizer ∷ Instr.Panic ∷ []) ≡ replicate 22 []
integer_alone = refl

-- a wait group if another object is wanted
pub group_alone : map (then (Instr.NewGroup ∷ []))
    (Instr.Field 0 ∷ Instr.Len ∷ Instr.Receive ∷ Instr.ReceiveOk ∷ Instr.Close ∷ Instr.Lock ∷ Instr.Unlock
    ∷ Instr.RwLock ∷ Instr.RwUnlock ∷ Instr.ReadLock ∷ Instr.ReadUnlock ∷ Instr.NewCond ∷ Instr.CondMutex
    ∷ Instr.CondWait ∷ Instr.CondSignal ∷ Instr.CondBroadcast ∷ Instr.SetFinalizer 0 ∷ Instr.ClearFinalizer
    ∷ Instr.Print 1 ∷ []) ≡ replicate 19 []
group_alone = refl

pub mutex_for_group : map (then (Instr.NewMutex ∷ push 1 ∷ []))
    (Instr.GroupAdd ∷ Instr.Send ∷ Instr.SetField 0 ∷ Instr.Index ∷ []) ≡ replicate 4 []
mutex_for_group = refl

-- a case of a `select` on what is no channel, also beside one that is ready and beside a `default`
abbrev no_channels : List (List Instr)
no_channels =
    (push 1 ∷ [])
    ∷ (Instr.Bool true ∷ [])
    ∷ (Instr.Text 0 ∷ [])
    ∷ (Instr.Unit ∷ [])
    ∷ (Instr.NewStruct 0 ∷ [])
    ∷ (push 1 ∷ Instr.NewSlice (number 0) ∷ [])
    ∷ (Instr.NewMutex ∷ [])
    ∷ (Instr.NewGroup ∷ [])
    ∷ (Instr.NewRw ∷ [])
    ∷ (Instr.Nil ∷ Instr.NewCond ∷ [])
    ∷ []

pub select_on_no_channel : map (λ before. then before (Instr.Select (case CaseKind.Take 0 ∷ []) None)) no_channels
    ≡ replicate 10 []
select_on_no_channel = refl

pub select_or_default : map (λ before. then before (Instr.Select (case CaseKind.TakeOk 0 ∷ []) (Some 0))) no_channels
    ≡ replicate 10 []
select_or_default = refl

pub no_channel_alone : map (λ before. then before Instr.Receive) no_channels ≡ replicate 10 []
no_channel_alone = refl

pub select_beside_ready : then (new_channel 1 ++ (push 5 ∷ Instr.NewGroup ∷ []))
    (Instr.Select (case CaseKind.Send 0 ∷ case CaseKind.TakeOk 0 ∷ []) None) ≡ []
select_beside_ready = refl

-- what the code or the frame does not have
pub nothing_there : map (then []) (Instr.Load 2 ∷ Instr.LoadGlobal 1 ∷ Instr.NewStruct 1 ∷ Instr.Call 1 0 ∷ Instr.Go 1 0
    ∷ []) ≡ replicate 5 []
nothing_there = refl

pub nothing_to_store_to : map (then (push 1 ∷ [])) (Instr.Store 2 ∷ Instr.StoreGlobal 1 ∷ []) ≡ replicate 2 []
nothing_to_store_to = refl

pub no_such_field : then (Instr.NewStruct 0 ∷ []) (Instr.Field 1) ≡ []
no_such_field = refl

pub no_such_text : then (Instr.Text 1 ∷ []) (Instr.Print 1) ≡ []
no_such_text = refl

-- past the end of the code
pub past_the_end : next_changes (straight []) (after (straight []) []) ≡ []
past_the_end = refl

pub no_collection_there : wants_collection (straight []) (after (straight []) []) 0 ≡ false
no_collection_there = refl
