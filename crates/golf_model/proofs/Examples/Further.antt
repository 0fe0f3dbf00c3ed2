-- Examples that refuse what the others let through.
use Rattle.std.specs.Prelude.{◌≡◌, ℕ, true, false, List, [], ◌∷◌, ◌++◌, map, replicate, Some, None, option_map, refl}
use Rattle.std.specs.Prelude.{negsuc}
use Rattle.std.specs.Fmt.{digits}
use Rattle.golf_theory.specs.Maps.{find}
use Rattle.golf_data.specs.declared.value.Value.{Value}
use Rattle.golf_data.specs.declared.code.Code.{Code}
use Rattle.golf_data.specs.declared.code.CaseKind.{CaseKind}
use Rattle.golf_data.specs.declared.code.Instr.{Instr}
use Rattle.golf_data.specs.declared.goroutine.Leaving.{Leaving}
use Rattle.golf_data.specs.declared.goroutine.Mode.{Mode}
use Rattle.golf_data.specs.declared.goroutine.PanicKind.{PanicKind}
use Rattle.golf_data.specs.declared.goroutine.WaitKind.{WaitKind}
use Rattle.golf_data.specs.declared.report.Entry.{Entry}
use Rattle.golf_model.specs.State.{State, runnable, ending}
use Rattle.golf_model.specs.Reach.{reach}
use Rattle.golf_model.specs.LiveSet.{live_list}
use Rattle.golf_model.specs.Turn.{wants_collection}
use Rattle.golf_model.proofs.Examples.Writing.{function, number, push, new_channel, code_with, straight, case, lowest}
use Rattle.golf_model.proofs.Examples.Writing.{second, after, panicked, reports}

-- every run-time panic runs the deferred calls (Go specification, "Handling panics")
abbrev deferring : List Instr → Code
deferring body =
    code_with [] (function 0 0 1 (Instr.Defer 1 0 ∷ body) ∷ function 0 0 21 (push 7 ∷ Instr.Print 1 ∷ Instr.Return ∷ [])
    ∷ [])

pub panics_run_deferred_calls : map (λ body. (after (deferring body) (lowest 14)).output)
    ((Instr.NewGroup ∷ Instr.Int (negsuc 0) ∷ Instr.GroupAdd ∷ [])
    ∷ (new_channel 0 ++ (Instr.Dup ∷ Instr.Close ∷ Instr.Close ∷ []))
    ∷ (Instr.Nil ∷ Instr.Close ∷ [])
    ∷ (new_channel 1 ++ (Instr.Dup ∷ Instr.Close ∷ push 1 ∷ Instr.Send ∷ []))
    ∷ (new_channel 0 ++ (Instr.Dup ∷ Instr.Close ∷ push 1 ∷ Instr.Select (case CaseKind.Send 0 ∷ []) None ∷ []))
    ∷ (Instr.Int (negsuc 0) ∷ Instr.NewSlice (number 0) ∷ [])
    ∷ (Instr.Int (negsuc 0) ∷ Instr.NewChan (number 0) ∷ [])
    ∷ (push 0 ∷ Instr.NewSlice (number 0) ∷ push 0 ∷ Instr.Index ∷ [])
    ∷ (push 0 ∷ Instr.NewSlice (number 0) ∷ push 0 ∷ push 1 ∷ Instr.SetIndex ∷ [])
    ∷ (Instr.Nil ∷ push 0 ∷ Instr.Index ∷ [])
    ∷ (push 1 ∷ push 0 ∷ Instr.Rem ∷ [])
    ∷ [])
    ≡ replicate 11 (55 ∷ 10 ∷ [])
unfolding digits
panics_run_deferred_calls = refl

-- the sender whose value takes the free place in a buffer goes on
abbrev buffered : Code
buffered =
    code_with []
    (function 0 1 1 (new_channel 1 ++ (Instr.Store 0 ∷ Instr.Load 0 ∷ Instr.Go 1 1 ∷ Instr.Load 0 ∷ Instr.Receive ∷ []))
    ∷ function 1 1 21 (Instr.Load 0 ∷ push 1 ∷ Instr.Send ∷ Instr.Load 0 ∷ push 2 ∷ Instr.Send ∷ Instr.Return ∷ [])
    ∷ [])

pub buffered_sender_goes_on : runnable (after buffered (lowest 5 ++ (second 6 ++ lowest 2))) ≡ 1 ∷ 2 ∷ []
buffered_sender_goes_on = refl

-- if one finaliser is cleared the other one stays
pub other_finaliser_stays : (after (straight
    (Instr.NewStruct 0 ∷ Instr.SetFinalizer 0 ∷ Instr.NewStruct 0 ∷ Instr.Dup ∷ Instr.SetFinalizer 0
    ∷ Instr.ClearFinalizer ∷ [])) (lowest 6)).finalisers ≡ (1, 0) ∷ []
other_finaliser_stays = refl

abbrev entry : ℕ → WaitKind → ℕ → ℕ → Entry
entry g kind line started = record { goroutine = record { 0 = g }; wait = kind; line = line; started = started }

-- goroutine 1 was started at the line of `main`
abbrev main_blocks : Code
main_blocks =
    record (code_with [] (function 0 0 1 (Instr.Go 1 0 ∷ (new_channel 0 ++ (Instr.Receive ∷ [])))
    ∷ function 0 0 21 (Instr.Collect ∷ Instr.Return ∷ []) ∷ [])) { main_line = 99 }

pub main_is_reported : reports main_blocks (lowest 5) false
    ≡ record {
      number = 1;
      marked = 0;
      reported = entry 1 WaitKind.Receive 4 99 ∷ [];
      kept = 1;
      reclaimed = 0;
      objects = 1;
    } ∷ []
unfolding reach live_list
main_is_reported = refl

-- if the code sets no finaliser, a dead goroutine that holds a live object is taken back
abbrev sharing : Code
sharing =
    code_with (Value.Nil ∷ [])
    (function 0 0 1 (Instr.NewStruct 0 ∷ Instr.StoreGlobal 0 ∷ Instr.LoadGlobal 0
    ∷ (new_channel 0 ++ (Instr.Go 1 2 ∷ Instr.Collect ∷ Instr.Return ∷ [])))
    ∷ function 2 2 21 (Instr.Load 1 ∷ Instr.Receive ∷ Instr.Drop ∷ Instr.Return ∷ [])
    ∷ [])

pub sharer_is_taken_back : reports sharing (lowest 6 ++ (second 2 ++ lowest 1)) true
    ≡ record {
      number = 1;
      marked = 1;
      reported = entry 2 WaitKind.Receive 22 6 ∷ [];
      kept = 0;
      reclaimed = 1;
      objects = 1;
    } ∷ []
unfolding reach live_list
sharer_is_taken_back = refl

-- the operands below those of the cases stay, whether a case is taken or the goroutine blocks
pub below_a_case : (after (straight (push 9
    ∷ (new_channel 1 ++ (push 5 ∷ Instr.Select (case CaseKind.Send 5 ∷ []) None ∷ Instr.Print 1 ∷ []))))
    (lowest 6)).output ≡ 57 ∷ 10 ∷ []
unfolding digits
below_a_case = refl

pub below_a_blocked_select : option_map (λ r. map (λ f. f.operands) r.frames)
    (find 1 (after (straight (push 9 ∷ Instr.Nil ∷ Instr.Select (case CaseKind.Take 0 ∷ []) None ∷ []))
    (lowest 3)).goroutines) ≡ Some ((number 9 ∷ []) ∷ [])
below_a_blocked_select = refl

-- fields and globals by their number
pub second_field : (after (record (straight
    (Instr.NewStruct 0 ∷ Instr.Store 0 ∷ Instr.Load 0 ∷ push 7 ∷ Instr.SetField 1 ∷ Instr.Load 0 ∷ Instr.Field 0
    ∷ Instr.Load 0 ∷ Instr.Field 1 ∷ Instr.Print 2 ∷ [])) { structs = (number 0 ∷ number 0 ∷ []) ∷ [] })
    (lowest 10)).output ≡ 48 ∷ 32 ∷ 55 ∷ 10 ∷ []
unfolding digits
second_field = refl

pub second_global : (after (code_with (number 0 ∷ number 0 ∷ [])
    (function 0 0 1 (push 7 ∷ Instr.StoreGlobal 1 ∷ Instr.LoadGlobal 0 ∷ Instr.LoadGlobal 1 ∷ Instr.Print 2 ∷ []) ∷ []))
    (lowest 5)).output ≡ 48 ∷ 32 ∷ 55 ∷ 10 ∷ []
unfolding digits
second_global = refl

-- a closed channel gives the zero value of its elements
pub zero_of_its_elements : (after (straight
    (push 0 ∷ Instr.NewChan (Value.Bool false) ∷ Instr.Dup ∷ Instr.Close ∷ Instr.Receive ∷ Instr.Print 1 ∷ []))
    (lowest 6)).output ≡ 102 ∷ 97 ∷ 108 ∷ 115 ∷ 101 ∷ 10 ∷ []
zero_of_its_elements = refl

pub zero_of_its_elements_to_a_waiter : (after
    (code_with [] (function 0 0 1 (push 0 ∷ Instr.NewChan (Value.Bool false) ∷ Instr.Dup ∷ Instr.Go 1 1 ∷ Instr.Close
    ∷ Instr.Return ∷ []) ∷ function 1 1 21 (Instr.Load 0 ∷ Instr.Receive ∷ Instr.Print 1 ∷ Instr.Return ∷ []) ∷ []))
    (lowest 4 ++ (second 2 ++ (lowest 1 ++ second 1)))).output ≡ 102 ∷ 97 ∷ 108 ∷ 115 ∷ 101 ∷ 10 ∷ []
zero_of_its_elements_to_a_waiter = refl

-- a frame that is left is at no instruction, wherever it stands
abbrev left_at_collect : Leaving → State
left_at_collect leaving = record {
  globals = [];
  objects = [];
  finalisers = [];
  goroutines = (0, record { frames = []; mode = Mode.Running; started = 0 })
      ∷ (
        1,
        record {
          frames = record {
            function = 0;
            at = 0;
            slots = [];
            operands = [];
            deferred = [];
            leaving = leaving;
            discards = true;
          } ∷ [];
          mode = Mode.Running;
          started = 1;
        },
      ) ∷ [];
  queue = [];
  output = [];
  last_object = 0;
  next_goroutine = 2;
  next_ticket = 0;
  recorded = None;
}

pub no_collection_while_left : map (λ l. wants_collection (straight (Instr.Collect ∷ [])) (left_at_collect l) 0)
    (Leaving.No ∷ Leaving.Returning None ∷ []) ≡ true ∷ false ∷ []
no_collection_while_left = refl

-- a fatal error names its own goroutine
pub fatal_error_of_another : ending (after
    (code_with [] (function 0 0 1 (Instr.Go 1 0 ∷ Instr.Nil ∷ Instr.Receive ∷ [])
    ∷ function 0 0 21 (Instr.NewMutex ∷ Instr.Unlock ∷ []) ∷ [])) (lowest 1 ++ second 2)) ≡ Some
    (panicked PanicKind.UnlockUnlocked 2 22)
fatal_error_of_another = refl
