-- Deferred calls, returns and panics.
use Rattle.std.specs.Prelude.{◌≡◌, [], ◌∷◌, Some, refl, negsuc, map, option_map, replicate}
use Rattle.std.specs.Fmt.{digits}
use Rattle.golf_theory.specs.Maps.{find}
use Rattle.golf_data.specs.declared.code.Code.{Code}
use Rattle.golf_data.specs.declared.code.Instr.{Instr}
use Rattle.golf_data.specs.declared.goroutine.PanicKind.{PanicKind}
use Rattle.golf_model.specs.State.{ending}
use Rattle.golf_model.proofs.Examples.Writing.{function, number, push, code_with, straight, lowest, after, panicked}

-- function 0 defers functions 1 and 2 and calls function 3, which divides by zero
abbrev deferring : Code
deferring =
    code_with []
    (function 0 0 1 (Instr.Defer 1 0 ∷ Instr.Defer 2 0 ∷ Instr.Call 3 0 ∷ Instr.Return ∷ [])
    ∷ function 0 0 11 (push 1 ∷ Instr.Print 1 ∷ Instr.Return ∷ [])
    ∷ function 0 0 21 (push 2 ∷ Instr.Print 1 ∷ Instr.Return ∷ [])
    ∷ function 0 0 31 (push 1 ∷ push 0 ∷ Instr.Div ∷ Instr.Return ∷ [])
    ∷ [])

-- the last deferred call runs first, and the panic keeps its line
pub deferred_calls_run : (after deferring (lowest 15)).output ≡ 50 ∷ 10 ∷ 49 ∷ 10 ∷ []
unfolding digits
deferred_calls_run = refl

-- its frame has no operands left
pub panic_empties_operands : option_map (λ r. map (λ f. f.operands) r.frames)
    (find 1 (after deferring (lowest 6)).goroutines) ≡ Some ([] ∷ [] ∷ [])
panic_empties_operands = refl

-- nor has the caller's, in which it goes on
abbrev calling : Code
calling = code_with [] (function 0 0 1 (push 1 ∷ Instr.Defer 0 0 ∷ Instr.Call 1 0 ∷ [])
    ∷ function 0 0 11 (Instr.Nil ∷ Instr.Field 0 ∷ []) ∷ [])

pub caller_unwinds : option_map (λ r. map (λ f. f.operands) r.frames) (find 1 (after calling (lowest 6)).goroutines)
    ≡ Some ([] ∷ [])
caller_unwinds = refl

pub panic_ends : ending (after deferring (lowest 16)) ≡ Some (panicked PanicKind.DivideByZero 1 33)
panic_ends = refl

-- a return runs the deferred calls, and then its value goes to the caller; theirs goes nowhere
abbrev returning : Code
returning =
    code_with []
    (function 0 0 1 (push 3 ∷ Instr.Call 1 1 ∷ Instr.Print 1 ∷ Instr.Return ∷ [])
    ∷ function 1 1 11 (Instr.Defer 2 0 ∷ Instr.Load 0 ∷ Instr.ReturnValue ∷ [])
    ∷ function 0 0 21 (push 5 ∷ Instr.Dup ∷ Instr.Print 1 ∷ Instr.ReturnValue ∷ [])
    ∷ [])

pub value_is_handed_back : (after returning (lowest 12)).output ≡ 53 ∷ 10 ∷ 51 ∷ 10 ∷ []
unfolding digits
value_is_handed_back = refl

pub deferred_value_is_lost : option_map (λ r. map (λ f. f.operands) r.frames)
    (find 1 (after returning (lowest 10)).goroutines) ≡ Some ([] ∷ [] ∷ [])
deferred_value_is_lost = refl

-- a panic in a deferred call takes the place of the earlier one
abbrev replacing : Code
replacing =
    code_with []
    (function 0 0 1 (Instr.Defer 1 0 ∷ Instr.Text 0 ∷ Instr.Panic ∷ [])
    ∷ function 0 0 11 (Instr.Nil ∷ Instr.Field 0 ∷ Instr.Return ∷ [])
    ∷ [])

pub later_panic_counts : ending (after replacing (lowest 8)) ≡ Some (panicked PanicKind.NilPointer 1 12)
later_panic_counts = refl

-- a panic with its own text
pub panic_with_text : ending (after (record
    (straight (Instr.Text 1 ∷ Instr.Panic ∷ [])) { texts = [] ∷ (104 ∷ 105 ∷ []) ∷ [] }) (lowest 3)) ≡ Some
    (panicked (PanicKind.Custom 1) 1 2)
panic_with_text = refl

-- nil if an object is wanted panics
pub nil_pointers : map (λ i. ending (after (straight (Instr.Nil ∷ i ∷ [])) (lowest 3)))
    (Instr.Field 0 ∷ Instr.Lock ∷ Instr.Unlock ∷ Instr.GroupWait ∷ Instr.RwLock ∷ Instr.RwUnlock ∷ Instr.ReadLock
    ∷ Instr.ReadUnlock ∷ Instr.CondMutex ∷ Instr.CondWait ∷ Instr.CondSignal ∷ Instr.CondBroadcast
    ∷ Instr.SetFinalizer 0 ∷ [])
    ≡ replicate 13 (Some (panicked PanicKind.NilPointer 1 2))
nil_pointers = refl

pub nil_pointers_with_operand : map (λ i. ending (after (straight (Instr.Nil ∷ push 1 ∷ i ∷ [])) (lowest 4)))
    (Instr.SetField 0 ∷ Instr.GroupAdd ∷ []) ≡ replicate 2 (Some (panicked PanicKind.NilPointer 1 3))
nil_pointers_with_operand = refl

-- an index that is out of range panics with it
abbrev indexing : Code
indexing = code_with [] (function 0 0 1 (push 2 ∷ Instr.NewSlice (number 0) ∷ Instr.Int (negsuc 0) ∷ Instr.Index ∷ [])
    ∷ [])

pub index_panics : ending (after indexing (lowest 5)) ≡ Some (panicked (PanicKind.Index (negsuc 0) 2) 1 4)
index_panics = refl
