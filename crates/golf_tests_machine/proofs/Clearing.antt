-- What turns clear: under a mask, in a frame that leaves, and nothing if no rule fits.
use Rattle.std.specs.Prelude.{◌≡◌, ℕ, List, [], ◌∷◌, ◌++◌, map, Option, Some, option_map, refl}
use Rattle.golf_theory.specs.Maps.{find}
use Rattle.golf_data.specs.declared.value.Value.{Value}
use Rattle.golf_data.specs.declared.code.Code.{Code}
use Rattle.golf_data.specs.declared.code.Instr.{Instr}
use Rattle.golf_data.specs.declared.goroutine.Leaving.{Leaving}
use Rattle.golf_data.specs.declared.goroutine.PanicKind.{PanicKind}
use Rattle.golf_model.specs.State.{State}
use Rattle.golf_model.specs.Turn.{step, turn_changes, whose_turn}
use Rattle.golf_model.proofs.Examples.Writing.{function, number, push, code_with, lowest, after}

-- the slots of the frames of goroutine 1, the innermost first
abbrev slots_in : State → Option (List (List Value))
slots_in s = option_map (λ r. map (λ f. f.slots) r.frames) (find 1 s.goroutines)

-- how they are left, and their operands
abbrev leaving_in : State → Option (List (Leaving × List Value))
leaving_in s = option_map (λ r. map (λ f. (f.leaving, f.operands)) r.frames) (find 1 s.goroutines)

-- ---- under a mask

-- both of two slots can be read until the fourth turn, and then those of the mask
abbrev masked : ℕ → Code
masked mask =
    code_with []
    (record (function 0 2 1 (push 7 ∷ Instr.Store 0 ∷ push 8 ∷ Instr.Store 1 ∷ Instr.Return ∷ [])) {
      live = 3 ∷ 3 ∷ 3
          ∷ 3 ∷ mask ∷ [];
    }
    ∷ [])

pub first_slot_stays : slots_in (after (masked 1) (lowest 4)) ≡ Some ((number 7 ∷ number 0 ∷ []) ∷ [])
first_slot_stays = refl

pub second_slot_stays : slots_in (after (masked 2) (lowest 4)) ≡ Some ((number 0 ∷ number 8 ∷ []) ∷ [])
second_slot_stays = refl

pub both_slots_stay : slots_in (after (masked 3) (lowest 4)) ≡ Some ((number 7 ∷ number 8 ∷ []) ∷ [])
both_slots_stay = refl

pub no_slot_stays : slots_in (after (masked 0) (lowest 4)) ≡ Some ((number 0 ∷ number 0 ∷ []) ∷ [])
no_slot_stays = refl

-- ---- in a frame that leaves

-- slot 0 has a value and one operand stands, and then the frame leaves by these instructions, with a deferred call to
-- come
abbrev leaving_by : List Instr → Code
leaving_by is =
    code_with []
    (function 0 1 1 (Instr.Defer 1 0 ∷ push 7 ∷ Instr.Store 0 ∷ (is ++ (Instr.Return ∷ [])))
    ∷ function 0 0 21 (Instr.Return ∷ [])
    ∷ [])

abbrev returned : State
returned = after (leaving_by (push 5 ∷ Instr.ReturnValue ∷ [])) (lowest 5)

abbrev unwound : State
unwound = after (leaving_by (push 5 ∷ Instr.Nil ∷ Instr.Field 0 ∷ [])) (lowest 6)

-- before the turn the slot has its value
pub slot_before_return : slots_in (after (leaving_by (push 5 ∷ Instr.ReturnValue ∷ [])) (lowest 4)) ≡ Some
    ((number 7 ∷ []) ∷ [])
slot_before_return = refl

pub is_returning : leaving_in returned ≡ Some ((Leaving.Returning (Some (number 5)), []) ∷ [])
is_returning = refl

pub returning_holds_nothing : slots_in returned ≡ Some ((number 0 ∷ []) ∷ [])
returning_holds_nothing = refl

pub slot_before_panic : slots_in (after (leaving_by (push 5 ∷ Instr.Nil ∷ Instr.Field 0 ∷ [])) (lowest 5)) ≡ Some
    ((number 7 ∷ []) ∷ [])
slot_before_panic = refl

pub is_unwinding : leaving_in unwound ≡ Some
    ((Leaving.Unwinding (record { kind = PanicKind.NilPointer; line = 6 }), []) ∷ [])
is_unwinding = refl

pub unwinding_holds_nothing : slots_in unwound ≡ Some ((number 0 ∷ []) ∷ [])
unwinding_holds_nothing = refl

-- ---- if no rule fits

-- after the collection, which clears nothing, there is no operand to drop; at that place slot 0 is not read any more
abbrev stuck_code : Code
stuck_code =
    code_with []
    (record (function 0 1 1 (push 7 ∷ Instr.Store 0 ∷ Instr.Collect ∷ Instr.Drop ∷ [])) { live = 1 ∷ 1 ∷ 1 ∷ 0 ∷ [] }
    ∷ [])

abbrev stuck : State
stuck = after stuck_code (lowest 3)

pub no_rule_fits : turn_changes stuck_code 0 stuck (whose_turn stuck 0) ≡ []
no_rule_fits = refl

pub slot_before_it : slots_in stuck ≡ Some ((number 7 ∷ []) ∷ [])
slot_before_it = refl

-- the turn changes nothing
pub slot_after_it : slots_in (step stuck_code stuck 0) ≡ Some ((number 7 ∷ []) ∷ [])
slot_after_it = refl

pub state_after_it : step stuck_code stuck 0 ≡ stuck
state_after_it = refl
