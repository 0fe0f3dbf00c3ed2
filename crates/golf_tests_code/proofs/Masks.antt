-- Whether a slot is needed at a position, computed.
use Rattle.std.specs.Prelude.{◌≡◌, true, false, List, [], ◌∷◌, refl}
use Rattle.golf_data.specs.declared.code.Instr.{Instr}
use Rattle.golf_data.specs.declared.code.CodeLine.{CodeLine}
use Rattle.golf_live.specs.Live.{needed, is_needed}
use Rattle.golf_model.proofs.Examples.Writing.{lines_from}

-- an instruction that takes a text, before one that loads slot 0
abbrev before_a_load : Instr → List CodeLine
before_a_load i = lines_from 1 (Instr.Text 0 ∷ i ∷ Instr.Load 0 ∷ Instr.Drop ∷ Instr.Return ∷ [])

pub a_slot_is_needed_before_its_load : is_needed (before_a_load Instr.Drop) 0 0 ≡ true
unfolding needed
a_slot_is_needed_before_its_load = refl

-- a panic does not go on
pub no_slot_is_needed_before_a_panic : is_needed (before_a_load Instr.Panic) 0 0 ≡ false
unfolding needed
no_slot_is_needed_before_a_panic = refl
