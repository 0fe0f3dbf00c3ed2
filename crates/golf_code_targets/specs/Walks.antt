-- From parts to lines in two walks: the target of each block, and then the lines.
use Rattle.std.specs.Prelude.{ℕ, ◌+◌, List, [], ◌∷◌, ◌++◌, length, map, Option, Some, None, slice_get, slice_set}
use Rattle.std.specs.Prelude.{unwrap_or}
use Rattle.std.specs.Option.{option_map}
use Rattle.golf_data.specs.declared.code.Instr.{Instr}
use Rattle.golf_data.specs.declared.code.CodeLine.{CodeLine}
use Rattle.golf_code_layout.specs.Piece.{target, case_at, on}
use Rattle.golf_code_layout.specs.declared.emitted.Emitted.{Emitted}
use Rattle.golf_code_layout.specs.declared.emitted.Emitted.TheVariants as emit
use Rattle.golf_code_targets.specs.declared.targets.Targets.{Targets}
use Rattle.golf_code_targets.specs.declared.bodies.Body.{Body}

-- all items but the first
abbrev pub rest : {X : Type 0} → List X → List X
rest [] = []
rest (x ∷ xs) = xs

-- The targets of the blocks, in the order in which the blocks begin.

-- the targets after a block ends here; its target is here, if it is the block's end
abbrev pub ended : ℕ → List (Option ℕ) → List ℕ → List ℕ
ended at [] found = found
ended at (None ∷ waiting) found = found
ended at (Some i ∷ waiting) found = slice_set found i at

-- a part is skipped; a block whose target is its end waits for it with the number of that target
abbrev pub target_step : Emitted → Targets → Targets
target_step (emit.Op i line) s = record s { at = s.at + 1 }
target_step (emit.Exit line k) s = record s { at = s.at + 1 }
target_step (emit.Unless line k) s = record s { at = s.at + 1 }
target_step (emit.Choose line cases otherwise) s = record s { at = s.at + 1 }
target_step emit.Block s = record s { waiting = Some (length s.found) ∷ s.waiting; found = s.found ++ 0 ∷ [] }
target_step emit.Again s = record s { waiting = None ∷ s.waiting; found = s.found ++ s.at ∷ [] }
target_step emit.End s = record s { waiting = rest s.waiting; found = ended s.at s.waiting s.found }

abbrev pub target_steps : List Emitted → Targets → Targets
target_steps [] s = s
target_steps (m ∷ ms) s = target_steps ms (target_step m s)

abbrev pub no_targets : Targets
no_targets = record { at = 0; waiting = []; found = [] }

abbrev pub targets_of : List Emitted → List ℕ
targets_of ms = (target_steps ms no_targets).found

-- The lines of blocks with these targets.

abbrev pub with_line : Body → Instr → ℕ → Body
with_line s i line = record s { lines = s.lines ++ on i line ∷ [] }

-- a block begins; its target is the next one
abbrev pub entered : List ℕ → Body → Body
entered found s = record s { around = unwrap_or (slice_get found s.next) 0 ∷ s.around; next = s.next + 1 }

abbrev pub line_step : List ℕ → Emitted → Body → Body
line_step found (emit.Op i line) s = with_line s i line
line_step found (emit.Exit line k) s = with_line s (Instr.Jump (target s.around k)) line
line_step found (emit.Unless line k) s = with_line s (Instr.JumpIfNot (target s.around k)) line
line_step found (emit.Choose line cases otherwise) s =
    with_line s (Instr.Select (map (case_at s.around) cases) (option_map (target s.around) otherwise)) line
line_step found emit.Block s = entered found s
line_step found emit.Again s = entered found s
line_step found emit.End s = record s { around = rest s.around }

abbrev pub line_steps : List ℕ → List Emitted → Body → Body
line_steps found [] s = s
line_steps found (m ∷ ms) s = line_steps found ms (line_step found m s)

abbrev pub no_lines : Body
no_lines = record { around = []; next = 0; lines = [] }

abbrev pub lines_of : List Emitted → List CodeLine
lines_of ms = (line_steps (targets_of ms) ms no_lines).lines
