-- How the small codes of the examples are written and run.
use Rattle.std.specs.Prelude.{ℕ, ◌+◌, List, [], ◌∷◌, map, Bool, pos, replicate, Option, option_map}
use Rattle.golf_theory.specs.Maps.{find}
use Rattle.golf_data.specs.declared.value.Value.{Value}
use Rattle.golf_data.specs.declared.code.Code.{Code}
use Rattle.golf_data.specs.declared.code.Function.{Function}
use Rattle.golf_data.specs.declared.code.Instr.{Instr}
use Rattle.golf_data.specs.declared.code.CodeLine.{CodeLine}
use Rattle.golf_data.specs.declared.code.SelectCase.{SelectCase}
use Rattle.golf_data.specs.declared.code.CaseKind.{CaseKind}
use Rattle.golf_data.specs.declared.goroutine.Ending.{Ending}
use Rattle.golf_data.specs.declared.goroutine.Mode.{Mode}
use Rattle.golf_data.specs.declared.goroutine.PanicKind.{PanicKind}
use Rattle.golf_data.specs.declared.report.Report.{Report}
use Rattle.golf_model.specs.State.{State, start}
use Rattle.golf_model.specs.Collections.{sets_finalisers}
use Rattle.golf_model.specs.Runs.{Event, run, stops}
use Rattle.golf_model.specs.Reports.{book_of}

-- the instructions from this line on, one a line
abbrev pub lines_from : ℕ → List Instr → List CodeLine
lines_from line [] = []
lines_from line (i ∷ is) = record { instr = i; line = line } ∷ lines_from (line + 1) is

-- a function with so many parameters and slots, whose first instruction has this line
abbrev pub function : ℕ → ℕ → ℕ → List Instr → Function
function params slots line is = record {
  params = params;
  slots = slots;
  depth = 8;
  line = line;
  body = lines_from line is;
  live = [];
}

-- an integer, and its instruction
abbrev pub number : ℕ → Value
number n = Value.Int (pos n)

abbrev pub push : ℕ → Instr
push n = Instr.Int (pos n)

-- a channel of integers with room for so many
abbrev pub new_channel : ℕ → List Instr
new_channel n = push n ∷ Instr.NewChan (number 0) ∷ []

-- a code with these globals and functions, and one struct type, with one field that is nil
abbrev pub code_with : List Value → List Function → Code
code_with globals functions =
    record { functions = functions; globals = globals; structs = (Value.Nil ∷ []) ∷ []; texts = [] ∷ []; main_line = 1 }

-- a code of one function with two slots, whose first instruction has line 1, with one global
abbrev pub straight : List Instr → Code
straight body = code_with (Value.Nil ∷ []) (function 0 2 1 body ∷ [])

-- a case of a `select`
abbrev pub case : CaseKind → ℕ → SelectCase
case kind target = record { kind = kind; target = target }

-- turns with these numbers; if two can run, 0 is the one with the lower number
abbrev pub turns : List ℕ → List Event
turns cs = map Event.Turn cs

-- so many turns of the lowest, and of the second
abbrev pub lowest : ℕ → List ℕ
lowest n = replicate n 0

abbrev pub second : ℕ → List ℕ
second n = replicate n 1

abbrev pub third : ℕ → List ℕ
third n = replicate n 2

-- the state after these turns from the opening state
abbrev pub after : Code → List ℕ → State
after code cs = run code (start code) (turns cs)

-- the ending of a goroutine that panics, at a line
abbrev pub panicked : PanicKind → ℕ → ℕ → Ending
panicked kind g line = Ending.Panicked kind (record { 0 = g }) line

-- how a goroutine is: it runs, or is blocked
abbrev pub mode_of : ℕ → State → Option Mode
mode_of g s = option_map (λ r. r.mode) (find g s.goroutines)

-- the reports of the plain run with these turns, as they are with recovery or without
abbrev pub reports : Code → List ℕ → Bool → List Report
reports code cs recover = book_of (stops code (turns cs)) recover (sets_finalisers code)

-- a report's numbers, if nothing was reported
abbrev pub quiet : ℕ → ℕ → ℕ → Report
quiet k marked objects = record {
  number = k;
  marked = marked;
  reported = [];
  kept = 0;
  reclaimed = 0;
  objects = objects;
}
