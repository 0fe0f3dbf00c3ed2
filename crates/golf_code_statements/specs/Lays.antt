-- The clause of the calls that write statements. Without memory it says nothing.
use Rattle.std.specs.Prelude.{◌≡◌, ◌+◌, ◌++◌, length, Result, Ok, Err}
use Rattle.golf_base.specs.declared.Memory.{Memory}
use Rattle.golf_code_of.specs.declared.surroundings.Around.{Around}
use Rattle.golf_code_of.specs.Statements.{Laid}
use Rattle.golf_code_layout.specs.Emission.{onto}
use Rattle.golf_code_facts.specs.Statements.{LaidBy}
use Rattle.golf_code_expressions.specs.declared.writer.Draft.{Draft}
use Rattle.golf_code_expressions.specs.declared.writer.Writer.{Writer}
use Rattle.golf_code_statements.specs.declared.targets.Targets.{Targets}

-- the surroundings of the next statement
abbrev pub around : Writer → Targets → Around
around w u = record { breaks = u.breaks; continues = u.continues; functions = w.draft.functions }

-- the surroundings with no targets, for the body of a loop or of a function
abbrev pub apart : Writer → Around
apart w = record { breaks = 0; continues = 0; functions = w.draft.functions }

-- the draft with the code of a statement and the functions to be made for it
abbrev pub with_laid : Draft → Laid → Draft
with_laid d x = record d {
  emitted = onto d.emitted x.piece;
  made = d.made ++ x.made;
  functions = d.functions + length x.made;
}

abbrev pub after : Writer → LaidBy → Writer
after w x = record { facts = x.left; draft = with_laid w.draft x.laid }

-- the code of a statement was added, and the facts after it are left
abbrev pub Lays : {A : Type 0} → Result A Memory → LaidBy → Writer → Writer → Type 0
Lays (Ok a) x old new = new ≡ after old x
Lays (Err e) x old new = Unit {0}
