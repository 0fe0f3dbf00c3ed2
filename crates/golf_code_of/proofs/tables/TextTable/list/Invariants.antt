use Rattle.std.proofs.Common.{◌≡◌, take}
use Rattle.golf_code_of.proofs.TableLaws.{texts_in}
use Rattle.golf_code_of.proofs.tables.TextTable.list.Given as goal

-- the texts so far
abbrev pub invariant-loop-text : goal.invariant-loop-text
invariant-loop-text l = l.list ≡ texts_in (take l.text-index l.text-items)
