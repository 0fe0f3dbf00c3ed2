-- Each kind of written type, as an equation.
-- For: `write` (golf_check_types/specs/Written.antt)
-- By: computing, kind by kind; no induction
use Rattle.std.proofs.Common.{◌≡◌, ℕ, List, ap, sym, ◌∙◌}
use Rattle.golf_syntax_trees.specs.declared.types.TypeExpr.{TypeExpr, roll-TypeExpr}
use Rattle.golf_syntax_trees.specs.declared.types.TypeExpr.TheVariants as ty
use Rattle.golf_syntax_trees.specs.declared.types.TypeExpr.TheOpen.{TypeExpr-F}
use Rattle.golf_syntax_trees.specs.declared.types.TypeExpr.TheOpen as F
use Rattle.golf_syntax_trees.specs.declared.types.TypeExpr.TheFolds.{fold-roll-TypeExpr, map-TypeExpr}
use Rattle.golf_check_types.specs.Written.{WriteType, write, write_step}

-- one layer of a type
abbrev pub write_layer : TypeExpr-F TypeExpr → WriteType
write_layer y = write_step (map-TypeExpr TypeExpr WriteType write y)

pub write-rolls : (y : TypeExpr-F TypeExpr) → write (roll-TypeExpr y) ≡ write_layer y
unfolding write
write-rolls = fold-roll-TypeExpr WriteType write_step

pub write-Named : (n : List ℕ) → write (ty.Named n) ≡ write_step (F.Named n)
write-Named n = ap write (sym (ty.rolls-Named n)) ∙ write-rolls (F.Named n)

pub write-Pointer : (n : List ℕ) → write (ty.Pointer n) ≡ write_step (F.Pointer n)
write-Pointer n = ap write (sym (ty.rolls-Pointer n)) ∙ write-rolls (F.Pointer n)

pub write-SyncPointer : (n : List ℕ) → write (ty.SyncPointer n) ≡ write_step (F.SyncPointer n)
write-SyncPointer n = ap write (sym (ty.rolls-SyncPointer n)) ∙ write-rolls (F.SyncPointer n)

pub write-Slice : (e : TypeExpr) → write (ty.Slice e) ≡ write_step (F.Slice (write e))
write-Slice e = ap write (sym (ty.rolls-Slice e)) ∙ write-rolls (F.Slice e)

pub write-Chan : (e : TypeExpr) → write (ty.Chan e) ≡ write_step (F.Chan (write e))
write-Chan e = ap write (sym (ty.rolls-Chan e)) ∙ write-rolls (F.Chan e)

pub write-SendChan : (e : TypeExpr) → write (ty.SendChan e) ≡ write_step (F.SendChan (write e))
write-SendChan e = ap write (sym (ty.rolls-SendChan e)) ∙ write-rolls (F.SendChan e)

pub write-ReceiveChan : (e : TypeExpr) → write (ty.ReceiveChan e) ≡ write_step (F.ReceiveChan (write e))
write-ReceiveChan e = ap write (sym (ty.rolls-ReceiveChan e)) ∙ write-rolls (F.ReceiveChan e)

pub write-EmptyStruct : write ty.EmptyStruct ≡ write_step F.EmptyStruct
write-EmptyStruct = ap write (sym ty.rolls-EmptyStruct) ∙ write-rolls F.EmptyStruct

pub ruleset written_types = (
  write-Named,
  write-Pointer,
  write-SyncPointer,
  write-Slice,
  write-Chan,
  write-SendChan,
  write-ReceiveChan,
  write-EmptyStruct,
)
