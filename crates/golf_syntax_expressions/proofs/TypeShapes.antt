-- What each kind of type prints, and its form; and the induction over types that this gives.
-- For: `print_type` and `type_form`, golf_syntax_trees/specs/Types.antt.
-- By: computing; `each` is induction over the tree of a type.
use Rattle.std.proofs.Common.{◌≡◌, ℕ, List, ap, sym, subst, ◌∙◌}
use Rattle.golf_syntax_trees.specs.declared.types.TypeExpr.{TypeExpr, roll-TypeExpr}
use Rattle.golf_syntax_trees.specs.declared.types.TypeExpr.TheVariants.{Named, rolls-Named, Pointer, rolls-Pointer}
use Rattle.golf_syntax_trees.specs.declared.types.TypeExpr.TheVariants.{SyncPointer, rolls-SyncPointer, Slice}
use Rattle.golf_syntax_trees.specs.declared.types.TypeExpr.TheVariants.{rolls-Slice, Chan, rolls-Chan, SendChan}
use Rattle.golf_syntax_trees.specs.declared.types.TypeExpr.TheVariants.{rolls-SendChan, ReceiveChan, rolls-ReceiveChan}
use Rattle.golf_syntax_trees.specs.declared.types.TypeExpr.TheVariants.{EmptyStruct, rolls-EmptyStruct}
use Rattle.golf_syntax_trees.specs.declared.types.TypeExpr.TheOpen.{TypeExpr-F}
use Rattle.golf_syntax_trees.specs.declared.types.TypeExpr.TheOpen as F
use Rattle.golf_syntax_trees.specs.declared.types.TypeExpr.TheFolds.{fold-roll-TypeExpr, ind-TypeExpr, map-TypeExpr}
use Rattle.golf_syntax_trees.specs.Words.{Word}
use Rattle.golf_syntax_trees.specs.Types.{print_type_step, print_type, TypeForm, type_form_step, type_form}

pub print-Named : (n : List ℕ) → print_type (Named n) ≡ print_type_step (F.Named n)
print-Named n = ap print_type (sym (rolls-Named n)) ∙ fold-roll-TypeExpr (List Word) print_type_step (F.Named n)

pub form-Named : (n : List ℕ) → type_form (Named n) ≡ type_form_step (F.Named n)
form-Named n = ap type_form (sym (rolls-Named n)) ∙ fold-roll-TypeExpr TypeForm type_form_step (F.Named n)

pub print-Pointer : (n : List ℕ) → print_type (Pointer n) ≡ print_type_step (F.Pointer n)
print-Pointer n = ap print_type (sym (rolls-Pointer n)) ∙ fold-roll-TypeExpr (List Word) print_type_step (F.Pointer n)

pub form-Pointer : (n : List ℕ) → type_form (Pointer n) ≡ type_form_step (F.Pointer n)
form-Pointer n = ap type_form (sym (rolls-Pointer n)) ∙ fold-roll-TypeExpr TypeForm type_form_step (F.Pointer n)

pub print-SyncPointer : (n : List ℕ) → print_type (SyncPointer n) ≡ print_type_step (F.SyncPointer n)
print-SyncPointer n = ap print_type (sym (rolls-SyncPointer n))
    ∙ fold-roll-TypeExpr (List Word) print_type_step (F.SyncPointer n)

pub form-SyncPointer : (n : List ℕ) → type_form (SyncPointer n) ≡ type_form_step (F.SyncPointer n)
form-SyncPointer n = ap type_form (sym (rolls-SyncPointer n))
    ∙ fold-roll-TypeExpr TypeForm type_form_step (F.SyncPointer n)

pub print-Slice : (t : TypeExpr) → print_type (Slice t) ≡ print_type_step (F.Slice (print_type t))
print-Slice t = ap print_type (sym (rolls-Slice t)) ∙ fold-roll-TypeExpr (List Word) print_type_step (F.Slice t)

pub form-Slice : (t : TypeExpr) → type_form (Slice t) ≡ type_form_step (F.Slice (type_form t))
form-Slice t = ap type_form (sym (rolls-Slice t)) ∙ fold-roll-TypeExpr TypeForm type_form_step (F.Slice t)

pub print-Chan : (t : TypeExpr) → print_type (Chan t) ≡ print_type_step (F.Chan (print_type t))
print-Chan t = ap print_type (sym (rolls-Chan t)) ∙ fold-roll-TypeExpr (List Word) print_type_step (F.Chan t)

pub form-Chan : (t : TypeExpr) → type_form (Chan t) ≡ type_form_step (F.Chan (type_form t))
form-Chan t = ap type_form (sym (rolls-Chan t)) ∙ fold-roll-TypeExpr TypeForm type_form_step (F.Chan t)

pub print-SendChan : (t : TypeExpr) → print_type (SendChan t) ≡ print_type_step (F.SendChan (print_type t))
print-SendChan t = ap print_type (sym (rolls-SendChan t))
    ∙ fold-roll-TypeExpr (List Word) print_type_step (F.SendChan t)

pub form-SendChan : (t : TypeExpr) → type_form (SendChan t) ≡ type_form_step (F.SendChan (type_form t))
form-SendChan t = ap type_form (sym (rolls-SendChan t)) ∙ fold-roll-TypeExpr TypeForm type_form_step (F.SendChan t)

pub print-ReceiveChan : (t : TypeExpr) → print_type (ReceiveChan t) ≡ print_type_step (F.ReceiveChan (print_type t))
print-ReceiveChan t = ap print_type (sym (rolls-ReceiveChan t))
    ∙ fold-roll-TypeExpr (List Word) print_type_step (F.ReceiveChan t)

pub form-ReceiveChan : (t : TypeExpr) → type_form (ReceiveChan t) ≡ type_form_step (F.ReceiveChan (type_form t))
form-ReceiveChan t = ap type_form (sym (rolls-ReceiveChan t))
    ∙ fold-roll-TypeExpr TypeForm type_form_step (F.ReceiveChan t)

pub print-EmptyStruct : print_type EmptyStruct ≡ print_type_step F.EmptyStruct
print-EmptyStruct = ap print_type (sym rolls-EmptyStruct) ∙ fold-roll-TypeExpr (List Word) print_type_step F.EmptyStruct

pub form-EmptyStruct : type_form EmptyStruct ≡ type_form_step F.EmptyStruct
form-EmptyStruct = ap type_form (sym rolls-EmptyStruct) ∙ fold-roll-TypeExpr TypeForm type_form_step F.EmptyStruct

-- an induction over types, by their kinds
module _ (P : TypeExpr → Type 0)
    (on_Named : (n : List ℕ) → P (Named n))
    (on_Pointer : (n : List ℕ) → P (Pointer n))
    (on_SyncPointer : (n : List ℕ) → P (SyncPointer n))
    (on_Slice : (t : TypeExpr) → P t → P (Slice t))
    (on_Chan : (t : TypeExpr) → P t → P (Chan t))
    (on_SendChan : (t : TypeExpr) → P t → P (SendChan t))
    (on_ReceiveChan : (t : TypeExpr) → P t → P (ReceiveChan t))
    (on_EmptyStruct : P EmptyStruct) where
  at : (y : TypeExpr-F ((e : TypeExpr) × P e))
      → P (roll-TypeExpr (map-TypeExpr ((e : TypeExpr) × P e) TypeExpr (λ p. p.0) y))
  at (F.Named n) = subst P (sym (rolls-Named n)) (on_Named n)
  at (F.Pointer n) = subst P (sym (rolls-Pointer n)) (on_Pointer n)
  at (F.SyncPointer n) = subst P (sym (rolls-SyncPointer n)) (on_SyncPointer n)
  at (F.Slice t) = subst P (sym (rolls-Slice t.0)) (on_Slice t.0 t.1)
  at (F.Chan t) = subst P (sym (rolls-Chan t.0)) (on_Chan t.0 t.1)
  at (F.SendChan t) = subst P (sym (rolls-SendChan t.0)) (on_SendChan t.0 t.1)
  at (F.ReceiveChan t) = subst P (sym (rolls-ReceiveChan t.0)) (on_ReceiveChan t.0 t.1)
  at F.EmptyStruct = subst P (sym rolls-EmptyStruct) on_EmptyStruct

  pub each : (e : TypeExpr) → P e
  each = ind-TypeExpr P (λ x y is. subst (λ z. P (roll-TypeExpr z)) is (at y))
