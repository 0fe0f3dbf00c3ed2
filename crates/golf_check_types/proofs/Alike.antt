-- Written types are the same if names mean the same structs.
-- For: `write`, specs/Written.antt; `result_type` and `all_typed_names`, specs/Files.antt
-- By: induction over the tree of a written type, and over the list of fields
use Rattle.std.proofs.Common.{◌≡◌, ℕ, List, [], ◌∷◌, ◌++◌, map, Option, Some, None, refl, sym, ap, ◌∙◌, subst}
use Rattle.std.specs.Option.{option_map}
use Rattle.golf_syntax_trees.specs.declared.types.TypeExpr.{TypeExpr, roll-TypeExpr}
use Rattle.golf_syntax_trees.specs.declared.types.TypeExpr.TheOpen as F
use Rattle.golf_syntax_trees.specs.declared.types.TypeExpr.TheFolds.{fold-roll-TypeExpr, map-TypeExpr}
use Rattle.golf_syntax_trees.proofs.TypeInduction.{TypeLayer, bare_type, every-type}
use Rattle.golf_syntax_trees.specs.declared.declarations.Field.{Field}
use Rattle.golf_check_types.specs.declared.types.Layer.TheVariants as layer
use Rattle.golf_check_types.specs.declared.types.GoType.{GoType}
use Rattle.golf_check_types.specs.declared.operands.Operand.{Operand}
use Rattle.golf_check_types.specs.declared.operands.Signature.{Signature}
use Rattle.golf_check_types.specs.declared.scopes.Entity.{Entity}
use Rattle.golf_check_types.specs.declared.scopes.Entity.TheVariants as meant
use Rattle.golf_check_types.specs.declared.scopes.FileScope.{FileScope}
use Rattle.golf_check_types.specs.declared.scopes.Scope.{Scope}
use Rattle.golf_check_types.specs.Types.{plain, with_layer}
use Rattle.golf_check_types.specs.Scopes.{or_else, entry_operand, meaning_in, predeclared, meaning}
use Rattle.golf_check_types.specs.Written.{WriteType, write, write_step, of_base, of_sync, sync_base, behind_layer}
use Rattle.golf_check_types.specs.Written.{pointer_to}
use Rattle.golf_check_types.specs.Files.{outside, field_names, typed_names, all_typed_names, result_type}

module _ (s u : Scope) (pointers : (n : List ℕ) → pointer_to (meaning s n) ≡ pointer_to (meaning u n)) where
  abbrev P : TypeExpr → Type 0
  P x = (l k : ℕ) → (write x l s).type ≡ (write x k u).type

  at : (y : TypeLayer P) (l k : ℕ) → (write_step (map-TypeExpr TypeExpr WriteType write (bare_type P y)) l s).type ≡
      (write_step (map-TypeExpr TypeExpr WriteType write (bare_type P y)) k u).type
  at (F.Named n) l k = refl
  at (F.Pointer n) l k = ap (option_map plain) (pointers n)
  at (F.SyncPointer n) l k = refl
  at (F.Slice x) l k = ap (with_layer layer.Slice) (x.1 l k)
  at (F.Chan x) l k = ap (with_layer layer.Chan) (x.1 l k)
  at (F.SendChan x) l k = ap (with_layer layer.SendChan) (x.1 l k)
  at (F.ReceiveChan x) l k = ap (with_layer layer.ReceiveChan) (x.1 l k)
  at F.EmptyStruct l k = refl

  rolled : (y : TypeLayer P) → P (roll-TypeExpr (bare_type P y))
  unfolding write
  rolled y l k = subst (λ (w : WriteType). (w l s).type ≡ (w k u).type)
      (sym (fold-roll-TypeExpr WriteType write_step (bare_type P y))) (at y l k)

  pub written-alike : (x : TypeExpr) → P x
  written-alike = every-type P rolled

  abbrev named : Option GoType → List ℕ → List ℕ × Option GoType
  named o n = (n, o)

  names-alike : (f : Field) (ns : List (List ℕ))
      → map (named (write f.of_type 0 s).type) ns ≡ map (named (write f.of_type 0 u).type) ns
  names-alike f ns = ap (λ (o : Option GoType). map (named o) ns) (written-alike f.of_type 0 0)

  pub fields-alike : (fs : List Field) → all_typed_names s fs ≡ all_typed_names u fs
  fields-alike [] = refl
  fields-alike (f ∷ fs) = ap (λ ps. ps ++ all_typed_names s fs) (names-alike f (field_names f))
      ∙ ap (λ ps. typed_names u f ++ ps) (fields-alike fs)

  pub result-alike : (o : Option TypeExpr) → result_type s o ≡ result_type u o
  result-alike None = refl
  result-alike (Some x) = written-alike x 0 0

-- if package sync is imported alike, they break the same rules
module _ (s u : Scope) (pointers : (n : List ℕ) → pointer_to (meaning s n) ≡ pointer_to (meaning u n))
    (sync : s.file.imports.sync ≡ u.file.imports.sync) where
  abbrev R : TypeExpr → Type 0
  R x = (l : ℕ) → write x l s ≡ write x l u

  whole : (y : TypeLayer R) (l : ℕ) → write_step (map-TypeExpr TypeExpr WriteType write (bare_type R y)) l s
      ≡ write_step
      (map-TypeExpr TypeExpr WriteType write (bare_type R y)) l u
  whole (F.Named n) l = refl
  whole (F.Pointer n) l = ap (of_base l) (pointers n)
  whole (F.SyncPointer n) l = ap (λ b. of_sync l b (sync_base n)) sync
  whole (F.Slice x) l = ap (behind_layer layer.Slice) (x.1 l)
  whole (F.Chan x) l = ap (behind_layer layer.Chan) (x.1 l)
  whole (F.SendChan x) l = ap (behind_layer layer.SendChan) (x.1 l)
  whole (F.ReceiveChan x) l = ap (behind_layer layer.ReceiveChan) (x.1 l)
  whole F.EmptyStruct l = refl

  whole-rolled : (y : TypeLayer R) → R (roll-TypeExpr (bare_type R y))
  unfolding write
  whole-rolled y l = subst (λ (w : WriteType). w l s ≡ w l u)
      (sym (fold-roll-TypeExpr WriteType write_step (bare_type R y)))
      (whole y l)

  pub written-same : (x : TypeExpr) → R x
  written-same = every-type R whole-rolled

-- the names of two files that differ in types alone

pointer-alike : (f g : FileScope) (o : Option Entity) (rest : Option Operand)
    → pointer_to (or_else (option_map (entry_operand f) o) rest) ≡ pointer_to
    (or_else (option_map (entry_operand g) o) rest)
pointer-alike f g None rest = refl
pointer-alike f g (Some (meant.Constant k b)) rest = refl
pointer-alike f g (Some (meant.Global k)) rest = refl
pointer-alike f g (Some (meant.Struct k)) rest = refl
pointer-alike f g (Some (meant.Function k)) rest = refl

pub pointers-alike : (f : FileScope) (fields : List (List (Option GoType))) (globals : List (Option GoType))
    (functions : List Signature) (o : Option ℕ) (n : List ℕ)
    → pointer_to (meaning (record (outside
    (record f { fields = fields; globals = globals; functions = functions })) { initialises = o }) n) ≡ pointer_to
    (meaning (outside f) n)
unfolding meaning
pointers-alike f fields globals functions o n =
    pointer-alike (record f { fields = fields; globals = globals; functions = functions }) f (meaning_in f n)
    (predeclared f.imports n)
