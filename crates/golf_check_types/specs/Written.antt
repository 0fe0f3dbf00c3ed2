-- Written types (Go specification, "Types"; rules 3 and 4).
use Rattle.std.specs.Prelude.{ℕ, Bool, cond, is_some, List, ◌++◌, Option, Some, None, codes}
use Rattle.std.specs.Option.{option_map}
use Rattle.std.specs.Str.{bytes_eq}
use Rattle.golf_syntax_trees.specs.declared.types.TypeExpr.{TypeExpr}
use Rattle.golf_syntax_trees.specs.declared.types.TypeExpr.TheOpen.{TypeExpr-F, Named, Pointer, SyncPointer, Slice}
use Rattle.golf_syntax_trees.specs.declared.types.TypeExpr.TheOpen.{Chan, SendChan, ReceiveChan, EmptyStruct}
use Rattle.golf_syntax_trees.specs.declared.types.TypeExpr.TheFolds.{fold-TypeExpr}
use Rattle.golf_check_types.specs.declared.rules.TheConstants.{UNKNOWN_NAME, UNKNOWN_TYPE}
use Rattle.golf_check_types.specs.declared.types.Layer.{Layer}
use Rattle.golf_check_types.specs.declared.types.Layer.TheVariants as layer
use Rattle.golf_check_types.specs.declared.types.Base.{Base}
use Rattle.golf_check_types.specs.declared.types.Base.TheVariants as base
use Rattle.golf_check_types.specs.declared.types.GoType.{GoType}
use Rattle.golf_check_types.specs.declared.operands.Operand.{Operand}
use Rattle.golf_check_types.specs.declared.operands.Operand.TheVariants as operand
use Rattle.golf_check_types.specs.declared.scopes.Scope.{Scope}
use Rattle.golf_check_types.specs.Faults.{Fault, broken}
use Rattle.golf_check_types.specs.Types.{plain, with_layer}
use Rattle.golf_check_types.specs.Scopes.{meaning}

-- `int`, `bool` and `string`
unfoldable pub named_base : List ℕ → Option Base
named_base n =
    cond (bytes_eq n (codes "int")) (Some base.Int)
    (cond (bytes_eq n (codes "bool")) (Some base.Bool)
    (cond (bytes_eq n (codes "string")) (Some base.Text) None))

-- the types of package sync that `new` makes
unfoldable pub made_base : List ℕ → Option Base
made_base n =
    cond (bytes_eq n (codes "Mutex")) (Some base.Mutex)
    (cond (bytes_eq n (codes "WaitGroup")) (Some base.Group)
    (cond (bytes_eq n (codes "RWMutex")) (Some base.ReadWriteMutex) None))

-- the types of package sync
unfoldable pub sync_base : List ℕ → Option Base
sync_base n = cond (bytes_eq n (codes "Cond")) (Some base.Condition) (made_base n)

-- a pointer to a struct of the file
abbrev pub pointer_to : Option Operand → Option Base
pointer_to (Some (operand.Struct k)) = Some (base.Pointer k)
pointer_to _ = None

-- a written type, if the language has it, and the rules that it breaks
pub record Written : Type 0 where
  pub type : Option GoType
  pub faults : List Fault

abbrev pub of_base : ℕ → Option Base → Written
of_base l b = record { type = option_map plain b; faults = broken l UNKNOWN_TYPE (is_some b) }

-- Package sync must be imported.
abbrev pub of_sync : ℕ → Bool → Option Base → Written
of_sync l imported b = record {
  type = option_map plain b;
  faults = broken l UNKNOWN_NAME imported
      ++ broken l UNKNOWN_TYPE (is_some b);
}

abbrev pub behind_layer : Layer → Written → Written
behind_layer x t = record { type = with_layer x t.type; faults = t.faults }

abbrev pub WriteType : Type 0
WriteType = ℕ → Scope → Written

abbrev pub write_step : TypeExpr-F WriteType → WriteType
write_step (Named n) l s = of_base l (named_base n)
write_step (Pointer n) l s = of_base l (pointer_to (meaning s n))
write_step (SyncPointer n) l s = of_sync l s.file.imports.sync (sync_base n)
write_step (Slice t) l s = behind_layer layer.Slice (t l s)
write_step (Chan t) l s = behind_layer layer.Chan (t l s)
write_step (SendChan t) l s = behind_layer layer.SendChan (t l s)
write_step (ReceiveChan t) l s = behind_layer layer.ReceiveChan (t l s)
write_step EmptyStruct l s = of_base l (Some base.Unit)

unfoldable pub write : TypeExpr → WriteType
write = fold-TypeExpr WriteType write_step

abbrev pub write_at : ℕ → Scope → TypeExpr → Written
write_at l s t = write t l s
