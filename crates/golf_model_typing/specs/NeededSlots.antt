-- Shapes that ask only for needed slots.
use Rattle.std.specs.Prelude.{◌≡◌, ℕ, ◌+◌, Bool, true, List, [], ◌∷◌, filter}
use Rattle.golf_data.specs.declared.code.Function.{Function}
use Rattle.golf_live.specs.Paths.{Needed}
use Rattle.golf_live.specs.Live.{live as live_of}
use Rattle.golf_model_typing.specs.Types.{Shape, FunctionTypes, Types}
use Rattle.golf_model_typing.specs.Shapes.{FunctionFits, MasksCover}

-- the shape at a position, with only its live slots
abbrev pub only_live : (ℕ → ℕ → Bool) → ℕ → Shape → Shape
only_live live k sh = record { operands = sh.operands; assigned = filter (live k) sh.assigned }

-- the shapes from position k on
abbrev pub live_shapes : (ℕ → ℕ → Bool) → ℕ → List Shape → List Shape
live_shapes live k [] = []
live_shapes live k (sh ∷ shs) = only_live live k sh ∷ live_shapes live (k + 1) shs

abbrev pub live_types : (ℕ → ℕ → Bool) → FunctionTypes → FunctionTypes
live_types live ft = record ft { shapes = live_shapes live 0 ft.shapes }

-- a body that fits shapes fits them if they ask only for needed slots
abbrev pub NeededSlotsSuffice : Type 0
NeededSlotsSuffice =
    (types : Types) (fn : Function) (ft : FunctionTypes) (live : ℕ → ℕ → Bool) → FunctionFits types fn ft
    → ((k slot : ℕ) → live k slot ≡ true → Needed fn.body slot k)
    → ((k slot : ℕ) → Needed fn.body slot k → live k slot ≡ true)
    → FunctionFits types fn (live_types live ft)

-- a body that fits shapes and has its masks fits shapes whose slots all stay under the masks
abbrev pub MaskedFit : Type 0
MaskedFit =
    (types : Types) (fn : Function) (ft : FunctionTypes) → FunctionFits types fn ft → fn.live ≡ live_of fn.slots fn.body
    → (own : List Shape) × FunctionFits types fn (record ft { shapes = own }) × MasksCover fn own
