-- Lists of flags.
use Rattle.std.specs.Prelude.{◌≡◌, ℕ, Bool, true, false, ◌||◌, List, [], ◌∷◌, map, count_by}
use Rattle.golf_base.specs.declared.ids.GoroutineId.{GoroutineId}
use Rattle.golf_model.specs.declared.graph.GraphParts.{GraphParts}
use Rattle.golf_model.specs.declared.graph.Marked.{Marked}
use Rattle.golf_theory.specs.Flags.{left_out}
use Rattle.golf_final.specs.KeepRule.{HasKept}

-- how many flags are true
abbrev pub count_set : List Bool → ℕ
count_set flags = count_by (λ b. b) flags

-- for each place whether one of the two flags is true
abbrev pub either : List Bool → List Bool → List Bool
either [] ys = []
either (x ∷ xs) [] = []
either (x ∷ xs) (y ∷ ys) = (x || y) ∷ either xs ys

-- with recovery the goroutines of the sleepers that are neither awake nor kept; else none
abbrev pub IsUnkept : Bool → Bool → GraphParts → Marked → List GoroutineId → Type 0
IsUnkept true sets g m gone = (flags : List Bool) × HasKept g m sets flags
    × (gone ≡ left_out (either m.awake flags) (map (λ x. x.goroutine) g.sleepers))
IsUnkept false sets g m gone = gone ≡ []
