-- Two maps that agree outside a set of keys.
use Rattle.std.specs.Prelude.{ℕ, List}
use Rattle.golf_theory.specs.Maps.{Entry}

-- each map has the entries of the other whose keys are outside the set
pub record AgreeOutside {X : Type 0} (P : ℕ → Type 0) (es fs : List (ℕ × X)) : Type 0 where
  pub there : (k : ℕ) (x : X) → (P k → ⊥) → Entry es k x → Entry fs k x
  pub back : (k : ℕ) (x : X) → (P k → ⊥) → Entry fs k x → Entry es k x
