-- Blocked goroutines that may be woken.
use Rattle.std.specs.Prelude.{ℕ, List, [], ◌∷◌}
use Rattle.golf_base.specs.declared.ids.GoroutineId.{GoroutineId}

-- a blocked goroutine, the nodes that it waits on, and the nodes that it refers to
pub record Sleeper : Type 0 where
  pub goroutine : GoroutineId
  pub waits : List ℕ
  pub references : List ℕ

-- the sleepers of three lists, place by place
abbrev pub sleepers_of : List GoroutineId → List (List ℕ) → List (List ℕ) → List Sleeper
sleepers_of [] waits references = []
sleepers_of (g ∷ gs) [] references = []
sleepers_of (g ∷ gs) (w ∷ ws) [] = []
sleepers_of (g ∷ gs) (w ∷ ws) (r ∷ rs) = record { goroutine = g; waits = w; references = r } ∷ sleepers_of gs ws rs
