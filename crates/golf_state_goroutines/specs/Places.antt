-- How the goroutines in memory map to the model: goroutine views by number.
use Rattle.std.specs.Prelude.{ℕ, Bool, false, not, ◌==◌, ◌&&◌, List, [], ◌∷◌, map}
use Rattle.golf_theory.specs.Maps.{keys_where}
use Rattle.golf_data.specs.declared.goroutine.Goroutine.{Goroutine}
use Rattle.golf_model.specs.Views.{GoroutineView, goroutine_view}
use Rattle.golf_model.specs.State.{is_running, not_empty}

abbrev pub plain_entry : ℕ × Goroutine → ℕ × GoroutineView
plain_entry p = (p.0, goroutine_view p.1)

-- the goroutines by number
abbrev pub plain_entries : List (ℕ × Goroutine) → List (ℕ × GoroutineView)
plain_entries ps = map plain_entry ps

-- the numbers of the goroutines that are not blocked, in rising order
abbrev pub running_of : List (ℕ × GoroutineView) → List ℕ
running_of gs = keys_where (λ g r. is_running r.mode) gs

-- the goroutine runs, and has no frame
abbrev pub is_idle : GoroutineView → Bool
is_idle r = is_running r.mode && not (not_empty r.frames)

-- the first one is goroutine 0, and idle
abbrev pub starts_idle : List (ℕ × GoroutineView) → Bool
starts_idle [] = false
starts_idle (e ∷ es) = (e.0 == 0) && is_idle e.1
