-- The goroutines that the reports of a run name.
use Rattle.std.specs.Prelude.{◌≡◌, ℕ, List, [], ◌∷◌, ◌++◌, map}
use Rattle.golf_data.specs.declared.report.Report.{Report}
use Rattle.golf_model.specs.State.{State}
use Rattle.golf_model.specs.LiveSet.{dead}
use Rattle.golf_model.specs.Reports.{without}

-- the goroutines that a report names
abbrev pub named : Report → List ℕ
named r = map (λ e. e.goroutine.0) r.reported

-- there is one report for each stop; it names, in rising order, the goroutines that are dead right before the stop and
-- that no earlier report named
abbrev pub TellsOfEach : List ℕ → List State → List Report → Type 0
TellsOfEach told [] [] = Unit {0}
TellsOfEach told [] (r ∷ rs) = ⊥
TellsOfEach told (p ∷ ps) [] = ⊥
TellsOfEach told (p ∷ ps) (r ∷ rs) = (named r ≡ without (dead p) told) × TellsOfEach (told ++ named r) ps rs
