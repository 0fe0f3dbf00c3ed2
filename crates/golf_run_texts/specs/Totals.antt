-- The totals of the reports of a run.
use Rattle.std.specs.Prelude.{ℕ, ◌+◌, List, [], ◌∷◌, length}
use Rattle.golf_data.specs.declared.report.Report.{Report}
use Rattle.golf_run_texts.specs.declared.totals.Totals.{Totals}

-- how many goroutines all reports together name
abbrev pub total_reported : List Report → ℕ
total_reported [] = 0
total_reported (r ∷ rs) = length r.reported + total_reported rs

-- how many goroutines all reports together count as removed
abbrev pub total_reclaimed : List Report → ℕ
total_reclaimed [] = 0
total_reclaimed (r ∷ rs) = r.reclaimed + total_reclaimed rs

-- a number of the last report; without a report it is `before`
abbrev pub of_last : (Report → ℕ) → ℕ → List Report → ℕ
of_last number before [] = before
of_last number before (r ∷ rs) = of_last number (number r) rs

abbrev pub totals_of : List Report → Totals
totals_of rs = record {
  collections = length rs;
  reported = total_reported rs;
  kept = of_last (λ r. r.kept) 0 rs;
  reclaimed = total_reclaimed rs;
  objects = of_last (λ r. r.objects) 0 rs;
}
