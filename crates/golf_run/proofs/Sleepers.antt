-- An entry of a list, by its place.
-- For: `write_reached`, src/collection_lines.rt
-- By: induction over the list of entries
use Rattle.std.proofs.Common.{◌≡◌, ℕ, zero, suc, List, [], ◌∷◌, get_or, refl, None}
use Rattle.std.specs.Prelude.{Option, slice_get, unwrap_or}
use Rattle.golf_data.specs.declared.report.Entry.{Entry}

pub at-is : (entries : List (Option Entry)) (k : ℕ) → unwrap_or (slice_get entries k) None ≡ get_or entries k None
at-is [] k = refl
at-is (e ∷ es) zero = refl
at-is (e ∷ es) (suc k) = at-is es k
