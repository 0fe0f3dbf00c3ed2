-- How sleepers are blocked, one after another.
-- For: `sleeper_entries`, src/explanation.rt
-- By: induction over the list of sleepers
use Rattle.std.proofs.Common.{◌≡◌, ℕ, zero, suc, ◌+◌, List, [], ◌∷◌, ◌++◌, map, take, sym, ap, ◌∙◌, arith}
use Rattle.std.specs.Prelude.{Option, Some, option_map, slice_get}
use Rattle.golf_theory.specs.Maps.{find}
use Rattle.golf_base.specs.declared.ids.GoroutineId.{GoroutineId}
use Rattle.golf_data.specs.declared.report.Entry.{Entry}
use Rattle.golf_model.specs.Sleepers.{Sleeper}
use Rattle.golf_model.specs.State.{State}
use Rattle.golf_model.specs.Reports.{entry_of}

abbrev pub entry_at : State → GoroutineId → Option Entry
entry_at s g = slice_get (entry_of g.0 (find g.0 s.goroutines)) 0

abbrev pub sleeper_entries_among : State → List Sleeper → List (Option Entry)
sleeper_entries_among s xs = map (λ x. entry_at s x.goroutine) xs

more : (s : State) (xs : List Sleeper) (k : ℕ) (g : GoroutineId)
    → option_map (λ x. x.goroutine) (slice_get xs k) ≡ Some g
    → sleeper_entries_among s (take (suc k) xs) ≡ sleeper_entries_among s (take k xs) ++ entry_at s g ∷ []
more s [] k g e = cc
more s (x ∷ xs) zero g e = let is : x.goroutine ≡ g = cc in ap (λ h. entry_at s h ∷ []) is
more s (x ∷ xs) (suc k) g e = ap (λ os. entry_at s x.goroutine ∷ os) (more s xs k g e)

pub sleeper-entries-more : (s : State) (xs : List Sleeper) (k : ℕ) (g : GoroutineId) (old new : List (Option Entry))
    → option_map (λ x. x.goroutine) (slice_get xs k) ≡ Some g → old ≡ sleeper_entries_among s (take k xs) → new ≡ old
    ++ entry_at s g ∷ [] → new ≡ sleeper_entries_among s (take (k + 1) xs)
sleeper-entries-more s xs k g old new e so is =
    let next : suc k ≡ k + 1 = omega arith in
    is ∙ ap (λ os. os ++ entry_at s g ∷ []) so ∙ sym (more s xs k g e)
    ∙ ap (λ n. sleeper_entries_among s (take n xs)) next
