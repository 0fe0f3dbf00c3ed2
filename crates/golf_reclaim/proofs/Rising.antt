-- Those who are removed rise in number.
-- For: `is_among` (golf_snapshot/src/among.rt), which a collection calls
-- By: the laws of filtered lists that rise; no induction
use Rattle.std.proofs.Common.{◌≡◌, ℕ, Bool, true, false, not, List, [], filter, map, sym, ap, subst, ◌∙◌, arith}
use Rattle.std.specs.List.Sorted.{IsNonDecreasingBy}
use Rattle.std.proofs.lemmas.List.Kept.{IsNonDecreasingBy-filter}
use Rattle.golf_base.specs.declared.ids.GoroutineId.{GoroutineId}
use Rattle.golf_theory.specs.Maps.{IsRising}
use Rattle.golf_state_goroutines.specs.RisingLists.{RisesFrom}
use Rattle.golf_state_goroutines.proofs.Rises.{Rises-keys_where, sorted}
use Rattle.golf_model.specs.State.{State}
use Rattle.golf_model.specs.LiveSet.{is_dead, live_list, dead}
use Rattle.golf_model.specs.Collections.{keeps, removed}
use Rattle.golf_model.specs.Reports.{numbers}
use Rattle.golf_reclaim.proofs.Entries.{numbers-ids}
use Rattle.golf_reclaim.proofs.Flags.{map-filter-swap}

by-numbers : (gs hs : List GoroutineId) → numbers gs ≡ numbers hs → gs ≡ hs
by-numbers gs hs e = rw (numbers-ids gs, numbers-ids hs) at
    (ap (map (λ (n : ℕ). let g : GoroutineId = record { 0 = n } in g)) e)

module _ (s : State) (rises : IsRising s.goroutines) (found gone : List GoroutineId)
    (are : numbers found ≡ dead s) where
  pub gone-rise : (recover sets : Bool) → numbers gone ≡ removed s recover sets
      → IsNonDecreasingBy (λ (g : GoroutineId). g.0) gone
  gone-rise true sets out =
      let stays : ℕ → Bool = λ g. not (keeps s sets g) in
      let same : gone ≡ filter (λ (g : GoroutineId). stays g.0) found =
      by-numbers gone (filter (λ (g : GoroutineId). stays g.0) found)
      (out ∙ ap (filter stays) (sym are) ∙ map-filter-swap (λ (g : GoroutineId). g.0) stays found) in
      subst (IsNonDecreasingBy (λ (g : GoroutineId). g.0)) (sym same)
      (IsNonDecreasingBy-filter (λ (g : GoroutineId). g.0) (λ (g : GoroutineId). stays g.0) found
      (sorted 0 found (subst (RisesFrom 0) (sym are) (Rises-keys_where (is_dead (live_list s)) 0 s.goroutines rises))))
  gone-rise false sets out = subst (IsNonDecreasingBy (λ (g : GoroutineId). g.0)) (sym (by-numbers gone [] out))
      (λ i j d le l. absurd (omega arith))
