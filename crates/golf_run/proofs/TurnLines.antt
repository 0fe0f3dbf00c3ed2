-- The goroutines that can run, and those that a turn woke.
-- For: `runnable`, `woken`, `Before::line`, src/turn_lines.rt; `woken`, specs/TurnLines.antt
-- By: cases of whether one more is woken; for the first items, induction over their number
use Rattle.std.proofs.Common.{◌≡◌, ℕ, zero, suc, ◌+◌, Bool, true, false, cond, List, [], ◌∷◌, ◌++◌, map, filter, take}
use Rattle.std.proofs.Common.{slice_get, Some}
use Rattle.std.proofs.Common.{refl, sym, ap, subst, ◌∙◌, append-nil, arith}
use Rattle.std.specs.Prelude.{codes}
use Rattle.std.specs.List.Sorted.{IsNonDecreasingBy}
use Rattle.std.proofs.lemmas.List.{map-append}
use Rattle.std.proofs.lemmas.List.Elements.{filter-append}
use Rattle.golf_base.specs.declared.ids.GoroutineId.{GoroutineId}
use Rattle.golf_data.specs.declared.code.Code.{Code}
use Rattle.golf_theory.specs.Maps.{IsRising, find}
use Rattle.golf_model.specs.State.{State, runnable, can_run}
use Rattle.golf_model.specs.Turn.{step}
use Rattle.golf_state_goroutines.specs.RisingLists.{RisesFrom}
use Rattle.golf_state_goroutines.proofs.Rises.{Rises-keys_where, sorted}
use Rattle.golf_run.specs.declared.turn_lines.Before.{Before}
use Rattle.golf_run.specs.Before.{IsBefore}
use Rattle.golf_run.specs.TurnLines.{starts_text, rests_text, woken, wakes_text, runner_text, line_by, turn_text}

abbrev pub numbers : List GoroutineId → List ℕ
numbers gs = map (λ (g : GoroutineId). g.0) gs

-- the first items and one more
take-suc-next : (xs : List ℕ) (i x : ℕ) → slice_get xs i ≡ Some x → take (suc i) xs ≡ take i xs ++ x ∷ []
take-suc-next [] i x h = cc
take-suc-next (y ∷ xs) zero x h = let e : y ≡ x = cc in ap (λ z. z ∷ []) e
take-suc-next (y ∷ xs) (suc i) x h = ap (λ t. y ∷ t) (take-suc-next xs i x h)

take-next : (xs : List ℕ) (i x : ℕ) → slice_get xs i ≡ Some x → take (i + 1) xs ≡ take i xs ++ x ∷ []
take-next xs i x h = let one : i + 1 ≡ suc i = omega arith in ap (λ k. take k xs) one ∙ take-suc-next xs i x h

-- one more of those that can run
pub one-runnable : (gs : List GoroutineId) (xs : List ℕ) (i : ℕ) (g : GoroutineId) → numbers gs ≡ take i xs
    → slice_get xs i ≡ Some g.0 → numbers (gs ++ g ∷ []) ≡ take (i + 1) xs
one-runnable gs xs i g so at = map-append (λ (g : GoroutineId). g.0) gs (g ∷ [])
    ∙ ap (λ ns. ns ++ g.0 ∷ []) so ∙ sym (take-next xs i g.0 at)

-- they rise
pub runnable-rise : (s : State) (gs : List GoroutineId) → numbers gs ≡ runnable s → IsRising s.goroutines
    → IsNonDecreasingBy (λ (g : GoroutineId). g.0) gs
runnable-rise s gs are rises =
    sorted 0 gs (subst (RisesFrom 0) (sym are) (Rises-keys_where (can_run s.queue) 0 s.goroutines rises))

module _ (p : ℕ → Bool) (gs : List GoroutineId) (xs : List ℕ) (i : ℕ) (g : GoroutineId)
    (so : numbers gs ≡ filter p (take i xs)) (at : slice_get xs i ≡ Some g.0) where
  next : filter p (take (i + 1) xs) ≡ filter p (take i xs) ++ cond (p g.0) (g.0 ∷ []) []
  next = ap (filter p) (take-next xs i g.0 at) ∙ filter-append p (take i xs) (g.0 ∷ [])

  -- it was woken
  pub one-woken : p g.0 ≡ true → numbers (gs ++ g ∷ []) ≡ filter p (take (i + 1) xs)
  one-woken is = map-append (λ (g : GoroutineId). g.0) gs (g ∷ []) ∙ ap (λ ns. ns ++ g.0 ∷ []) so
      ∙ ap (λ b. filter p (take i xs) ++ cond b (g.0 ∷ []) []) (sym is) ∙ sym next

  -- it was not
  pub none-woken : p g.0 ≡ false → numbers gs ≡ filter p (take (i + 1) xs)
  none-woken is = so ∙ sym (append-nil (filter p (take i xs)))
      ∙ ap (λ b. filter p (take i xs) ++ cond b (g.0 ∷ []) []) (sym is) ∙ sym next

-- the line that was made of what was read before the turn and after it
pub told-line : (count : ℕ) (code : Code) (old new : State) (number : ℕ) (b : Before) → IsBefore code old number b
    → new ≡ step code old number → (line : List ℕ)
    → line ≡ (((runner_text count b.runner.0 b.line ++ starts_text b.next new.next_goroutine)
    ++ rests_text (find b.runner.0 new.goroutines)) ++ wakes_text (woken (numbers b.runnable) b.next new)) ++ codes "\n"
    → line ≡ turn_text count code old number
told-line count code old new number b h is line l =
    l ∙ (λ i. (((runner_text count b.runner.0 (h.line i) ++ starts_text (h.next i) (is i).next_goroutine)
    ++ rests_text (find b.runner.0 (is i).goroutines)) ++ wakes_text (woken (h.runnable_then i) (h.next i) (is i)))
    ++ codes "\n") ∙ sym (ap (line_by count code old (step code old number)) h.runner)
