-- Written numbers with a collection after the last one.
-- For: `choices_then_collect`, src/laws.rt; `turns_from`, specs/Events.antt
-- By: induction over the list of numbers
use Rattle.std.proofs.Common.{◌≡◌, ℕ, suc, ◌+◌, ◌*◌, ◌%◌, ◌<◌, ◌==◌, ◌&&◌, true, false, not, List, [], ◌∷◌, ◌++◌}
use Rattle.std.proofs.Common.{length, Some, sym, ap, ◌∙◌, arith}
use Rattle.std.proofs.lemmas.Bool.{eq-eqb, ne_eqb}
use Rattle.std.proofs.lemmas.List.{take_all}
use Rattle.std.proofs.lemmas.Nat.{mod-mul-add}
use Rattle.std.proofs.Math.Nat.{mod-eq_of_lt}
use Rattle.golf_model.specs.Runs.{Event}
use Rattle.golf_run_schedules.specs.Events.{is_due, collection_if, turns_from}
use Rattle.golf_run_schedules.specs.Laws.{turns_then_collect, ChoicesThenCollect}

-- a collection is due after each turn that a number from 1 on divides
due-by : (n k : ℕ) → is_due (Some (suc n)) k ≡ (k % suc n == 0)
due-by n k = ap (λ b. not b && k % suc n == 0) (ne_eqb (suc n) 0 (λ e. absurd (omega (arith, e))))

-- so it is due after the last of so many turns, and after none before it
last-due : (n : ℕ) → is_due (Some (suc n)) (suc n) ≡ true
last-due n =
    let once : 1 * suc n + 0 ≡ suc n = omega arith in
    due-by n (suc n) ∙ eq-eqb (suc n % suc n) 0 (ap (λ k. k % suc n) (sym once) ∙ mod-mul-add 1 (suc n) 0 (omega arith))

none-due : (n k : ℕ) → k < n → is_due (Some (suc n)) (suc k) ≡ false
none-due n k l =
    let same : suc k % suc n ≡ suc k = mod-eq_of_lt (omega (arith, l)) in
    due-by n (suc k) ∙ ne_eqb (suc k % suc n) 0 (λ e. absurd (omega (arith, e, same)))

-- from the k-th turn on
from-turn : (n k : ℕ) (c : ℕ) (cs : List ℕ) → k + length cs ≡ n
    → turns_from (Some (suc n)) (suc k) (c ∷ cs) ≡ turns_then_collect (c ∷ cs)
from-turn n k c [] e =
    let same : k ≡ n = omega (arith, e) in
    ap (λ j. Event.Turn c ∷ (collection_if (is_due (Some (suc n)) (suc j)) ++ [])) same
    ∙ ap (λ b. Event.Turn c ∷ (collection_if b ++ [])) (last-due n)
from-turn n k c (d ∷ ds) e =
    let one : suc k + 1 ≡ suc (suc k) = omega arith in
    ap (λ b. Event.Turn c ∷ (collection_if b ++ turns_from (Some (suc n)) (suc k + 1) (d ∷ ds)))
    (none-due n k (omega (arith, e)))
    ∙ ap (λ j. Event.Turn c ∷ turns_from (Some (suc n)) j (d ∷ ds)) one
    ∙ ap (λ es. Event.Turn c ∷ es) (from-turn n (suc k) d ds (omega (arith, e)))

pub then-collect : ChoicesThenCollect
then-collect [] turns some few = absurd (omega (arith, some))
then-collect (c ∷ cs) turns some few =
    ap (λ ns. turns_from (Some (suc (length cs))) 1 ns) (take_all turns (c ∷ cs) few)
    ∙ from-turn (length cs) 0 c cs (omega arith)
