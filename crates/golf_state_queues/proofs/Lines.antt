-- Lists whose first items are skipped.
-- For: `move_up`, src/line.rt, and `drop_gone` and `narrow`, src/holders.rt
-- By: induction over how many are skipped
use Rattle.std.proofs.Common.{◌≡◌, ℕ, zero, suc, ◌+◌, ◌≤◌, Bool, cond, List, [], ◌∷◌, drop, filter, length, ap, ◌∙◌, subst, arith}
use Rattle.std.specs.Prelude.{remove}
use Rattle.std.specs.List.Retain.{RetainsInTurn}
use Rattle.golf_state_queues.specs.declared.holders.TicketHolder.{TicketHolder}

-- one of the others is gone
pub drop-remove : {X : Type 0} (g i n : ℕ) (xs : List X) → n ≡ g + i → n ≤ length xs
    → drop g (remove xs n) ≡ remove (drop g xs) i
drop-remove zero i n xs e h = let same : n ≡ i = omega (arith, e) in ap (λ m. remove xs m) same
drop-remove (suc g) i n [] e h = absurd (omega (arith, e, h))
drop-remove (suc g) i zero (x ∷ xs) e h = absurd (omega (arith, e))
drop-remove (suc g) i (suc m) (x ∷ xs) e h = drop-remove g i m xs (omega (arith, e)) (omega (arith, h))

-- where no call changes the closure or an entry, `retain` leaves the entries that pass the test
pub filter_of_retain : {F : Type 0} (R : F → TicketHolder → Bool → F → TicketHolder → Type 0)
    (test : TicketHolder → Bool) (f : F) → ((x : TicketHolder) (b : Bool) (g : F) (y : TicketHolder) → R f x b g y
    → (b ≡ test x) × (g ≡ f) × (y ≡ x)) → (xs ys : List TicketHolder) → RetainsInTurn R f xs ys → ys ≡ filter test xs
filter_of_retain R test f says [] ys h = h
filter_of_retain R test f says (x ∷ xs) ys h =
    let said = says x h.0 h.1 h.2 h.3 in
    let later = subst (λ g. RetainsInTurn R g xs h.4) said.1 h.5 in
    let rest = filter_of_retain R test f says xs h.4 later in
    h.6 ∙ (λ i. cond (said.0 i) (said.2 i ∷ rest i) (rest i))
