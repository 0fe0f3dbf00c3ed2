-- The look for the first waiter.
-- For: `first` (golf_model/specs/Waiters.antt) and `wait_for`, `first_waiter` (src/waiters.rt)
-- By: cases of the next wait or place, for each turn of the loop; no induction
use Rattle.std.proofs.Common.{◌≡◌, ℕ, ◌+◌, ◌<◌, ◌≤◌, true, false, cond, ◌&&◌, List, [], ◌∷◌, ◌++◌, Option, Some, None}
use Rattle.std.proofs.Common.{length, drop, get_or, ◌==◌, refl, sym, ap, ◌∙◌, arith, drop_of_length-le, inl}
use Rattle.std.specs.Prelude.{option_map, nat_lt, IfSome}
use Rattle.std.proofs.lemmas.List.{drop_more, length-map, get_or-map}
use Rattle.golf_data.specs.declared.goroutine.Side.{Side}
use Rattle.golf_data.specs.declared.goroutine.Wait.{Wait}
use Rattle.golf_data.specs.declared.goroutine.Mode.{Mode}
use Rattle.golf_theory.specs.Membership.{In}
use Rattle.golf_theory.specs.Maps.{find, IsRising}
use Rattle.golf_theory.proofs.MapFinds.{find-Entry}
use Rattle.golf_model.specs.State.{is_running}
use Rattle.golf_model.specs.Laws.{head}
use Rattle.golf_model.proofs.Firsts.{first-head, waiters-sound}
use Rattle.golf_model.specs.Views.{GoroutineView}
use Rattle.golf_model.specs.Waiters.{Waiter, same_side, wait_for, waits_of, waiter_of, first, waiters, earlier}
use Rattle.golf_blocks.specs.Blocks.{entries_in}
use Rattle.golf_state_goroutines.specs.Places.{plain_entry, plain_entries}
use Rattle.golf_state.specs.Seen.{sooner}
use Rattle.golf_state.specs.Waited.{waiting_of}
use Rattle.golf_blocks.specs.declared.blocks.Block.{Block}
use Rattle.golf_data.specs.declared.goroutine.Goroutine.{Goroutine}
use Rattle.golf_state_goroutines.proofs.PlaceLaws.{entries-append}

-- ---- along the waits of a goroutine

pub wait_skip : (o : ℕ) (side : Side) (ws : List Wait) (i : ℕ) (w : Wait) → i < length ws
    → ((get_or ws i w).object.0 == o && same_side (get_or ws i w).side side) ≡ false
    → wait_for o side ws ≡ wait_for o side (drop i ws) → wait_for o side ws ≡ wait_for o side (drop (i + 1) ws)
wait_skip o side ws i w l h e =
    e ∙ ap (wait_for o side) (drop_more ws i w l)
    ∙ ap (λ b. cond b (Some (get_or ws i w)) (wait_for o side (drop (i + 1) ws))) h

pub wait_hit : (o : ℕ) (side : Side) (ws : List Wait) (i : ℕ) (w : Wait) → i < length ws
    → ((get_or ws i w).object.0 == o && same_side (get_or ws i w).side side) ≡ true
    → wait_for o side ws ≡ wait_for o side (drop i ws) → Some (get_or ws i w) ≡ wait_for o side ws
wait_hit o side ws i w l h e =
    sym (e ∙ ap (wait_for o side) (drop_more ws i w l)
    ∙ ap (λ b. cond b (Some (get_or ws i w)) (wait_for o side (drop (i + 1) ws))) h)

pub wait_end : (o : ℕ) (side : Side) (ws : List Wait) (i : ℕ) → length ws ≤ i
    → wait_for o side ws ≡ wait_for o side (drop i ws) → None ≡ wait_for o side ws
wait_end o side ws i l e = sym (e ∙ ap (wait_for o side) (drop_of_length-le ws l))

-- ---- along the goroutines

sooner-earlier : (v w : Option Waiter) → sooner (option_map waiting_of v) (option_map waiting_of w)
    ≡ option_map waiting_of (earlier v w)
sooner-earlier None w = refl
sooner-earlier (Some v) None = refl
sooner-earlier (Some v) (Some w) =
    elim (nat_lt (waiting_of w).ticket (waiting_of v).ticket) as (λ b. cond b (Some (waiting_of w))
    (Some (waiting_of v)) ≡ option_map waiting_of (cond b (Some w) (Some v))) [ true ↦ refl | false ↦ refl ]

-- one goroutine more, before the others
pub seen_more : (gs : List (ℕ × Goroutine)) (at : ℕ) (o : ℕ) (side : Side) (p : ℕ × Goroutine)
    (rest : List (ℕ × GoroutineView))
    → at < length gs → p ≡ get_or gs at p
    → sooner (option_map waiting_of (waiter_of o side (plain_entry p)))
    (option_map waiting_of (first o side (drop (at + 1) (plain_entries gs) ++ rest))) ≡ option_map waiting_of
    (first o side (drop at (plain_entries gs) ++ rest))
seen_more gs at o side p rest l h =
    let es = plain_entries gs in
    let within : at < length es = omega (arith, l, length-map gs plain_entry) in
    let read : get_or es at (plain_entry p) ≡ plain_entry p = get_or-map plain_entry gs at p (plain_entry p) l
    ∙ ap plain_entry (sym h) in
    ap (λ (e : ℕ × GoroutineView). sooner (option_map waiting_of (waiter_of o side e))
    (option_map waiting_of (first o side (drop (at + 1) es ++ rest)))) (sym read)
    ∙ sooner-earlier (waiter_of o side (get_or es at (plain_entry p))) (first o side (drop (at + 1) es ++ rest))
    ∙ ap (λ (fs : List (ℕ × GoroutineView)). option_map waiting_of (first o side (fs ++ rest)))
    (sym (drop_more es at (plain_entry p) within))

-- one block more, before the others
pub entries-more : (bs : List (Block Goroutine)) (at : ℕ) (b : Block Goroutine) → at < length bs
    → plain_entries (get_or bs at b).entries.items
    ++ plain_entries (entries_in (drop (at + 1) bs)) ≡ plain_entries (entries_in (drop at bs))
entries-more bs at b l =
    sym (ap (λ (cs : List (Block Goroutine)). plain_entries (entries_in cs)) (drop_more bs at b l)
    ∙ entries-append (get_or bs at b).entries.items (entries_in (drop (at + 1) bs)))

-- ---- the first waiter is blocked

pub head-in : {X : Type 0} (xs : List X) (x : X) → head xs ≡ Some x → In x xs
head-in [] x h = cc
head-in (y ∷ ys) x h = inl (cc)

waits-blocked : (o : ℕ) (side : Side) (m : Mode) (w : Wait) → wait_for o side (waits_of m) ≡ Some w
    → is_running m ≡ false
waits-blocked o side Mode.Running w h = cc
waits-blocked o side (Mode.Blocked kind line waits ticket) w h = refl

pub waiter-parts : (o : ℕ) (side : Side) (e : ℕ × GoroutineView) (w : Waiter) → waiter_of o side e ≡ Some w
    → (e.0 ≡ w.number) × (e.1 ≡ w.goroutine) × (is_running e.1.mode ≡ false)
waiter-parts o side e w h =
    elim (wait_for o side (waits_of e.1.mode)) as (λ m. wait_for o side (waits_of e.1.mode) ≡ m
    → option_map (λ v. let x : Waiter = record { number = e.0; goroutine = e.1; wait = v } in x) m ≡ Some w
    → (e.0 ≡ w.number) × (e.1 ≡ w.goroutine) × (is_running e.1.mode ≡ false)) [
      | None ↦ λ q i. cc
      | Some v ↦ λ q i. (cc, cc, waits-blocked o side e.1.mode v q)
    ] refl h

pub first-blocked : (o : ℕ) (side : Side) (es : List (ℕ × GoroutineView)) (m : Option Waiter) → IsRising es
    → first o side es ≡ m
    → IfSome m (λ w. find w.number es ≡ Some w.goroutine × is_running w.goroutine.mode ≡ false)
first-blocked o side es None r h = tt
first-blocked o side es (Some w) r h =
    let i = waiters-sound o side es w (head-in (waiters o side es) w (sym (first-head o side es) ∙ h)) in
    let p = waiter-parts o side i.0 w i.2 in (
      ap (λ k. find k es) (sym p.0) ∙ find-Entry es i.0.0 i.0.1 r i.1 ∙ ap (λ (r : GoroutineView). Some r) p.1,
      ap (λ (r : GoroutineView). is_running r.mode) (sym p.1) ∙ p.2,
    )
