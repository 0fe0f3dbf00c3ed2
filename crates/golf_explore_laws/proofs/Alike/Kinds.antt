-- Alike states end alike: a goroutine can run in both or in none.
-- For: `AlikeStatesStandFor`, specs/Laws.antt
-- By: cases of what is in the list of goroutines that can run
use Rattle.std.proofs.Common.{◌≡◌, ℕ, ◌==◌, Bool, true, false, not, ◌&&◌, ◌||◌, List, [], ◌∷◌, Option, Some, None, inl}
use Rattle.std.proofs.Common.{refl, sym, ap, ◌∙◌}
use Rattle.golf_theory.specs.Membership.{In}
use Rattle.golf_theory.specs.Maps.{IsRising}
use Rattle.golf_theory.proofs.MapEntries.{Entry-find, In-keys_where, Entry-keys_where}
use Rattle.golf_theory.proofs.MapFinds.{find-Entry}
use Rattle.golf_data.specs.declared.goroutine.Ending.{Ending}
use Rattle.golf_model.specs.Views.{GoroutineView}
use Rattle.golf_model.specs.State.{State, is_running, not_empty, can_run, runnable, ending, ending_of}
use Rattle.golf_explore_laws.specs.StandIns.{kind_of}
use Rattle.golf_explore_laws.specs.Alike.{blank, AlikeBy, AreAlike}
use Rattle.golf_explore_laws.proofs.Alike.Partners.{same-running, partner-of, alike-flip, flips}
use Rattle.golf_explore_laws.proofs.Alike.Parts.{alike-recorded}

some-in : (k : ℕ) (xs : List ℕ) → In k xs → not_empty xs ≡ true
some-in k [] i = absurd i
some-in k (x ∷ xs) i = refl

in-some : (xs : List ℕ) → not_empty xs ≡ true → (k : ℕ) × In k xs
in-some [] e = cc
in-some (x ∷ xs) e = (x, inl refl)

pub can-same : (ps : List (ℕ × ℕ)) (s t : State) → AlikeBy ps s t → (g h : ℕ) → In (g, h) ps → (r q : GoroutineView)
    → blank r ≡ blank q → can_run s.queue g r ≡ can_run t.queue h q
can-same ps s t al g h i r q e =
    ap (λ b. b && (not (g == 0) || (not_empty r.frames || not_empty s.queue))) (same-running r q e)
    ∙ ap (λ b. is_running q.mode && (not b || (not_empty r.frames || not_empty s.queue))) (al.zero_one g h i).0
    ∙ ap (λ (u : GoroutineView). is_running q.mode && (not (h == 0) || (not_empty u.frames || not_empty s.queue))) e
    ∙ ap (λ (u : State). is_running q.mode && (not (h == 0) || (not_empty q.frames || not_empty u.queue))) al.others

awake-right : (ps : List (ℕ × ℕ)) (s t : State) → AlikeBy ps s t → IsRising s.goroutines
    → not_empty (runnable s) ≡ true → not_empty (runnable t) ≡ true
awake-right ps s t al rs e =
    let k = in-some (runnable s) e in
    let x = Entry-keys_where (can_run s.queue) s.goroutines k.0 k.1 in
    let f = find-Entry s.goroutines k.0 x.0 rs x.1 in
    let p = al.left k.0 x.0 f in
    let q = partner-of ps s t al k.0 p.0 p.1 x.0 f in
    some-in p.0 (runnable t) (In-keys_where (can_run t.queue) t.goroutines p.0 q.0
    (Entry-find p.0 t.goroutines q.0 q.1) (sym (can-same ps s t al k.0 p.0 p.1 x.0 q.0 q.2) ∙ x.2))

both : (b c : Bool) → (b ≡ true → c ≡ true) → (c ≡ true → b ≡ true) → b ≡ c
both true c f g = sym (f refl)
both false true f g = g refl
both false false f g = refl

pub alike-awake : (s t : State) → AreAlike s t → not_empty (runnable s) ≡ not_empty (runnable t)
alike-awake s t p = both (not_empty (runnable s)) (not_empty (runnable t))
    (awake-right p.0.0 s t p.0.1 p.1.0.goroutines_rise)
    (awake-right (flips p.0.0) t s (alike-flip p.0.0 s t p.0.1) p.2.0.goroutines_rise)

same-kinds : (m n : Option Ending) (b : Bool) → kind_of m ≡ kind_of n
    → kind_of (ending_of m b) ≡ kind_of (ending_of n b)
same-kinds None None b e = refl
same-kinds (Some x) (Some y) b e = e
same-kinds None (Some Ending.Returned) b e = cc
same-kinds None (Some (Ending.Panicked kind goroutine line)) b e = cc
same-kinds None (Some Ending.Asleep) b e = cc
same-kinds (Some Ending.Returned) None b e = cc
same-kinds (Some (Ending.Panicked kind goroutine line)) None b e = cc
same-kinds (Some Ending.Asleep) None b e = cc

-- alike states have the same kind of ending, or both have none
pub alike-kind : (s t : State) → AreAlike s t → kind_of (ending t) ≡ kind_of (ending s)
alike-kind s t p =
    same-kinds t.recorded s.recorded (not_empty (runnable t)) (alike-recorded s t p.0)
    ∙ ap (λ b. kind_of (ending_of s.recorded b)) (sym (alike-awake s t p))
