-- Turns one after another, and the run that they are.
-- For: `attempt`, src/attempts.rt; `add`, src/successors.rt; `GoesPlainly` and `LeadsTo`, specs/VisitLists.antt
-- By: induction over the list of numbers
use Rattle.std.proofs.Common.{◌≡◌, ℕ, zero, suc, ◌+◌, List, [], ◌∷◌, ◌++◌, map, take, Bool, true, false, Option, Some}
use Rattle.std.proofs.Common.{None, is_some, slice_get, refl, sym, ap, ◌∙◌, subst, arith}
use Rattle.golf_data.specs.declared.code.Code.{Code}
use Rattle.golf_model.specs.State.{State, not_empty}
use Rattle.golf_data.specs.declared.goroutine.Ending.{Ending}
use Rattle.golf_model.specs.Turn.{step}
use Rattle.golf_model.specs.Futures.{Leads}
use Rattle.golf_model.specs.Runs.{Event, run}
use Rattle.golf_explore_laws.specs.After.{silent, after, after_all}
use Rattle.golf_explore_laws.specs.Closed.{IsPlain}
use Rattle.golf_explore_laws.proofs.Visiting.{silent-step, turn-happens}
use Rattle.golf_explore.specs.VisitLists.{TurnsHappen, GoesPlainly, LeadsTo}

module _ (code : Code) where
  all-more : (ns : List ℕ) (s : State) (i x : ℕ) → slice_get ns i ≡ Some x
      → after_all code s (take (suc i) ns) ≡ after code (after_all code s (take i ns)) x
  all-more [] s i x h = cc
  all-more (n ∷ ns) s zero x h = let e : n ≡ x = cc in ap (after code s) e
  all-more (n ∷ ns) s (suc i) x h = all-more ns (after code s n) i x h

  pub next-after : (ns : List ℕ) (s t u : State) (i x : ℕ) → slice_get ns i ≡ Some x → t ≡ after_all code s (take i ns)
      → u ≡ after code t x → u ≡ after_all code s (take (i + 1) ns)
  next-after ns s t u i x h led is =
      let one : suc i ≡ i + 1 = omega arith in
      is ∙ ap (λ (v : State). after code v x) led ∙ sym (all-more ns s i x h)
      ∙ ap (λ k. after_all code s (take k ns)) one

  -- ---- what the machine leads to

  pub leads-all : (ns : List ℕ) (s : State) → Leads code s → GoesPlainly code s ns → Leads code (after_all code s ns)
  leads-all [] s l g = l
  leads-all (n ∷ ns) s l g = leads-all ns (after code s n) (Leads.Emptied _ (Leads.Turn s n l g.0)) g.2

  -- ---- more turns

  pub all-append : (ns ms : List ℕ) (s : State) → after_all code s (ns ++ ms) ≡ after_all code (after_all code s ns) ms
  all-append [] ms s = refl
  all-append (n ∷ ns) ms s = all-append ns ms (after code s n)

  pub goes-append : (ns ms : List ℕ) (s : State) → GoesPlainly code s ns → GoesPlainly code (after_all code s ns) ms
      → GoesPlainly code s (ns ++ ms)
  goes-append [] ms s g h = h
  goes-append (n ∷ ns) ms s g h = (g.0, g.1, goes-append ns ms (after code s n) g.2 h)

  pub plainly-on : (ns : List ℕ) (s : State) → GoesPlainly code s ns → TurnsHappen code s ns
  plainly-on [] s g = tt
  plainly-on (n ∷ ns) s g = (g.0, plainly-on ns (after code s n) g.2)

  pub on-append : (ns ms : List ℕ) (s : State) → TurnsHappen code s ns → TurnsHappen code (after_all code s ns) ms
      → TurnsHappen code s (ns ++ ms)
  on-append [] ms s g h = h
  on-append (n ∷ ns) ms s g h = (g.0, on-append ns ms (after code s n) g.1 h)

  pub leads-append : (s t u : State) (ns ms : List ℕ) → LeadsTo code s ns t → LeadsTo code t ms u
      → LeadsTo code s (ns ++ ms) u
  leads-append s t u ns ms p q = (
    all-append ns ms s ∙ ap (λ (v : State). after_all code v ms) p.0 ∙ q.0,
    goes-append ns ms s p.1 (subst (λ (v : State). GoesPlainly code v ms) (sym p.0) q.1),
  )

  -- ---- as a run

  plain-step : (s : State) (k : ℕ) → IsPlain (after code (silent s) k) → IsPlain (step code s k)
  plain-step s k plain = subst IsPlain (sym (silent-step code s k)) plain

  pub run-goes : (ns : List ℕ) (s : State) → GoesPlainly code (silent s) ns
      → silent (run code s (map Event.Turn ns)) ≡ after_all code (silent s) ns
  run-goes [] s g = refl
  run-goes (n ∷ ns) s g =
      ap (λ (u : State). silent (run code u (map Event.Turn ns))) (sym (turn-happens code s g.0 n (plain-step s n g.1)))
      ∙ run-goes ns (step code s n) (subst (λ (u : State). GoesPlainly code u ns) (sym (silent-step code s n)) g.2)
      ∙ ap (λ (u : State). after_all code u ns) (silent-step code s n)

-- ---- what tests say

pub no-ending : (m : Option Ending) (b : Bool) → b ≡ is_some m → b ≡ false → m ≡ None
no-ending None b e f = refl
no-ending (Some x) b e f = let g : true ≡ false = sym e ∙ f in cc

pub no-finaliser : (fs : List (ℕ × ℕ)) (b : Bool) → b ≡ not_empty fs → b ≡ false → fs ≡ []
no-finaliser [] b e f = refl
no-finaliser (x ∷ fs) b e f = let g : true ≡ false = sym e ∙ f in cc
