-- Turns lead from the opening state to each visit.
-- For: `add`, src/successors.rt; `has_panic` and `has_sleep`, src/endings.rt; `AreVisits`, specs/VisitLists.antt
-- By: induction over the place of the visit
use Rattle.std.proofs.Common.{◌≡◌, ℕ, zero, suc, ◌<◌, List, [], ◌∷◌, ◌++◌, Option, Some, None, slice_get}
use Rattle.std.proofs.Common.{refl, sym, subst, arith}
use Rattle.golf_data.specs.declared.code.Code.{Code}
use Rattle.golf_model.specs.State.{State, start}
use Rattle.golf_model.specs.Futures.{Leads}
use Rattle.golf_explore_laws.specs.After.{silent}
use Rattle.golf_explore.specs.declared.visits.Came.{Came}
use Rattle.golf_explore.specs.declared.visits.Visit.{Visit}
use Rattle.golf_explore.specs.VisitLists.{states, IsFrom, AreVisits, LeadsTo}
use Rattle.golf_explore.proofs.TurnLists.{leads-append, leads-all}

module _ (code : Code) (vs : List Visit) (are : AreVisits code vs) where
  -- a visited state is that of a visit
  visit-at : (ws : List Visit) (at : ℕ) (t : State) → slice_get (states ws) at ≡ Some t
      → (v : Visit) × (slice_get ws at ≡ Some v) × (silent v.state ≡ t)
  visit-at [] at t h = cc
  visit-at (w ∷ ws) zero t h = let same : silent w.state ≡ t = cc in (w, refl, same)
  visit-at (w ∷ ws) (suc at) t h = visit-at ws at t h

  -- turns lead to this state
  abbrev pub IsLed : State → Type 0
  IsLed t = (ns : List ℕ) × LeadsTo code (start code) ns t

  -- they lead to a visit if they lead to all that stand before it
  path-by : (at : ℕ) (t : State) → ((k : ℕ) (s : State) → k < at → slice_get (states vs) k ≡ Some s → IsLed s)
      → (came : Option Came) → IsFrom code vs at t came → IsLed t
  path-by at t before None from = ([], (sym from, tt))
  path-by at t before (Some came) from =
      let p = before came.parent from.parent from.earlier from.stands in
      (p.0 ++ came.numbers, leads-append code (start code) from.parent t p.0 came.numbers p.1 from.leads)

  led-below : (n at : ℕ) (t : State) → at < n → slice_get (states vs) at ≡ Some t → IsLed t
  led-below zero at t l h = absurd (omega (arith, l))
  led-below (suc n) at t l h =
      let v = visit-at vs at t h in
      path-by at t (λ k s below g. led-below n k s (omega (arith, below, l)) g) v.0.came
      (subst (λ s. IsFrom code vs at s v.0.came) v.2 (are.from at v.0 v.1))

  pub led-to : (at : ℕ) (t : State) → slice_get (states vs) at ≡ Some t → IsLed t
  led-to at t h = led-below (suc at) at t (omega arith) h

  pub visit-leads : (at : ℕ) (t : State) → slice_get (states vs) at ≡ Some t → Leads code t
  visit-leads at t h =
      let p = led-to at t h in subst (Leads code) p.1.0 (leads-all code p.0 (start code) Leads.Start p.1.1)
