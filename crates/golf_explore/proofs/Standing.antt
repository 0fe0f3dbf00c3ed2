-- A state that settles at a visit reaches it by states that stand for each other.
-- For: `Exploration`, src/full_search.rt; `SettlesAt`, specs/Ranks.antt
-- By: induction over the list of numbers and that of states
use Rattle.std.proofs.Common.{◌≡◌, ℕ, suc, ◌≤◌, List, [], ◌∷◌, ◌++◌, length, length-append, Some, slice_get}
use Rattle.std.proofs.Common.{inl, inr, refl, sym, ap, ◌∙◌, subst, arith}
use Rattle.golf_data.specs.declared.code.Code.{Code}
use Rattle.golf_model.specs.State.{State}
use Rattle.golf_model.specs.Futures.{Leads}
use Rattle.golf_model_futures.proofs.Leading.{leads-numbered}
use Rattle.golf_model_futures.proofs.OrderedLeading.{leads-orderly}
use Rattle.golf_explore_laws.specs.After.{after, after_all}
use Rattle.golf_explore_laws.specs.Alike.{IsWellOrdered}
use Rattle.golf_explore_laws.specs.Laws.{IsLocalOrAlike}
use Rattle.golf_explore_laws.specs.Local.{AreLocalTurns}
use Rattle.golf_explore_laws.specs.StandIns.{AreStandIns, last_from}
use Rattle.golf_explore.specs.declared.visits.Edge.{Edge}
use Rattle.golf_explore.specs.AlikeStates.{SameOrAlike, CountAsOne}
use Rattle.golf_explore.specs.Ranks.{SettlesAt}

module _ (code : Code) where
  -- ---- states in order

  in-order : (s : State) → Leads code s → IsWellOrdered s
  in-order s l = (leads-numbered code s l, leads-orderly code s l)

  -- states that moves reach are the same or alike if they count as one
  pub same-or-alike : (s t : State) → Leads code s → Leads code t → CountAsOne s t → SameOrAlike s t
  same-or-alike s t l k f = let a = in-order s l in let b = in-order t k in inr (f a b, a, b)

  -- ---- states that stand for each other

  local-ins : (ns : List ℕ) (s : State) → AreLocalTurns code s ns → (ts : List State) × (length ts ≡ length ns)
      × AreStandIns (IsLocalOrAlike code) s ts × (last_from s ts ≡ after_all code s ns)
  local-ins [] s a = ([], refl, tt, refl)
  local-ins (n ∷ ns) s a =
      let r = local-ins ns (after code s n) a.1 in
      (after code s n ∷ r.0, ap suc r.1, (inl (n, a.0, refl), r.2), r.3)

  one-more : (ts : List State) (s t : State) → AreStandIns (IsLocalOrAlike code) s ts
      → IsLocalOrAlike code (last_from s ts) t → AreStandIns (IsLocalOrAlike code) s (ts ++ t ∷ [])
  one-more [] s t a f = (f, tt)
  one-more (u ∷ ts) s t a f = (a.0, one-more ts u t a.1 f)

  last-more : (ts : List State) (s t : State) → last_from s (ts ++ t ∷ []) ≡ t
  last-more [] s t = refl
  last-more (u ∷ ts) s t = last-more ts u t

  -- their count is at most that of the turns of the edge
  pub record ReachesAt (visited : List State) (e : Edge) (s : State) : Type 0 where
    pub ts : List State
    pub few : length ts ≤ e.turns
    pub are : AreStandIns (IsLocalOrAlike code) s ts
    pub stands : slice_get visited e.to ≡ Some (last_from s ts)

  reaches-by : (visited : List State) (e : Edge) (s : State) (ns : List ℕ) (t : State) → suc (length ns) ≡ e.turns
      → AreLocalTurns code s ns → slice_get visited e.to ≡ Some t → SameOrAlike (after_all code s ns) t
      → ReachesAt visited e s
  reaches-by visited e s ns t turns local stands (inl same) =
      let r = local-ins ns s local in
      let long = r.1 in
      record { ts = r.0; few = omega (arith, long, turns); are = r.2; stands = stands ∙ ap Some (sym (r.3 ∙ same)) }
  reaches-by visited e s ns t turns local stands (inr alike) =
      let r = local-ins ns s local in
      let long = r.1 in
      let more = length-append r.0 (t ∷ []) in
      record {
        ts = r.0 ++ t ∷ [];
        few = omega (arith, long, more, turns);
        are = one-more r.0 s t r.2 (subst (λ (u : State). IsLocalOrAlike code u t) (sym r.3) (inr alike));
        stands = stands ∙ ap Some (sym (last-more r.0 s t));
      }

  pub reaches : (visited : List State) (e : Edge) (s : State) → SettlesAt code visited e s → ReachesAt visited e s
  reaches visited e s h = reaches-by visited e s h.0 h.1 h.2 h.3 h.4 h.5
