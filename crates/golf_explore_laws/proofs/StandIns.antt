-- What a state has in common with the states that stand for it, and where its turns lead; two such relations.
-- For: the laws of closed lists, src/lib.rt; `StandsFor`, `AreStandIns`, specs/StandIns.antt
-- By: induction over the list of states that stand for each other
use Rattle.std.proofs.Common.{◌≡◌, ℕ, suc, List, [], ◌∷◌, length, Option, Some, None, inl, inr, refl, sym, ap, ◌∙◌}
use Rattle.std.proofs.Common.{subst, ◌⊎◌, arith}
use Rattle.golf_theory.specs.Membership.{In}
use Rattle.golf_data.specs.declared.code.Code.{Code}
use Rattle.golf_data.specs.declared.goroutine.Ending.{Ending}
use Rattle.golf_model.specs.State.{State, ending, start}
use Rattle.golf_model.specs.LiveSet.{dead}
use Rattle.golf_model.specs.Futures.{Numbered}
use Rattle.golf_explore_laws.specs.After.{after, after_all}
use Rattle.golf_explore_laws.specs.Local.{AreLocalTurns}
use Rattle.golf_explore_laws.specs.Closed.{SettlesIn, SettlesBelow}
use Rattle.golf_explore_laws.specs.StandIns.{kind_of, StandsFor, IsAfterLocal, OneOf, AreStandIns, last_from, ReachesIn}
use Rattle.golf_explore_laws.specs.StandIns.{ReachesBelow}
use Rattle.golf_explore_laws.specs.Laws.{LocalTurnsStandFor, ClosedUpToLocal, RankedUpToLocal}
use Rattle.golf_explore_laws.proofs.LocalKeeps.{numbered-after, local-keeps, none-before}
use Rattle.golf_explore_laws.proofs.Following.{local-or-later}

pub none-kind : (m : Option Ending) → kind_of m ≡ 0 → m ≡ None
none-kind None h = refl
none-kind (Some Ending.Returned) h = cc
none-kind (Some (Ending.Panicked kind goroutine line)) h = cc
none-kind (Some Ending.Asleep) h = cc

-- By states that stand for each other the state after turn k reaches the last of these states; or it reaches the state
-- after a turn of that one.
pub data Follows (code : Code) (For : State → State → Type 0) (s : State) (ts : List State) (k : ℕ) : Type 0 where
  Inside : (us : List State) → suc (length us) ≡ length ts → AreStandIns For (after code s k) us
      → last_from (after code s k) us ≡ last_from s ts → Follows code For s ts k
  Behind : (us : List State) (j : ℕ) → length us ≡ length ts → AreStandIns For (after code s k) us
      → last_from (after code s k) us ≡ after code (last_from s ts) j → Follows code For s ts k

module _ (code : Code) (For : State → State → Type 0) (is : StandsFor code For) where
  -- what a state has in common with a state that it reaches
  pub record Keeps (s t : State) : Type 0 where
    pub order : Numbered t
    pub kind : kind_of (ending t) ≡ kind_of (ending s)
    pub plain : t.finalisers ≡ [] → s.finalisers ≡ []
    pub alive : dead t ≡ [] → dead s ≡ []

  pub last-keeps : (s : State) (ts : List State) → AreStandIns For s ts → Numbered s → Keeps s (last_from s ts)
  last-keeps s [] are ordered = record { order = ordered; kind = refl; plain = λ h. h; alive = λ h. h }
  last-keeps s (t ∷ ts) are ordered =
      let p = last-keeps t ts are.1 (is.order s t are.0 ordered) in
      record {
        order = p.order;
        kind = p.kind ∙ is.kind s t are.0 ordered;
        plain = λ h. is.plain s t are.0 ordered (p.plain h);
        alive = λ h. is.alive s t are.0 ordered (p.alive h);
      }

  pub goes-on : (s t : State) → Keeps s t → ending s ≡ None → ending t ≡ None
  goes-on s t p goes = none-kind (ending t) (p.kind ∙ ap kind_of goes)

  one : (s t : State) → For s t → Numbered s → Keeps s t
  one s t f ordered = last-keeps s (t ∷ []) (f, tt) ordered

  module _ (s t : State) (k j : ℕ) (stands : For (after code s k) (after code t j)) where
    more : (ts : List State) → Follows code For t ts j → Follows code For s (t ∷ ts) k
    more ts (Follows.Inside us l are leads) = Follows.Inside (after code t j ∷ us) (ap suc l) (stands, are) leads
    more ts (Follows.Behind us i l are leads) = Follows.Behind (after code t j ∷ us) i (ap suc l) (stands, are) leads

  pub follows : (s : State) (ts : List State) (k : ℕ) → Numbered s → ending s ≡ None → AreStandIns For s ts
      → Follows code For s ts k
  follows s [] k ordered goes are = Follows.Behind [] k refl tt refl
  follows s (t ∷ ts) k ordered goes are = elim (is.turns s t are.0 ordered goes k) [
    | inl e ↦ Follows.Inside ts refl (subst (λ (u : State). AreStandIns For u ts) (sym e) are.1)
        (ap (λ (u : State). last_from u ts) e)
    | inr x ↦ more s t k x.0 x.1 ts
        (follows t ts x.0 (is.order s t are.0 ordered) (goes-on s t (one s t are.0 ordered) goes) are.1)
  ]

-- ---- relations

pub local-stands : LocalTurnsStandFor
local-stands code = record {
  order = λ s t f ordered. subst Numbered (sym f.2) (numbered-after code s f.0 ordered);
  kind = λ s t f ordered. ap (λ (u : State). kind_of (ending u)) f.2
      ∙ ap kind_of (local-keeps code s f.0 ordered f.1).0;
  plain = λ s t f ordered h. sym (local-keeps code s f.0 ordered f.1).1
      ∙ ap (λ (u : State). u.finalisers) (sym f.2)
      ∙ h;
  alive = λ s t f ordered h. none-before code s (f.0 ∷ []) ordered (subst (λ (u : State). dead u ≡ []) f.2 h);
  turns = λ s t f ordered goes k. subst (λ (u : State). (after code s k ≡ u)
      ⊎ ((j : ℕ) × IsAfterLocal code (after code s k) (after code u j))) (sym f.2)
      (local-or-later code s f.0 k ordered goes f.1);
}

-- frame-local turns keep the ending
pub endings-kept : (code : Code) (s : State) (ts : List State) → Numbered s → AreStandIns (IsAfterLocal code) s ts
    → ending (last_from s ts) ≡ ending s
endings-kept code s [] ordered are = refl
endings-kept code s (t ∷ ts) ordered are =
    let f = are.0 in
    endings-kept code t ts ((local-stands code).order s t f ordered) are.1
    ∙ ap ending f.2
    ∙ (local-keeps code s f.0 ordered f.1).0

-- two relations together
pub either-stands : (code : Code) (A B : State → State → Type 0) → StandsFor code A → StandsFor code B
    → StandsFor code (OneOf A B)
either-stands code A B a b = record {
  order = λ s t f ordered. elim f [ inl x ↦ a.order s t x ordered | inr y ↦ b.order s t y ordered ];
  kind = λ s t f ordered. elim f [ inl x ↦ a.kind s t x ordered | inr y ↦ b.kind s t y ordered ];
  plain = λ s t f ordered h. elim f [ inl x ↦ a.plain s t x ordered h | inr y ↦ b.plain s t y ordered h ];
  alive = λ s t f ordered h. elim f [ inl x ↦ a.alive s t x ordered h | inr y ↦ b.alive s t y ordered h ];
  turns = λ s t f ordered goes k. elim f [
    | inl x ↦ elim (a.turns s t x ordered goes k) [ inl e ↦ inl e | inr j ↦ inr (j.0, inl j.1) ]
    | inr y ↦ elim (b.turns s t y ordered goes k) [ inl e ↦ inl e | inr j ↦ inr (j.0, inr j.1) ]
  ];
}

-- ---- lists that are closed, or ranked, up to frame-local turns

module _ (code : Code) where
  -- the states after frame-local turns stand for each other
  states-after : (s : State) (ns : List ℕ) → AreLocalTurns code s ns
      → (ts : List State) × (length ts ≡ length ns) × AreStandIns (IsAfterLocal code) s ts
      × (last_from s ts ≡ after_all code s ns)
  states-after s [] are = ([], refl, tt, refl)
  states-after s (n ∷ ns) are =
      let p = states-after (after code s n) ns are.1 in
      (after code s n ∷ p.0, ap suc p.1, ((n, are.0, refl), p.2), p.3)

  reaches-in : (visited : List State) (s : State) → SettlesIn code visited s → ReachesIn (IsAfterLocal code) visited s
  reaches-in visited s p =
      let q = states-after s p.0 p.1 in
      (q.0, q.2, subst (λ (t : State). In t visited) (sym q.3) p.2)

  reaches-below : (ranked : List (State × ℕ)) (s : State) (most : ℕ) → SettlesBelow code ranked s most
      → ReachesBelow (IsAfterLocal code) ranked s most
  reaches-below ranked s most p =
      let q = states-after s p.0 p.3 in
      let within = p.2 in
      let same = q.1 in (
        q.0,
        p.1,
        omega (arith, within, same),
        q.2,
        subst (λ (t : State). In (t, p.1) ranked) (sym q.3) p.4,
      )

pub closed-up-to-local : ClosedUpToLocal
closed-up-to-local code visited closed = record {
  opening = reaches-in code visited (start code) closed.opening;
  plain = closed.plain;
  turns = λ s i goes place choice turn. reaches-in code visited _ (closed.turns s i goes place choice turn);
}

pub ranked-up-to-local : RankedUpToLocal
ranked-up-to-local code ranked most is = record {
  opening = reaches-below code ranked (start code) most is.opening;
  plain = is.plain;
  falls = λ s rank i goes place choice turn.
      let p = is.falls s rank i goes place choice turn in
      (p.0, p.1, reaches-below code ranked _ p.0 p.2);
}
