-- A table of where the turns of listed states lead shows that the list is closed, or that its ranks fall.
-- For: the examples; `IsClosed` and `IsRanked`, specs/Closed.antt
-- By: induction over a row of the table, and over its rows
use Rattle.std.proofs.Common.{◌≡◌, ℕ, suc, zero, ◌+◌, ◌<◌, ◌≤◌, true, List, [], ◌∷◌, length, Some, None, is_some}
use Rattle.std.proofs.Common.{slice_get, ◌⊎◌, inl, inr, sym, ◌∙◌, ap, subst, arith}
use Rattle.golf_theory.specs.Membership.{In, Every}
use Rattle.golf_theory.proofs.Lists.{In-slice_get, Every-at}
use Rattle.golf_data.specs.declared.code.Code.{Code}
use Rattle.golf_model.specs.State.{State, runnable, ending, start}
use Rattle.golf_explore_laws.specs.After.{after_all}
use Rattle.golf_explore_laws.specs.Local.{AreLocalTurns}
use Rattle.golf_explore_laws.specs.Closed.{turn_last_choice, after_turn, IsTurn, IsPlain, IsClosed, IsRanked}

-- ---- one state

-- the state after a turn stands at this place of a list
module _ (code : Code) (s : State) (StandsAt : ℕ → State → Type 0) where
  -- the turns at a place, from a choice on, lead to these places of the list
  abbrev pub ChoicesLead : ℕ → ℕ → List ℕ → Type 0
  ChoicesLead place choice [] = turn_last_choice code s (slice_get (runnable s) place) < choice
  ChoicesLead place choice (j ∷ js) = StandsAt j (after_turn code s place choice) × ChoicesLead place (choice + 1) js

  -- the turns at the places from this one on lead to these places of the list, one row for each
  abbrev pub PlacesLead : ℕ → List (List ℕ) → Type 0
  PlacesLead place [] = length (runnable s) ≤ place
  PlacesLead place (js ∷ rows) = ChoicesLead place 0 js × PlacesLead (place + 1) rows

  abbrev Stands : ℕ → ℕ → Type 0
  Stands place choice = (j : ℕ) × StandsAt j (after_turn code s place choice)

  choices-lead : (place choice : ℕ) (js : List ℕ) → ChoicesLead place choice js → (more : ℕ)
      → choice + more ≤ turn_last_choice code s (slice_get (runnable s) place) → Stands place (choice + more)
  choices-lead place choice [] h more l = absurd (omega (arith, h, l))
  choices-lead place choice (j ∷ js) h zero l = let e : choice ≡ choice + 0 =
      omega arith in (j, subst (λ k. StandsAt j (after_turn code s place k)) e h.0)
  choices-lead place choice (j ∷ js) h (suc more) l =
      let e : choice + 1 + more ≡ choice + suc more = omega arith in
      subst (Stands place) e (choices-lead place (choice + 1) js h.1 more (omega (arith, l)))

  places-lead : (place : ℕ) (rows : List (List ℕ)) → PlacesLead place rows → (more choice : ℕ)
      → IsTurn code s (place + more) choice → Stands (place + more) choice
  places-lead place [] h more choice l = let below = l.0 in absurd (omega (arith, h, below))
  places-lead place (js ∷ rows) h zero choice l =
      let e : place + 0 ≡ place = omega arith in
      let t = subst (λ k. IsTurn code s k choice) e l in
      let up = t.1 in
      let back : place ≡ place + 0 = omega arith in
      let zero_on : 0 + choice ≡ choice = omega arith in
      subst (λ k. Stands k choice) back (subst (Stands place) zero_on
      (choices-lead place 0 js h.0 choice (omega (arith, up))))
  places-lead place (js ∷ rows) h (suc more) choice l =
      let e : place + suc more ≡ place + 1 + more = omega arith in
      let back : place + 1 + more ≡ place + suc more = omega arith in
      subst (λ k. Stands k choice) back (places-lead (place + 1) rows h.1 more choice
      (subst (λ k. IsTurn code s k choice) e l))

  -- the state has an ending, or it is plain and its turns lead to places of the list
  abbrev pub IsLed : Type 0
  IsLed = (is_some (ending s) ≡ true) ⊎ ((s.finalisers ≡ []) × (rows : List (List ℕ)) × PlacesLead 0 rows)

  turns-lead : (rows : List (List ℕ)) → PlacesLead 0 rows → (place choice : ℕ) → IsTurn code s place choice
      → Stands place choice
  turns-lead rows h place choice l =
      let on : place ≡ 0 + place = omega arith in
      let back : 0 + place ≡ place = omega arith in
      subst (λ k. Stands k choice) back (places-lead 0 rows h place choice (subst (λ k. IsTurn code s k choice) on l))

  goes-on : is_some (ending s) ≡ true → ending s ≡ None → ⊥
  goes-on e goes = let f : true ≡ is_some (ending s) = sym e in let g = f ∙ ap is_some goes in cc

  pub led-plain : IsLed → IsPlain s
  led-plain (inl e) goes = absurd (goes-on e goes)
  led-plain (inr h) goes = h.0

  pub led-turns : IsLed → ending s ≡ None → (place choice : ℕ) → IsTurn code s place choice → Stands place choice
  led-turns (inl e) goes = absurd (goes-on e goes)
  led-turns (inr h) goes = turns-lead h.1 h.2

-- ---- lists

-- some frame-local turns lead to the state at this place
abbrev pub StandsIn : Code → List State → ℕ → State → Type 0
StandsIn code visited j t = (ns : List ℕ) × AreLocalTurns code t ns × (slice_get visited j ≡ Some (after_all code t ns))

pub closed-by : (code : Code) (visited : List State) → In (start code) visited
    → Every (λ s. IsLed code s (StandsIn code visited)) visited → IsClosed code visited
closed-by code visited opening led = record {
  opening = ([], tt, opening);
  plain = λ s i. led-plain code s (StandsIn code visited)
      (Every-at (λ s. IsLed code s (StandsIn code visited)) visited s led i);
  turns = λ s i goes place choice t.
      let r = led-turns code s (StandsIn code visited)
      (Every-at (λ s. IsLed code s (StandsIn code visited)) visited s led i) goes place choice t in
      (r.1.0, r.1.1, In-slice_get visited r.0 (after_all code (after_turn code s place choice) r.1.0) r.1.2);
}

-- the state stands at this place, with a rank below this one
abbrev pub StandsBelow : List (State × ℕ) → ℕ → ℕ → State → Type 0
StandsBelow ranked rank j t = (lower : ℕ) × (lower < rank) × (slice_get ranked j ≡ Some (t, lower))

pub ranked-by : (code : Code) (ranked : List (State × ℕ)) (most : ℕ) → In (start code, most) ranked
    → Every (λ e. IsLed code e.0 (StandsBelow ranked e.1)) ranked → IsRanked code ranked most
ranked-by code ranked most opening led = record {
  opening = ([], most, omega arith, tt, opening);
  plain = λ s rank i. led-plain code s (StandsBelow ranked rank)
      (Every-at (λ e. IsLed code e.0 (StandsBelow ranked e.1)) ranked (s, rank) led i);
  falls = λ s rank i goes place choice t.
      let r = led-turns code s (StandsBelow ranked rank)
      (Every-at (λ e. IsLed code e.0 (StandsBelow ranked e.1)) ranked (s, rank) led i) goes place choice t in (
        r.1.0,
        r.1.1,
        (
          [],
          r.1.0,
          omega arith,
          tt,
          In-slice_get ranked r.0 (after_turn code s place choice, r.1.0) r.1.2,
        ),
      );
}
