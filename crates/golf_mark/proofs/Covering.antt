-- What each place that was claimed comes to.
-- For: `IsCovered` and `KnowsWon`, specs/ScannerState.antt
-- By: cases of which list a place is in; no induction
use Rattle.std.proofs.Common.{◌≡◌, ℕ, ◌⊎◌, inl, inr, List, [], ◌∷◌, ◌++◌, refl, sym, subst}
use Rattle.golf_theory.specs.Membership.{In}
use Rattle.golf_theory.proofs.Lists.{In-left, In-right, In-cases, In-push}
use Rattle.golf_base.specs.Roomy.{Roomy}
use Rattle.golf_marks.specs.declared.marks.Marks.{Marks}
use Rattle.golf_marks.specs.Seats.{graph_in, claimed, known}
use Rattle.golf_mark.specs.declared.scanner.Scanner.{Scanner}
use Rattle.golf_mark.specs.ScannerState.{IsCovered, KnowsWon, Wins, with_won}
use Rattle.golf_mark.specs.UnderWay.{IsScanned, IsTaken}

-- what it wins it knows
pub own_wins : (marks : Marks) (a b : Scanner) → Wins marks a b → KnowsWon marks a → KnowsWon marks b
own_wins marks a b w own p h = elim (In-cases p a.won.items w.won.0 (subst (λ (l : List ℕ). In p l) w.won.2 h)) [
  | inl i ↦ let r = own p i in (r.0, w.known p r.1)
  | inr i ↦ w.won.3 p i
]

-- it has the same list, or a part of it, and knows no less
pub own_less : (marks : Marks) (a b : Scanner) → ((p : ℕ) → In p (known a.seat) → In p (known b.seat))
    → ((p : ℕ) → In p b.won.items → In p a.won.items) → KnowsWon marks a → KnowsWon marks b
own_less marks a b knows part own p h = let r = own p (part p h) in (r.0, knows p r.1)

-- the last place, or one of the others
pub last_or : (place : ℕ) (all rest : List ℕ) → all ≡ rest ++ place ∷ [] → (p : ℕ) → In p all → (p ≡ place) ⊎ In p rest
last_or place all rest is p h = elim (In-cases p rest (place ∷ []) (subst (λ (l : List ℕ). In p l) is h)) [
  | inl i ↦ inr i
  | inr i ↦ elim i [ inl e ↦ inl e | inr none ↦ absurd none ]
]

-- the last place, or the first one, is taken out
pub taken_last : (place : ℕ) (all rest : List ℕ) → all ≡ rest ++ place ∷ [] → IsTaken place all rest
taken_last place all rest is = record {
  there = subst (λ (l : List ℕ). In place l) (sym is) (In-push place rest);
  rest = last_or place all rest is;
  part = λ p h. subst (λ (l : List ℕ). In p l) (sym is) (In-left p rest (place ∷ []) h);
}

pub taken_first : (place : ℕ) (all rest : List ℕ) → all ≡ place ∷ rest → IsTaken place all rest
taken_first place all rest is = record {
  there = subst (λ (l : List ℕ). In place l) (sym is) (inl refl);
  rest = λ p h. subst (λ (l : List ℕ). In p l) is h;
  part = λ p h. subst (λ (l : List ℕ). In p l) (sym is) (inr h);
}

module _ (Elsewhere : ℕ → Type 0) where
  -- what it wins is in its own list
  pub covered_wins : (marks : Marks) (a b : Scanner) → Wins marks a b → IsCovered marks Elsewhere a
      → IsCovered marks Elsewhere b
  covered_wins marks a b w covered p low h =
      elim (In-cases p (claimed a.seat) w.won.0 (subst (λ (l : List ℕ). In p l) w.won.1 h)) [
        | inl i ↦ elim (covered p low i) [
          | inl done ↦ inl (λ q j. w.known q (done q j))
          | inr j ↦ elim j [
            | inl k ↦ inr (inl (subst (λ (l : List ℕ). In p l) (sym w.won.2) (In-left p a.won.items w.won.0 k)))
            | inr k ↦ inr (inr k)
          ]
        ]
        | inr i ↦ inr (inl (subst (λ (l : List ℕ). In p l) (sym w.won.2) (In-right p a.won.items w.won.0 i)))
      ]

  -- it has the same list, and knows no less
  pub covered_same : (marks : Marks) (a b : Scanner) → claimed b.seat ≡ claimed a.seat
      → ((p : ℕ) → In p (known a.seat) → In p (known b.seat)) → b.won.items ≡ a.won.items → IsCovered marks Elsewhere a
      → IsCovered marks Elsewhere b
  covered_same marks a b claims knows won covered p low h =
      elim (covered p low (subst (λ (l : List ℕ). In p l) claims h)) [
        | inl done ↦ inl (λ q j. knows q (done q j))
        | inr j ↦ elim j [
          | inl k ↦ inr (inl (subst (λ (l : List ℕ). In p l) (sym won) k))
          | inr k ↦ inr (inr k)
        ]
      ]

  -- a place is taken out and scanned
  pub covered_scan : (marks : Marks) (place : ℕ) (a b : Scanner) (won : Roomy ℕ)
      → ((p : ℕ) → In p a.won.items → (p ≡ place) ⊎ In p won.items) → Wins marks (with_won a won) b
      → IsScanned (graph_in marks) (known b.seat) place → IsCovered marks Elsewhere a → IsCovered marks Elsewhere b
  covered_scan marks place a b won items w scanned covered p low h =
      elim (In-cases p (claimed a.seat) w.won.0 (subst (λ (l : List ℕ). In p l) w.won.1 h)) [
        | inl i ↦ elim (covered p low i) [
          | inl done ↦ inl (λ q j. w.known q (done q j))
          | inr j ↦ elim j [
            | inl k ↦ elim (items p k) [
              | inl e ↦ inl (subst (λ (q : ℕ). IsScanned (graph_in marks) (known b.seat) q) (sym e) scanned)
              | inr m ↦ inr (inl (subst (λ (l : List ℕ). In p l) (sym w.won.2) (In-left p won.items w.won.0 m)))
            ]
            | inr k ↦ inr (inr k)
          ]
        ]
        | inr i ↦ inr (inl (subst (λ (l : List ℕ). In p l) (sym w.won.2) (In-right p won.items w.won.0 i)))
      ]

-- the first place is shared
pub covered_share : (marks : Marks) (place : ℕ) (a b : Scanner) (old new : List ℕ) → b.seat ≡ a.seat
    → a.won.items ≡ place ∷ b.won.items → new ≡ old ++ place ∷ []
    → IsCovered marks (λ p. In p old) a → IsCovered marks (λ p. In p new) b
covered_share marks place a b old new seat items pushes covered p low h =
    elim (covered p low (subst (λ s. In p (claimed s)) seat h)) [
      | inl done ↦ inl (subst (λ s. IsScanned (graph_in marks) (known s) p) (sym seat) done)
      | inr j ↦ elim j [
        | inl k ↦ elim (subst (λ (l : List ℕ). In p l) items k) [
          | inl e ↦ inr (inr (subst (λ (l : List ℕ). In p l) (sym pushes) (In-right p old (place ∷ []) (inl e))))
          | inr i ↦ inr (inl i)
        ]
        | inr k ↦ inr (inr (subst (λ (l : List ℕ). In p l) (sym pushes) (In-left p old (place ∷ []) k)))
      ]
    ]
