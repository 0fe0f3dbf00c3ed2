-- A turn of the finishing scan.
-- For: `settle`, src/finish.rt; `IsCovered`, specs/ScannerState.antt
-- By: cases of where a place stands; arithmetic of what is left to do; no induction
use Rattle.std.proofs.Common.{◌≡◌, ℕ, ◌+◌, ◌-◌, ◌*◌, ◌<◌, ◌≤◌, inl, inr, List, [], ◌∷◌, ◌++◌, Bool, length}
use Rattle.std.proofs.Common.{length-append, sym, ap, ◌∙◌, subst, arith}
use Rattle.std.proofs.lemmas.Bool.{cases_eq}
use Rattle.std.proofs.lemmas.List.{length_push}
use Rattle.golf_theory.specs.Membership.{In}
use Rattle.golf_theory.proofs.Lists.{In-left, In-right, In-cases}
use Rattle.golf_base.specs.Roomy.{Roomy}
use Rattle.golf_marks.specs.declared.marks.Marks.{Marks}
use Rattle.golf_marks.specs.declared.marks.MarkSeat.{MarkSeat}
use Rattle.golf_marks.specs.Flags.{IsSet}
use Rattle.golf_marks.specs.Places.{place_count}
use Rattle.golf_marks.specs.Seats.{graph_in, claimed, known, IsSameSeat}
use Rattle.golf_mark.specs.declared.scanner.Scanner.{Scanner}
use Rattle.golf_mark.specs.FinishingScan.{IsIdle, IsPending, KeepsSeat}
use Rattle.golf_mark.specs.ScannerState.{IsScannerOf, IsCovered, KnowsWon, Wins, with_won, with_seat}
use Rattle.golf_mark.specs.UnderWay.{IsScanned}
use Rattle.golf_mark.proofs.Winning.{HasLooked}
use Rattle.golf_mark.proofs.Covering.{own_wins, own_less, last_or, covered_scan}

-- what is left to do
abbrev pub work_of : Marks → Scanner → ℕ
work_of marks s = 2 * (place_count (graph_in marks) - length (claimed s.seat)) + length s.won.items

-- what settling keeps: what is covered stays covered, whatever is noted
pub record IsSettling (marks : Marks) (old s : Scanner) : Type 0 where
  pub fits : IsScannerOf marks s
  pub won : KnowsWon marks s
  pub keeps : KeepsSeat old s
  pub covered : (todo : List Bool) (from : ℕ) → IsCovered marks (IsPending todo from) old
      → IsCovered marks (IsPending todo from) s

-- a place that was won is taken out, and scanned
pub settles : (marks : Marks) (place : ℕ) (old a b : Scanner) (won : Roomy ℕ) → a.won.items ≡ won.items ++ place ∷ []
    → Wins marks (with_won a won) b
    → IsScanned (graph_in marks) (known b.seat) place → IsSettling marks old a → IsSettling marks old b
settles marks place old a b won items w scanned s = record {
  fits = w.fits;
  won = own_wins marks (with_won a won) b w
      (own_less marks a (with_won a won) (λ p h. h)
      (λ p h. subst (λ (l : List ℕ). In p l) (sym items) (In-left p won.items (place ∷ []) h)) s.won);
  keeps = record { known = λ p h. w.known p (s.keeps.known p h); parts = w.parts ∙ s.keeps.parts };
  covered = λ todo from before. covered_scan (IsPending todo from) marks place a b won
      (last_or place a.won.items won.items items) w scanned (s.covered todo from before);
}

-- which leaves less to do
pub settles_less : (marks : Marks) (place : ℕ) (a b : Scanner) (won : Roomy ℕ) → a.won.items ≡ won.items ++ place ∷ []
    → Wins marks (with_won a won) b → work_of marks b < work_of marks a
settles_less marks place a b won items w =
    omega (
      arith,
      ap length items,
      length_push won.items place,
      ap length w.won.1,
      length-append (claimed a.seat) w.won.0,
      ap length w.won.2,
      length-append won.items w.won.0,
      w.fits.bounded,
    )

-- an idle scanner whose seat has looked at a place
pub idle_looked : (marks : Marks) (s : Scanner) (seat : MarkSeat) → IsIdle marks s → IsSameSeat s.seat seat
    → claimed seat ≡ claimed s.seat → IsIdle marks (with_seat s seat)
idle_looked marks s seat idle same claims = record {
  seat = record { table = same.table ∙ idle.seat.table; graph = same.graph ∙ idle.seat.graph };
  none = idle.none;
  room = omega (arith, idle.room, ap length claims);
}

-- which has claimed no more places than there are
pub looked : (marks : Marks) (s : Scanner) → length (claimed s.seat) ≤ place_count (graph_in marks) → IsIdle marks s
    → IsScannerOf marks s
looked marks s bounded idle = record { seat = idle.seat; bounded = bounded; room = idle.room }

-- a place that is not noted, or not claimed
pub passes_over : (marks : Marks) (todo : List Bool) (place : ℕ) (a b : Scanner) → HasLooked a.seat b.seat
    → b.won ≡ a.won → (In place (claimed a.seat) → IsSet todo place → ⊥)
    → IsCovered marks (IsPending todo place) a → IsCovered marks (IsPending todo (place + 1)) b
passes_over marks todo place a b look won none covered p low h =
    let h' = subst (λ (l : List ℕ). In p l) look.claimed h in
    elim (covered p low h') [
      | inl done ↦ inl (λ q j. look.known q (done q j))
      | inr j ↦ elim j [
        | inl k ↦ inr (inl (subst (λ (r : Roomy ℕ). In p r.items) (sym won) k))
        | inr k ↦ elim (cases_eq p place) [
          | inl e ↦ absurd (none (subst (λ (q : ℕ). In q (claimed a.seat)) e h')
              (subst (λ (q : ℕ). IsSet todo q) e k.1))
          | inr apart ↦ inr (inr (omega (arith, k.0, apart), k.1))
        ]
      ]
    ]

-- the place is scanned
pub settled_at : (marks : Marks) (todo : List Bool) (place : ℕ) (a b : Scanner) (seat : MarkSeat) → a.won.items ≡ []
    → HasLooked a.seat seat
    → Wins marks (with_seat a seat) b → IsScanned (graph_in marks) (known b.seat) place
    → IsCovered marks (IsPending todo place) a → IsCovered marks (IsPending todo (place + 1)) b
settled_at marks todo place a b seat idle look w scanned covered p low h =
    elim (In-cases p (claimed seat) w.won.0 (subst (λ (l : List ℕ). In p l) w.won.1 h)) [
      | inl i ↦ elim (covered p low (subst (λ (l : List ℕ). In p l) look.claimed i)) [
        | inl done ↦ inl (λ q j. w.known q (look.known q (done q j)))
        | inr j ↦ elim j [
          | inl k ↦ absurd (subst (λ (l : List ℕ). In p l) idle k)
          | inr k ↦ elim (cases_eq p place) [
            | inl e ↦ inl (subst (λ (q : ℕ). IsScanned (graph_in marks) (known b.seat) q) (sym e) scanned)
            | inr apart ↦ inr (inr (omega (arith, k.0, apart), k.1))
          ]
        ]
      ]
      | inr i ↦ inr (inl (subst (λ (l : List ℕ). In p l) (sym w.won.2) (In-right p a.won.items w.won.0 i)))
    ]

pub won_known : (marks : Marks) (a b : Scanner) → a.won.items ≡ [] → Wins marks a b → KnowsWon marks b
won_known marks a b idle w p h = elim (In-cases p a.won.items w.won.0 (subst (λ (l : List ℕ). In p l) w.won.2 h)) [
  | inl i ↦ absurd (subst (λ (l : List ℕ). In p l) idle i)
  | inr i ↦ w.won.3 p i
]

-- nothing is noted, so that nothing is pending
pub none_pending : (marks : Marks) (todo : List Bool) (from to : ℕ) (s : Scanner) → ((p : ℕ) → IsSet todo p → ⊥)
    → IsCovered marks (IsPending todo from) s → IsCovered marks (IsPending todo to) s
none_pending marks todo from to s none covered p low h = elim (covered p low h) [
  | inl done ↦ inl done
  | inr j ↦ elim j [ inl k ↦ inr (inl k) | inr k ↦ absurd (none p k.1) ]
]
