-- A turn that touches the innermost frame alone, of any goroutine that can run.
-- For: `HasGoneOn` (golf_machine/specs/Batches.antt) and `go_on_among` (src/inner_batches.rt)
-- By: computing; no induction
use Rattle.std.proofs.Common.{◌≡◌, ℕ, ◌+◌, ◌/◌, false, List, [], ◌∷◌, length, Some, None, refl, sym, ap, ◌∙◌}
use Rattle.golf_data.specs.declared.code.Code.{Code}
use Rattle.golf_model.specs.State.{State, runnable, ending}
use Rattle.golf_model.specs.Turn.{step, whose_turn, wants_collection}
use Rattle.golf_model.specs.Runs.{Event}
use Rattle.golf_machine.specs.InnermostTurns.{HasTakenTurn}
use Rattle.golf_machine.specs.declared.innermost_turns.InnerTurn.{InnerTurn}
use Rattle.golf_machine.specs.Batches.{stops_after, HasGoneOn}
use Rattle.golf_machine.proofs.Sequence.{one-more}
use Rattle.golf_machine.proofs.TurnLaws.{step-taken, wants-is}

-- the turns so far were taken, the program goes on, and nothing is printed
pub record IsOn (code : Code) (old s : State) (before after : List Event) (given now count : ℕ) : Type 0 where
  pub gone : HasGoneOn code old s before after given now
  pub goes : ending s ≡ None
  pub quiet : s.output ≡ []
  pub counts : count ≡ length (runnable s)

module _ (code : Code) (s t : State) (c g : ℕ) (turn : whose_turn s c ≡ Some g)
    (h : HasTakenTurn InnerTurn.Over code g s t) (goes : ending s ≡ None) (quiet : s.output ≡ []) where
  next-is : t ≡ step code s c
  next-is = step-taken code s c g turn (length (runnable s)) (c / length (runnable s)) t refl refl
      (h.1 (c / length (runnable s)))

  wants-not : wants_collection code s c ≡ false
  wants-not = wants-is code s c g turn ∙ h.0

  still : ending t ≡ None
  still = h.2 ∙ goes

  silent : t.output ≡ []
  silent = h.4 ∙ quiet

  stops-not : stops_after code s c ≡ false
  stops-not = rw (← next-is, still, wants-not, silent)

pub one-among : {passed : InnerTurn} {code : Code} {old s t : State} {es later rest : List Event} {n k m c g count : ℕ}
    → passed ≡ InnerTurn.Over → IsOn code old s es later n k count → later ≡ Event.Turn c ∷ rest → m ≡ k + 1
    → whose_turn s c ≡ Some g → HasTakenTurn passed code g s t → IsOn code old t es rest n m count
one-among {code = code} {s = s} {t = t} {c = c} {g = g} over on next more turn taken =
    let h = rw over at taken in
    record {
      gone = one-more (rw next at on.gone) more (next-is code s t c g turn h on.goes on.quiet)
          (stops-not code s t c g turn h on.goes on.quiet);
      goes = still code s t c g turn h on.goes on.quiet;
      quiet = silent code s t c g turn h on.goes on.quiet;
      counts = on.counts ∙ ap length (sym h.3);
    }
