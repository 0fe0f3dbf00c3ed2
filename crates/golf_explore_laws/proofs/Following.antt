-- A turn is a frame-local turn, or can be exchanged with it.
-- For: `local_turns_stand_for`, src/lib.rt; `IsAfterLocal`, specs/StandIns.antt
-- By: cases of whose turn it is; no induction
use Rattle.std.proofs.Common.{◌≡◌, ℕ, ◌%◌, ◌==◌, true, false, length, Option, Some, None}
use Rattle.std.proofs.Common.{get_or, refl, sym, ap, ◌∙◌, ◌⊎◌, inl, inr}
use Rattle.std.proofs.lemmas.Bool.{eqb-true, eqb-false}
use Rattle.std.proofs.lemmas.Nat.{mod_below}
use Rattle.std.proofs.lemmas.Option.{slice_get-get_or}
use Rattle.golf_theory.specs.Maps.{find}
use Rattle.golf_data.specs.declared.code.Code.{Code}
use Rattle.golf_model.specs.Views.{GoroutineView}
use Rattle.golf_model.specs.State.{State, runnable, ending}
use Rattle.golf_model.specs.Turn.{whose_turn, step}
use Rattle.golf_model.specs.Futures.{Numbered}
use Rattle.golf_explore_laws.specs.After.{silent, after}
use Rattle.golf_explore_laws.specs.Local.{becomes, HasLocalTurn, IsLocalTurn}
use Rattle.golf_explore_laws.specs.StandIns.{IsAfterLocal}
use Rattle.golf_explore_laws.proofs.Choices.{some-run}
use Rattle.golf_explore_laws.proofs.LocalTurns.{local-turns}
use Rattle.golf_explore_laws.proofs.Others.{Other}
use Rattle.golf_explore_laws.proofs.Exchanging.{step-becomes, step-keeps, turn-of}
use Rattle.golf_explore_laws.proofs.Visiting.{silent-step}

-- ---- a frame-local turn of another goroutine

silent-becomes : (g : ℕ) (m : Option GoroutineView) (s : State) → silent (becomes g m s) ≡ becomes g m (silent s)
silent-becomes g None s = refl
silent-becomes g (Some q) s = refl

module _ (code : Code) (s : State) (n : ℕ) (ordered : Numbered s) (is : IsLocalTurn code s n) where
  abbrev turn : HasLocalTurn code is.g is.r
  turn = local-turns code is.g is.r is.local

  steps : after code s n ≡ becomes is.g turn.after (silent s)
  steps = turn.steps s n is.whose is.found

  -- the turn of the same goroutine by another number
  same-turn : (k : ℕ) → whose_turn s k ≡ Some is.g → after code s k ≡ after code s n
  same-turn k whose = turn.steps s k whose is.found ∙ sym steps

  module _ (h k : ℕ) (whose : whose_turn s k ≡ Some h) (other : Other is.g h) where
    exchanged : (m : Option GoroutineView) → turn.after ≡ m
        → step code (becomes is.g m s) k ≡ becomes is.g m (step code s k)
    exchanged None e = refl
    exchanged (Some q) e =
        step-becomes code s is.g is.r ordered is.found is.local.runs h k whose other q (turn.runs q e)
        (ap (λ m. runnable (becomes is.g m s)) (sym e) ∙ turn.same s ordered.goroutines_rise is.found)

    later : after code (after code s n) k ≡ becomes is.g turn.after (after code s k)
    later =
        ap (λ (t : State). after code t k) (steps ∙ sym (silent-becomes is.g turn.after s))
        ∙ sym (silent-step code (becomes is.g turn.after s) k)
        ∙ ap silent (exchanged turn.after refl)
        ∙ silent-becomes is.g turn.after (step code s k)

    found-later : find is.g (after code s k).goroutines ≡ Some is.r
    found-later = step-keeps code s is.g is.r ordered is.found is.local.runs h k whose other

    -- the frame-local turn can be taken after turn k
    again : (j : ℕ) × IsLocalTurn code (after code s k) j
        × (after code (after code s k) j ≡ after code (after code s n) k)
    again =
        let p = turn-of code (after code s k) is.g is.r found-later is.local in (
          p.0,
          record { g = is.g; r = is.r; whose = p.1; found = found-later; local = is.local },
          turn.steps (after code s k) p.0 p.1 found-later ∙ sym later,
        )

-- ---- any turn

-- a state without an ending has a goroutine for each turn
pub whose : (s : State) (k : ℕ) → ending s ≡ None → (h : ℕ) × (whose_turn s k ≡ Some h)
whose s k goes =
    let n = length (runnable s) in
    (get_or (runnable s) (k % n) 0, slice_get-get_or (runnable s) (k % n) 0 (mod_below k n (some-run s goes)))

-- turn k is the frame-local turn, or its state is one before a frame-local turn that leads where turn k leads after it
pub local-or-later : (code : Code) (s : State) (n k : ℕ) → Numbered s → ending s ≡ None → IsLocalTurn code s n
    → (after code s k ≡ after code s n)
    ⊎ ((j : ℕ) × IsAfterLocal code (after code s k) (after code (after code s n) j))
local-or-later code s n k ordered goes is =
    let w = whose s k goes in
    elim (w.0 == is.g) as (λ b. (w.0 == is.g) ≡ b → (after code s k ≡ after code s n)
    ⊎ ((j : ℕ) × IsAfterLocal code (after code s k) (after code (after code s n) j))) [
      | true ↦ λ t. inl (same-turn code s n ordered is k (w.1 ∙ ap Some (eqb-true w.0 is.g t)))
      | false ↦ λ t.
          let j = again code s n ordered is w.0 k w.1 (eqb-false w.0 is.g t) in
          inr (k, (j.0, j.1, sym j.2))
    ] refl
