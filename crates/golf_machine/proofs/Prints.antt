-- A line that is printed.
-- For: `print` (src/printed_lines.rt)
-- By: cases of whether there are operands enough; no induction
use Rattle.std.proofs.Common.{◌≡◌, ℕ, List, [], ◌∷◌, Some, None, refl}
use Rattle.golf_data.specs.declared.value.Value.{Value}
use Rattle.golf_data.specs.declared.code.Code.{Code}
use Rattle.golf_model.specs.State.{State}
use Rattle.golf_model.specs.Values.{line_bytes}
use Rattle.golf_model.specs.Changes.{Change, output}
use Rattle.golf_model.specs.Actors.{Actor, stands, goes, on_some}
use Rattle.golf_model.specs.Turn.{prints}
use Rattle.golf_state.specs.FrameChanges.{went}
use Rattle.golf_state.specs.Operands.{operands_of}
use Rattle.golf_state.specs.ActorChanges.{does, Stands}
use Rattle.golf_state.proofs.Doings.{actor_of}
use Rattle.golf_machine.specs.Acts.{last_of}
use Rattle.golf_machine.specs.Fits.{Fits}
use Rattle.golf_state.specs.declared.outcome.Outcome.{Outcome}
use Rattle.golf_machine.proofs.Takings.{taking-is}

module _ {g after : ℕ} {s : State} (st : Stands g after s) (line : ℕ) (code : Code) (n : ℕ) where
  abbrev printing : Actor → List Value → List Value → List Change
  printing a vs rest = on_some (λ bytes. Change.Output bytes ∷ goes a rest) (line_bytes code.texts vs)

  module _ (vs : List Value) (taken : Some vs ≡ last_of n (operands_of g s)) where
    pub prints-missing : None ≡ line_bytes code.texts vs → Fits Outcome.Stuck (λ a. prints code a n) g line s s
    prints-missing e = let t = rw st.found at taken in
        rw (st.found, taking-is n st.frame.operands (printing (actor_of st line)), ← t, ← e) (refl, refl)

    pub prints-line : (bytes : List ℕ) (s1 s2 : State) → Some bytes ≡ line_bytes code.texts vs → s1 ≡ output bytes s
        → s2 ≡ does (λ a. stands a (went after n [] a.frame)) g line s1
        → Fits Outcome.Done (λ a. prints code a n) g line s s2
    prints-line bytes s1 s2 e is went_on = let t = rw st.found at taken in
        rw (st.found, taking-is n st.frame.operands (printing (actor_of st line)), ← t, ← e)
        (rw (is, st.found, st.next) at went_on, refl)
