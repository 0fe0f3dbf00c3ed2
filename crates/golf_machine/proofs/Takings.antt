-- Operands that are taken from the top.
-- For: `last_of` (golf_machine/specs/Acts.antt) and `taking` (golf_model/specs/Actors.antt)
-- By: cases of whether there are operands enough; no induction
use Rattle.std.proofs.Common.{◌≡◌, ℕ, List, ◌++◌, length, take, drop, None, ◌∙◌, refl}
use Rattle.std.proofs.Common.{inl, inr}
use Rattle.std.specs.Prelude.{reverse}
use Rattle.std.proofs.lemmas.Bool.{lt-ltb, le-ltb, cases_lt}
use Rattle.std.proofs.lemmas.List.{reverse-append, reverse-reverse, length-reverse, take-append-drop, length-take-le}
use Rattle.golf_data.specs.declared.value.Value.{Value}
use Rattle.golf_model.specs.Changes.{Change}
use Rattle.golf_model.specs.Actors.{Actor, on_some, taking}
use Rattle.golf_model.proofs.ViewForms.{taking-last, taking-short}
use Rattle.golf_model.specs.State.{State}
use Rattle.golf_state.specs.declared.outcome.Outcome.{Outcome}
use Rattle.golf_state.specs.Operands.{operands_of}
use Rattle.golf_state.specs.ActorChanges.{Stands}
use Rattle.golf_state.proofs.Doings.{actor_of}
use Rattle.golf_machine.specs.Acts.{last_of}
use Rattle.golf_machine.specs.Fits.{Fits}

-- taking so many operands acts on the last ones in source order, if there are so many
pub taking-is : (n : ℕ) (os : List Value) (act : List Value → List Value → List Change)
    → taking n act os ≡ on_some (λ vs. act vs (drop n os)) (last_of n os)
taking-is n os act = elim (cases_lt (length os) n) [
  | inl l ↦ rw (lt-ltb (length os) n l) (taking-short n os act l)
  | inr l ↦
      let args = reverse (take n os) in
      let rest = reverse (drop n os) in
      let count : length args ≡ n = length-reverse (take n os) ∙ length-take-le n os l in
      let back : reverse (rest ++ args) ≡ os = simp (reverse-append, reverse-reverse) (take-append-drop n os) in
      let last = rw (count, back, reverse-reverse (drop n os)) at (taking-last rest args act) in
      rw (le-ltb (length os) n l) last
]

-- an instruction that takes more operands than there are, of a goroutine that stands at it
pub taken-none : {g after : ℕ} {s : State} (st : Stands g after s) (line n : ℕ)
    (act : Actor → List Value → List Value → List Change) → None ≡ last_of n (operands_of g s)
    → Fits Outcome.Stuck (λ a. taking n (act a) a.frame.operands) g line s s
taken-none st line n act e = let none = rw st.found at e in
    rw (st.found, taking-is n st.frame.operands (act (actor_of st line)), ← none) (refl, refl)
