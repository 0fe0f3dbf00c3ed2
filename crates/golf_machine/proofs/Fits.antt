-- What the outcomes of instructions come to.
-- For: `Fits` (golf_machine/specs/Fits.antt) and `perform`, `perform_on_frame` (src/instructions.rt)
-- By: cases of the outcome, and induction over the list of changes
use Rattle.std.proofs.Common.{◌≡◌, ℕ, Bool, true, false, cond, List, [], ◌∷◌, inl, inr, refl, sym, ◌∙◌}
use Rattle.std.proofs.lemmas.Bool.{cases_Bool}
use Rattle.golf_theory.specs.Maps.{find}
use Rattle.golf_data.specs.declared.goroutine.Ending.{Ending}
use Rattle.golf_data.specs.declared.goroutine.Leaving.{Leaving}
use Rattle.golf_data.specs.declared.goroutine.PanicKind.{PanicKind}
use Rattle.golf_data.specs.Fatal.{is_fatal}
use Rattle.golf_model.specs.Views.{FrameView}
use Rattle.golf_model.specs.State.{State, not_empty}
use Rattle.golf_model.specs.Changes.{Change}
use Rattle.golf_model.specs.Actors.{Actor}
use Rattle.golf_state.specs.declared.outcome.Outcome.{Outcome}
use Rattle.golf_state.specs.ActorChanges.{does, does_by, Stands}
use Rattle.golf_state.specs.Looked.{frames_of}
use Rattle.golf_state.specs.Outcomes.{Comes, StaysIn, StandsToFault, carries, faults, outcome_of, goes_as, has_block}
use Rattle.golf_state.specs.Outcomes.{ending_outcome, frame_outcome, frames_outcome}
use Rattle.golf_state.proofs.Doings.{actor_of}
use Rattle.golf_machine.specs.Fits.{Ends, Fits, is_fit}

-- a list that is not not empty
pub none_left : {X : Type 0} (xs : List X) → not_empty xs ≡ false → xs ≡ []
none_left [] h = refl
none_left (x ∷ xs) h = cc

-- ---- what changes come to

ending-fits : (e : Ending) → is_fit (ending_outcome e) ≡ true
ending-fits Ending.Returned = refl
ending-fits (Ending.Panicked kind g line) = refl
ending-fits Ending.Asleep = refl

leaving-fits : (l : Leaving) → is_fit (frame_outcome l) ≡ true
leaving-fits Leaving.No = refl
leaving-fits (Leaving.Returning v) = refl
leaving-fits (Leaving.Unwinding x) = refl

frames-fit : (fs : List FrameView) → is_fit (frames_outcome fs) ≡ true
frames-fit [] = refl
frames-fit (f ∷ fs) = leaving-fits f.leaving

goes-fit : (cs : List Change) → is_fit (goes_as cs) ≡ true
goes-fit [] = refl
goes-fit (Change.Finish e ∷ cs) = ending-fits e
goes-fit (Change.Become g r ∷ cs) = frames-fit r.frames
goes-fit (_ ∷ cs) = goes-fit cs

block-fits : (b : Bool) (cs : List Change) → is_fit (cond b Outcome.Blocked (goes_as cs)) ≡ true
block-fits true cs = refl
block-fits false cs = goes-fit cs

-- a rule fits exactly if there are changes
changes-fit : (cs : List Change) → is_fit (outcome_of cs) ≡ not_empty cs
changes-fit [] = refl
changes-fit (c ∷ cs) = block-fits (has_block (c ∷ cs)) (c ∷ cs)

-- an operation that says exactly what its changes come to
pub fits-comes : (outcome : Outcome) (act : Actor → List Change) (g line : ℕ) (s t : State) → StaysIn (frames_of g s)
    → Comes outcome act g line s t → Fits outcome act g line s t
fits-comes outcome act g line s t stays h =
    (ends outcome h, rw (← (h.1 stays)) (changes-fit (does_by act g line (find g s.goroutines))))
  where
    ends : (o : Outcome) → Comes o act g line s t → Ends o act g line s t
    ends Outcome.Done c = c.0.0
    ends Outcome.Blocked c = c.0.0
    ends (Outcome.Panic kind) c = (c.0.0, c.0.1)
    ends Outcome.Stuck c = c.0.0

-- ---- faults

faults-some : (a : Actor) (kind : PanicKind) → not_empty (faults a kind) ≡ true
faults-some a kind = elim (cases_Bool (is_fatal kind)) [ inl t ↦ rw t | inr f ↦ rw f ]

pub fits-panic : (act : Actor → List Change) {g after : ℕ} {s : State} (st : Stands g after s) (line : ℕ)
    (kind : PanicKind) → act (actor_of st line) ≡ faults (actor_of st line) kind
    → Fits (Outcome.Panic kind) act g line s s
fits-panic act st line kind e = rw (st.found, e) ((refl, refl), sym (faults-some (actor_of st line) kind))

-- ---- what is left to do

-- once it is done, the changes are made
pub carried : (outcome : Outcome) (act : Actor → List Change) (g line : ℕ) (s t u : State) → Fits outcome act g line s t
    → u ≡ carries outcome g line t → u ≡ does act g line s
carried Outcome.Done act g line s t u h e = e ∙ h.0
carried Outcome.Blocked act g line s t u h e = e ∙ h.0
carried (Outcome.Panic kind) act g line s t u h e = rw (e, h.0.0, h.0.1)
carried Outcome.Stuck act g line s t u h e = rw (e, h.0, none_left _ (sym h.1))

-- a goroutine that is found as before stands where it stood
abbrev pub stands-in : {g after : ℕ} {s : State} → Stands g after s → (t : State)
    → find g t.goroutines ≡ find g s.goroutines → Stands g after t
stands-in st t same = record {
  frame = st.frame;
  callers = st.callers;
  started = st.started;
  found = same ∙ st.found;
  next = st.next;
}

pub stands-to-fault : (outcome : Outcome) (act : Actor → List Change) (g after line : ℕ) (s t : State)
    → Stands g after s → Fits outcome act g line s t → StandsToFault outcome g after t
stands-to-fault Outcome.Done act g after line s t st h = tt
stands-to-fault Outcome.Blocked act g after line s t st h = tt
stands-to-fault (Outcome.Panic kind) act g after line s t st h = stands-in st t (rw h.0.0)
stands-to-fault Outcome.Stuck act g after line s t st h = tt
