-- The laws of the plain machine, from the lemmas.
-- For: `dead_are_still`, `turn_laws`, `real_runs_agree`, src/lib.rt
-- By: the lemmas of the other files; no induction
use Rattle.golf_model_futures.specs.Invariant.{Nothing, Unfinalised}
use Rattle.golf_model_futures.specs.CutStates.{IsKeptBy}
use Rattle.golf_model_futures.proofs.Presence.{references-present, stops-whole}
use Rattle.golf_model_futures.proofs.Printing.{run-prefixed}
use Rattle.golf_model_futures.specs.Laws.{DeadAreStill, LeadsNumber, LiveIsClosed, ChangesKeep, InstructionsMoveMembers}
use Rattle.golf_model_futures.specs.Laws.{InstructionsSame, CollectionsKeep, TurnsKeep, TurnsCut, RecoveryUnseen}
use Rattle.golf_model_futures.specs.Laws.{ReportedAreStill, RealRunsAgree, BookTellsOfEach, ReferencesPresent}
use Rattle.golf_model_futures.specs.Laws.{PrintingApart}
use Rattle.golf_model_futures.proofs.Closing.{closed_change, closed-ground}
use Rattle.golf_model_futures.proofs.Confining.{confined_change}
use Rattle.golf_model_futures.proofs.GoodTurn.{sound_changes}
use Rattle.golf_model_futures.proofs.SameChanges.{same_changes}
use Rattle.golf_model_futures.proofs.Collecting.{closed-collect}
use Rattle.golf_model_futures.proofs.Staying.{step-closed, step-confined}
use Rattle.golf_model_futures.proofs.SameTurn.{cut_step}
use Rattle.golf_model_futures.proofs.DeadStill.{dead_still, closed-live}
use Rattle.golf_model_futures.proofs.RealRuns.{real-runs}
use Rattle.golf_model_futures.proofs.Stopping.{reported-still}
use Rattle.golf_model_futures.proofs.Tellings.{book-tells}
use Rattle.golf_model_futures.proofs.Recovering.{recovery-unseen}
use Rattle.golf_model_futures.proofs.Leading.{leads-numbered}

pub dead_are_still : DeadAreStill
dead_are_still = dead_still

pub leads_number : LeadsNumber
leads_number code s l = leads-numbered code s l

pub live_is_closed : LiveIsClosed
live_is_closed s n = closed-live s n

pub changes_keep : ChangesKeep
changes_keep s c kept stays h a = (
  closed_change (IsKeptBy kept) (IsKeptBy stays) Nothing s c h a,
  confined_change (IsKeptBy kept) (IsKeptBy stays) Nothing s c h a,
)

pub instructions_move_members : InstructionsMoveMembers
instructions_move_members code s kept stays h a i k choice =
    sound_changes (IsKeptBy kept) (IsKeptBy stays) (Unfinalised s) code s
    (closed-ground (IsKeptBy kept) (IsKeptBy stays) s h) a i k choice (λ t o u. u)

pub instructions_same : InstructionsSame
instructions_same code s kept stays h a i k choice =
    same_changes stays kept (IsKeptBy kept) (IsKeptBy stays) s (closed-ground (IsKeptBy kept) (IsKeptBy stays) s h)
    (λ o m. m)
    (λ g m. m) a i code k choice

pub collections_keep : CollectionsKeep
collections_keep s kept stays h = closed-collect (IsKeptBy kept) (IsKeptBy stays) s h

pub turns_keep : TurnsKeep
turns_keep code s k kept stays h = (
  step-closed code (IsKeptBy stays) (IsKeptBy kept) s h k,
  step-confined code (IsKeptBy stays) (IsKeptBy kept) s h k,
)

pub turns_cut : TurnsCut
turns_cut code s k kept stays h f = cut_step stays kept (IsKeptBy kept) (IsKeptBy stays) s h (λ o m. m)
    (λ g m. m) code k f

pub recovery_unseen : RecoveryUnseen
recovery_unseen code s recover events l = recovery-unseen code s recover events l

pub reported_are_still : ReportedAreStill
reported_are_still code events p g h i = reported-still code events p g h i

pub real_runs_agree : RealRunsAgree
real_runs_agree code events recover = real-runs code recover events

pub book_tells_of_each : BookTellsOfEach
book_tells_of_each code events recover = book-tells code events recover

pub references_are_present : ReferencesPresent
references_are_present code events = (references-present code events, stops-whole code events)

pub printing_is_apart : PrintingApart
printing_is_apart code w s events = run-prefixed w code events s
