-- The code of a file that breaks no rule has shapes, so that every state that it reaches is typed and moves on.
-- For: `reached_states_go_on`, `files_have_shapes`, src/lib.rt; `ReachedState`, specs/Reached.antt
-- By: induction over the moves that lead on from a state
use Rattle.std.proofs.Common.{sym, subst}
use Rattle.golf_data.specs.declared.code.Code.{Code}
use Rattle.golf_model.specs.State.{State}
use Rattle.golf_model.specs.Collections.{sets_finalisers, real_collect}
use Rattle.golf_model.specs.Futures.{Leads}
use Rattle.golf_model_futures.proofs.MainLaws.{dead_are_still, recovery_unseen, leads_number}
use Rattle.golf_model_typing.specs.Types.{Typing}
use Rattle.golf_model_typing.specs.Shapes.{HasShapes}
use Rattle.golf_model_typing.proofs.Leading.{leads-typed, never-stuck}
use Rattle.golf_code_shapes.specs.FileLaws.{types_of_file}
use Rattle.golf_code_shapes.proofs.WholeFiles.{files-fit}
use Rattle.golf_code_shapes.proofs.Globals.{names-fit}
use Rattle.golf_code_never_stuck.specs.Reached.{ReachedState, LeadsOn}
use Rattle.golf_code_never_stuck.specs.Laws.{FilesHaveShapes, ReachedTyped, ReachedMovesOn, GoesOn, ReachedGoesOn}
use Rattle.golf_code_never_stuck.specs.Laws.{ReachedDeadAreStill, ReachedRecoveryUnseen}

pub files-have-shapes : FilesHaveShapes
files-have-shapes file p = files-fit file p.typed p.good (names-fit file p.typed)

has-shapes : (code : Code) (s : State) → ReachedState code s → (types : Typing) × HasShapes code types
has-shapes code s r =
    let h = files-have-shapes r.file r.program in
    let types : Typing = record { of = types_of_file r.file; shapes = h.0 } in
    (types, subst (λ (c : Code). HasShapes c types) (sym r.coded) h.1)

pub reached-typed : ReachedTyped
reached-typed code s r =
    let h = has-shapes code s r in
    let k = leads-typed code h.0 h.1 s r.leads in
    (h.0, k.0, h.1, k.1)

pub reached-moves-on : ReachedMovesOn
reached-moves-on code s c r e = let h = has-shapes code s r in never-stuck code h.0 h.1 s c r.leads e

leads-on : (code : Code) (s t : State) → Leads code s → LeadsOn code s t → Leads code t
leads-on code s t l LeadsOn.Here = l
leads-on code s t l (LeadsOn.Turn u c m e) = Leads.Turn u c (leads-on code s u l m) e
leads-on code s t l (LeadsOn.Collection u recover m e) = Leads.Collection u recover (leads-on code s u l m) e
leads-on code s t l (LeadsOn.Emptied u m) = Leads.Emptied u (leads-on code s u l m)

reached-by : (code : Code) (s t : State) → ReachedState code s → Leads code t → ReachedState code t
reached-by code s t r l = record { file = r.file; program = r.program; coded = r.coded; leads = l }

goes-on : (code : Code) (s : State) → ReachedState code s → GoesOn code s
goes-on code s r = λ t c m e. reached-moves-on code t c (reached-by code s t r (leads-on code s t r.leads m)) e

pub reached-goes-on : ReachedGoesOn
reached-goes-on code s r = (λ t m. reached-by code s t r (leads-on code s t r.leads m), goes-on code s r)

pub reached-dead-still : ReachedDeadAreStill
reached-dead-still code s g r d = (dead_are_still code s g (leads_number code s r.leads) d, goes-on code s r)

pub reached-unseen : ReachedRecoveryUnseen
reached-unseen code s recover r e = (
  λ events. recovery_unseen code s recover events r.leads,
  goes-on code (real_collect s recover (sets_finalisers code))
      (reached-by code s _ r (Leads.Collection s recover r.leads e)),
)
