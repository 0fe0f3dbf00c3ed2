-- Collections lead on from states that moves lead to.
-- For: `collect_once`, src/collections/collected_states.rt; `Leads`, golf_model/specs/Futures.antt
-- By: cases of the outcome; no induction
use Rattle.std.proofs.Common.{◌≡◌, Bool, None, Result, Ok, Err, sym, subst}
use Rattle.std.specs.Prelude.{OnOk, OnErr}
use Rattle.golf_data.specs.declared.code.Code.{Code}
use Rattle.golf_model.specs.State.{State, ending}
use Rattle.golf_model.specs.Collections.{real_collect, sets_finalisers}
use Rattle.golf_model.specs.Futures.{Leads}

pub collected : (code : Code) (s t : State) (recover sets : Bool) → Leads code s → ending s ≡ None
    → sets ≡ sets_finalisers code → t ≡ real_collect s recover sets → Leads code t
collected code s t recover sets l goes e h =
    subst (Leads code) (sym h) (subst (λ b. Leads code (real_collect s recover b)) (sym e)
    (Leads.Collection s recover l goes))

-- whether the collection went well or not
pub collected-or : {A E : Type 0} (r : Result A E) (code : Code) (s t : State) (recover sets : Bool) → Leads code s
    → ending s ≡ None → sets ≡ sets_finalisers code → OnOk r (t ≡ real_collect s recover sets) → OnErr r (t ≡ s)
    → Leads code t
collected-or (Ok x) code s t recover sets l goes e h k = collected code s t recover sets l goes e h
collected-or (Err x) code s t recover sets l goes e h k = subst (Leads code) (sym k) l
