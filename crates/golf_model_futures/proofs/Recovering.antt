-- Recovery cannot be seen.
-- For: `recovery_unseen`, src/lib.rt
-- By: the lemmas on cut states; no induction
use Rattle.std.proofs.Common.{◌≡◌, ℕ, Bool, List, ap, ◌∙◌}
use Rattle.golf_data.specs.declared.code.Code.{Code}
use Rattle.golf_model.specs.State.{State}
use Rattle.golf_model.specs.Collections.{plain_collect, sets_finalisers, removed, real_collect}
use Rattle.golf_model.specs.Runs.{Event}
use Rattle.golf_model.specs.Futures.{Leads, futures}
use Rattle.golf_model_futures.proofs.Leading.{leads-numbered}
use Rattle.golf_model_futures.proofs.Modes.{sim-start, sim-collect, none-leads}
use Rattle.golf_model_futures.proofs.Removing.{removed-ok, collect-cut, kept_by}
use Rattle.golf_model_futures.proofs.SameFutures.{same-futures}

-- after a collection the state without what it took has the futures of the whole one
pub recovery-unseen : (code : Code) (s : State) (recover : Bool) (events : List Event) → Leads code s
    → futures code (real_collect s recover (sets_finalisers code)) events (removed s recover (sets_finalisers code))
    ≡ futures code (plain_collect s) events (removed s recover (sets_finalisers code))
recovery-unseen code s recover events l =
    let n = leads-numbered code s l in
    let gone : List ℕ = removed s recover (sets_finalisers code) in
    let ok = removed-ok s recover (sets_finalisers code) in
    let z = sim-collect code gone (kept_by s gone) s (sim-start code s n gone ok (λ f. none-leads code f s l)) in
    ap (λ (t : State). futures code t events gone) (collect-cut s n gone ok.dead)
    ∙ same-futures code gone (kept_by s gone) z.G z.within z.agreement (plain_collect s) events z.related
