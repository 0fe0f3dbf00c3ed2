use Rattle.std.proofs.Common.{◌≡◌, ℕ, false, length, sym, ap, ◌∙◌, subst, arith}
use Rattle.golf_data.specs.declared.code.Code.{Code}
use Rattle.golf_model.specs.State.{State, ending}
use Rattle.golf_model.specs.Reports.{real_run, real_reports}
use Rattle.golf_model_futures.proofs.RealRuns.{real-runs}
use Rattle.golf_world.specs.History.{turns, after, reports_after, IsHistory}
use Rattle.golf_world.proofs.Executions.{after-is, reports-is}
use Rattle.golf_world.proofs.workers.run_world.Goals as goal

pub returns-then-is_done : goal.returns-then-is_done
returns-then-is_done g c =
    let es = c.close-state.result.1.entries in
    let same : g.W.WorldName.code ≡ c.args.code.now = sym c.requires.code in
    let done = c.is_done.ensures in
    let code : Code = c.args.code.now in
    let state : c.close-state.result.0 ≡ real_run code (turns es) false = c.close-state.ensures.state
    ∙ ap (λ (k : Code). after k es) same ∙ after-is code es in
    let reports : c.close-state.result.1.reports ≡ real_reports code (turns es) false = c.close-state.ensures.reports
    ∙ ap (λ (k : Code). reports_after k es) same ∙ reports-is code es in
    let agree = real-runs code false (turns es) in
    record {
      state = state;
      reports = reports;
      prints = ap (λ (s : State). s.output) state ∙ agree.0;
      ends = ap ending state ∙ agree.1;
      tells = reports ∙ agree.2;
      history = subst (λ (y : Code × ℕ). IsHistory y.0 y.1 es)
          (λ i. (same i, sym c.requires.passes i)) c.close-state.ensures.history;
      few = c.close-state.ensures.few;
      whole = λ goes. let all = done c.if-is_done.true goes in omega
          (arith, c.close-state.ensures.few, all, ap length c.as_slice.ensures);
    }
