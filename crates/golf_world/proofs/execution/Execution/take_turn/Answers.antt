use Rattle.std.proofs.Common.{◌≡◌, ℕ, ◌<◌, ◌∷◌, ◌++◌, [], length, List, Option, None, sym, ap, ◌∙◌, subst, arith}
use Rattle.std.specs.Prelude.{option_to_list}
use Rattle.golf_data.specs.declared.code.Code.{Code}
use Rattle.golf_data.specs.declared.report.Report.{Report}
use Rattle.golf_model.specs.State.{ending}
use Rattle.golf_world.specs.declared.history.HistoryEntry.{HistoryEntry}
use Rattle.golf_world.specs.Steps.{HasCollected}
use Rattle.golf_world.specs.History.{entry, most_entries, IsExecution}
use Rattle.golf_world.proofs.Spawning.{runnable-size}
use Rattle.golf_world.proofs.Executions.{execution_next, next_is, does_turn}
use Rattle.golf_world.proofs.execution.Execution.take_turn.Goals as goal

pub number_of-number-requires-clause-few : goal.number_of-number-requires-clause-few
number_of-number-requires-clause-few g c =
    let inside = c.self.inside in
    let few : length inside.entries.items < most_entries =
    omega (arith, c.len-at.ensures, c.if-at-ge-MOST_ENTRIES.false) in
    omega (arith, c.how_many-count.ensures, runnable-size inside.state, c.self.invariant.narrow, few)

pub invariant_of-self-2 : goal.invariant_of-self-2
invariant_of-self-2 g c =
    let code : Code = g.W.WorldName.code in
    let passes : ℕ = g.W.WorldName.passes in
    let inside = c.self.inside in
    let es : List HistoryEntry = inside.entries.items in
    let rs : List Report = inside.reports.items in
    let n : ℕ = c.number_of-number.result in
    let report : Option Report = c.in_ok-report.report in
    let goes : ending inside.state ≡ None = sym c.ending.ensures ∙ c.in_default.is in
    let few : length es < most_entries = omega (arith, c.len-at.ensures, c.if-at-ge-MOST_ENTRIES.false) in
    let is = next_is code c.args.pass (record {
      execution = c.self.invariant;
      here = c.len-at.ensures;
      many = c.how_many-count.ensures;
      is = c.number_of-number.ensures;
    }) in
    let made : c.push_ready.new.self.items ≡ es ++ entry c.args.pass n ∷ [] = c.push_ready.ensures.items
    ∙ ap (λ (l : List HistoryEntry). l ++ entry c.args.pass n ∷ []) c.reserve.ensures.items in
    let told : c.add_report.new.reports.items ≡ rs ++ option_to_list report = c.add_report.ensures
    ∙ ap (λ (l : List Report). l ++ option_to_list report) c.reserve-2.ensures.items in
    let went : HasCollected code n report inside.state c.turn_and_collect.new.state inside.book
    c.turn_and_collect.new.book = subst (λ
    (k : Code). HasCollected k n report inside.state c.turn_and_collect.new.state inside.book
    c.turn_and_collect.new.book) c.requires.code c.in_ok-report.ensures.ok in
    subst (λ (l : List HistoryEntry). IsExecution code passes c.turn_and_collect.new.state c.turn_and_collect.new.book l
    c.add_report.new.reports.items) (sym made)
    (execution_next code passes c.args.pass n inside.state inside.book es rs c.self.invariant c.requires.pass goes few
    is report c.turn_and_collect.new.state c.turn_and_collect.new.book c.add_report.new.reports.items went told)

pub returns-clause-ok : goal.returns-clause-ok
returns-clause-ok g c =
    let code : Code = g.W.WorldName.code in
    let inside = c.self.inside in
    let es : List HistoryEntry = inside.entries.items in
    let n : ℕ = c.number_of-number.result in
    let goes : ending inside.state ≡ None = sym c.ending.ensures ∙ c.in_default.is in
    let few : length es < most_entries = omega (arith, c.len-at.ensures, c.if-at-ge-MOST_ENTRIES.false) in
    let made : c.push_ready.new.self.items ≡ es ++ entry c.args.pass n ∷ [] = c.push_ready.ensures.items
    ∙ ap (λ (l : List HistoryEntry). l ++ entry c.args.pass n ∷ []) c.reserve.ensures.items in
    does_turn code c.args.pass c.runnable_at-goroutine.result
    (record {
      execution = c.self.invariant;
      here = c.len-at.ensures;
      many = c.how_many-count.ensures;
      is = c.number_of-number.ensures;
    })
    few goes c.runnable_at-goroutine.ensures.at c.self.view_is made
