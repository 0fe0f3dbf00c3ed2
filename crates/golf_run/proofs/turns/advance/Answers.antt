use Rattle.std.proofs.Common.{sym, ◌∙◌}
use Rattle.golf_run.proofs.Advanced.{broken-advanced, loud-advanced, quiet-advanced, collection-advanced, none-is}
use Rattle.golf_run.proofs.Advanced.{taken-none, taken-some}
use Rattle.golf_run.proofs.Turning.{other-turn}
use Rattle.golf_run.proofs.turns.advance.Goals as goal

pub returns-then-take_collection : goal.returns-then-take_collection
returns-then-take_collection g c =
    let goes = sym c.ending.ensures ∙ none-is c.ending.result (sym c.is_some.ensures ∙ c.if-is_some.false) in
    collection-advanced goes (taken-none c.in_default.is c.in_ok-turned.ensures.ok) c.take_collection.ensures.done _ _
    c.if-take_collection.ensures.left

pub returns-in_err-write_all : goal.returns-in_err-write_all
returns-in_err-write_all g c =
    let goes = sym c.ending.ensures ∙ none-is c.ending.result (sym c.is_some.ensures ∙ c.if-is_some.false) in
    broken-advanced goes c.take_turns.new.state (taken-some c.in-Some.is c.in_ok-turned.ensures.ok) (record {
      printed = c.output.result.now;
      same = c.output.ensures;
      failed = c.from_residual-in_err-write_all.ensures.0;
      fault = c.from_residual-in_err-write_all.ensures.1;
      prefix = c.in_err-write_all.ensures.prefix;
      rose = c.in_err-write_all.ensures.cause.failed;
    })

pub returns-in-WantsCollection : goal.returns-in-WantsCollection
returns-in-WantsCollection g c =
    let goes = sym c.ending.ensures ∙ none-is c.ending.result (sym c.is_some.ensures ∙ c.if-is_some.false) in
    let turned = taken-some c.in-Some.is c.in_ok-turned.ensures.ok in
    loud-advanced goes turned (record {
      printed = c.output.result.now;
      same = c.output.ensures;
      stands = c.clear_output.ensures;
      got = c.in_ok-write_all.ensures.ok;
      steady =
          c.in_ok-write_all.ensures.cause.steady;
    }) c.in-WantsCollection.is

pub returns-in-Went : goal.returns-in-Went
returns-in-Went g c =
    let goes = sym c.ending.ensures ∙ none-is c.ending.result (sym c.is_some.ensures ∙ c.if-is_some.false) in
    let turned = taken-some c.in-Some.is c.in_ok-turned.ensures.ok in
    quiet-advanced goes turned (record {
      printed = c.output.result.now;
      same = c.output.ensures;
      stands = c.clear_output.ensures;
      got = c.in_ok-write_all.ensures.ok;
      steady =
          c.in_ok-write_all.ensures.cause.steady;
    }) (other-turn c.in-Some.turned c.in-Went.is)
