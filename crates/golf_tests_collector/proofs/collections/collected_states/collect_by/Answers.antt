use Rattle.std.proofs.Common.{◌∙◌, ap, sym}
use Rattle.std.specs.Prelude.{is_some}
use Rattle.std.proofs.option.Match.{None-if_not_some}
use Rattle.golf_model_futures.proofs.OrderedLeading.{leads-whole}
use Rattle.golf_tests_collector.proofs.Leading.{collected-or}
use Rattle.golf_tests_collector.proofs.collections.collected_states.collect_by.Goals as goal

pub collect-requires-clause-whole : goal.collect-requires-clause-whole
collect-requires-clause-whole g c = λ κs within. leads-whole c.args.code.now c.args.state.now c.requires.leads

pub returns : goal.returns
returns g c =
    collected-or c.collect.result c.args.code.now c.args.state.now c.collect.new.state c.args.options.recover
    c.args.options.sets_finalisers c.requires.leads
    (None-if_not_some _ (sym (c.is_some-over.ensures ∙ ap is_some c.ending.ensures) ∙ c.if-over.false))
    c.requires.sets c.collect.ensures.state c.collect.ensures.err_state
