use Rattle.std.proofs.Common.{[], ◌∷◌, ◌++◌, ◌∙◌, ap, arith}
use Rattle.std.proofs.lemmas.List.{take_all}
use Rattle.golf_why.proofs.SleeperEntries.{sleeper_entries_among, sleeper-entries-more}
use Rattle.golf_why.proofs.explanation.sleeper_entries.Goals as goal

pub loop-sleeper-preserved : goal.loop-sleeper-preserved
loop-sleeper-preserved c = sleeper-entries-more c.args.state.now c.args.graph.now.sleepers c.loop-sleeper.sleeper
    c.goroutine_of.result c.loop-sleeper.entries c.push.new.self c.goroutine_of.ensures c.loop-sleeper.invariant
    (c.in_ok-push.ensures.ok ∙ ap (λ o. c.loop-sleeper.entries ++ o ∷ []) c.entry.ensures)

pub returns : goal.returns
returns c = c.loop-sleeper.invariant ∙ ap (sleeper_entries_among c.args.state.now)
    (take_all c.loop-sleeper.sleeper c.args.graph.now.sleepers
    (omega (arith, c.loop-sleeper-test.false, c.sleepers-sleeper-end.ensures)))
