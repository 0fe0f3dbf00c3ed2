use Rattle.std.proofs.Common.{List, ◌≤◌, length, below_more, arith}
use Rattle.std.proofs.lemmas.List.{length-map}
use Rattle.golf_base.specs.declared.ids.GoroutineId.{GoroutineId}
use Rattle.golf_model.specs.Reports.{numbers}
use Rattle.golf_explore.proofs.Growing.{get-within}
use Rattle.golf_explore.proofs.alike_states.all_fit.Goals as goal

pub loop-at-preserved : goal.loop-at-preserved
loop-at-preserved c = below_more _ _ c.loop-at.invariant (c.fits_at.ensures c.if-not-fits_at.false)

pub returns : goal.returns
returns c =
    let gs : List GoroutineId = c.args.goroutines.now in
    let past : length gs ≤ c.loop-at.at = c.loop-at-test.false in
    let same = length-map gs (λ (g : GoroutineId). g.0) in
    λ yes i g e. let below = get-within (numbers gs) i g e in
    c.loop-at.invariant i (omega (arith, below, past, same)) g e
