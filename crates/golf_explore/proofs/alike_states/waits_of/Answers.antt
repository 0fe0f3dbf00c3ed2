use Rattle.std.proofs.Common.{◌≡◌, ◌<◌, ◌≤◌, List, Some, length, get_or, slice_get, ap, ◌∙◌, arith}
use Rattle.std.specs.Prelude.{option_map}
use Rattle.std.proofs.lemmas.Option.{slice_get-map, slice_get-get_or}
use Rattle.golf_base.specs.declared.ids.GoroutineId.{GoroutineId}
use Rattle.golf_model.specs.Reports.{numbers}
use Rattle.golf_explore.proofs.WaitPairs.{has-more}
use Rattle.golf_explore.proofs.alike_states.waits_of.Goals as goal

pub loop-at-preserved : goal.loop-at-preserved
loop-at-preserved c =
    let gs : List GoroutineId = c.args.goroutines.now in
    let at = c.loop-at.at in
    let within : at < length gs = c.loop-at-test.true in
    let g = get_or gs at (record { 0 = 0 }) in
    let here : slice_get (numbers gs) at ≡ Some g.0 = slice_get-map (λ (x : GoroutineId). x.0) gs at
    ∙ ap (option_map (λ (x : GoroutineId). x.0)) (slice_get-get_or gs at (record { 0 = 0 }) within) in
    has-more c.args.state.now (numbers gs) c.args.other.now (numbers c.args.others.now) c.args.to.now at g.0
    (option_map (λ (x : GoroutineId). x.0) c.partner_at-partner.result) c.loop-at.waits.items c.add_waits_at.new.waits.items
    here c.partner_at-partner.ensures c.loop-at.invariant c.in_ok-add_waits_at.ensures

pub returns : goal.returns
returns c =
    let past : length c.args.goroutines.now ≤ c.loop-at.at = c.loop-at-test.false in
    λ i g h r q below. c.loop-at.invariant i g h r q (omega (arith, below, past))
