use Rattle.std.proofs.Common.{List, refl, ap, ◌∙◌, [], map}
use Rattle.golf_base.specs.declared.ids.GoroutineId.{GoroutineId}
use Rattle.golf_snapshot.specs.MapEntries.{sleepers_of}
use Rattle.golf_snapshot.proofs.Stepping.{gather-init, gather-listed, gather-end}
use Rattle.golf_snapshot.proofs.Gathering.{AwakeNodes, awake-append, sleepers-append}
use Rattle.golf_snapshot.proofs.goroutines.add_awake.Goals as goal

pub loop-g-init : goal.loop-g-init
loop-g-init c =
    let s = c.args.state.now in (
      gather-init (AwakeNodes s.objects) refl (awake-append s.objects) c.args.nodes.now s.goroutines,
      c.new-sleepers.ensures ∙ gather-init (sleepers_of s.objects) refl (sleepers-append s.objects) [] s.goroutines,
    )

pub loop-g-preserved : goal.loop-g-preserved
loop-g-preserved c =
    let s = c.args.state.now in
    let d : GoroutineId = record { 0 = 0 } in
    let rises = c.goroutines.ensures.rises in
    let present = ap (λ (xs : List GoroutineId). map (λ g. g.0) xs) c.as_slice-g-items.ensures
    ∙ c.in_ok-goroutines.ensures.present in (
      gather-listed (AwakeNodes s.objects) refl
          (awake-append s.objects) c.args.nodes.now s.goroutines c.as_slice-g-items.result.now c.loop-g.g-index d rises
          present c.loop-g-test.true c.loop-g.invariant.0 c.in_ok-add_one.ensures.nodes,
      gather-listed (sleepers_of s.objects) refl
          (sleepers-append s.objects) [] s.goroutines c.as_slice-g-items.result.now c.loop-g.g-index d rises present
          c.loop-g-test.true c.loop-g.invariant.1 c.in_ok-add_one.ensures.sleepers,
    )

pub returns-clause-nodes : goal.returns-clause-nodes
returns-clause-nodes c =
    let s = c.args.state.now in
    gather-end (AwakeNodes s.objects) refl
    (awake-append s.objects) c.args.nodes.now c.loop-g.nodes s.goroutines c.as_slice-g-items.result.now
    c.loop-g.g-index (ap (λ (xs : List GoroutineId). map (λ g. g.0) xs) c.as_slice-g-items.ensures
    ∙ c.in_ok-goroutines.ensures.present) c.loop-g-test.false c.loop-g.invariant.0

pub returns-clause-sleepers : goal.returns-clause-sleepers
returns-clause-sleepers c =
    let s = c.args.state.now in
    gather-end (sleepers_of s.objects) refl
    (sleepers-append s.objects) [] c.loop-g.sleepers s.goroutines c.as_slice-g-items.result.now c.loop-g.g-index
    (ap (λ (xs : List GoroutineId). map (λ g. g.0) xs) c.as_slice-g-items.ensures
    ∙ c.in_ok-goroutines.ensures.present) c.loop-g-test.false c.loop-g.invariant.1
