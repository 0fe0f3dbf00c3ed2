use Rattle.std.proofs.Common.{◌<◌, length, map, List, ap, append-nil, refl, arith}
use Rattle.std.proofs.lemmas.List.{length-map}
use Rattle.std.proofs.lemmas.Option.{slice_get-map, slice_get-get_or}
use Rattle.golf_base.specs.declared.ids.GoroutineId.{GoroutineId}
use Rattle.golf_model.specs.Sleepers.{Sleeper}
use Rattle.golf_theory.proofs.Flagged.{left_out-all, left_out-short}
use Rattle.golf_reclaim.proofs.Flags.{left_out-more}
use Rattle.golf_reclaim.proofs.markings.unflagged.Goals as goal
use Rattle.golf_reclaim.proofs.markings.unflagged.Goals.{then-not-flags-sleeper+in_ok-push, else-not-flags-sleeper}

pub loop-sleeper-preserved : goal.loop-sleeper-preserved
loop-sleeper-preserved c =
    let awake = c.args.flags.now in
    let sleepers = c.args.graph.now.sleepers in
    let i = c.loop-sleeper.sleeper in
    let ids : List GoroutineId = map (λ (x : Sleeper). x.goroutine) sleepers in
    let count = c.sleepers-sleeper-end.ensures in
    let size = length-map sleepers (λ (x : Sleeper). x.goroutine) in
    let within : i < length awake = omega arith in
    let there : i < length ids = omega arith in
    elim c.if-not-flags-sleeper.branch [
      | then-not-flags-sleeper+in_ok-push w ↦
          left_out-more awake ids i _ within (rw w.goroutine_of.ensures at (slice_get-map (λ (x : Sleeper). x.goroutine)
          sleepers i)) w.if-not-flags-sleeper.true c.loop-sleeper.invariant (rw w.goroutines-is w.in_ok-push.ensures.ok)
      | else-not-flags-sleeper w ↦
          left_out-more awake ids i _ within (slice_get-get_or ids i (record { 0 = 0 }) there)
          w.if-not-flags-sleeper.false c.loop-sleeper.invariant
          (rw (w.goroutines-is, append-nil) refl)
    ]

pub returns-clause-goroutines : goal.returns-clause-goroutines
returns-clause-goroutines c =
    let count = c.sleepers-sleeper-end.ensures in
    let size = length-map c.args.graph.now.sleepers (λ (x : Sleeper). x.goroutine) in
    left_out-all c.args.flags.now _ c.loop-sleeper.sleeper _ (omega arith) (omega arith) c.loop-sleeper.invariant

pub returns-clause-few : goal.returns-clause-few
returns-clause-few c =
    let e = ap (λ (l : List GoroutineId). length l) (returns-clause-goroutines c) in
    let short = left_out-short c.args.flags.now (map (λ (x : Sleeper). x.goroutine) c.args.graph.now.sleepers) in
    let size = length-map c.args.graph.now.sleepers (λ (x : Sleeper). x.goroutine) in
    omega (arith, c.sleepers-sleeper-end.ensures, c.sleepers-sleeper-end.type_inv)
