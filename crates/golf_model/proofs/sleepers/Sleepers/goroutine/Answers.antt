use Rattle.std.proofs.Common.{List, length, get_or, slice_get, Some, ap, sym, ◌∙◌, arith}
use Rattle.std.specs.Prelude.{option_map}
use Rattle.std.proofs.lemmas.Grind.{common_steps}
use Rattle.std.proofs.lemmas.Option.{slice_get-get_or}
use Rattle.golf_base.specs.declared.ids.GoroutineId.{GoroutineId}
use Rattle.golf_model.specs.Sleepers.{Sleeper}
use Rattle.golf_model.proofs.SleeperLists.{goroutines-at, sleeper-there}
use Rattle.golf_model.proofs.sleepers.Sleepers.goroutine.Goals as goal

pub bounds-as_slice-at : goal.bounds-as_slice-at
bounds-as_slice-at c =
    let s = c.self.inside in
    omega (
      arith,
      sleeper-there s.goroutines s.waits s.references c.args.self.now c.args.at c.self.invariant.0
          c.self.invariant.1 c.self.view_is c.requires,
      ap length c.as_slice.ensures,
    )

pub offset_bounds-as_slice-at : goal.offset_bounds-as_slice-at
offset_bounds-as_slice-at c =
    let s = c.self.inside in
    grind (
      arith,
      common_steps,
      sleeper-there s.goroutines s.waits s.references c.args.self.now c.args.at
          c.self.invariant.0 c.self.invariant.1 c.self.view_is c.requires,
      ap length c.as_slice.ensures,
    )

pub returns : goal.returns
returns c =
    let s = c.self.inside in
    let d : GoroutineId = record { 0 = 0 } in
    let low = sleeper-there s.goroutines s.waits s.references c.args.self.now c.args.at c.self.invariant.0
    c.self.invariant.1 c.self.view_is c.requires in
    ap (λ (xs : List Sleeper). option_map (λ (x : Sleeper). x.goroutine) (slice_get xs c.args.at)) (sym c.self.view_is)
    ∙ goroutines-at s.goroutines s.waits s.references c.args.at c.self.invariant.0 c.self.invariant.1
    ∙ slice_get-get_or s.goroutines c.args.at d low
    ∙ ap (λ (gs : List GoroutineId). Some (get_or gs c.args.at d)) (sym c.as_slice.ensures)
