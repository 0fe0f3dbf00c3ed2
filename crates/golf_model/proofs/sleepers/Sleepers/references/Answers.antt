use Rattle.std.proofs.Common.{List, slice_get, ap, sym, ◌∙◌, arith}
use Rattle.std.specs.Prelude.{option_map}
use Rattle.golf_model.specs.Sleepers.{Sleeper}
use Rattle.golf_model.proofs.SleeperLists.{references-at, sleeper-there}
use Rattle.golf_model.proofs.sleepers.Sleepers.references.Goals as goal

pub row-requires : goal.row-requires
row-requires c =
    let s = c.self.inside in
    omega (
      arith,
      c.self.invariant.1,
      sleeper-there s.goroutines s.waits s.references c.args.self.now c.args.at
          c.self.invariant.0 c.self.invariant.1 c.self.view_is c.requires,
    )

pub returns : goal.returns
returns c =
    let s = c.self.inside in
    ap (λ (xs : List Sleeper). option_map (λ (x : Sleeper). x.references) (slice_get xs c.args.at)) (sym c.self.view_is)
    ∙ references-at s.goroutines s.waits s.references c.args.at c.self.invariant.0 c.self.invariant.1
    ∙ c.row.ensures
