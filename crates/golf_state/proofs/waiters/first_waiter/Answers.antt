use Rattle.std.proofs.Common.{◌≡◌, ℕ, ◌+◌, ◌-◌, ◌<◌, List, ◌++◌, length, drop, ap, ◌∙◌, arith}
use Rattle.std.specs.Prelude.{option_map}
use Rattle.golf_model.specs.Views.{GoroutineView}
use Rattle.golf_model.specs.Waiters.{first}
use Rattle.golf_blocks.specs.Blocks.{entries_in}
use Rattle.golf_state_goroutines.specs.Places.{plain_entries}
use Rattle.golf_state.specs.Waited.{waiting_of}
use Rattle.golf_blocks.specs.declared.blocks.Block.{Block}
use Rattle.golf_data.specs.declared.goroutine.Goroutine.{Goroutine}
use Rattle.golf_state.proofs.WaiterLaws.{entries-more}
use Rattle.golf_state.proofs.waiters.first_waiter.Goals as goal

pub loop-at-preserved : goal.loop-at-preserved
loop-at-preserved c =
    let bs = c.args.blocks.now in
    let at : ℕ = c.loop-at.at - 1 in
    let o = c.args.object.0 in
    let side = c.args.side in
    let next : c.loop-at.at ≡ at + 1 = omega arith in
    let within : at < length bs = omega (arith, c.loop-at.invariant.within) in
    let b : Block Goroutine = c.index-blocks-at.result in
    let rest = plain_entries (entries_in (drop (at + 1) bs)) in
    let before : c.loop-at.best ≡ option_map waiting_of (first o side rest) = c.loop-at.invariant.best
    ∙ ap (λ (n : ℕ). option_map waiting_of (first o side (plain_entries (entries_in (drop n bs))))) next in
    record {
      within = omega (arith, c.loop-at.invariant.within);
      best = c.first_of-best.ensures rest before
          ∙ ap (λ (ps : List (ℕ × Goroutine)). option_map waiting_of (first o side (plain_entries ps ++ rest)))
          c.as_slice.ensures.value ∙ ap (λ (es : List (ℕ × GoroutineView)). option_map waiting_of (first o side es))
          (entries-more bs at b within);
    }
