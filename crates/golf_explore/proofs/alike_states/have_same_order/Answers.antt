use Rattle.std.proofs.Common.{List, length, subst, sym}
use Rattle.std.proofs.lemmas.List.{length-map}
use Rattle.golf_base.specs.declared.ids.GoroutineId.{GoroutineId}
use Rattle.golf_model.specs.Reports.{numbers}
use Rattle.golf_explore.specs.declared.alike_states.WaitPair.{WaitPair}
use Rattle.golf_explore.specs.AlikeStates.{HasWaits, AreInOrder}
use Rattle.golf_explore.proofs.WaitPairs.{has-sorted}
use Rattle.golf_explore.proofs.alike_states.have_same_order.Goals as goal

pub returns : goal.returns
returns c =
    let s = c.args.state.now in
    let t = c.args.other.now in
    let gs : List GoroutineId = c.args.goroutines.now in
    let hs = numbers c.args.others.now in
    let to = c.args.to.now in
    let old : List WaitPair = c.in_ok-waits.waits.items in
    let new : List WaitPair = c.sort.new.self.items in
    let has : HasWaits s (numbers gs) t hs to (length (numbers gs)) old =
    subst (λ n. HasWaits s (numbers gs) t hs to n old) (sym (length-map gs (λ (g : GoroutineId). g.0))) c.in_ok-waits.ensures in
    λ yes. (
      new,
      has-sorted s (numbers gs) t hs to (length (numbers gs)) old new c.sort.ensures.permutation has,
      subst AreInOrder c.as_slice.ensures.value (c.are_in_order.ensures yes),
    )
