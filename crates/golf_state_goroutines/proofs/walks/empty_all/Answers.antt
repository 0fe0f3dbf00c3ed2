use Rattle.std.proofs.Common.{◌≡◌, ℕ, ◌+◌, ◌*◌, ◌<◌, List, [], ◌++◌, length, Some, refl, sym, ap, ◌∙◌, subst, arith, slice_get}
use Rattle.std.proofs.Common.{slice_set}
use Rattle.std.proofs.lemmas.List.{length-set}
use Rattle.std.proofs.lemmas.Option.{slice_get_read}
use Rattle.golf_base.specs.declared.ids.GoroutineId.{GoroutineId}
use Rattle.golf_blocks.proofs.Gathers.{gather-more, gather-before}
use Rattle.golf_theory.proofs.Readings.{set-here}
use Rattle.golf_state_goroutines.specs.RunBlocks.{numbers, RisesIn}
use Rattle.golf_state_goroutines.specs.declared.run_blocks.RunBlock.{RunBlock}
use Rattle.golf_state_goroutines.proofs.Splits.{block-at, blocks-set, keys-set}
use Rattle.golf_state_goroutines.proofs.walks.empty_all.Goals as goal

pub loop-at-preserved : goal.loop-at-preserved
loop-at-preserved c =
    let bs = c.loop-at.blocks.items in
    let i = c.loop-at.at in
    let inv = c.loop-at.invariant in
    let within : i < length bs = omega (
      arith,
      c.loop-at-test.true,
      c.len-at-end.ensures,
      c.args.blocks.now.ok.0,
      inv.len,
    ) in
    let b = c.index_mut.result.now in
    let here : slice_get bs i ≡ Some b = slice_get_read bs (length bs) i b refl within c.index_mut.ensures.value in
    let is = block-at 0 i bs b inv.blocks here in
    let n : RunBlock = record { key = b.key; running = c.clear.new.self } in
    let empty : numbers n.running.items ≡ [] = ap (λ (gs : List GoroutineId). numbers gs) c.clear.ensures.items in
    let F = λ (b : RunBlock). numbers b.running.items in
    record {
      blocks = blocks-set 0 i bs b n inv.blocks here (record {
        running = subst (RisesIn (b.key * 256) (b.key * 256 + 256)) (sym empty) (omega arith);
        room = omega (arith, c.clear.ensures.capacity, is.room);
        limit = is.limit;
      }) refl;
      none = gather-more F (slice_set bs i n) i n (set-here bs i n within)
          ∙ ap (λ (ns : List ℕ). ns ++ numbers n.running.items) (gather-before F bs i i n (omega arith) ∙ inv.none)
          ∙ empty;
      keys = keys-set bs i b n here refl ∙ inv.keys;
      len = length-set bs i n ∙ inv.len;
    }
