use Rattle.std.proofs.Common.{vec_len, ◌+◌, ◌*◌, ◌/◌, ◌<◌, List, length, refl, ap, ◌∙◌, subst, arith}
use Rattle.std.proofs.lemmas.List.{take_all, length-set}
use Rattle.std.proofs.lemmas.Option.{slice_get_read}
use Rattle.golf_state_goroutines.specs.RunBlocks.{runs_before}
use Rattle.golf_state_goroutines.specs.Sums.{AreSums}
use Rattle.golf_state_goroutines.specs.declared.run_blocks.RunBlock.{RunBlock}
use Rattle.golf_state_goroutines.proofs.Splits.{running-few}
use Rattle.golf_state_goroutines.proofs.Summing.{inside, read-any, runs-none, sums-more, sum-next}
use Rattle.golf_state_goroutines.proofs.sums.recount.Goals as goal

pub loop-at-init : goal.loop-at-init
loop-at-init c = record {
  each = λ j. omega (arith, runs-none (64 * j + 64), runs-none (64 * j), c.clear.ensures.zero j);
  len = c.clear.ensures.len;
}

pub overflow_add-index_mut : goal.overflow_add-index_mut
overflow_add-index_mut c =
    let bs = c.args.blocks.now in
    let i = c.loop-at.at in
    let b = c.index-blocks-at.result in
    let ns = c.loop-at.sums.items in
    let here = slice_get_read bs (length bs) i b refl c.loop-at-test.true c.index-blocks-at.is in
    let w : i / 64 < length ns = inside i (length bs) (length ns) c.loop-at-test.true
    (omega (arith, c.requires.enough, c.loop-at.invariant.len)) in
    let v = read-any ns (i / 64) _ c.index_mut.result.now w c.index_mut.ensures.value in
    omega (
      arith,
      v,
      sum-next bs ns i b c.loop-at.invariant.each here,
      running-few bs c.requires.blocks,
      c.len.ensures,
      ap (λ (w : RunBlock). vec_len w.running) c.index-blocks-at.is,
      b.running.ok.0,
    )

pub loop-at-preserved : goal.loop-at-preserved
loop-at-preserved c =
    let bs = c.args.blocks.now in
    let i = c.loop-at.at in
    let b = c.index-blocks-at.result in
    let ns = c.loop-at.sums.items in
    let here = slice_get_read bs (length bs) i b refl c.loop-at-test.true c.index-blocks-at.is in
    let w : i / 64 < length ns = inside i (length bs) (length ns) c.loop-at-test.true
    (omega (arith, c.requires.enough, c.loop-at.invariant.len)) in
    let v = read-any ns (i / 64) _ c.index_mut.result.now w c.index_mut.ensures.value in
    record {
      each = sums-more bs ns i (c.index_mut.result.now + c.len.result) b c.loop-at.invariant.each here
          c.loop-at-test.true w (omega (
            arith,
            v,
            c.len.ensures,
            ap (λ (w : RunBlock). vec_len w.running) c.index-blocks-at.is,
            b.running.ok.0,
          ));
      len = length-set ns (i / 64) (c.index_mut.result.now + c.len.result) ∙ c.loop-at.invariant.len;
    }

pub returns : goal.returns
returns c =
    let bs = c.args.blocks.now in
    record {
      each = subst (λ (cs : List RunBlock). AreSums (runs_before cs) c.loop-at.sums.items)
          (take_all c.loop-at.at bs (omega (arith, c.loop-at-test.false))) c.loop-at.invariant.each;
      enough = omega (arith, c.requires.enough, c.loop-at.invariant.len);
    }
