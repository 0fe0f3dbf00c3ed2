use Rattle.std.proofs.Common.{vec_len, ◌+◌, length, refl, ap, ◌∙◌, arith}
use Rattle.std.proofs.lemmas.Option.{slice_get_read}
use Rattle.golf_blocks.proofs.Gathers.{gather-next, gather-less, gather-all}
use Rattle.golf_blocks.specs.declared.blocks.Block.{Block}
use Rattle.golf_blocks.proofs.BlockLaws.{few-entries}
use Rattle.golf_blocks.proofs.counts.count_entries.Goals as goal

pub overflow_add-count : goal.overflow_add-count
overflow_add-count g c =
    let bs = c.args.blocks.now in
    let i = c.loop-at.at in
    let b = c.index-blocks-at.result in
    let here = slice_get_read bs (length bs) i b refl c.loop-at-test.true c.index-blocks-at.is in
    let step = gather-next (λ (b : Block _). b.entries.items) bs i b here in
    let less = gather-less (λ (b : Block _). b.entries.items) bs (i + 1) in
    omega (
      arith,
      step,
      less,
      few-entries bs c.requires,
      c.len-count.ensures,
      ap (λ (w : Block _). vec_len w.entries) c.index-blocks-at.is,
      b.entries.ok.0,
      c.loop-at.invariant,
    )

pub loop-at-preserved : goal.loop-at-preserved
loop-at-preserved g c =
    let bs = c.args.blocks.now in
    let i = c.loop-at.at in
    let b = c.index-blocks-at.result in
    let here = slice_get_read bs (length bs) i b refl c.loop-at-test.true c.index-blocks-at.is in
    let step = gather-next (λ (b : Block _). b.entries.items) bs i b here in
    omega (
      arith,
      step,
      c.len-count.ensures,
      ap (λ (w : Block _). vec_len w.entries) c.index-blocks-at.is,
      b.entries.ok.0,
      c.loop-at.invariant,
    )

pub returns : goal.returns
returns g c =
    let bs = c.args.blocks.now in
    c.loop-at.invariant ∙ ap (λ xs. length xs)
    (gather-all (λ (b : Block _). b.entries.items) bs c.loop-at.at (omega (arith, c.loop-at-test.false)))
