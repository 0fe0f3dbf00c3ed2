use Rattle.std.proofs.Common.{◌-◌, ◌/◌, length, refl, sym, arith, slice_set}
use Rattle.golf_theory.specs.Stored.{without}
use Rattle.golf_blocks.proofs.Gathers.{gather-swap}
use Rattle.golf_state_goroutines.specs.RunBlocks.{numbers, running_in, block_keys}
use Rattle.golf_state_goroutines.specs.declared.run_blocks.RunBlock.{RunBlock}
use Rattle.golf_state_goroutines.proofs.Middles.{without-under}
use Rattle.golf_state_goroutines.proofs.BlockLaws.{numbers-length}
use Rattle.golf_state_goroutines.proofs.Splits.{Sides, found, all-under, blocks-set, without-in, keys-set}
use Rattle.golf_state_goroutines.proofs.Summing.{inside, read-any, sums-set, gather-holds, sum-holds}
use Rattle.golf_state_goroutines.proofs.RunLaws.{same-runs}
use Rattle.golf_state_goroutines.proofs.run_list.RunList.stop.Goals.{After-index_mut}
use Rattle.golf_state_goroutines.proofs.run_list.RunList.stop.Goals as goal

lent : (c : After-index_mut)
    → Sides c.self.inside.blocks.items c.block_of-at.result c.args.number c.index_mut.result.now
lent c = found c.self.inside.blocks.items c.as_slice.result.now c.block_of-at.result c.args.number
    c.index_mut.result.now c.self.invariant.blocks c.block_of-at.ensures c.as_slice.ensures.value
    (omega (arith, c.if-at-len.false, c.len.ensures, c.self.inside.blocks.ok.0)) c.index_mut.ensures.value

pub returns-then-at-len : goal.returns-then-at-len
returns-then-at-len c =
    let bs = c.self.inside.blocks.items in
    let g = c.args.number in
    let u = all-under bs c.as_slice.result.now c.block_of-at.result g c.self.invariant.blocks c.block_of-at.ensures
    c.as_slice.ensures.value (omega (arith, c.if-at-len.true, c.len.ensures, c.self.inside.blocks.ok.0)) in
    rw (← c.self.view_is) (same-runs (running_in bs) (without g (running_in bs)) (block_keys bs) (block_keys bs)
    (sym (without-under g (running_in bs) u)) refl)

pub stop-gone-requires : goal.stop-gone-requires
stop-gone-requires c = (lent (goal.at.stop-gone-requires c).After-index_mut).block

pub overflow_sub-index_mut : goal.overflow_sub-index_mut
overflow_sub-index_mut c =
    let l = lent (goal.at.overflow_sub-index_mut c).After-index_mut in
    let bs = c.self.inside.blocks.items in
    let ns = c.self.inside.sums.items in
    let i = c.block_of-at.result in
    let w = inside i (length bs) (length ns) l.within c.self.invariant.sums.enough in
    let v = read-any ns (i / 64) _ c.index_mut-2.result.now w c.index_mut-2.ensures.value in
    let s = sum-holds bs ns i c.index_mut.result.now c.self.invariant.sums l.here in
    omega (arith, v, s, c.stop-gone.ensures.count)

pub overflow_sub-self : goal.overflow_sub-self
overflow_sub-self c =
    let l = lent (goal.at.overflow_sub-self c).After-index_mut in
    let b = c.index_mut.result.now in
    let h = gather-holds (λ (b : RunBlock). numbers b.running.items) c.self.inside.blocks.items c.block_of-at.result b
    l.here in
    omega (arith, h, numbers-length b.running.items, c.stop-gone.ensures.count, c.self.invariant.count)

pub invariant_of-self : goal.invariant_of-self
invariant_of-self c =
    let l = lent (goal.at.invariant_of-self c).After-index_mut in
    let bs = c.self.inside.blocks.items in
    let ns = c.self.inside.sums.items in
    let i = c.block_of-at.result in
    let b = c.index_mut.result.now in
    let w = inside i (length bs) (length ns) l.within c.self.invariant.sums.enough in
    let v = read-any ns (i / 64) _ c.index_mut-2.result.now w c.index_mut-2.ensures.value in
    let s = sum-holds bs ns i b c.self.invariant.sums l.here in
    let n = c.stop-gone.new.block in
    let swap = gather-swap (λ (b : RunBlock). numbers b.running.items) bs i b n l.here l.within in
    record {
      blocks = blocks-set 0 i bs b n c.self.invariant.blocks l.here c.stop-gone.ensures.block c.stop-gone.ensures.key;
      sums = sums-set bs ns i 0 c.stop-gone.result
          (c.index_mut-2.result.now - c.stop-gone.result) b n c.self.invariant.sums l.here l.within
          (omega (arith, c.stop-gone.ensures.count))
          (omega (arith, v, s, c.stop-gone.ensures.count));
      count = omega (
        arith,
        swap,
        numbers-length b.running.items,
        numbers-length n.running.items,
        c.stop-gone.ensures.count,
        c.self.invariant.count,
      );
    }

pub returns : goal.returns
returns c =
    let l = lent (goal.at.returns c).After-index_mut in
    let bs = c.self.inside.blocks.items in
    let g = c.args.number in
    let i = c.block_of-at.result in
    let b = c.index_mut.result.now in
    let n = c.stop-gone.new.block in
    rw (← c.self.view_is) (same-runs (running_in (slice_set bs i n)) (without g (running_in bs))
    (block_keys (slice_set bs i n)) (block_keys bs) (without-in bs i g b l n c.stop-gone.ensures.running)
    (keys-set bs i b n l.here c.stop-gone.ensures.key))
