use Rattle.std.proofs.Common.{◌+◌, ◌/◌, List, length, sym, ap, ◌∙◌, subst, arith, slice_set}
use Rattle.golf_theory.specs.Maps.{rank}
use Rattle.golf_theory.specs.Membership.{In}
use Rattle.golf_theory.specs.Stored.{placed}
use Rattle.golf_blocks.proofs.Gathers.{gather-swap}
use Rattle.golf_state_goroutines.specs.Goroutines.{IsNone}
use Rattle.golf_state_goroutines.specs.RunBlocks.{numbers, running_in, block_keys, keyed_blocks}
use Rattle.golf_state_goroutines.specs.RunLists.{Runners}
use Rattle.golf_state_goroutines.specs.declared.run_blocks.RunBlock.{RunBlock}
use Rattle.golf_state_goroutines.proofs.BlockLaws.{numbers-length}
use Rattle.golf_state_goroutines.proofs.Splits.{Sides, Stands, stands, found, blocks-set, placed-in, keys-set, none-in}
use Rattle.golf_state_goroutines.proofs.Splits.{running-few}
use Rattle.golf_state_goroutines.proofs.Summing.{inside, read-any, sums-set, sum-few}
use Rattle.golf_state_goroutines.proofs.RunLaws.{same-runs}
use Rattle.golf_state_goroutines.proofs.run_list.RunList.start.Goals.{After-block_of-at, After-index_mut}
use Rattle.golf_state_goroutines.proofs.run_list.RunList.start.Goals as goal

-- the block is there
there : (c : After-block_of-at) → Stands c.self.inside.blocks.items c.block_of-at.result (c.args.number / 256)
there c =
    let bs = c.self.inside.blocks.items in
    let k = c.args.number / 256 in
    subst (λ i. Stands bs i k)
    (sym (c.block_of-at.ensures ∙ ap (λ (cs : List RunBlock). rank k (keyed_blocks cs)) c.as_slice.ensures.value))
    (stands 0 bs k c.self.invariant.blocks (subst (λ (r : Runners). In k r.keys) (sym c.self.view_is) c.requires.room))

lent : (c : After-index_mut) → Stands c.self.inside.blocks.items c.block_of-at.result (c.args.number / 256)
    → Sides c.self.inside.blocks.items c.block_of-at.result c.args.number c.index_mut.result.now
lent c t = found c.self.inside.blocks.items c.as_slice.result.now c.block_of-at.result c.args.number
    c.index_mut.result.now c.self.invariant.blocks c.block_of-at.ensures c.as_slice.ensures.value t.within
    c.index_mut.ensures.value

pub index_mut-requires : goal.index_mut-requires
index_mut-requires c =
    let t = there (goal.at.index_mut-requires c).After-block_of-at in
    omega (arith, t.within, c.self.inside.blocks.ok.0)

pub start-requires-clause-block : goal.start-requires-clause-block
start-requires-clause-block c =
    let at = goal.at.start-requires-clause-block c in
    (lent at.After-index_mut (there at.After-block_of-at)).block

pub start-requires-clause-key : goal.start-requires-clause-key
start-requires-clause-key c =
    let at = goal.at.start-requires-clause-key c in
    let t = there at.After-block_of-at in
    sym (t.key c.index_mut.result.now (lent at.After-index_mut t).here)

pub start-requires-clause-none : goal.start-requires-clause-none
start-requires-clause-none c =
    let at = goal.at.start-requires-clause-none c in
    none-in c.self.inside.blocks.items c.block_of-at.result c.args.number c.index_mut.result.now
    (lent at.After-index_mut (there at.After-block_of-at))
    (subst (λ (r : Runners). IsNone c.args.number r.numbers) (sym c.self.view_is) c.requires.none)

pub index_mut-requires-2 : goal.index_mut-requires-2
index_mut-requires-2 c =
    let t = there (goal.at.index_mut-requires-2 c).After-block_of-at in
    omega (
      arith,
      inside c.block_of-at.result (length c.self.inside.blocks.items) (length c.self.inside.sums.items)
          t.within c.self.invariant.sums.enough,
      c.self.inside.sums.ok.0,
    )

pub overflow_add-index_mut : goal.overflow_add-index_mut
overflow_add-index_mut c =
    let t = there (goal.at.overflow_add-index_mut c).After-block_of-at in
    let bs = c.self.inside.blocks.items in
    let ns = c.self.inside.sums.items in
    let i = c.block_of-at.result in
    let w = inside i (length bs) (length ns) t.within c.self.invariant.sums.enough in
    let v = read-any ns (i / 64) _ c.index_mut-2.result.now w c.index_mut-2.ensures.value in
    let few = running-few bs c.self.invariant.blocks in
    omega (arith, v, sum-few bs ns (i / 64) c.self.invariant.sums, few)

pub overflow_add-self : goal.overflow_add-self
overflow_add-self c =
    omega (arith, c.self.invariant.count, running-few c.self.inside.blocks.items c.self.invariant.blocks)

pub invariant_of-self : goal.invariant_of-self
invariant_of-self c =
    let at = goal.at.invariant_of-self c in
    let l = lent at.After-index_mut (there at.After-block_of-at) in
    let bs = c.self.inside.blocks.items in
    let ns = c.self.inside.sums.items in
    let i = c.block_of-at.result in
    let b = c.index_mut.result.now in
    let w = inside i (length bs) (length ns) l.within c.self.invariant.sums.enough in
    let v = read-any ns (i / 64) _ c.index_mut-2.result.now w c.index_mut-2.ensures.value in
    let n = c.start.new.block in
    let swap = gather-swap (λ (b : RunBlock). numbers b.running.items) bs i b n l.here l.within in
    record {
      blocks = blocks-set 0 i bs b n c.self.invariant.blocks l.here c.start.ensures.block c.start.ensures.key;
      sums = sums-set bs ns i 1 0 (c.index_mut-2.result.now + 1) b n c.self.invariant.sums l.here l.within
          (omega (arith, c.start.ensures.count)) (omega (arith, v));
      count = omega (
        arith,
        swap,
        numbers-length b.running.items,
        numbers-length n.running.items,
        c.start.ensures.count,
        c.self.invariant.count,
      );
    }

pub returns : goal.returns
returns c =
    let at = goal.at.returns c in
    let l = lent at.After-index_mut (there at.After-block_of-at) in
    let bs = c.self.inside.blocks.items in
    let g = c.args.number in
    let i = c.block_of-at.result in
    let b = c.index_mut.result.now in
    let n = c.start.new.block in
    rw (← c.self.view_is) (same-runs (running_in (slice_set bs i n)) (placed g (running_in bs))
    (block_keys (slice_set bs i n)) (block_keys bs) (placed-in bs i g b l n c.start.ensures.running)
    (keys-set bs i b n l.here c.start.ensures.key))
