use Rattle.std.proofs.Common.{ℕ, ◌+◌, ◌*◌, ◌==◌, not, List, length, sym, ap, subst, arith}
use Rattle.golf_state_goroutines.specs.RunBlocks.{numbers, RisesIn}
use Rattle.golf_state_goroutines.proofs.Ranges.{in-from, in-filter}
use Rattle.golf_state_goroutines.proofs.Middles.{filter-length}
use Rattle.golf_state_goroutines.proofs.BlockLaws.{numbers-length}
use Rattle.golf_state_goroutines.proofs.run_blocks.stop.Goals as goal

pub leave_out-requires : goal.leave_out-requires
leave_out-requires c =
    let b = c.args.block.now in
    in-from 0 (b.key * 256) (b.key * 256 + 256) (numbers b.running.items) (omega arith) c.requires.running

pub overflow_sub-result : goal.overflow_sub-result
overflow_sub-result c =
    let b = c.args.block.now in
    let fewer = filter-length (λ x. not (x == c.args.number)) (numbers b.running.items) in
    omega (
      arith,
      fewer,
      numbers-length b.running.items,
      numbers-length c.leave_out.new.goroutines.items,
      ap (λ (xs : List ℕ). length xs) c.leave_out.ensures.others,
      c.len.ensures,
      c.len-before.ensures,
      b.running.ok.0,
      c.leave_out.new.goroutines.ok.0,
    )

pub returns-clause-block : goal.returns-clause-block
returns-clause-block c =
    let b = c.args.block.now in
    record {
      running = subst (RisesIn (b.key * 256) (b.key * 256 + 256)) (sym c.leave_out.ensures.others)
          (in-filter (λ x. not (x == c.args.number)) (b.key * 256) (b.key * 256 + 256)
          (numbers b.running.items) c.requires.running);
      room = omega (arith, c.leave_out.ensures.room, c.requires.room);
      limit = c.requires.limit;
    }

pub returns-clause-count : goal.returns-clause-count
returns-clause-count c =
    let b = c.args.block.now in
    let fewer = filter-length (λ x. not (x == c.args.number)) (numbers b.running.items) in
    omega (
      arith,
      fewer,
      numbers-length b.running.items,
      numbers-length c.leave_out.new.goroutines.items,
      ap (λ (xs : List ℕ). length xs) c.leave_out.ensures.others,
      c.len.ensures,
      c.len-before.ensures,
      b.running.ok.0,
      c.leave_out.new.goroutines.ok.0,
    )
