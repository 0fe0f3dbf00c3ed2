use Rattle.std.proofs.Common.{◌≡◌, ℕ, ◌+◌, ◌*◌, ◌/◌, ◌<◌, ◌≤◌, List, length, sym, ap, subst, arith}
use Rattle.golf_state_goroutines.specs.RunBlocks.{numbers, RisesIn}
use Rattle.golf_state_goroutines.proofs.Ranges.{in-from, in-placed, in-room, placed-length}
use Rattle.golf_state_goroutines.proofs.BlockLaws.{numbers-length}
use Rattle.golf_state_goroutines.proofs.run_blocks.start.Goals as goal

at-least : (g k : ℕ) → g / 256 ≡ k → k * 256 ≤ g
at-least g k e = omega (arith, e)

at-most : (g k : ℕ) → g / 256 ≡ k → g < k * 256 + 256
at-most g k e = omega (arith, e)

pub put_in-requires-clause-room : goal.put_in-requires-clause-room
put_in-requires-clause-room c =
    let b = c.args.block.now in
    let g = c.args.number in
    let room = in-room (b.key * 256) (b.key * 256 + 256) g
    (numbers b.running.items) c.requires.block.running c.requires.none (at-least g b.key c.requires.key)
    (at-most g b.key c.requires.key) in
    omega (arith, room, numbers-length b.running.items, b.running.ok.0, c.requires.block.room)

pub put_in-requires-clause-rises : goal.put_in-requires-clause-rises
put_in-requires-clause-rises c =
    let b = c.args.block.now in
    in-from 0 (b.key * 256) (b.key * 256 + 256) (numbers b.running.items) (omega arith) c.requires.block.running

pub returns-clause-block : goal.returns-clause-block
returns-clause-block c =
    let b = c.args.block.now in
    let g = c.args.number in
    record {
      running = subst (RisesIn (b.key * 256) (b.key * 256 + 256)) (sym c.put_in.ensures.all)
          (in-placed (b.key * 256) (b.key * 256 + 256) g
          (numbers b.running.items) c.requires.block.running c.requires.none (at-least g b.key c.requires.key)
          (at-most g b.key c.requires.key));
      room = omega (arith, c.put_in.ensures.room, c.requires.block.room);
      limit = c.requires.block.limit;
    }

pub returns-clause-count : goal.returns-clause-count
returns-clause-count c =
    let b = c.args.block.now in
    omega (
      arith,
      numbers-length b.running.items,
      numbers-length c.put_in.new.goroutines.items,
      placed-length c.args.number (numbers b.running.items),
      ap (λ (xs : List ℕ). length xs) c.put_in.ensures.all,
    )
