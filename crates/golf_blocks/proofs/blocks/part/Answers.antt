use Rattle.std.proofs.Common.{ℕ, List, not, ◌==◌, length, ap, arith}
use Rattle.golf_blocks.proofs.Parts.{only-length}
use Rattle.golf_blocks.proofs.blocks.part.Goals as goal

pub overflow_sub-result : goal.overflow_sub-result
overflow_sub-result g c =
    let b = c.args.block.now in
    let fewer = only-length (λ p. not (p == c.args.key)) b.entries.items in
    omega (
      arith,
      fewer,
      ap (λ (xs : List (ℕ × _)). length xs) c.take_entry.ensures,
      c.len.ensures,
      c.len-before.ensures,
      b.entries.ok.0,
      c.take_entry.new.entries.ok.0,
    )

pub returns-clause-count : goal.returns-clause-count
returns-clause-count g c =
    let b = c.args.block.now in
    let fewer = only-length (λ p. not (p == c.args.key)) b.entries.items in
    omega (
      arith,
      fewer,
      ap (λ (xs : List (ℕ × _)). length xs) c.take_entry.ensures,
      c.len.ensures,
      c.len-before.ensures,
      b.entries.ok.0,
      c.take_entry.new.entries.ok.0,
    )
