use Rattle.std.proofs.Common.{sym, ap, ◌∙◌}
use Rattle.std.specs.Prelude.{option_map}
use Rattle.std.proofs.lemmas.Option.{slice_get-map}
use Rattle.golf_theory.proofs.Readings.{item-at}
use Rattle.golf_theory.proofs.Guesses.{rank-here}
use Rattle.golf_state_goroutines.specs.RunBlocks.{keyed_blocks}
use Rattle.golf_state_goroutines.specs.declared.run_blocks.RunBlock.{RunBlock}
use Rattle.golf_state_goroutines.proofs.Splits.{blocks-rise}
use Rattle.golf_state_goroutines.proofs.run_blocks.index_of.Goals as goal

pub returns-then-block-key : goal.returns-then-block-key
returns-then-block-key c =
    let bs = c.args.blocks.now in
    let n = c.args.key in
    let b = c.in_ok-block.block.now in
    let here = slice_get-map (λ (b : RunBlock). (b.key, b)) bs n
    ∙ ap (option_map (λ (b : RunBlock). (b.key, b))) (item-at bs n c.in_ok-block.block c.in_ok-block.ensures.lookup) in
    sym (rank-here n (keyed_blocks bs) (b.key, b) (blocks-rise 0 bs c.requires) here c.if-block-key.true)
