use Rattle.std.proofs.Common.{◌≡◌, ℕ, ◌^◌, ◌<◌, true, List, [], ◌∷◌, ◌++◌, refl, sym, ap, ◌∙◌, subst, arith}
use Rattle.golf_blocks.specs.Gather.{not_empty}
use Rattle.golf_blocks.specs.Blocks.{AreBlocks, AreFilled, is_filled}
use Rattle.golf_blocks.specs.declared.blocks.Block.{Block}
use Rattle.golf_blocks.proofs.BlockLaws.{blocks-push, filled-append}
use Rattle.golf_blocks.proofs.Places.{block-one}
use Rattle.golf_blocks.proofs.insertions.add_block.Goals as goal

pub returns-clause-blocks : goal.returns-clause-blocks
returns-clause-blocks g c =
    let bs = c.args.blocks.now.items in
    let n0 = c.args.key in
    let entry : List (ℕ × _) = (n0, c.args.value) ∷ [] in
    let b : Block _ = record { top = n0; entries = c.push.new.self } in
    let limit : n0 < 2 ^ 32 = omega (arith, c.ranges.key.fits) in
    let one : b.entries.items ≡ entry = c.in_ok-push.ensures.items
    ∙ ap (λ (ps : List (ℕ × _)). ps ++ entry) c.new-entries.ensures.items in
    subst (AreBlocks 0) (sym c.in_ok-push-2.ensures.items)
    (blocks-push 0 bs b c.requires.blocks c.requires.below (omega arith)
    (λ l h. block-one l n0 c.args.value b h limit refl one))

pub returns-clause-filled : goal.returns-clause-filled
returns-clause-filled g c =
    let bs = c.args.blocks.now.items in
    let n0 = c.args.key in
    let entry : List (ℕ × _) = (n0, c.args.value) ∷ [] in
    let b : Block _ = record { top = n0; entries = c.push.new.self } in
    let one : b.entries.items ≡ entry = c.in_ok-push.ensures.items
    ∙ ap (λ (ps : List (ℕ × _)). ps ++ entry) c.new-entries.ensures.items in
    let some : is_filled b ≡ true = ap (λ (ps : List (ℕ × _)). not_empty ps) one in
    subst AreFilled (sym c.in_ok-push-2.ensures.items) (filled-append bs (b ∷ []) c.requires.filled (some, tt))
