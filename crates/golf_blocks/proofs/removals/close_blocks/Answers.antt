use Rattle.std.proofs.Common.{◌≡◌, List, filter, rules, sym, ap, ◌∙◌, subst}
use Rattle.std.proofs.lemmas.Fn.{filter_same}
use Rattle.golf_blocks.proofs.Gathers.{gather-full}
use Rattle.golf_blocks.specs.Blocks.{AreBlocks, AreFilled, is_filled, entries_in}
use Rattle.golf_blocks.specs.declared.blocks.Block.{Block}
use Rattle.golf_blocks.proofs.BlockLaws.{blocks-filled, filled-filter, nothing}
use Rattle.golf_blocks.proofs.removals.close_blocks.Goals as goal

pub returns-clause-blocks : goal.returns-clause-blocks
returns-clause-blocks g c =
    let bs = c.args.blocks.now.items in
    let left : c.retain.new.self.items ≡ filter is_filled bs =
    filter_same _ is_filled _ (λ x b f' k. search rules) _ _ c.retain.ensures.filtered in
    subst (AreBlocks 0) (sym left) (blocks-filled 0 bs c.requires)

pub returns-clause-filled : goal.returns-clause-filled
returns-clause-filled g c =
    let bs = c.args.blocks.now.items in
    let left : c.retain.new.self.items ≡ filter is_filled bs =
    filter_same _ is_filled _ (λ x b f' k. search rules) _ _ c.retain.ensures.filtered in
    subst AreFilled (sym left) (filled-filter bs)

pub returns-clause-entries : goal.returns-clause-entries
returns-clause-entries g c =
    let bs = c.args.blocks.now.items in
    let left : c.retain.new.self.items ≡ filter is_filled bs =
    filter_same _ is_filled _ (λ x b f' k. search rules) _ _ c.retain.ensures.filtered in
    ap (λ (cs : List (Block _)). entries_in cs) left
    ∙ gather-full (λ (b : Block _). b.entries.items) is_filled (λ b e. nothing b.entries.items e) bs
