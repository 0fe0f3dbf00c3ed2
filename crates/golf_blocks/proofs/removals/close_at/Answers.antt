use Rattle.std.proofs.Common.{◌≡◌, ℕ, suc, ◌+◌, List, [], ◌++◌, length, take, drop, Some, refl, sym, ap, ◌∙◌, subst}
use Rattle.std.proofs.Common.{arith, slice_get}
use Rattle.std.proofs.lemmas.Bool.{eqb-true, eqb-false}
use Rattle.std.proofs.lemmas.List.{nil_from_length}
use Rattle.std.proofs.lemmas.Option.{slice_get_read}
use Rattle.golf_blocks.proofs.Gathers.{gather-append, gather-split}
use Rattle.golf_blocks.specs.Blocks.{AreBlocks, AreFilled, entries_in}
use Rattle.golf_blocks.specs.declared.blocks.Block.{Block}
use Rattle.golf_blocks.proofs.BlockLaws.{blocks-remove, filled-append, filled-three, something}
use Rattle.golf_blocks.proofs.removals.close_at.Goals as goal

pub returns-then-is_empty-clause-blocks : goal.returns-then-is_empty-clause-blocks
returns-then-is_empty-clause-blocks g c =
    let bs = c.args.blocks.now.items in
    let i = c.args.at in
    let b = c.index.result.now in
    let here : slice_get bs i ≡ Some b = slice_get_read bs (length bs) i b refl c.requires.within c.index.ensures in
    subst (AreBlocks 0) (sym c.remove.ensures.items) (blocks-remove 0 i bs c.requires.blocks)

pub returns-then-is_empty-clause-filled : goal.returns-then-is_empty-clause-filled
returns-then-is_empty-clause-filled g c =
    let bs = c.args.blocks.now.items in
    let i = c.args.at in
    let b = c.index.result.now in
    let here : slice_get bs i ≡ Some b = slice_get_read bs (length bs) i b refl c.requires.within c.index.ensures in
    let after : AreFilled (drop (suc i) bs) =
    subst (λ (n : ℕ). AreFilled (drop n bs)) (let next : i + 1 ≡ suc i = omega arith in next) c.requires.after in
    subst AreFilled (sym c.remove.ensures.items) (filled-append (take i bs) (drop (suc i) bs) c.requires.before after)

pub returns-then-is_empty-clause-entries : goal.returns-then-is_empty-clause-entries
returns-then-is_empty-clause-entries g c =
    let bs = c.args.blocks.now.items in
    let i = c.args.at in
    let b = c.index.result.now in
    let here : slice_get bs i ≡ Some b = slice_get_read bs (length bs) i b refl c.requires.within c.index.ensures in
    let none : b.entries.items ≡ [] = nil_from_length b.entries.items
    (omega (arith, eqb-true _ 0 (sym c.is_empty.ensures ∙ c.if-is_empty.true), b.entries.ok.0)) in
    ap (λ (cs : List (Block _)). entries_in cs) c.remove.ensures.items
    ∙ gather-append (λ (b : Block _). b.entries.items) (take i bs) (drop (suc i) bs)
    ∙ ap (λ (ps : List (ℕ × _)). entries_in (take i bs) ++ (ps ++ entries_in (drop (suc i) bs))) (sym none)
    ∙ sym (gather-split (λ (b : Block _). b.entries.items) bs i b here)

pub returns-else-is_empty-clause-filled : goal.returns-else-is_empty-clause-filled
returns-else-is_empty-clause-filled g c =
    let bs = c.args.blocks.now.items in
    let i = c.args.at in
    let b = c.index.result.now in
    let here : slice_get bs i ≡ Some b = slice_get_read bs (length bs) i b refl c.requires.within c.index.ensures in
    let after : AreFilled (drop (suc i) bs) =
    subst (λ (n : ℕ). AreFilled (drop n bs)) (let next : i + 1 ≡ suc i = omega arith in next) c.requires.after in
    filled-three i bs b here c.requires.before
    (something b.entries.items (omega (
      arith,
      eqb-false _ 0 (sym c.is_empty.ensures ∙ c.if-is_empty.false),
      b.entries.ok.0,
    ))) after
