use Rattle.std.proofs.Common.{◌≡◌, ℕ, suc, ◌+◌, ◌<◌, List, length, drop, Some, refl, sym, ap, ◌∙◌, subst, arith, slice_get}
use Rattle.std.specs.Prelude.{option_map}
use Rattle.std.proofs.lemmas.Option.{slice_get_read}
use Rattle.golf_theory.specs.Maps.{Rises, rank}
use Rattle.golf_blocks.specs.Blocks.{entries_in}
use Rattle.golf_blocks.specs.declared.blocks.Block.{Block}
use Rattle.golf_blocks.proofs.Places.{Sides, sides}
use Rattle.golf_blocks.proofs.SuccessorLaws.{next-none, next-here, next-behind}
use Rattle.golf_blocks.proofs.successors.next_in.Given.{Over}
use Rattle.golf_blocks.proofs.successors.next_in.Goals.{After-index-blocks-at, After-as_slice-entries}
use Rattle.golf_blocks.proofs.successors.next_in.Goals as goal

lent : (g : Over) (c : After-index-blocks-at g)
    → Sides c.args.blocks.now c.block_of-at.result c.args.key c.index-blocks-at.result
lent g c = sides c.args.blocks.now c.block_of-at.result c.args.key c.index-blocks-at.result c.requires.blocks
    c.block_of-at.ensures
    (slice_get_read c.args.blocks.now (length c.args.blocks.now) c.block_of-at.result c.index-blocks-at.result
    refl (omega (arith, c.if-at-blocks.false)) c.index-blocks-at.is)

entries : (g : Over) (c : After-as_slice-entries g) → c.as_slice-entries.result.now ≡ c.index-blocks-at.result.entries.items
entries g c = c.as_slice-entries.ensures.value ∙ ap (λ (b : Block _). b.entries.items) (sym c.index-blocks-at.is)

pub returns-then-at-blocks : goal.returns-then-at-blocks
returns-then-at-blocks g c = sym (ap (option_map (λ (e : ℕ × _). e.0)) (next-none c.args.blocks.now
    c.block_of-at.result c.args.key c.requires.blocks c.block_of-at.ensures c.if-at-blocks.true))

pub rank_of-index-requires : goal.rank_of-index-requires
rank_of-index-requires g c =
    let at = goal.at.rank_of-index-requires g c in
    subst (λ (es : List (ℕ × _)). Rises 0 es) (sym (entries g at.After-as_slice-entries))
    (lent g at.After-index-blocks-at).rises

pub returns-then-index-entries : goal.returns-then-index-entries
returns-then-index-entries g c =
    let at = goal.at.returns-then-index-entries g c in
    let es = c.index-blocks-at.result.entries.items in
    let same = entries g at.After-as_slice-entries in
    let i = c.rank_of-index.ensures ∙ ap (λ (xs : List (ℕ × _)). rank c.args.key xs) same in
    let here : slice_get es (rank c.args.key es) ≡ Some c.index-entries-index.result =
    ap (slice_get es) (sym i) ∙ ap (λ (xs : List (ℕ × _)). slice_get xs c.rank_of-index.result) (sym same)
    ∙ slice_get_read c.as_slice-entries.result.now (length c.as_slice-entries.result.now) c.rank_of-index.result
    c.index-entries-index.result refl c.if-index-entries.true c.index-entries-index.is in
    let l : rank c.args.key es < length es = omega (arith, i, c.if-index-entries.true, ap (λ (xs : List (ℕ × _)). length xs) same) in
    ap (λ (e : ℕ × _). Some e.0) (sym c.index-entries-index.is)
    ∙ sym (ap (option_map (λ (e : ℕ × _). e.0)) (next-here c.args.blocks.now c.block_of-at.result c.args.key
    c.index-blocks-at.result (lent g at.After-index-blocks-at) l ∙ here))

pub returns : goal.returns
returns g c =
    let at = goal.at.returns g c in
    let same = entries g at.After-as_slice-entries in
    let i = c.rank_of-index.ensures ∙ ap (λ (xs : List (ℕ × _)). rank c.args.key xs) same in
    let next : c.block_of-at.result + 1 ≡ suc c.block_of-at.result = omega arith in
    c.first_from.ensures
    ∙ sym (ap (option_map (λ (e : ℕ × _). e.0)) (next-behind c.args.blocks.now c.block_of-at.result c.args.key
    c.index-blocks-at.result (lent g at.After-index-blocks-at)
    (omega (arith, i, c.if-index-entries.false, ap (λ (xs : List (ℕ × _)). length xs) same))
    ∙ ap (λ (n : ℕ). slice_get (entries_in (drop n c.args.blocks.now)) 0) (sym next)))
