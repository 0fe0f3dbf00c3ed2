use Rattle.std.proofs.Common.{◌≡◌, ℕ, ◌+◌, false, cond, List, length, Some, nat_lt, refl, sym, ap, ◌∙◌, rules, arith}
use Rattle.std.proofs.Common.{slice_get, slice_set}
use Rattle.std.specs.Prelude.{insert}
use Rattle.std.proofs.lemmas.List.{length-set}
use Rattle.std.proofs.lemmas.Option.{slice_get_read}
use Rattle.golf_blocks.specs.Gather.{not_empty}
use Rattle.golf_theory.specs.Maps.{rank}
use Rattle.golf_blocks.proofs.Gathers.{gather-same}
use Rattle.golf_theory.proofs.Readings.{set-here, same-item}
use Rattle.golf_blocks.specs.Blocks.{has_room, keyed_blocks, entries_in}
use Rattle.golf_blocks.specs.declared.blocks.Block.{Block}
use Rattle.golf_blocks.proofs.BlockLaws.{blocks-set, block-at, filled-set, filled-at}
use Rattle.golf_blocks.proofs.Places.{block-same}
use Rattle.golf_blocks.proofs.Halves.{AreHalves, halves, full-count, Full, full, Split, split-of}
use Rattle.golf_blocks.proofs.full_blocks.split.Given.{Over}
use Rattle.golf_blocks.proofs.full_blocks.split.Goals.{After-index_mut, After-half_of-place, After-insert}
use Rattle.golf_blocks.proofs.full_blocks.split.Goals as goal

-- the full block, which is lent
lent : (g : Over) (c : After-index_mut g) → Full c.reserve.new.self.items c.args.at c.index_mut.result.now
lent g c = full c.args.blocks.now.items c.reserve.new.self.items c.args.at c.index_mut.result.now
    c.reserve.ensures.items c.requires.blocks c.requires.filled c.requires.within c.index_mut.ensures.value

-- the place of the half
half : (g : Over) (c : After-half_of-place g) → Full c.reserve.new.self.items c.args.at c.index_mut.result.now
    → c.half_of-place.result ≡ cond (nat_lt c.cut.new.block.top c.args.key) (c.args.at + 1) c.args.at
half g c u =
    let cs = c.reserve.new.self.items in
    let i = c.args.at in
    let f = c.cut.new.block in
    let it = c.index.result.now in
    let there : slice_get (slice_set cs i f) i ≡ Some it =
    slice_get_read (slice_set cs i f) (length (slice_set cs i f)) i it refl
    (omega (arith, u.within, length-set cs i f)) c.index.ensures in
    let front : it ≡ f = same-item (slice_get (slice_set cs i f) i) it f there (set-here cs i f u.within) in
    c.half_of-place.ensures ∙ ap (λ (w : Block _). cond (nat_lt w.top c.args.key) (i + 1) i) front

-- the blocks with the halves
done : (g : Over) (c : After-insert g) → Full c.reserve.new.self.items c.args.at c.index_mut.result.now
    → Split c.reserve.new.self.items c.insert.new.self.items c.args.at c.args.key c.cut.new.block
done g c u =
    let cs = c.reserve.new.self.items in
    let i = c.args.at in
    let b = c.index_mut.result.now in
    let f = c.cut.new.block in
    let o = c.in_ok-others.others in
    let none : has_room (slice_get cs i) ≡ false =
    ap (λ (ds : List (Block _)). has_room (slice_get ds i)) c.reserve.ensures.items ∙ c.requires.full in
    let standing = block-at 0 i cs b u.blocks u.here in
    let both : AreHalves i cs b f o = halves 255 i cs b f o u.here (omega arith)
    (full-count standing.least i cs b standing.is u.here none) c.in_ok-others.ensures.front
    c.in_ok-others.ensures.front_top c.in_ok-others.ensures.back c.in_ok-others.ensures.back_top in
    let at : i ≡ rank c.args.key (keyed_blocks cs) = c.requires.place
    ∙ ap (λ (ds : List (Block _)). rank c.args.key (keyed_blocks ds)) (sym c.reserve.ensures.items) in
    let inserted : c.insert.new.self.items ≡ insert (slice_set cs i f) (i + 1) o = search rules in
    split-of cs c.insert.new.self.items i c.args.key b f o u at none both inserted

pub returns-in_err-others-clause-blocks : goal.returns-in_err-others-clause-blocks
returns-in_err-others-clause-blocks g c =
    let u = lent g (goal.at.returns-in_err-others-clause-blocks g c).After-index_mut in
    blocks-set 0 c.args.at c.reserve.new.self.items c.index_mut.result.now c.cut.new.block u.blocks u.here
    (λ l is. block-same l c.index_mut.result.now c.cut.new.block is c.in_err-others.ensures.err_top
    c.in_err-others.ensures.err) c.in_err-others.ensures.err_top

pub returns-in_err-others-clause-filled : goal.returns-in_err-others-clause-filled
returns-in_err-others-clause-filled g c =
    let u = lent g (goal.at.returns-in_err-others-clause-filled g c).After-index_mut in
    filled-set c.args.at c.reserve.new.self.items c.cut.new.block u.filled
    (ap (λ (ps : List (ℕ × _)). not_empty ps) c.in_err-others.ensures.err
    ∙ filled-at c.args.at c.reserve.new.self.items c.index_mut.result.now u.filled u.here)

pub returns-in_err-others-clause-entries : goal.returns-in_err-others-clause-entries
returns-in_err-others-clause-entries g c =
    let u = lent g (goal.at.returns-in_err-others-clause-entries g c).After-index_mut in
    gather-same (λ (b : Block _). b.entries.items) c.reserve.new.self.items c.args.at c.index_mut.result.now
    c.cut.new.block u.here c.in_err-others.ensures.err
    ∙ ap (λ (ds : List (Block _)). entries_in ds) c.reserve.ensures.items

pub returns-clause-blocks : goal.returns-clause-blocks
returns-clause-blocks g c =
    let at = goal.at.returns-clause-blocks g c in
    (done g at.After-insert (lent g at.After-index_mut)).blocks

pub returns-clause-filled : goal.returns-clause-filled
returns-clause-filled g c =
    let at = goal.at.returns-clause-filled g c in
    (done g at.After-insert (lent g at.After-index_mut)).filled

pub returns-clause-entries : goal.returns-clause-entries
returns-clause-entries g c =
    let at = goal.at.returns-clause-entries g c in
    (done g at.After-insert (lent g at.After-index_mut)).entries
    ∙ ap (λ (ds : List (Block _)). entries_in ds) c.reserve.ensures.items

pub returns-clause-place : goal.returns-clause-place
returns-clause-place g c =
    let at = goal.at.returns-clause-place g c in
    let u = lent g at.After-index_mut in
    half g at.After-half_of-place u ∙ (done g at.After-insert u).place

pub returns-clause-room : goal.returns-clause-room
returns-clause-room g c =
    let at = goal.at.returns-clause-room g c in
    let u = lent g at.After-index_mut in
    ap (λ (n : ℕ). has_room (slice_get c.insert.new.self.items n)) (half g at.After-half_of-place u)
    ∙ (done g at.After-insert u).room
