use Rattle.std.proofs.Common.{◌≡◌, ℕ, suc, ◌-◌, ◌<◌, true, List, [], ◌∷◌, length, Option, Some, Result, Ok, Err}
use Rattle.std.proofs.Common.{OnErr, refl, sym, ap, ◌∙◌, arith, slice_get}
use Rattle.std.specs.Prelude.{option_map}
use Rattle.std.proofs.lemmas.List.{length-append}
use Rattle.std.proofs.lemmas.Option.{slice_get_read, slice_get-map}
use Rattle.golf_blocks.specs.Gather.{not_empty}
use Rattle.golf_blocks.proofs.Gathers.{gather-same}
use Rattle.golf_blocks.specs.Blocks.{has_room}
use Rattle.golf_blocks.specs.declared.blocks.Block.{Block}
use Rattle.golf_blocks.proofs.Parts.{below-at}
use Rattle.golf_blocks.proofs.BlockLaws.{blocks-set, blocks-end, filled-set, filled-at, end-entries, something}
use Rattle.golf_blocks.proofs.Places.{block-same, block-append}
use Rattle.golf_blocks.proofs.Halves.{room-within}
use Rattle.golf_blocks.proofs.insertions.add_last.Given.{Over}
use Rattle.golf_blocks.proofs.insertions.add_last.Goals.{After-index_mut}
use Rattle.golf_blocks.proofs.insertions.add_last.Goals as goal

any-err : {A E : Type 0} (r : Result A E) (P : Type 0) → P → OnErr r P
any-err (Ok a) P p = tt
any-err (Err e) P p = p

-- the last block, once it is lent
record IsLast {V : Type 0} (bs : List (Block V)) (i : ℕ) (b : Block V) : Type 0 where
  here : slice_get bs i ≡ Some b
  end : suc i ≡ length bs
  room : has_room (Some b) ≡ true

lent : (g : Over) (c : After-index_mut g)
    → IsLast c.args.blocks.now.items (c.len-last.result - 1) c.index_mut.result.now
lent g c =
    let bs = c.args.blocks.now.items in
    let i = c.len-last.result - 1 in
    let room : has_room (slice_get bs (length bs - 1)) ≡ true =
    ap (λ (cs : List (Block _)). has_room (slice_get cs (length cs - 1))) (sym c.as_slice.ensures.value)
    ∙ sym c.if-has_room_at_end.ensures in
    let low = room-within (length bs - 1) bs room in
    let last : i ≡ length bs - 1 = omega (arith, c.len-last.ensures, c.args.blocks.now.ok.0) in
    let here : slice_get bs i ≡ Some c.index_mut.result.now =
    slice_get_read bs (length bs) i c.index_mut.result.now refl (omega (arith, last, low)) c.index_mut.ensures.value in
    record {
      here = here;
      end = omega (arith, last, low);
      room = ap has_room (sym here) ∙ ap (λ (k : ℕ). has_room (slice_get bs k)) last ∙ room;
    }

pub returns-in_err-append-clause-blocks : goal.returns-in_err-append-clause-blocks
returns-in_err-append-clause-blocks g c =
    let l = lent g (goal.at.returns-in_err-append-clause-blocks g c).After-index_mut in
    blocks-set 0 (c.len-last.result - 1) c.args.blocks.now.items c.index_mut.result.now c.append.new.block
    c.requires.blocks l.here
    (λ lo is. block-same lo c.index_mut.result.now c.append.new.block is c.in_err-append.ensures.err_top
    c.in_err-append.ensures.err) c.in_err-append.ensures.err_top

pub returns-in_err-append-clause-filled : goal.returns-in_err-append-clause-filled
returns-in_err-append-clause-filled g c =
    let l = lent g (goal.at.returns-in_err-append-clause-filled g c).After-index_mut in
    filled-set (c.len-last.result - 1) c.args.blocks.now.items c.append.new.block c.requires.filled
    (ap (λ (es : List (ℕ × _)). not_empty es) c.in_err-append.ensures.err
    ∙ filled-at (c.len-last.result - 1) c.args.blocks.now.items c.index_mut.result.now c.requires.filled l.here)

pub returns-in_err-append-clause-err : goal.returns-in_err-append-clause-err
returns-in_err-append-clause-err g c =
    let l = lent g (goal.at.returns-in_err-append-clause-err g c).After-index_mut in
    any-err c.from_residual.result _
    (gather-same (λ (b : Block _). b.entries.items) c.args.blocks.now.items (c.len-last.result - 1)
    c.index_mut.result.now c.append.new.block l.here c.in_err-append.ensures.err)

pub returns-then-has_room_at_end-clause-blocks : goal.returns-then-has_room_at_end-clause-blocks
returns-then-has_room_at_end-clause-blocks g c =
    let bs = c.args.blocks.now.items in
    let i = c.len-last.result - 1 in
    let b = c.index_mut.result.now in
    let l = lent g (goal.at.returns-then-has_room_at_end-clause-blocks g c).After-index_mut in
    let low : b.top < c.args.key = below-at c.args.key i _ (b.top, b) c.requires.below
    (slice_get-map (λ (b : Block _). (b.top, b)) bs i
    ∙ ap (λ (o : Option (Block _)). option_map (λ (b : Block _). (b.top, b)) o) l.here) in
    blocks-end 0 i bs b c.append.new.block c.requires.blocks l.end l.here
    (λ lo is. block-append lo c.args.key c.args.value b c.append.new.block is low (omega (arith, c.ranges.key.fits))
    l.room c.in_ok-append.ensures.ok_top c.in_ok-append.ensures.ok)

pub returns-then-has_room_at_end-clause-filled : goal.returns-then-has_room_at_end-clause-filled
returns-then-has_room_at_end-clause-filled g c =
    let more = ap (λ (es : List (ℕ × _)). length es) c.in_ok-append.ensures.ok in
    filled-set (c.len-last.result - 1) c.args.blocks.now.items c.append.new.block c.requires.filled
    (something c.append.new.block.entries.items
    (omega (arith, more, length-append c.index_mut.result.now.entries.items ((c.args.key, c.args.value) ∷ []))))

pub returns-then-has_room_at_end-clause-ok : goal.returns-then-has_room_at_end-clause-ok
returns-then-has_room_at_end-clause-ok g c =
    let l = lent g (goal.at.returns-then-has_room_at_end-clause-ok g c).After-index_mut in
    end-entries (c.len-last.result - 1) c.args.blocks.now.items c.index_mut.result.now c.append.new.block
    ((c.args.key, c.args.value) ∷ []) l.end l.here c.in_ok-append.ensures.ok
