use Rattle.std.proofs.Common.{◌≡◌, ℕ, ◌≤◌, List, length, None, Result, Ok, Err, OnErr, refl, sym, ap, ◌∙◌, arith}
use Rattle.std.proofs.lemmas.Option.{slice_get_read}
use Rattle.golf_theory.specs.Maps.{find, insert, AllBelow, rank}
use Rattle.golf_blocks.specs.Gather.{not_empty}
use Rattle.golf_blocks.proofs.Gathers.{gather-same}
use Rattle.golf_blocks.specs.Blocks.{has_room, keyed_blocks}
use Rattle.golf_blocks.specs.declared.blocks.Block.{Block}
use Rattle.golf_blocks.proofs.Parts.{insert-last, insert-length}
use Rattle.golf_blocks.proofs.BlockLaws.{tops-below, blocks-set, blocks-put, filled-set, filled-at, something}
use Rattle.golf_blocks.proofs.Places.{Sides, sides, all-tops, find-in, insert-in, block-same, block-put}
use Rattle.golf_blocks.proofs.insertions.put_in.Given.{Over}
use Rattle.golf_blocks.proofs.insertions.put_in.Goals.{After-block_of-at, After-index_mut}
use Rattle.golf_blocks.proofs.insertions.put_in.Goals as goal

any-err : {A E : Type 0} (r : Result A E) (P : Type 0) → P → OnErr r P
any-err (Ok a) P p = tt
any-err (Err e) P p = p

-- all tops are smaller
tops : (g : Over) (c : After-block_of-at g) → length c.args.blocks.now.items ≤ c.block_of-at.result
    → AllBelow c.args.key (keyed_blocks c.args.blocks.now.items)
tops g c past = all-tops c.args.blocks.now.items c.block_of-at.result c.args.key
    (c.block_of-at.ensures ∙ ap (λ (cs : List (Block _)). rank c.args.key (keyed_blocks cs)) c.as_slice.ensures.value)
    past

-- the block that the key belongs to, once it is lent
lent : (g : Over) (c : After-index_mut g)
    → Sides c.make_room.new.blocks.items c.in_ok-place.place c.args.key c.index_mut.result.now
lent g c =
    let cs = c.make_room.new.blocks.items in
    sides cs c.in_ok-place.place c.args.key c.index_mut.result.now c.in_ok-place.ensures.blocks
    c.in_ok-place.ensures.place
    (slice_get_read cs (length cs) c.in_ok-place.place c.index_mut.result.now refl c.in_ok-place.ensures.within
    c.index_mut.ensures.value)

absent : (g : Over) (c : After-index_mut g)
    → Sides c.make_room.new.blocks.items c.in_ok-place.place c.args.key c.index_mut.result.now
    → find c.args.key c.index_mut.result.now.entries.items ≡ None
absent g c s = sym (find-in c.make_room.new.blocks.items c.in_ok-place.place c.args.key c.index_mut.result.now s)
    ∙ ap (find c.args.key) c.in_ok-place.ensures.entries ∙ c.requires.absent

pub add_last-requires-clause-below : goal.add_last-requires-clause-below
add_last-requires-clause-below g c = tops g (goal.at.add_last-requires-clause-below g c).After-block_of-at
    (omega (arith, c.if-at-len.true, c.len.ensures, c.args.blocks.now.ok.0))

pub returns-then-at-len-clause-ok : goal.returns-then-at-len-clause-ok
returns-then-at-len-clause-ok g c =
    let bs = c.args.blocks.now.items in
    let all = tops g (goal.at.returns-then-at-len-clause-ok g c).After-block_of-at
    (omega (arith, c.if-at-len.true, c.len.ensures, c.args.blocks.now.ok.0)) in
    c.in_ok-add_last.ensures.ok ∙ sym (insert-last c.args.key c.args.value _
    (tops-below c.args.key 0 bs c.requires.blocks all))

pub join-requires-clause-rises : goal.join-requires-clause-rises
join-requires-clause-rises g c = (lent g (goal.at.join-requires-clause-rises g c).After-index_mut).rises

pub join-requires-clause-absent : goal.join-requires-clause-absent
join-requires-clause-absent g c =
    let after = (goal.at.join-requires-clause-absent g c).After-index_mut in
    absent g after (lent g after)

pub returns-in_err-join-clause-blocks : goal.returns-in_err-join-clause-blocks
returns-in_err-join-clause-blocks g c =
    let s = lent g (goal.at.returns-in_err-join-clause-blocks g c).After-index_mut in
    blocks-set 0 c.in_ok-place.place c.make_room.new.blocks.items c.index_mut.result.now c.join.new.block
    c.in_ok-place.ensures.blocks s.here
    (λ l is. block-same l c.index_mut.result.now c.join.new.block is c.join.ensures.top c.in_err-join.ensures.err)
    c.join.ensures.top

pub returns-in_err-join-clause-filled : goal.returns-in_err-join-clause-filled
returns-in_err-join-clause-filled g c =
    let s = lent g (goal.at.returns-in_err-join-clause-filled g c).After-index_mut in
    filled-set c.in_ok-place.place c.make_room.new.blocks.items c.join.new.block c.in_ok-place.ensures.filled
    (ap (λ (es : List (ℕ × _)). not_empty es) c.in_err-join.ensures.err
    ∙ filled-at c.in_ok-place.place c.make_room.new.blocks.items c.index_mut.result.now
    c.in_ok-place.ensures.filled s.here)

pub returns-in_err-join-clause-err : goal.returns-in_err-join-clause-err
returns-in_err-join-clause-err g c =
    let s = lent g (goal.at.returns-in_err-join-clause-err g c).After-index_mut in
    any-err c.from_residual-in_err-join.result _
    (gather-same (λ (b : Block _). b.entries.items) c.make_room.new.blocks.items c.in_ok-place.place
    c.index_mut.result.now c.join.new.block s.here c.in_err-join.ensures.err ∙ c.in_ok-place.ensures.entries)

pub returns-clause-blocks : goal.returns-clause-blocks
returns-clause-blocks g c =
    let after = (goal.at.returns-clause-blocks g c).After-index_mut in
    let s = lent g after in
    let b = c.index_mut.result.now in
    let n = c.join.new.block in
    blocks-put 0 c.in_ok-place.place c.args.key c.make_room.new.blocks.items b n c.in_ok-place.ensures.blocks
    (omega arith) s.tops s.here
    (λ l low is. block-put l c.args.key c.args.value b n is low s.top (absent g after s)
    (ap has_room (sym s.here) ∙ c.in_ok-place.ensures.room) c.join.ensures.top c.in_ok-join.ensures.ok)
    c.join.ensures.top

pub returns-clause-filled : goal.returns-clause-filled
returns-clause-filled g c =
    let more = ap (λ (es : List (ℕ × _)). length es) c.in_ok-join.ensures.ok in
    filled-set c.in_ok-place.place c.make_room.new.blocks.items c.join.new.block c.in_ok-place.ensures.filled
    (something c.join.new.block.entries.items
    (omega (arith, more, insert-length c.args.key c.args.value c.index_mut.result.now.entries.items)))

pub returns-clause-ok : goal.returns-clause-ok
returns-clause-ok g c =
    let s = lent g (goal.at.returns-clause-ok g c).After-index_mut in
    insert-in c.make_room.new.blocks.items c.in_ok-place.place c.args.key c.index_mut.result.now s c.args.value
    c.join.new.block c.in_ok-join.ensures.ok ∙ ap (insert c.args.key c.args.value) c.in_ok-place.ensures.entries
