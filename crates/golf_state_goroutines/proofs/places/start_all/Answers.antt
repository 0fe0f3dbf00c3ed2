use Rattle.std.proofs.Common.{◌≡◌, ℕ, ◌++◌, List, length, take, drop, suc, Some, refl, sym, ap, ◌∙◌, subst, arith, slice_get}
use Rattle.std.proofs.lemmas.List.{take_all}
use Rattle.std.proofs.lemmas.Option.{slice_get_read}
use Rattle.golf_data.specs.declared.goroutine.Goroutine.{Goroutine}
use Rattle.golf_blocks.specs.Blocks.{entries_in}
use Rattle.golf_blocks.specs.declared.blocks.Block.{Block}
use Rattle.golf_blocks.proofs.Gathers.{gather-split, gather-more}
use Rattle.golf_state_goroutines.specs.Places.{plain_entries, running_of}
use Rattle.golf_state_goroutines.specs.RunLists.{Runners}
use Rattle.golf_state_goroutines.proofs.Listing.{IsPart, part-of, part-more}
use Rattle.golf_state_goroutines.proofs.places.start_all.Goals.{After-as_slice}
use Rattle.golf_state_goroutines.proofs.places.start_all.Goals as goal

read : (c : After-as_slice) → slice_get c.args.blocks.now c.loop-at.at ≡ Some c.index-blocks-at.result
read c = slice_get_read c.args.blocks.now (length c.args.blocks.now) c.loop-at.at c.index-blocks-at.result refl
    c.loop-at-test.true c.index-blocks-at.is

same : (c : After-as_slice) → c.as_slice.result.now ≡ c.index-blocks-at.result.entries.items
same c = c.as_slice.ensures.value ∙ ap (λ (b : Block Goroutine). b.entries.items) (sym c.index-blocks-at.is)

-- the goroutines of the block, after those of the blocks before
part : (c : After-as_slice) → IsPart c.loop-at.runs.keys c.loop-at.runs.numbers c.as_slice.result.now
part c =
    let bs = c.args.blocks.now in
    let i = c.loop-at.at in
    let p = part-of c.args.runs.now.keys c.args.runs.now.numbers (entries_in bs) (entries_in (take i bs))
    c.index-blocks-at.result.entries.items (entries_in (drop (suc i) bs))
    (gather-split (λ (b : Block Goroutine). b.entries.items) bs i c.index-blocks-at.result (read c))
    c.requires.rises c.requires.room c.requires.above in
    subst (λ (ps : List (ℕ × Goroutine)). IsPart c.loop-at.runs.keys c.loop-at.runs.numbers ps) (sym (same c))
    (subst (λ (r : Runners). IsPart r.keys r.numbers c.index-blocks-at.result.entries.items)
    (sym c.loop-at.invariant) p)

pub start_these-requires-clause-rises : goal.start_these-requires-clause-rises
start_these-requires-clause-rises c = (part (goal.at.start_these-requires-clause-rises c).After-as_slice).rises

pub start_these-requires-clause-room : goal.start_these-requires-clause-room
start_these-requires-clause-room c = (part (goal.at.start_these-requires-clause-room c).After-as_slice).room

pub start_these-requires-clause-above : goal.start_these-requires-clause-above
start_these-requires-clause-above c = (part (goal.at.start_these-requires-clause-above c).After-as_slice).above

pub loop-at-preserved : goal.loop-at-preserved
loop-at-preserved c =
    let at = goal.at.loop-at-preserved c in
    let bs = c.args.blocks.now in
    let i = c.loop-at.at in
    let r = c.args.runs.now in
    let ps = c.index-blocks-at.result.entries.items in
    let more = gather-more (λ (b : Block Goroutine). b.entries.items) bs i c.index-blocks-at.result
    (read at.After-as_slice) in
    c.start_these.ensures
    ∙ ap (λ (s : Runners). record s {
      numbers = s.numbers ++ running_of (plain_entries c.as_slice.result.now);
    }) c.loop-at.invariant
    ∙ ap (λ (xs : List ℕ). record r { numbers = xs })
    (ap (λ (qs : List (ℕ × Goroutine)). (r.numbers ++ running_of (plain_entries (entries_in (take i bs))))
    ++ running_of (plain_entries qs)) (same at.After-as_slice)
    ∙ part-more r.numbers (entries_in (take i bs)) ps
    ∙ ap (λ (qs : List (ℕ × Goroutine)). r.numbers ++ running_of (plain_entries qs)) (sym more))

pub returns : goal.returns
returns c =
    let bs = c.args.blocks.now in
    c.loop-at.invariant ∙ ap (λ (cs : List (Block Goroutine)). record c.args.runs.now {
      numbers = c.args.runs.now.numbers ++ running_of (plain_entries (entries_in cs));
    }) (take_all c.loop-at.at bs (omega (arith, c.loop-at-test.false)))
