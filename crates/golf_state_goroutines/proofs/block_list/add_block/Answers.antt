use Rattle.std.proofs.Common.{◌≡◌, ℕ, ◌+◌, ◌*◌, List, [], rules, refl, sym, ap, ◌∙◌, subst, arith, slice_get}
use Rattle.std.specs.Prelude.{insert}
use Rattle.std.proofs.lemmas.List.{length-map}
use Rattle.golf_base.specs.declared.ids.GoroutineId.{GoroutineId}
use Rattle.golf_theory.specs.Membership.{In}
use Rattle.golf_theory.proofs.Ranks.{rank-within}
use Rattle.golf_state_goroutines.specs.RunBlocks.{numbers, running_in, block_keys, RisesIn, AreRunBlocks, keyed_blocks}
use Rattle.golf_state_goroutines.specs.RunLists.{is_open}
use Rattle.golf_state_goroutines.specs.declared.run_blocks.RunBlock.{RunBlock}
use Rattle.golf_state_goroutines.proofs.RunLaws.{blocks-insert, running-insert, keys-new, keys-old}
use Rattle.golf_state_goroutines.proofs.block_list.add_block.Goals.{After-insert}
use Rattle.golf_state_goroutines.proofs.block_list.add_block.Goals as goal

-- the blocks with the new one
record IsAdded (bs now : List RunBlock) (at key : ℕ) : Type 0 where
  block : RunBlock
  is : now ≡ insert bs at block
  same : block.key ≡ key
  none : numbers block.running.items ≡ []
  blocks : AreRunBlocks 0 now

added : (c : After-insert) → c.insert.new.self.items ≡ insert c.args.blocks.now.items c.args.at
    (record { key = c.args.key; running = c.in_ok-running.running })
    → IsAdded c.args.blocks.now.items c.insert.new.self.items c.args.at c.args.key
added c inserted =
    let bs = c.args.blocks.now.items in
    let k = c.args.key in
    let b : RunBlock = record { key = k; running = c.in_ok-running.running } in
    let empty : numbers b.running.items ≡ [] = ap (λ (gs : List GoroutineId). numbers gs) c.in_ok-running.ensures.items in
    record {
      block = b;
      is = inserted;
      same = refl;
      none = empty;
      blocks = subst (AreRunBlocks 0) (sym (inserted ∙ ap (λ (n : ℕ). insert bs n b) c.requires.place))
          (blocks-insert 0 k bs b c.requires.blocks refl (omega arith) (record {
            running = subst (RisesIn (k * 256) (k * 256 + 256)) (sym empty) (omega arith);
            room = omega (arith, c.in_ok-running.ensures.capacity);
            limit = c.requires.limit;
          }) (ap (λ (n : ℕ). is_open k (slice_get bs n)) (sym c.requires.place) ∙ c.requires.other));
    }

pub insert-requires : goal.insert-requires
insert-requires c =
    let bs = c.args.blocks.now.items in
    let f : RunBlock → ℕ × RunBlock = λ b. (b.key, b) in
    omega (
      arith,
      c.requires.place,
      rank-within c.args.key (keyed_blocks bs),
      length-map bs f,
      c.args.blocks.now.ok.0,
    )

pub recount-requires-clause-blocks : goal.recount-requires-clause-blocks
recount-requires-clause-blocks c =
    let a = added (goal.at.recount-requires-clause-blocks c).After-insert (search rules) in
    subst (AreRunBlocks 0) (sym c.as_slice-2.ensures.value) a.blocks

pub returns-clause-blocks : goal.returns-clause-blocks
returns-clause-blocks c = (added (goal.at.returns-clause-blocks c).After-insert (search rules)).blocks

pub returns-clause-running : goal.returns-clause-running
returns-clause-running c =
    let a = added (goal.at.returns-clause-running c).After-insert (search rules) in
    ap (λ (cs : List RunBlock). running_in cs) a.is ∙ running-insert c.args.blocks.now.items c.args.at a.block a.none

pub returns-clause-opened : goal.returns-clause-opened
returns-clause-opened c =
    let a = added (goal.at.returns-clause-opened c).After-insert (search rules) in
    subst (λ (cs : List RunBlock). In c.args.key (block_keys cs)) (sym a.is)
    (subst (λ (k : ℕ). In k (block_keys (insert c.args.blocks.now.items c.args.at a.block))) a.same
    (keys-new c.args.blocks.now.items c.args.at a.block))

pub returns-clause-keys : goal.returns-clause-keys
returns-clause-keys c = λ k h.
    let a = added (goal.at.returns-clause-keys c).After-insert (search rules) in
    subst (λ (cs : List RunBlock). In k (block_keys cs)) (sym a.is)
    (keys-old c.args.blocks.now.items c.args.at a.block k h)
