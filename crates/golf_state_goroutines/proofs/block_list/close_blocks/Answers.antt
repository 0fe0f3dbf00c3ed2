use Rattle.std.proofs.Common.{◌≡◌, List, filter, rules, sym, ap, ◌∙◌, subst}
use Rattle.std.proofs.lemmas.Fn.{filter_same}
use Rattle.golf_blocks.proofs.Gathers.{gather-full}
use Rattle.golf_theory.specs.Membership.{In}
use Rattle.golf_state_goroutines.specs.RunBlocks.{numbers, running_in, block_keys, AreRunBlocks}
use Rattle.golf_state_goroutines.specs.RunLists.{is_needed}
use Rattle.golf_state_goroutines.specs.declared.run_blocks.RunBlock.{RunBlock}
use Rattle.golf_state_goroutines.proofs.RunLaws.{blocks-filter, unneeded, keys-needed}
use Rattle.golf_state_goroutines.proofs.block_list.close_blocks.Given.{Over}
use Rattle.golf_state_goroutines.proofs.block_list.close_blocks.Goals.{After-retain}
use Rattle.golf_state_goroutines.proofs.block_list.close_blocks.Goals as goal

-- the blocks that are left
left : (g : Over) (c : After-retain g)
    → c.retain.new.self.items ≡ filter (is_needed c.args.places.now) c.args.blocks.now.items
left g c = filter_same _ (is_needed c.args.places.now) _ (λ x b f' k. search rules) _ _ c.retain.ensures.filtered

pub recount-requires-clause-blocks : goal.recount-requires-clause-blocks
recount-requires-clause-blocks g c =
    let at = goal.at.recount-requires-clause-blocks g c in
    subst (AreRunBlocks 0) (sym (c.as_slice.ensures.value ∙ left g at.After-retain))
    (blocks-filter (is_needed c.args.places.now) 0 c.args.blocks.now.items c.requires.blocks)

pub returns-clause-blocks : goal.returns-clause-blocks
returns-clause-blocks g c =
    let at = goal.at.returns-clause-blocks g c in
    subst (AreRunBlocks 0) (sym (left g at.After-retain))
    (blocks-filter (is_needed c.args.places.now) 0 c.args.blocks.now.items c.requires.blocks)

pub returns-clause-running : goal.returns-clause-running
returns-clause-running g c =
    let at = goal.at.returns-clause-running g c in
    ap (λ (cs : List RunBlock). running_in cs) (left g at.After-retain)
    ∙ gather-full (λ (b : RunBlock). numbers b.running.items) (is_needed c.args.places.now)
    (unneeded c.args.places.now) c.args.blocks.now.items

pub returns-clause-keys : goal.returns-clause-keys
returns-clause-keys g c = λ k h t.
    let at = goal.at.returns-clause-keys g c in
    subst (λ (cs : List RunBlock). In k (block_keys cs)) (sym (left g at.After-retain))
    (keys-needed c.args.places.now 0 c.args.blocks.now.items k c.requires.blocks h t)
