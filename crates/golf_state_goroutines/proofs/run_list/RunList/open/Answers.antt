use Rattle.std.proofs.Common.{List, sym, ap, ◌∙◌, subst, slice_get}
use Rattle.golf_theory.specs.Membership.{In}
use Rattle.golf_state_goroutines.specs.RunLists.{Runners, is_open}
use Rattle.golf_state_goroutines.specs.declared.run_blocks.RunBlock.{RunBlock}
use Rattle.golf_state_goroutines.proofs.RunLaws.{keys-open}
use Rattle.golf_state_goroutines.proofs.run_list.RunList.open.Goals as goal

pub returns-then-is_open-clause-opened : goal.returns-then-is_open-clause-opened
returns-then-is_open-clause-opened c =
    subst (λ (r : Runners). In c.args.key r.keys) c.self.view_is
    (keys-open c.self.inside.blocks.items c.block_of-at.result c.args.key
    (ap (λ (cs : List RunBlock). is_open c.args.key (slice_get cs c.block_of-at.result)) (sym c.as_slice-2.ensures.value)
    ∙ sym c.is_open.ensures ∙ c.if-is_open.true))

pub returns-clause-keys : goal.returns-clause-keys
returns-clause-keys c = λ k h. c.add_block.ensures.keys k
    (subst (λ (r : Runners). In k r.keys) (sym c.self.view_is) h)
