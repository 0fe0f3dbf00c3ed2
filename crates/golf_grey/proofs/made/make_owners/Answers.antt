use Rattle.std.proofs.Common.{sym, ap, ◌∙◌, arith}
use Rattle.golf_grey.specs.declared.rule.GreyView.{GreyView}
use Rattle.golf_grey.specs.Rule.{all_parts}
use Rattle.golf_grey.proofs.Stages.{stage_push, fresh_push}
use Rattle.golf_grey.proofs.made.make_owners.Goals as goal

pub loop-i-preserved : goal.loop-i-preserved
loop-i-preserved c =
    let made = c.in_ok-owner.ensures in
    let s = c.in_ok-stealer.ensures in (
      omega (arith, c.in_ok-push-2.ensures.len, c.loop-i.invariant.0),
      omega (arith, c.in_ok-push.ensures.len, c.loop-i.invariant.1),
      rw (c.in_ok-push.ensures.items, c.in_ok-push-2.ensures.items)
          (stage_push c.loop-i.thieves.items c.loop-i.owners.items all_parts c.loop-i._i c.in_ok-stealer.field-0
          c.in_ok-owner.owner
          (omega (arith, c.loop-i.owners.ok.0, c.loop-i.invariant.0))
          (omega (arith, c.loop-i.thieves.ok.0, c.loop-i.invariant.1)) c.loop-i.invariant.2
          (record {
            deque = sym s.0;
            owner_flavor = made.flavor;
            thief_flavor = s.1 ∙ made.flavor;
            parts = ap (λ (v : GreyView). v.parts) made.view;
          })),
      rw c.in_ok-push-2.ensures.items (fresh_push c.args.capacity c.args.places c.loop-i.owners.items
          c.in_ok-owner.owner c.loop-i.invariant.3
          (record {
            pushers = ap (λ (v : GreyView). v.pushers) made.view;
            knows = (ap (λ (v : GreyView). v.places) made.view, ap (λ (v : GreyView). v.capacity) made.view);
            pushed = ap (λ (v : GreyView). v.pushed) made.view;
            taken = ap (λ (v : GreyView). v.taken) made.view;
            index = made.index;
            room = made.room;
          })),
    )
