use Rattle.std.proofs.Common.{◌+◌, List, ap, sym, subst, arith}
use Rattle.golf_grey.specs.Hands.{GreyPass, IsStealing}
use Rattle.golf_grey.proofs.Rows.{stealing_next, stealing_skip}
use Rattle.golf_grey.proofs.Stages.{at_low}
use Rattle.golf_grey.proofs.steal.steal_all.Goals as goal
use Rattle.golf_grey.proofs.steal.steal_all.Goals.{then-j-number+in_default, else-j-number}

pub returns-in-Some-clause-knows : goal.returns-in-Some-clause-knows
returns-in-Some-clause-knows c = λ capacity places all. c.steal_at.ensures.knows capacity places
    (c.loop-j.invariant.knows capacity places all)

pub returns-in-Some-clause-place : goal.returns-in-Some-clause-place
returns-in-Some-clause-place c = λ capacity places all. c.in-Some.ensures.place capacity places
    (c.loop-j.invariant.knows capacity places all)

pub loop-j-preserved : goal.loop-j-preserved
loop-j-preserved c =
    let Goes : List GreyPass → Type 0 = λ l. IsStealing c.args.thieves.now.items c.args.number
    (c.loop-j.j + 1) c.args.passes.now.items l in
    elim c.if-j-number.branch [
      | then-j-number+in_default w ↦ subst Goes (sym (ap (λ v. v.items) w.passes-is))
          (stealing_next c.args.thieves.now.items c.args.number c.loop-j.j c.args.passes.now.items c.loop-j.passes.items
          w.steal_at.new.passes.items c.loop-j.invariant w.if-j-number.true w.steal_at.ensures.row
          (λ f. omega (arith, w.in_default.ensures.took f)) w.steal_at.ensures.knows w.steal_at.ensures.others
          w.in_default.ensures.none)
      | else-j-number w ↦ subst Goes (sym (ap (λ v. v.items) w.passes-is))
          (stealing_skip c.args.thieves.now.items c.args.number c.loop-j.j c.args.passes.now.items c.loop-j.passes.items
          w.if-j-number.false c.loop-j.invariant)
    ]

pub returns-clause-none : goal.returns-clause-none
returns-clause-none c = λ j p q apart before after. c.loop-j.invariant.none j p q
    (let low = at_low c.loop-j.passes.items j q after in omega
    (arith, low, c.loop-j.invariant.row.len, c.loop-j-test.false)) apart before after
