use Rattle.std.proofs.Common.{◌≡◌, ℕ, ◌-◌, length, ap, ◌∙◌, subst, arith}
use Rattle.golf_grey.specs.Rule.{all_parts}
use Rattle.golf_grey.specs.Hands.{IsStage, row_weight}
use Rattle.golf_grey.proofs.Stages.{exists_at, stage_back, weight_push, at_end, longer}
use Rattle.golf_grey.proofs.drain.absorb_row.Goals as goal

pub absorb_one-requires-clause-low : goal.absorb_one-requires-clause-low
absorb_one-requires-clause-low c = let s =
    c.loop-pass.invariant.0 in omega (
      arith,
      s.len,
      c.loop-pass.invariant.2,
      c.in-Some.ensures.len,
      c.len-j.ensures,
      c.loop-pass.rest.ok.0,
    )

pub absorb_one-requires-clause-pass : goal.absorb_one-requires-clause-pass
absorb_one-requires-clause-pass c = λ t e.
    (c.loop-pass.invariant.1 c.len-j.result t c.in-Some.pass e
    (at_end c.loop-pass.rest.items c.pop.new.self.items c.in-Some.pass c.len-j.result c.in-Some.ensures.items
    (omega (arith, c.len-j.ensures, c.pop.new.self.ok.0)))).0

pub absorb_one-requires-clause-one : goal.absorb_one-requires-clause-one
absorb_one-requires-clause-one c =
    let t = exists_at c.args.thieves.now.items c.len-j.result
    (let s = c.loop-pass.invariant.0 in omega
    (arith, c.loop-pass.invariant.2, c.in-Some.ensures.len, c.len-j.ensures, c.loop-pass.rest.ok.0)) in
    let r = c.loop-pass.invariant.1 c.len-j.result t.0 c.in-Some.pass t.1
    (at_end c.loop-pass.rest.items c.pop.new.self.items c.in-Some.pass c.len-j.result c.in-Some.ensures.items
    (omega (arith, c.len-j.ensures, c.pop.new.self.ok.0))) in (r.1, r.2)

pub loop-pass-preserved : goal.loop-pass-preserved
loop-pass-preserved c =
    let e = c.absorb_one.ensures in
    let j_is : c.len-j.result ≡ length c.pop.new.self.items = omega (arith, c.len-j.ensures, c.pop.new.self.ok.0) in (
      subst (λ (k : ℕ). IsStage c.args.thieves.now.items (all_parts - 1 - c.args.more) k c.absorb_one.new.owners.items)
          j_is e.stage,
      (λ j t p a b. c.loop-pass.invariant.1 j t p a
          (longer c.loop-pass.rest.items c.pop.new.self.items c.in-Some.pass c.in-Some.ensures.items j p b)),
      omega (arith, c.loop-pass.invariant.2, c.in-Some.ensures.len, c.loop-pass.rest.ok.0, c.pop.new.self.ok.0),
      (λ f. e.pushed f ∙ c.loop-pass.invariant.3 f),
      λ g. omega (
        arith,
        e.taken g,
        c.loop-pass.invariant.4 g,
        weight_push g c.pop.new.self.items c.in-Some.pass c.len-j.result j_is,
        ap (row_weight g) c.in-Some.ensures.items,
      ),
    )

pub returns-clause-stage : goal.returns-clause-stage
returns-clause-stage c =
    let s = c.loop-pass.invariant.0 in
    let none : length c.loop-pass.rest.items ≡ 0 = omega (arith, c.in_default.ensures.cases.0, c.loop-pass.rest.ok.0) in
    let s' : IsStage c.args.thieves.now.items (all_parts - 1 - c.args.more) 0 c.loop-pass.owners.items =
    subst (λ (k : ℕ). IsStage c.args.thieves.now.items (all_parts - 1 - c.args.more) k c.loop-pass.owners.items)
    none s in
    subst (λ (k : ℕ). IsStage c.args.thieves.now.items (all_parts - c.args.more) k c.loop-pass.owners.items) s.len
    (stage_back c.args.thieves.now.items c.loop-pass.owners.items (all_parts - c.args.more)
    (all_parts - 1 - c.args.more) 0 (omega (arith, c.requires.more)) s')
