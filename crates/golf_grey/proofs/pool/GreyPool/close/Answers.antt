use Rattle.std.proofs.Common.{◌≡◌, ℕ, ◌-◌, ◌<◌, length, refl, ap, ◌∙◌, subst, arith}
use Rattle.std.specs.Global.{Vec}
use Rattle.std.proofs.lemmas.List.Sums.{sum_by_push}
use Rattle.golf_grey.specs.Rule.{all_parts}
use Rattle.golf_grey.specs.Hands.{GreyPass, IsStage, row_weight, rows_weight}
use Rattle.golf_grey.proofs.Leaving.{left_all}
use Rattle.golf_grey.proofs.Making.{no_rows, pushed_within}
use Rattle.golf_grey.proofs.Stages.{exists_at, at_end, longer, at_low}
use Rattle.golf_grey.proofs.pool.GreyPool.close.Goals as goal

pub absorb_row-requires-clause-more : goal.absorb_row-requires-clause-more
absorb_row-requires-clause-more c =
    let some_hand : 0 < length c.args.hands =
    omega (arith, c.loop-row.invariant.2, c.in-Some.ensures.len, c.loop-row.rows.ok.0, c.requires.0) in
    let h = exists_at c.args.hands 0 some_hand in
    let fits = c.requires.1 0 h.0 h.1 in
    omega (
      arith,
      fits.parts,
      h.0.live,
      c.loop-row.invariant.2,
      c.in-Some.ensures.len,
      c.loop-row.rows.ok.0,
      c.len-more.ensures,
    )

pub absorb_row-requires-clause-row : goal.absorb_row-requires-clause-row
absorb_row-requires-clause-row c = c.loop-row.invariant.1 (length c.pop.new.self.items) c.in-Some.row
    (at_end c.loop-row.rows.items c.pop.new.self.items c.in-Some.row _ c.in-Some.ensures.items refl)

pub loop-row-preserved : goal.loop-row-preserved
loop-row-preserved c =
    let e = c.absorb_row.ensures in
    let more : c.len-more.result ≡ length c.pop.new.self.items =
    omega (arith, c.len-more.ensures, c.pop.new.self.ok.0) in (
      subst (λ (k : ℕ). IsStage c.args.self.thieves.items (all_parts - k)
          (length c.args.self.thieves.items) c.absorb_row.new.owners.items) more e.stage,
      (λ k r d. c.loop-row.invariant.1 k r (longer c.loop-row.rows.items c.pop.new.self.items c.in-Some.row
          c.in-Some.ensures.items k r d)),
      omega (arith, c.loop-row.invariant.2, c.in-Some.ensures.len, c.loop-row.rows.ok.0, c.pop.new.self.ok.0),
      (λ f. e.pushed f ∙ c.loop-row.invariant.3 f),
      λ f. omega (
        arith,
        e.taken f,
        c.loop-row.invariant.4 f,
        sum_by_push (λ (r : Vec GreyPass). row_weight f r.items) c.pop.new.self.items c.in-Some.row,
        ap (rows_weight f) c.in-Some.ensures.items,
      ),
    )

pub drain_all-places-requires-clause-owners : goal.drain_all-places-requires-clause-owners
drain_all-places-requires-clause-owners c = λ j w d.
    let s = c.loop-row.invariant.0 in
    let none : length c.loop-row.rows.items ≡ 0 = omega (arith, c.in_default.ensures.cases.0, c.loop-row.rows.ok.0) in
    let low = at_low c.loop-row.owners.items j w d in
    let t = exists_at c.args.self.thieves.items j (omega (arith, s.len)) in
    let parts = s.low j w d (omega (arith, s.len)) in
    ((s.each j t.0 w t.1 d).1, omega (arith, parts, none))

pub drain_all-places-requires-clause-room : goal.drain_all-places-requires-clause-room
drain_all-places-requires-clause-room c =
    let pool = c.args.self in
    let hands = c.args.hands in
    let all = pushed_within pool.thieves.items pool.capacity pool.places hands c.requires in
    omega (arith, c.loop-row.invariant.3 (λ _ _. 1), c.take_apart-owners.ensures.pushed (λ _ _. 1), all, pool.left_room)

pub returns-clause-all : goal.returns-clause-all
returns-clause-all c = λ f.
    let left = c.drain_all-places.ensures in
    let none : length c.loop-row.rows.items ≡ 0 = omega (arith, c.in_default.ensures.cases.0, c.loop-row.rows.ok.0) in
    omega (
      arith,
      left.2 (λ _. f),
      left_all f left.0 c.drain_all-places.result left.1,
      c.loop-row.invariant.3 (λ _. f),
      c.loop-row.invariant.4 (λ _. f),
      c.take_apart-owners.ensures.pushed (λ _. f),
      c.take_apart-owners.ensures.taken (λ _. f),
      no_rows (λ _. f) c.loop-row.rows.items none,
    )
