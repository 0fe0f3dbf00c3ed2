use Rattle.std.proofs.Common.{◌≡◌, ℕ, ◌+◌, ◌-◌, ◌∷◌, ◌++◌, [], length, List, Some, slice_get, refl, sym, ap, ◌∙◌, subst}
use Rattle.std.proofs.Common.{arith, length-append}
use Rattle.atomic_table.specs.Table.{Me}
use Rattle.golf_world.specs.declared.rule.View.{View}
use Rattle.golf_world.specs.Rule.{idle_passes, left_view}
use Rattle.golf_world.specs.Steps.{Pass}
use Rattle.golf_world.proofs.Rules.{splits_as}
use Rattle.golf_world.proofs.PassSeats.{keeper_from, keeper_from-next, keeper_from-left, new_push}
use Rattle.golf_world.proofs.passes.split_passes.Goals as goal

pub split_seat-seat-requires : goal.split_seat-seat-requires
split_seat-seat-requires g c =
    let n : ℕ = c.loop-number.number in
    let passes : ℕ = c.args.passes in
    let i = c.loop-number.invariant in
    let first = c.loop-number.first in (
      i.table ∙ c.requires.seat,
      omega (arith, c.requires.word),
      splits_as c.args.table.now.shared.key first.id first.me passes n []
          (idle_passes (n + 1) (passes - (n + 1))) [] []
          (i.view ∙ ap (λ (v : View). (v, [])) (keeper_from-next n passes c.loop-number-test.true)),
    )

pub loop-number-preserved : goal.loop-number-preserved
loop-number-preserved g c =
    let n : ℕ = c.loop-number.number in
    let passes : ℕ = c.args.passes in
    let i = c.loop-number.invariant in
    let list : List Pass = c.loop-number.list in
    let p : Pass = c.new.result in
    let ok : c.push.new.self ≡ list ++ p ∷ [] = c.in_ok-push.ensures.ok in
    let new = c.new.ensures in
    record {
      table = c.split_seat-seat.ensures.0 ∙ i.table;
      view = c.split_seat-seat.ensures.2 ∙ ap (λ (m : Me (Unit {0}) View). (left_view m.0, m.1)) i.view
          ∙ ap (λ (v : View). (v, [])) (keeper_from-left n passes (keeper_from n passes) c.loop-number-test.true refl);
      count = omega (arith, ap length ok, length-append list (p ∷ []), i.count);
      passes = λ k q at. new_push list n p (sym i.count) (new.number, new.seen, new.mine) i.passes k q
          (subst (λ (l : List Pass). slice_get l k ≡ Some q) ok at);
    }
