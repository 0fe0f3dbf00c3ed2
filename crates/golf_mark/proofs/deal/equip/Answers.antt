use Rattle.std.proofs.Common.{◌≡◌, [], List, length, sym, subst, ap, ◌∙◌, arith}
use mathlib.Core.Option.{some-ne-none}
use Rattle.golf_mark.specs.declared.marker.Marker.{Marker}
use Rattle.golf_mark.specs.MergedMarkers.{marker_parts}
use Rattle.golf_mark.specs.Ready.{AreFreshMarkers}
use Rattle.golf_mark.proofs.Readying.{equipped}
use Rattle.golf_mark.proofs.deal.equip.Goals as goal

pub loop-hand-init : goal.loop-hand-init
loop-hand-init c =
    let none : c.in_ok-markers.markers.items ≡ [] = c.in_ok-markers.ensures.items in
    record {
      same = c.requires.same;
      all_seats = c.requires.seats;
      all_hands = λ k h at. (c.requires.hands.1 k h at, c.requires.falling k h at);
      new_hands = c.requires.new;
      count = omega (arith, ap length none, c.requires.hands.0);
      parts = omega (arith, ap marker_parts none, c.requires.same);
      fresh = subst (λ (l : List Marker). AreFreshMarkers c.args.marks.now c.args.pool.now l) (sym none)
          (λ k m at. absurd (some-ne-none m (sym at)));
    }

pub loop-hand-preserved : goal.loop-hand-preserved
loop-hand-preserved c =
    rw c.in_ok-push.ensures.items
    (equipped c.args.marks.now c.args.pool.now c.pop-in-Some.new.self c.pop.new.self c.loop-hand.markers.items _
    c.loop-hand.invariant c.in-Some-pop.ensures c.in-Some.ensures (record {
      deferred = omega (arith, c.in_ok-deferred.ensures, c.requires.places);
      idle = c.in_ok-won.ensures.items;
      room = omega (arith, c.in_ok-won.ensures.room, c.requires.places);
      budget = c.requires.capacity;
      places = c.requires.pool_places ∙ sym c.requires.places;
    }))

pub returns-clause-count : goal.returns-clause-count
returns-clause-count c = omega (arith, c.loop-hand.invariant.count, ap length c.in_default.ensures.0)

pub returns-clause-parts : goal.returns-clause-parts
returns-clause-parts c = omega (arith, c.loop-hand.invariant.parts, ap length c.in_default.ensures.0)
