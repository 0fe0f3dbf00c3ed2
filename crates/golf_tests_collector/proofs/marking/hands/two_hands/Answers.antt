use Rattle.golf_grey.specs.Hands.{capacity_of, places_of}
use Rattle.golf_grey.proofs.Pair.{pair}
use Rattle.golf_tests_collector.proofs.marking.hands.two_hands.Goals as goal

pub returns-clause-second : goal.returns-clause-second
returns-clause-second c =
    let e = c.in_ok-pool.ensures in
    let r = c.remove-first in
    (pair c.in_ok-pool.pool.thieves.items (capacity_of c.in_ok-pool.pool)
    (places_of c.in_ok-pool.pool) c.in_ok-pool.hands r.new.self r.result c.remove-second.result e.hand_count e.all
    e.falling r.ensures.item r.ensures.rest c.remove-second.ensures.item).1.0

pub returns-clause-first : goal.returns-clause-first
returns-clause-first c =
    let e = c.in_ok-pool.ensures in
    let r = c.remove-first in
    (pair c.in_ok-pool.pool.thieves.items (capacity_of c.in_ok-pool.pool)
    (places_of c.in_ok-pool.pool) c.in_ok-pool.hands r.new.self r.result c.remove-second.result e.hand_count e.all
    e.falling r.ensures.item r.ensures.rest c.remove-second.ensures.item).0.0

pub returns-clause-one : goal.returns-clause-one
returns-clause-one c =
    let e = c.in_ok-pool.ensures in
    let r = c.remove-first in
    (pair c.in_ok-pool.pool.thieves.items (capacity_of c.in_ok-pool.pool)
    (places_of c.in_ok-pool.pool) c.in_ok-pool.hands r.new.self r.result c.remove-second.result e.hand_count e.all
    e.falling r.ensures.item r.ensures.rest c.remove-second.ensures.item).1.1

pub returns-clause-zero : goal.returns-clause-zero
returns-clause-zero c =
    let e = c.in_ok-pool.ensures in
    let r = c.remove-first in
    (pair c.in_ok-pool.pool.thieves.items (capacity_of c.in_ok-pool.pool)
    (places_of c.in_ok-pool.pool) c.in_ok-pool.hands r.new.self r.result c.remove-second.result e.hand_count e.all
    e.falling r.ensures.item r.ensures.rest c.remove-second.ensures.item).0.1
