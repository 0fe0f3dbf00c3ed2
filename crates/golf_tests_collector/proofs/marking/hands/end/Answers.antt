use Rattle.golf_grey.specs.Hands.{capacity_of, places_of}
use Rattle.golf_grey.proofs.Pair.{both}
use Rattle.golf_tests_collector.proofs.marking.hands.end.Goals as goal

pub close-requires : goal.close-requires
close-requires c = rw c.in_ok-hands.ensures
    (both c.args.pool.thieves.items (capacity_of c.args.pool)
    (places_of c.args.pool) c.args.one c.args.other c.requires.count c.requires.one c.requires.other c.requires.differ)
