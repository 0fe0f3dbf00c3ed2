use Rattle.golf_world.specs.Names.{table_name, pass_count}
use Rattle.golf_tests_collector.proofs.worlds.one_pass.take_walk.Given as goal

-- the world that is about to be made
abbrev pub ghosts-steps_of_one : goal.ghosts-steps_of_one
ghosts-steps_of_one g a = record { table = table_name a.table; passes = pass_count a.table; code = a.code.now }
