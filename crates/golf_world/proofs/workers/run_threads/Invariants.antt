use Rattle.golf_world.specs.Names.{table_name, pass_count}
use Rattle.golf_world.proofs.workers.run_threads.Given as goal

-- the world that is about to be made
abbrev pub ghosts-run_world : goal.ghosts-run_world
ghosts-run_world g a = record { table = table_name a.table; passes = pass_count a.table; code = a.code.now }
