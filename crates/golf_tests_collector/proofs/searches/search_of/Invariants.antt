use Rattle.golf_explore.specs.Results.{IsExploring}
use Rattle.golf_tests_collector.proofs.searches.search_of.Given as goal

-- the search is under way
abbrev pub invariant-loop : goal.invariant-loop
invariant-loop l = IsExploring l.code l.search
