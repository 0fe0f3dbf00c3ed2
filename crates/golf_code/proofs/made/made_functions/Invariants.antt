use Rattle.std.proofs.Common.{◌≡◌, ◌++◌, map, drop}
use Rattle.golf_code_of.specs.Files.{made_function}
use Rattle.golf_code.proofs.made.made_functions.Given as goal

abbrev pub invariant-loop-making : goal.invariant-loop-making
invariant-loop-making l = l.functions ++ map (made_function l.gives) (drop l.making-index l.makings) ≡ l.fn.functions
    ++ map (made_function l.gives) l.makings
