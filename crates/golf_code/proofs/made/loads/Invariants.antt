use Rattle.std.proofs.Common.{◌≡◌, drop}
use Rattle.golf_code_layout.specs.Emission.{onto}
use Rattle.golf_code_of.specs.Files.{loads}
use Rattle.golf_code.proofs.made.loads.Given as goal

-- the loads so far, and then those left
abbrev pub invariant-loop : goal.invariant-loop
invariant-loop l = onto l.emitted (loads l.line l.slot (drop l.index l.parameters)) ≡ onto l.fn.emitted
    (loads l.line 0 l.parameters)
