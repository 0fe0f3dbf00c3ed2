use Rattle.std.proofs.Common.{◌≡◌, map, take}
use Rattle.golf_theory.specs.Maps.{keys}
use Rattle.golf_theory.specs.Membership.{is_in}
use Rattle.golf_theory.specs.Flags.{kept}
use Rattle.golf_final.proofs.finaliser_queue.flagged.Given as goal

-- those so far
abbrev pub invariant-loop-finaliser : goal.invariant-loop-finaliser
invariant-loop-finaliser l = l.stays ≡ map (λ e. is_in e.0 (kept l.flags (keys l.state.objects)))
    (take l.finaliser-index l.state.finalisers)
