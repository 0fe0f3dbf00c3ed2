use Rattle.std.proofs.Common.{◌≡◌, ◌<◌, Bool, List, true, false, length, slice_get, Some, suc, ◌+◌, take, ap, refl}
use Rattle.std.proofs.Common.{subst, arith, ◌∙◌}
use Rattle.std.proofs.lemmas.Option.{slice_get-get_or}
use Rattle.golf_theory.specs.Membership.{In}
use Rattle.golf_explore.proofs.DeadFlags.{get-unset, none-so-far}
use Rattle.golf_explore.proofs.dead_goroutines.has_unset.Goals as goal

pub returns-then-not-flag : goal.returns-then-not-flag
returns-then-not-flag c =
    let flags : List Bool = c.args.flags.now in
    let i = c.loop-flag.flag-index in
    let within : i < length flags = c.loop-flag-test.true in
    let got : slice_get flags i ≡ Some false = slice_get-get_or flags i false within ∙ ap Some c.if-not-flag.true in
    ((λ h. get-unset flags i got), (λ h. refl))

pub loop-flag-preserved : goal.loop-flag-preserved
loop-flag-preserved c =
    let flags : List Bool = c.args.flags.now in
    let i = c.loop-flag.flag-index in
    let within : i < length flags = c.loop-flag-test.true in
    let got : slice_get flags i ≡ Some true = slice_get-get_or flags i false within ∙ ap Some c.if-not-flag.false in
    let one : suc i ≡ i + 1 = omega arith in
    subst (λ k. In false (take k flags) → ⊥) one (none-so-far flags i got c.loop-flag.invariant)
