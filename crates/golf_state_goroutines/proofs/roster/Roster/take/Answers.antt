use Rattle.std.proofs.Common.{◌/◌, ◌==◌, ℕ, List, not, sym, subst}
use Rattle.golf_data.specs.declared.goroutine.Goroutine.{Goroutine}
use Rattle.golf_theory.specs.Maps.{Entry}
use Rattle.golf_theory.specs.Membership.{In}
use Rattle.golf_theory.proofs.MapEntries.{Entry-only}
use Rattle.golf_state_goroutines.specs.RunLists.{Runners}
use Rattle.golf_state_goroutines.proofs.roster.Roster.take.Goals as goal

pub invariant_of-self : goal.invariant_of-self
invariant_of-self c = λ g x i.
    let old = Entry-only (λ h. not (h == c.args.number)) c.self.inside.places g x
    (subst (λ (es : List (ℕ × Goroutine)). Entry es g x) c.take.ensures i) in
    subst (λ (r : Runners). In (g / 256) r.keys) (sym c.stop.ensures) (c.self.invariant g x old.1)
