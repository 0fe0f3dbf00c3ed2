use Rattle.std.proofs.Common.{◌/◌, ℕ, List, refl, sym, subst}
use Rattle.golf_data.specs.declared.goroutine.Goroutine.{Goroutine}
use Rattle.golf_theory.specs.Maps.{Entry}
use Rattle.golf_theory.specs.Membership.{In}
use Rattle.golf_state_goroutines.specs.RunLists.{Runners, CanStart}
use Rattle.golf_state_goroutines.proofs.PlaceLaws.{Entry-kept}
use Rattle.golf_state_goroutines.proofs.RunLaws.{some-place}
use Rattle.golf_state_goroutines.proofs.roster.Roster.retain.Goals.{After-clear}
use Rattle.golf_state_goroutines.proofs.roster.Roster.retain.Goals as goal

-- there is room for each goroutine that stays
room : (c : After-clear) → CanStart c.clear.new.self.keys c.retain.new.self
room c = λ g x i. subst (λ (r : Runners). In (g / 256) r.keys) (sym c.clear.ensures)
    (c.self.invariant g x (Entry-kept c.args.stays.now c.self.inside.places g x
    (subst (λ (es : List (ℕ × Goroutine)). Entry es g x) c.retain.ensures i)))

pub start_all-requires-clause-room : goal.start_all-requires-clause-room
start_all-requires-clause-room c =
    let r = room (goal.at.start_all-requires-clause-room c).After-clear in
    subst (λ (es : List (ℕ × Goroutine)). CanStart c.clear.new.self.keys es) (sym c.blocks-2.ensures.entries) r

pub invariant_of-self : goal.invariant_of-self
invariant_of-self c = λ g x i.
    let r = room (goal.at.invariant_of-self c).After-clear in
    c.close.ensures.keys (g / 256) (subst (λ (s : Runners). In (g / 256) s.keys) (sym c.start_all.ensures) (r g x i))
    (some-place c.retain.new.self (g / 256) g x i refl)
