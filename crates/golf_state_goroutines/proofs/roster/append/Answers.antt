use Rattle.std.proofs.Common.{◌≡◌, ◌/◌, ℕ, List, Ok, Err, inl, inr, refl, sym, subst, arith}
use Rattle.std.specs.Prelude.{Result, OnOk, OnErr}
use Rattle.golf_base.specs.declared.Memory.{Memory}
use Rattle.golf_data.specs.declared.goroutine.Goroutine.{Goroutine}
use Rattle.golf_theory.specs.Maps.{Entry, AllBelow, insert}
use Rattle.golf_theory.specs.Membership.{In}
use Rattle.golf_theory.proofs.Insert.{Entry-insert}
use Rattle.golf_theory.proofs.MapFinds.{find_above}
use Rattle.golf_blocks.proofs.Parts.{insert-last}
use Rattle.golf_state_goroutines.specs.RunLists.{CanStart}
use Rattle.golf_state_goroutines.proofs.PlaceLaws.{below-plain}
use Rattle.golf_state_goroutines.proofs.RunLaws.{some-place}
use Rattle.golf_state_goroutines.proofs.roster.append.Goals.{After-open}
use Rattle.golf_state_goroutines.proofs.roster.append.Goals as goal

-- there still is room for the goroutines of before
room : (c : After-open) → CanStart c.open.new.self.keys c.args.places.now
room c = λ g x i. c.open.ensures.keys (g / 256) (c.close_if_crowded.ensures.keys (g / 256) (c.requires.room g x i)
    (some-place c.args.places.now (g / 256) g x i refl))

below : (c : After-open) → AllBelow c.args.number c.args.places.now
below c = below-plain c.args.number c.args.places.now c.requires.below

pub returns-in_err-open-clause-room : goal.returns-in_err-open-clause-room
returns-in_err-open-clause-room c = room (goal.at.returns-in_err-open-clause-room c).After-open

pub put-requires : goal.put-requires
put-requires c = find_above c.args.number c.args.places.now c.args.number
    (below (goal.at.put-requires c).After-open) (omega arith)

pub returns-clause-ok : goal.returns-clause-ok
returns-clause-ok c =
    subst (λ (ps : List (ℕ × Goroutine)). OnOk c.put.result (c.put.new.self ≡ ps))
    (insert-last c.args.number _ c.args.places.now (below (goal.at.returns-clause-ok c).After-open)) c.put.ensures.ok

-- one more or not, there is room for each
can-start : (r : Result (Unit {0}) Memory) (ks : List ℕ) (old new : List (ℕ × Goroutine)) (n : ℕ) (x : Goroutine)
    → CanStart ks old → In (n / 256) ks → OnOk r (new ≡ insert n x old) → OnErr r (new ≡ old) → CanStart ks new
can-start (Ok u) ks old new n x before here ok err = λ g y i.
    elim (Entry-insert n x old g y (subst (λ (es : List (ℕ × Goroutine)). Entry es g y) ok i)) [
      | inl e ↦ subst (λ (m : ℕ). In (m / 256) ks) (sym e.0) here
      | inr e ↦ before g y e
    ]
can-start (Err e) ks old new n x before here ok err = subst (λ (es : List (ℕ × Goroutine)). CanStart ks es) (sym err) before

pub returns-clause-room : goal.returns-clause-room
returns-clause-room c =
    can-start c.put.result c.open.new.self.keys c.args.places.now c.put.new.self c.args.number _
    (room (goal.at.returns-clause-room c).After-open) c.in_ok-open.ensures.opened c.put.ensures.ok c.put.ensures.err
