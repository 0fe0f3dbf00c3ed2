use Rattle.std.proofs.Common.{◌≡◌, [], ◌∷◌, refl, rules}
use Rattle.golf_data.specs.declared.goroutine.Mode.{Mode}
use Rattle.golf_model.specs.Views.{GoroutineView, frame_view}
use Rattle.golf_model.specs.Changes.{spawn}
use Rattle.golf_machine.proofs.Frames.{spawns-missing, spawns-enter}
use Rattle.golf_theory.proofs.MapFinds.{find-add_old}
use Rattle.golf_state.specs.ActorChanges.{Stands}
use Rattle.golf_machine.proofs.Fits.{stands-in}
use Rattle.golf_machine.proofs.new_frames.go.Goals.{In_ok-spawn}
use Rattle.golf_machine.proofs.Takings.{taken-none}
use Rattle.golf_machine.proofs.new_frames.go.Goals as goal

pub returns-in_default-clause-ok : goal.returns-in_default-clause-ok
returns-in_default-clause-ok c = let e = rw c.in_default.is at c.last_values.ensures in
    search (rules, c.requires, taken-none, e)

pub returns-in_default-2-clause-ok : goal.returns-in_default-2-clause-ok
returns-in_default-2-clause-ok c = spawns-missing c.requires c.args.acting.line c.args.code.now c.args.number
    c.args.count c.in-Some.arguments.now c.in-Some.ensures (rw c.in_default-2.is at c.in_ok-frame.ensures)

-- the goroutine that is started
abbrev started : In_ok-spawn → GoroutineView
started c = record {
  frames = frame_view c.in-Some-2.frame ∷ [];
  mode = Mode.Running;
  started = c.args.acting.line;
}

made : (c : In_ok-spawn) → c.spawn.new.self ≡ spawn (started c) c.args.state.now
made c = rw c.in_ok-frames_of.ensures at c.in_ok-spawn.ensures.ok

abbrev stands : (c : In_ok-spawn) → Stands c.args.acting.goroutine.0 c.args.acting.after c.spawn.new.self
stands c = let found = c.requires.found in
    stands-in c.requires c.spawn.new.self (rw (made c, found) (find-add_old c.args.state.now.next_goroutine (started c)
    c.args.state.now.goroutines c.args.acting.goroutine.0 _ found))

pub proceed-requires : goal.proceed-requires
proceed-requires c = stands (goal.at.proceed-requires c).In_ok-spawn

pub returns-clause-ok : goal.returns-clause-ok
returns-clause-ok c = let at = (goal.at.returns-clause-ok c).In_ok-spawn in
    spawns-enter c.requires c.args.acting.line c.args.code.now c.args.number c.args.count c.in-Some.arguments.now
    c.in-Some.ensures (frame_view c.in-Some-2.frame) c.spawn.new.self c.proceed.new.state (stands at)
    (rw c.in-Some-2.is at c.in_ok-frame.ensures) (made at) refl refl refl c.proceed.ensures.state
