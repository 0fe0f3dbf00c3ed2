use Rattle.std.proofs.Common.{◌≡◌, ℕ, true, false, ap, sym, ◌∙◌, subst}
use Rattle.golf_data.specs.declared.goroutine.Goroutine.{Goroutine}
use Rattle.golf_model.specs.State.{is_running}
use Rattle.golf_state_goroutines.specs.Places.{plain_entries}
use Rattle.golf_state_goroutines.specs.Ready.{HasRoomToWake}
use Rattle.golf_state_goroutines.proofs.PlaceLaws.{under-next}
use Rattle.golf_state_goroutines.proofs.Copying.{listed-added, listed-blocked, ready-added, ready-blocked, room-ready}
use Rattle.golf_state_goroutines.proofs.copies.add_copy.Goals as goal

pub add-requires-clause-under : goal.add-requires-clause-under
add-requires-clause-under c = under-next c.args.place.now.0 (plain_entries c.args.roster.now.places)
    c.args.roster.now.running c.requires.listed c.requires.below

pub returns-then-runs-clause-listed : goal.returns-then-runs-clause-listed
returns-then-runs-clause-listed c =
    listed-added c.args.roster.now c.add.new.self _ c.add.result c.add.ensures.ok c.add.ensures.err
    (ap (λ (g : Goroutine). is_running g.mode) c.in_ok-new.ensures ∙ sym c.is_running-runs.ensures ∙ c.if-runs.true)
    c.requires.listed

pub returns-then-runs-clause-ready : goal.returns-then-runs-clause-ready
returns-then-runs-clause-ready c = λ r.
    ready-added c.args.roster.now c.add.new.self _ c.add.result c.add.ensures.ok c.add.ensures.err
    (subst (λ (g : Goroutine). HasRoomToWake (c.args.place.now.0, g)) (sym c.in_ok-new.ensures)
    (room-ready c.in_ok-goroutine.goroutine.mode c.in_ok-goroutine.goroutine.frames c.in_ok-goroutine.ensures.room)) r

pub returns-else-runs-clause-listed : goal.returns-else-runs-clause-listed
returns-else-runs-clause-listed c =
    listed-blocked c.args.roster.now c.add_blocked.new.self _ c.add_blocked.result
    c.add_blocked.ensures.ok
    c.add_blocked.ensures.err
    (ap (λ (g : Goroutine). is_running g.mode) c.in_ok-new.ensures ∙ sym c.is_running-runs.ensures ∙ c.if-runs.false)
    c.requires.listed

pub returns-else-runs-clause-ready : goal.returns-else-runs-clause-ready
returns-else-runs-clause-ready c = λ r.
    ready-blocked c.args.roster.now c.add_blocked.new.self _ c.add_blocked.result
    c.add_blocked.ensures.ok
    c.add_blocked.ensures.err
    (subst (λ (g : Goroutine). HasRoomToWake (c.args.place.now.0, g)) (sym c.in_ok-new.ensures)
    (room-ready c.in_ok-goroutine.goroutine.mode c.in_ok-goroutine.goroutine.frames c.in_ok-goroutine.ensures.room)) r
