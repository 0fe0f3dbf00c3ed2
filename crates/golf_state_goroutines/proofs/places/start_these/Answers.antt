use Rattle.std.proofs.Common.{◌≡◌, ◌+◌, ◌/◌, ◌++◌, ℕ, List, length, take, Some, refl, sym, ap, ◌∙◌, subst, slice_get}
use Rattle.std.proofs.lemmas.Option.{slice_get_read}
use Rattle.golf_theory.specs.Membership.{In}
use Rattle.golf_data.specs.declared.goroutine.Goroutine.{Goroutine}
use Rattle.golf_model.specs.State.{is_running}
use Rattle.golf_state_goroutines.specs.Goroutines.{IsNone}
use Rattle.golf_state_goroutines.specs.Places.{plain_entries, running_of}
use Rattle.golf_state_goroutines.specs.RunLists.{Runners, runs_with}
use Rattle.golf_state_goroutines.proofs.Listing.{entry-at, running-more, running-same, Starts, starts, runs-on}
use Rattle.golf_state_goroutines.proofs.Middles.{under-none}
use Rattle.golf_state_goroutines.proofs.places.start_these.Goals.{After-place-item, then-is_running, else-is_running}
use Rattle.golf_state_goroutines.proofs.places.start_these.Goals as goal

read : (c : After-place-item) → slice_get c.args.places.now c.loop-place.place-index ≡ Some c.place-item.result
read c = slice_get_read c.args.places.now (length c.args.places.now) c.loop-place.place-index c.place-item.result refl
    c.loop-place-test.true c.place-item.is

next : (c : After-place-item) → Starts c.args.runs.now.keys
    (c.args.runs.now.numbers ++ running_of (take c.loop-place.place-index (plain_entries c.args.places.now)))
    c.place-item.result
next c = starts c.args.runs.now.keys c.args.runs.now.numbers c.args.places.now c.loop-place.place-index
    c.place-item.result c.requires.rises c.requires.room c.requires.above (read c)

pub start-requires-clause-room : goal.start-requires-clause-room
start-requires-clause-room c =
    let s = next (goal.at.start-requires-clause-room c).After-place-item in
    let p = c.place-item.result in
    subst (λ (r : Runners). In (p.0 / 256) r.keys) (sym c.loop-place.invariant) s.room

pub start-requires-clause-none : goal.start-requires-clause-none
start-requires-clause-none c =
    let s = next (goal.at.start-requires-clause-none c).After-place-item in
    let p = c.place-item.result in
    subst (λ (r : Runners). IsNone p.0 r.numbers) (sym c.loop-place.invariant) (under-none p.0 _ s.under)

pub loop-place-preserved : goal.loop-place-preserved
loop-place-preserved c =
    let at = goal.at.loop-place-preserved c in
    let es = plain_entries c.args.places.now in
    let i = c.loop-place.place-index in
    let p = c.place-item.result in
    let here = entry-at c.args.places.now i p (read at.After-place-item) in
    let test : c.is_running.result ≡ is_running p.1.mode = c.is_running.ensures
    ∙ ap (λ (r : Goroutine). is_running r.mode) c.get.ensures in
    elim c.if-is_running.branch [
      | then-is_running w ↦
          w.runs-is ∙ w.start.ensures ∙ ap (runs_with p.0) c.loop-place.invariant
          ∙ runs-on c.args.runs.now.numbers (running_of (take i es)) c.args.runs.now.keys p.0 (running_of (take (i + 1) es))
          (next at.After-place-item).under (running-more i es _ here (sym test ∙ w.if-is_running.true))
      | else-is_running w ↦
          w.runs-is ∙ c.loop-place.invariant
          ∙ ap (λ (ns : List ℕ). record c.args.runs.now { numbers = c.args.runs.now.numbers ++ ns })
          (running-same i es _ here (sym test ∙ w.if-is_running.false))
    ]
