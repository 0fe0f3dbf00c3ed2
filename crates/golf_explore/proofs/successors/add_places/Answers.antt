use Rattle.std.proofs.Common.{ℕ, ◌<◌, ◌≤◌, List, length, get_or, subst, ◌∙◌, arith}
use Rattle.std.proofs.lemmas.Option.{slice_get-get_or}
use Rattle.golf_model.specs.State.{start as start_of}
use Rattle.golf_explore_laws.specs.After.{after_all}
use Rattle.golf_explore.specs.VisitLists.{HasAddedTurns}
use Rattle.golf_explore.specs.Results.{Unless}
use Rattle.golf_explore.proofs.Growing.{grows-same, grows-trans}
use Rattle.golf_explore.proofs.Leading.{path-grown, places-more, expanded}
use Rattle.golf_explore.proofs.successors.add_places.Goals as goal

pub loop-place-init : goal.loop-place-init
loop-place-init c = record {
  grows = grows-same c.args.visits.now.list;
  visits = c.requires.visits;
  has = λ place choice below t. absurd (omega (arith, below));
}

pub add_choices-requires-clause-path : goal.add_choices-requires-clause-path
add_choices-requires-clause-path c = path-grown c.args.code.now c.args.visits.now.list c.loop-place.visits.list
    c.args.origin.at c.args.origin.path.now c.loop-place.invariant.grows c.requires.path

pub loop-place-preserved : goal.loop-place-preserved
loop-place-preserved c =
    let code = c.args.code.now in
    let s = after_all code (start_of code) c.args.origin.path.now in
    let choices : List ℕ = c.args.choices.now in
    let place = c.loop-place.place in
    let mid = c.loop-place.visits.list in
    let new = c.add_choices.new.visits.list in
    let within : place < length choices = c.loop-place-test.true in
    let more = get_or choices place 0 in
    let turned : HasAddedTurns code mid new c.loop-place.edges c.add_choices.new.edges s place c.args.origin.count
    more =
    subst (Unless code _) c.in_default.is c.in_ok-explored.ensures in
    record {
      grows = grows-trans c.args.visits.now.list mid new c.loop-place.invariant.grows turned.grows;
      visits = turned.visits;
      has = places-more code c.args.visits.now.list s mid new c.loop-place.edges c.add_choices.new.edges place more
          c.loop-place.invariant.has (c.requires.choices.each place more (slice_get-get_or choices place 0 within))
          c.args.origin.count turned (c.requires.count ∙ c.requires.choices.count);
    }

pub returns : goal.returns
returns c =
    let code = c.args.code.now in
    let s = after_all code (start_of code) c.args.origin.path.now in
    let choices : List ℕ = c.args.choices.now in
    let low : length choices ≤ c.loop-place.place = c.loop-place-test.false in
    let high : c.loop-place.place ≤ length choices = c.loop-place.auto.place-end in
    let count = c.requires.choices.count in
    expanded code c.args.visits.now.list s c.loop-place.visits.list c.loop-place.edges c.loop-place.place
    c.loop-place.invariant.grows
    c.loop-place.invariant.visits c.loop-place.invariant.has (omega (arith, low, high, count))
