use Rattle.std.proofs.Common.{◌≡◌, ℕ, List, [], ◌∷◌, ◌++◌, length, get_or, None, is_some, subst, sym, ap, ◌∙◌}
use Rattle.golf_model.specs.State.{ending, start as start_of}
use Rattle.golf_explore.specs.declared.visits.Edge.{Edge}
use Rattle.golf_explore.specs.declared.visits.Visit.{Visit}
use Rattle.golf_explore_laws.specs.After.{after_all}
use Rattle.golf_explore.specs.VisitLists.{IsPathTo, IsPathFor, HasChoices, HasExpanded}
use Rattle.golf_explore.specs.Results.{Unless}
use Rattle.golf_explore.proofs.TurnLists.{no-ending}
use Rattle.golf_explore.proofs.Leading.{indexed, visited-end, path-for, choices-for, visited-all}
use Rattle.golf_explore.proofs.successors.expand.Goals as goal

pub returns-then-is_some : goal.returns-then-is_some
returns-then-is_some c =
    let vs : List Visit = c.args.visits.now.list in
    let d : Visit = c.index-as_slice-at.result in
    let v = get_or c.as_slice.result.now c.args.at d in
    let got = indexed vs c.as_slice.result.now c.args.at d c.requires.at c.as_slice.ensures in
    visited-end c.args.code.now vs c.args.at v got c.requires.visits
    (sym (c.is_some.ensures ∙ ap is_some c.ending.ensures) ∙ c.if-is_some.true) c.args.edges.now c.push.new.self
    (c.in_ok-push.ensures.ok ∙ ap (λ (es : List Edge). c.args.edges.now ++ es ∷ []) c.new-ways.ensures)

pub add_places-requires-clause-path : goal.add_places-requires-clause-path
add_places-requires-clause-path c =
    let code = c.args.code.now in
    let vs : List Visit = c.args.visits.now.list in
    let d : Visit = c.index-as_slice-at.result in
    let v = get_or c.as_slice.result.now c.args.at d in
    let got = indexed vs c.as_slice.result.now c.args.at d c.requires.at c.as_slice.ensures in
    let path : IsPathTo vs c.args.at c.in_ok-path.path =
    subst (λ (xs : List Visit). IsPathTo xs c.args.at c.in_ok-path.path) c.as_slice-2.ensures
    c.in_ok-path.ensures in
    let goes : ending v.state ≡ None = sym c.ending.ensures ∙ no-ending _ _ c.is_some.ensures c.if-is_some.false in
    subst (IsPathFor code vs c.args.at) (sym c.as_slice-turns.ensures)
    (path-for code vs c.args.at v got c.requires.visits c.in_ok-path.path path goes)

pub add_places-requires-clause-choices : goal.add_places-requires-clause-choices
add_places-requires-clause-choices c =
    let code = c.args.code.now in
    let vs : List Visit = c.args.visits.now.list in
    let d : Visit = c.index-as_slice-at.result in
    let v = get_or c.as_slice.result.now c.args.at d in
    let got = indexed vs c.as_slice.result.now c.args.at d c.requires.at c.as_slice.ensures in
    let path : IsPathTo vs c.args.at c.in_ok-path.path =
    subst (λ (xs : List Visit). IsPathTo xs c.args.at c.in_ok-path.path) c.as_slice-2.ensures
    c.in_ok-path.ensures in
    let has = choices-for code vs c.args.at v got c.requires.visits c.in_ok-path.path path c.in_ok-choices.choices
    c.in_ok-choices.ensures in
    subst (λ (ns : List ℕ). HasChoices code (after_all code (start_of code) ns) c.as_slice-3.result.now)
    (sym c.as_slice-turns.ensures)
    (subst (HasChoices code (after_all code (start_of code) c.in_ok-path.path)) (sym c.as_slice-3.ensures) has)

pub add_places-requires-clause-count : goal.add_places-requires-clause-count
add_places-requires-clause-count c = c.len.ensures ∙ ap length (sym c.as_slice-3.ensures)

pub returns : goal.returns
returns c =
    let code = c.args.code.now in
    let vs : List Visit = c.args.visits.now.list in
    let d : Visit = c.index-as_slice-at.result in
    let v = get_or c.as_slice.result.now c.args.at d in
    let got = indexed vs c.as_slice.result.now c.args.at d c.requires.at c.as_slice.ensures in
    let new : List Visit = c.add_places.new.visits.list in
    let path : IsPathTo vs c.args.at c.in_ok-path.path =
    subst (λ (xs : List Visit). IsPathTo xs c.args.at c.in_ok-path.path) c.as_slice-2.ensures
    c.in_ok-path.ensures in
    let ways : List Edge = c.add_places.new.edges in
    let has : HasExpanded code vs new ways (after_all code (start_of code) c.as_slice-turns.result.now) =
    subst (Unless code _) c.in_default.is c.in_ok-explored.ensures in
    visited-all code vs c.args.at v got c.requires.visits c.in_ok-path.path path new ways
    (subst (λ (ns : List ℕ). HasExpanded code vs new ways (after_all code (start_of code) ns)) c.as_slice-turns.ensures
    has) c.args.edges.now c.push-2.new.self c.in_ok-push-2.ensures.ok
