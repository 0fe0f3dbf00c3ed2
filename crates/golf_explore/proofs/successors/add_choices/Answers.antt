use Rattle.std.proofs.Common.{subst}
use Rattle.golf_model.specs.State.{start as start_of}
use Rattle.golf_explore_laws.specs.After.{after, after_all}
use Rattle.golf_explore.specs.VisitLists.{HasAdded}
use Rattle.golf_explore.specs.Results.{Unless}
use Rattle.golf_explore.proofs.Leading.{path-grown, turned-none, turned-more}
use Rattle.golf_explore.proofs.successors.add_choices.Goals as goal

pub loop-choice-init : goal.loop-choice-init
loop-choice-init c = turned-none c.args.code.now c.args.visits.now.list
    (after_all c.args.code.now (start_of c.args.code.now) c.args.origin.path.now) c.args.edges.now c.args.place
    c.args.origin.count c.requires.visits

pub add-requires-clause-path : goal.add-requires-clause-path
add-requires-clause-path c = path-grown c.args.code.now c.args.visits.now.list c.loop-choice.visits.list
    c.args.origin.at
    c.args.origin.path.now c.loop-choice.invariant.grows c.requires.path

pub loop-choice-preserved : goal.loop-choice-preserved
loop-choice-preserved c =
    let code = c.args.code.now in
    let s = after_all code (start_of code) c.args.origin.path.now in
    let added : HasAdded code c.loop-choice.visits.list c.add.new.visits.list c.loop-choice.edges c.add.new.edges
    (after code s c.in-Some.number) =
    subst (Unless code _) c.in_default-2.is c.in_ok-explored.ensures in
    turned-more code c.args.visits.now.list s c.loop-choice.visits.list c.add.new.visits.list c.args.edges.now
    c.loop-choice.edges c.add.new.edges c.args.place c.args.origin.count c.loop-choice.choice c.in-Some.number
    c.loop-choice.invariant added c.in-Some.ensures
