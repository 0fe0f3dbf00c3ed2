use Rattle.std.proofs.Common.{◌≡◌, ℕ, ◌++◌, List, Option, Some, IfSome, slice_get, inl, refl, subst, sym, ap, ◌∙◌, arith}
use Rattle.std.proofs.lemmas.List.{length-map}
use Rattle.std.proofs.lemmas.Option.{slice_get_within}
use Rattle.golf_data.specs.declared.code.Code.{Code}
use Rattle.golf_model.specs.State.{State, ending, start as start_of}
use Rattle.golf_model.specs.Futures.{Leads}
use Rattle.golf_model_futures.proofs.OrderedLeading.{leads-whole}
use Rattle.golf_explore_laws.specs.After.{silent, after_all}
use Rattle.golf_explore.specs.declared.visits.Came.{Came}
use Rattle.golf_explore.specs.declared.visits.Edge.{Edge}
use Rattle.golf_explore.specs.declared.visits.Visit.{Visit}
use Rattle.golf_explore.specs.AlikeStates.{HasOneAt}
use Rattle.golf_explore.specs.VisitLists.{states, IsPathFor, IsTrail, IsWell, HasPushed}
use Rattle.golf_explore.specs.FrameLocalTurns.{HasTakenAndSettled}
use Rattle.golf_explore.specs.Results.{Unless}
use Rattle.golf_explore.proofs.Growing.{grows-same, pushed-grows, pushed-at, added-by, added-visits}
use Rattle.golf_explore.proofs.Led.{visit-leads}
use Rattle.golf_explore.proofs.Settled.{trail-of}
use Rattle.golf_explore.proofs.Standing.{same-or-alike}
use Rattle.golf_explore.proofs.TurnLists.{leads-all}
use Rattle.golf_explore.proofs.successors.add.Goals as goal

-- the copy is the state that the path reaches
made : (code : Code) (vs : List Visit) (at : ℕ) (path : List ℕ) (s : State) → IsPathFor code vs at path
    → slice_get (states vs) at ≡ Some s → s ≡ after_all code (start_of code) path
made code vs at path s p h = let stands = p.stands in cc

pub copy_of-requires : goal.copy_of-requires
copy_of-requires c =
    let vs : List Visit = c.args.visits.now.list in
    let within = slice_get_within (states vs) c.args.origin.at _ c.requires.path.stands in
    omega (arith, within, length-map vs (λ (v : Visit). silent v.state))

pub take_and_settle-requires-clause-goes : goal.take_and_settle-requires-clause-goes
take_and_settle-requires-clause-goes c = ap ending (made c.args.code.now c.args.visits.now.list c.args.origin.at c.args.origin.path.now c.in_ok-state.state
    c.requires.path c.in_ok-state.ensures) ∙ c.requires.path.on

pub take_and_settle-requires-clause-leads : goal.take_and_settle-requires-clause-leads
take_and_settle-requires-clause-leads c =
    let code = c.args.code.now in
    subst (Leads code) (sym (made c.args.code.now c.args.visits.now.list c.args.origin.at c.args.origin.path.now c.in_ok-state.state
    c.requires.path c.in_ok-state.ensures)) (leads-all code c.args.origin.path.now (start_of code) Leads.Start
    c.requires.path.goes)

pub judge-requires-clause-whole : goal.judge-requires-clause-whole
judge-requires-clause-whole c =
    leads-whole c.args.code.now c.take_and_settle.new.state c.in_ok-numbers.ensures.leads

pub judge-requires-clause-trail : goal.judge-requires-clause-trail
judge-requires-clause-trail c =
    let code = c.args.code.now in
    let path : List ℕ = c.args.origin.path.now in
    let numbers : List ℕ = c.in_ok-numbers.numbers in
    let t = c.take_and_settle.new.state in
    let taken = subst (λ (s : State). HasTakenAndSettled code s c.args.number t numbers) (made c.args.code.now c.args.visits.now.list c.args.origin.at c.args.origin.path.now c.in_ok-state.state
    c.requires.path c.in_ok-state.ensures)
    c.in_ok-numbers.ensures in
    subst (λ (ns : List ℕ). IsTrail code (path ++ ns) t) (sym c.as_slice.ensures)
    (trail-of code path numbers c.args.number t c.requires.path.goes taken)

pub returns-in-Some : goal.returns-in-Some
returns-in-Some c =
    let code = c.args.code.now in
    let s = after_all code (start_of code) c.args.origin.path.now in
    let vs : List Visit = c.args.visits.now.list in
    let numbers : List ℕ = c.in_ok-numbers.numbers in
    let t = c.take_and_settle.new.state in
    let taken = subst (λ (u : State). HasTakenAndSettled code u c.args.number t numbers) (made c.args.code.now c.args.visits.now.list c.args.origin.at c.args.origin.path.now c.in_ok-state.state
    c.requires.path c.in_ok-state.ensures)
    c.in_ok-numbers.ensures in
    let e : Edge = record { to = c.in-Some.to; turns = c.len-turns.result } in
    let found : HasOneAt (states vs) (silent t) c.in-Some.to =
    subst (λ o. IfSome o (HasOneAt (states vs) (silent t))) c.in-Some.is c.in_ok-to.ensures in
    let same = same-or-alike code (silent t) found.0 (Leads.Emptied t c.in_ok-numbers.ensures.leads)
    (visit-leads code vs c.requires.visits c.in-Some.to found.0 found.1) found.2 in
    added-by code s c.args.number t numbers taken vs vs (grows-same vs) c.requires.visits e found.0 found.1 same
    c.len-turns.ensures c.args.edges.now c.push.new.self c.in_ok-push.ensures.ok

pub returns : goal.returns
returns c =
    let code = c.args.code.now in
    let s = after_all code (start_of code) c.args.origin.path.now in
    let vs : List Visit = c.args.visits.now.list in
    let new : List Visit = c.push-2.new.self.list in
    let numbers : List ℕ = c.in_ok-numbers.numbers in
    let t = c.take_and_settle.new.state in
    let taken = subst (λ (u : State). HasTakenAndSettled code u c.args.number t numbers) (made c.args.code.now c.args.visits.now.list c.args.origin.at c.args.origin.path.now c.in_ok-state.state
    c.requires.path c.in_ok-state.ensures)
    c.in_ok-numbers.ensures in
    let e : Edge = record { to = c.len-place.result; turns = c.len-turns.result } in
    let came : Option Came = Some (record { parent = c.args.origin.at; numbers = numbers }) in
    let pushed : HasPushed vs new t came = c.in_ok-push-2.ensures.ok in
    let well = subst (Unless code (IsWell t)) c.in_default-2.is c.in_ok-explored.ensures in
    let visits = added-visits code s c.args.number t numbers taken vs new c.args.origin.at c.requires.visits
    c.requires.path.stands well pushed in
    let stands : slice_get (states new) c.len-place.result ≡ Some (silent t) =
    ap (slice_get (states new)) c.len-place.ensures ∙ pushed-at code vs new t came pushed in
    added-by code s c.args.number t numbers taken vs new (pushed-grows vs new t came pushed) visits e (silent t)
    stands (inl refl) c.len-turns.ensures c.args.edges.now c.push-3.new.self c.in_ok-push-3.ensures.ok
