use Rattle.std.proofs.Common.{◌≡◌, List, length, sym, subst, ◌∙◌, arith}
use Rattle.golf_explore.specs.declared.visits.Edge.{Edge}
use Rattle.golf_explore.specs.declared.visits.Visit.{Visit}
use Rattle.golf_explore.specs.Ranks.{HaveRanks}
use Rattle.golf_explore.specs.Results.{CountsVisits}
use Rattle.golf_explore.proofs.Searched.{all-visited, still-exploring}
use Rattle.golf_explore.proofs.full_search.Exploration.step.Goals as goal

pub returns-then-at-len : goal.returns-then-at-len
returns-then-at-len c =
    let visits : List Visit = c.args.self.now.visits.list in
    let edges : List (List Edge) = c.args.self.now.edges in
    let all : length edges ≡ length visits = omega
    (arith, c.len-at.ensures, c.len.ensures, c.if-at-len.true, c.requires.exploring.within) in
    all-visited c.args.code.now visits edges c.requires.exploring.visits c.requires.exploring.done all
    c.len-at.result c.in_ok-ends.ends c.told-told.result (c.len-at.ensures ∙ all)
    (λ yes. subst HaveRanks c.as_slice.ensures (c.in_ok-ends.ensures yes))
    (subst (λ (vs : List Visit). CountsVisits vs c.len-at.result c.in_ok-ends.ends c.told-told.result)
    c.as_slice-then-at-len.ensures
    c.told-told.ensures)

pub returns : goal.returns
returns c =
    still-exploring c.args.code.now c.args.self.now
    (record { visits = c.expand.new.visits; edges = c.expand.new.edges; most = c.args.self.now.most })
    c.len-at.result (sym c.len-at.ensures) (omega (arith, c.len.ensures, c.if-at-len.false)) c.requires.exploring.done
    c.expand.result c.expand.ensures
