use Rattle.std.proofs.Common.{◌≡◌, ℕ, List, ◌<◌, ◌≤◌, Some, length, slice_get, get_or, sym, subst, ◌∙◌, arith}
use Rattle.std.proofs.lemmas.Option.{slice_get-get_or}
use Rattle.golf_explore.specs.declared.visits.Edge.{Edge}
use Rattle.golf_explore.specs.Ranks.{AreLower}
use Rattle.golf_explore.proofs.Growing.{get-within}
use Rattle.golf_explore.proofs.Falling.{falls-more}
use Rattle.golf_explore.proofs.visit_ranks.fall.Goals as goal

pub loop-at-preserved : goal.loop-at-preserved
loop-at-preserved c =
    let edges : List (List Edge) = c.args.edges.now in
    let ranks : List ℕ = c.args.ranks.now in
    let at = c.loop-at.at in
    let within : at < length edges = c.loop-at-test.true in
    let es = get_or edges at c.index-edges-at.result in
    let ranked : slice_get ranks at ≡ Some c.in-Some.rank = sym c.rank_at.ensures ∙ c.in-Some.is in
    let lower = subst (AreLower ranks c.in-Some.rank) (c.as_slice.ensures ∙ c.index-edges-at.is)
    (c.are_lower.ensures c.if-not-are_lower.false) in
    falls-more edges ranks at es c.in-Some.rank (slice_get-get_or edges at c.index-edges-at.result within) ranked lower
    c.loop-at.invariant

pub returns : goal.returns
returns c =
    let edges : List (List Edge) = c.args.edges.now in
    let past : length edges ≤ c.loop-at.at = c.loop-at-test.false in
    λ is at es got. let below = get-within edges at es got in c.loop-at.invariant at es (omega (arith, below, past)) got
