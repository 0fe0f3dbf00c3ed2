use Rattle.std.proofs.Common.{ℕ, ◌+◌, arith, get_or, below_more}
use Rattle.golf_theory.specs.Membership.{In}
use Rattle.golf_theory.proofs.Lists.{In-get_or, Every-at}
use Rattle.golf_theory.proofs.Derivations.{Follows-grows}
use Rattle.golf_model.specs.Graph.{Justifies}
use Rattle.golf_marks.specs.Places.{IsJustified}
use Rattle.golf_marks.specs.Seats.{graph_in, known}
use Rattle.golf_mark.proofs.Gaining.{In-all}
use Rattle.golf_mark.proofs.Winning.{Wins-trans}
use Rattle.golf_mark.proofs.scanner.awaken.Goals as goal

pub claim-requires-clause-justified : goal.claim-requires-clause-justified
claim-requires-clause-justified c =
    let g = graph_in c.args.marks.now in
    let xs = c.args.sleepers.now in
    let s : ℕ = get_or xs c.loop-sleeper.sleeper-index 0 in
    let old = known c.args.scanner.now.seat in
    Follows-grows (λ q. In q g.roots) (Justifies g) old (known c.loop-sleeper.scanner.seat)
    (c.args.nodes + s) c.loop-sleeper.invariant.wins.known
    (Every-at (λ t. IsJustified g old (c.args.nodes + t)) xs s c.requires.justified
    (In-get_or xs c.loop-sleeper.sleeper-index 0 (omega arith)))

pub loop-sleeper-preserved : goal.loop-sleeper-preserved
loop-sleeper-preserved c = record {
  wins = Wins-trans c.args.marks.now c.args.scanner.now c.loop-sleeper.scanner c.claim.new.scanner
      c.loop-sleeper.invariant.wins c.claim.ensures.wins;
  there = below_more _ _ (λ k h. c.claim.ensures.wins.known _ (c.loop-sleeper.invariant.there k h))
      c.claim.ensures.there;
}

pub returns-clause-there : goal.returns-clause-there
returns-clause-there c = In-all (λ s. In (c.args.nodes + s) (known c.loop-sleeper.scanner.seat)) c.args.sleepers.now
    c.loop-sleeper.sleeper-index (omega arith) c.loop-sleeper.invariant.there
