use Rattle.std.proofs.Common.{◌≡◌, ℕ, ◌<◌, ◌+◌, List, length, arith, subst, sym, ◌∙◌}
use Rattle.golf_theory.specs.Membership.{In, Every}
use Rattle.golf_model.specs.Graph.{sleeper_count, sleeper_waits}
use Rattle.golf_rows.specs.Rows.{AddsTo}
use Rattle.golf_cert.specs.Steps.{HasSleeperRows}
use Rattle.golf_mark.proofs.Ranges.{waits-nodes}
use Rattle.golf_cert.proofs.StepLaws.{HasSleeperRows-none, HasSleeperRows-more}
use Rattle.golf_cert.proofs.steps.woken_rows.Goals as goal

pub loop-sleeper-init : goal.loop-sleeper-init
loop-sleeper-init c = HasSleeperRows-none c.args.graph.now c.in_ok-rows.rows
    (c.in_ok-rows.ensures.length ∙ c.nodes-nodes.ensures.count) c.in_ok-rows.ensures.empty

pub add_to_all-requires : goal.add_to_all-requires
add_to_all-requires c =
    let g = c.args.graph.now in
    let nodes : Every (λ n. n < length c.loop-sleeper.rows) (sleeper_waits g c.loop-sleeper.sleeper) =
    subst (λ (k : ℕ). Every (λ n. n < k) (sleeper_waits g c.loop-sleeper.sleeper))
    (sym c.loop-sleeper.invariant.row_count)
    (waits-nodes g c.nodes-nodes.ensures.in_range c.loop-sleeper.sleeper) in
    subst (λ (l : List ℕ). Every (λ n. n < length c.loop-sleeper.rows) l) (sym c.waits.ensures) nodes

pub loop-sleeper-preserved : goal.loop-sleeper-preserved
loop-sleeper-preserved c =
    let g = c.args.graph.now in
    let s : ℕ = c.loop-sleeper.sleeper in
    HasSleeperRows-more g s c.loop-sleeper.rows c.add_to_all.new.rows c.in_ok-add_to_all.ensures.length
    c.loop-sleeper.invariant
    (subst (λ (m : ℕ). AddsTo (λ n. In n (sleeper_waits g s)) (m + s) c.loop-sleeper.rows c.add_to_all.new.rows)
    c.nodes-nodes.ensures.count
    (subst (λ (l : List ℕ). AddsTo (λ n. In n l) (c.nodes-nodes.result + s) c.loop-sleeper.rows c.add_to_all.new.rows)
    c.waits.ensures c.in_ok-add_to_all.ensures.ok))

pub returns : goal.returns
returns c =
    let all : c.loop-sleeper.sleeper ≡ sleeper_count c.args.graph.now = omega (arith, c.sleepers-sleeper-end.ensures) in
    subst (λ (k : ℕ). HasSleeperRows c.args.graph.now k c.loop-sleeper.rows) all c.loop-sleeper.invariant
