use Rattle.std.proofs.Common.{◌<◌, ◌++◌, ℕ, Bool, true, false, List, [], length, take, get_or, Option, Some, sym, ap}
use Rattle.std.proofs.Common.{◌∙◌, append-nil, arith}
use Rattle.std.specs.Prelude.{unwrap_or}
use Rattle.std.proofs.lemmas.List.{take_all}
use Rattle.std.proofs.lemmas.Option.{slice_get-get_or}
use Rattle.golf_snapshot.specs.MapEntries.{finalised_rows}
use Rattle.golf_snapshot.proofs.Staying.{rows-more}
use Rattle.golf_snapshot.proofs.retained.add_finalised_rows.Goals as goal
use Rattle.golf_snapshot.proofs.retained.add_finalised_rows.Goals.{then-finalised+in_ok-extend_from_slice}
use Rattle.golf_snapshot.proofs.retained.add_finalised_rows.Goals.{else-finalised}

pub loop-node-preserved : goal.loop-node-preserved
loop-node-preserved c =
    let g = c.args.graph.now in
    let i = c.loop-node.node in
    let within : i < length g.children = omega (arith, c.nodes-node-end.ensures.count) in
    let row : List ℕ = get_or g.children i [] in
    let at = slice_get-get_or g.children i [] within in
    elim c.if-finalised.branch [
      | then-finalised+in_ok-extend_from_slice w ↦
          rows-more g.finalised g.children i true row c.args.nodes.now
          (c.finalised.ensures ∙ ap Some w.if-finalised.true) at c.loop-node.invariant
          (w.nodes-is ∙ w.in_ok-extend_from_slice.ensures.ok
          ∙ ap (λ (l : List ℕ). c.loop-node.nodes ++ l)
          (w.children.ensures ∙ ap (λ (o : Option (List ℕ)). unwrap_or o []) at))
      | else-finalised w ↦
          rows-more g.finalised g.children i false row c.args.nodes.now
          (c.finalised.ensures ∙ ap Some w.if-finalised.false) at c.loop-node.invariant
          (w.nodes-is ∙ sym (append-nil c.loop-node.nodes))
    ]

pub returns : goal.returns
returns c =
    let g = c.args.graph.now in
    let i = c.loop-node.node in
    c.loop-node.invariant
    ∙ ap (λ (bs : List Bool). c.args.nodes.now ++ finalised_rows bs (take i g.children))
    (take_all i g.finalised (omega (
      arith,
      c.nodes-node-end.ensures.count,
      c.nodes-node-end.ensures.in_range.flagged,
    )))
    ∙ ap (λ (rows : List (List ℕ)). c.args.nodes.now ++ finalised_rows g.finalised rows)
    (take_all i g.children (omega (arith, c.nodes-node-end.ensures.count)))
