use Rattle.std.proofs.Common.{arith, ap, ◌∙◌, ◌++◌, ◌∷◌, [], List, ℕ}
use Rattle.golf_snapshot.specs.Parts.{ranks, row_of}
use Rattle.golf_snapshot.specs.MapEntries.{refs_at}
use Rattle.golf_theory.proofs.MapOrder.{Rises-less}
use Rattle.golf_snapshot.proofs.Stepping.{entry-of-key, find-at, map-next, map-done}
use Rattle.golf_snapshot.proofs.nodes.children.Goals as goal

pub loop-rank-preserved : goal.loop-rank-preserved
loop-rank-preserved c =
    let objects = c.args.heap.now.objects in
    let e = entry-of-key objects c.loop-rank.rank c.at.result.0 c.at.ensures in
    map-next (row_of objects) objects c.loop-rank.rank
    (c.at.result.0, e.0) c.loop-rank.rows c.push.new.self e.1 c.loop-rank.invariant
    (c.in_ok-push.ensures.ok
    ∙ ap (λ (r : List ℕ). c.loop-rank.rows ++ r ∷ [])
    (c.as_slice.ensures ∙ c.in_ok-fill_row.ensures
    ∙ ap (λ m. ranks objects (refs_at m))
    (find-at objects c.loop-rank.rank c.at.result.0 e.0
    (Rises-less 0 1 objects (omega arith) c.count-rank-end.ensures.numbers.rises) e.1)))

pub returns : goal.returns
returns c = map-done (row_of c.args.heap.now.objects) c.args.heap.now.objects c.loop-rank.rank c.loop-rank.rows
    (omega arith) c.loop-rank.invariant
