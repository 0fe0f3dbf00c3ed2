use Rattle.std.proofs.Common.{ℕ, Bool, not, List, ◌++◌, map, ap, ◌∙◌}
use Rattle.golf_theory.specs.Membership.{is_in}
use Rattle.golf_data.specs.declared.goroutine.Queued.{Queued}
use Rattle.golf_data.specs.declared.value.Value.{Value}
use Rattle.golf_heap.specs.Objects.{NumberedObjects}
use Rattle.golf_model.specs.Values.{refs}
use Rattle.golf_model.specs.Refs.{queue_refs, refs_where, goroutine_refs_where, has_finaliser}
use Rattle.golf_model.specs.declared.graph.GraphParts.{GraphParts}
use Rattle.golf_snapshot.specs.Parts.{ranks}
use Rattle.golf_snapshot.specs.MapEntries.{finalised_rows}
use Rattle.golf_snapshot.proofs.Gathering.{four-pieces}
use Rattle.golf_snapshot.proofs.Staying.{rows-ranks}
use Rattle.golf_snapshot.proofs.retained.source_nodes.Goals as goal

pub returns-clause-roots : goal.returns-clause-roots
returns-clause-roots c =
    let s = c.args.state.now in
    let test : ℕ → Bool = λ g. not (is_in g (map (λ h. h.0) c.args.gone.now)) in
    four-pieces s.objects c.new-roots.result (refs s.globals) (queue_refs s.queue)
    (goroutine_refs_where test s.goroutines) (refs_where (has_finaliser s) s.objects)
    (c.in_ok-add_values.ensures
    ∙ ap (λ (h : NumberedObjects). c.new-roots.result ++ ranks h.objects (refs c.globals.result.now))
    c.heap.ensures.objects
    ∙ ap (λ (vs : List Value). c.new-roots.result ++ ranks s.objects (refs vs)) c.globals.ensures)
    (c.in_ok-add_queue.ensures
    ∙ ap (λ (h : NumberedObjects). c.add_values.new.nodes ++ ranks h.objects (queue_refs c.queue.result.now))
    c.heap-2.ensures.objects
    ∙ ap (λ (qs : List Queued). c.add_values.new.nodes ++ ranks s.objects (queue_refs qs)) c.queue.ensures)
    c.in_ok-add_others.ensures
    (c.in_ok-add_finalised_rows.ensures ∙ ap (λ (l : List ℕ). c.add_others.new.nodes ++ l)
    (ap (λ (p : GraphParts). finalised_rows p.finalised p.children) c.requires.live
    ∙ rows-ranks s.objects (has_finaliser s) s.objects))
    ∙ ap (λ (old : List ℕ). old ++ ranks s.objects
    (refs s.globals ++ (queue_refs s.queue
    ++ (goroutine_refs_where test s.goroutines ++ refs_where (has_finaliser s) s.objects)))) c.new-roots.ensures
