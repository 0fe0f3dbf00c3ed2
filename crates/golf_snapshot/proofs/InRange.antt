-- The parts of a graph name places that there are.
-- For: `live_graph` and `retained_graph`, src/graph.rt.
-- By: induction over the list of objects, and over the list of references.
use Rattle.std.specs.Prelude.{◌^◌}
use Rattle.std.proofs.Common.{◌≡◌, ℕ, suc, ◌+◌, ◌<◌, Bool, List, [], ◌∷◌, length, map, sym, ap, ◌∙◌, subst, arith}
use Rattle.std.proofs.lemmas.List.{length-map}
use Rattle.std.proofs.lemmas.Option.{slice_get_within}
use Rattle.golf_theory.specs.Membership.{Every}
use Rattle.golf_theory.specs.Maps.{Rises, rank}
use Rattle.golf_theory.proofs.Lists.{Every-from, Every-at, Every-map}
use Rattle.golf_theory.proofs.MapEntries.{Every-Entry}
use Rattle.golf_base.specs.declared.ids.ObjectId.{ObjectId}
use Rattle.golf_data.specs.declared.value.Object.{Object}
use Rattle.golf_model.specs.Views.{GoroutineView}
use Rattle.golf_model.specs.Waiters.{waits_of}
use Rattle.golf_model.specs.State.{State}
use Rattle.golf_model.specs.Refs.{object_refs, goroutine_refs, waited, has_finaliser}
use Rattle.golf_model.specs.Reach.{sources}
use Rattle.golf_model.specs.Graph.{AreNodes, NumbersRise, IsInRange}
use Rattle.golf_model.specs.Presence.{Present, IsWhole}
use Rattle.golf_model.specs.Futures.{Numbered}
use Rattle.golf_model.specs.declared.graph.GraphParts.{GraphParts}
use Rattle.golf_model.specs.Sleepers.{Sleeper}
use Rattle.golf_snapshot.specs.Parts.{ranks, number_of, row_of, live_roots, sleeping, sleeper_of, parts_of, live_parts}
use Rattle.golf_snapshot.proofs.LiveSound.{rank-entry, root-live, waited-refs}
use Rattle.golf_snapshot.proofs.RetainedLaw.{source-present}
use Rattle.golf_snapshot.proofs.Roots.{sleeping-entry}

numbers-rise : (k : ℕ) (es : List (ℕ × Object)) → Rises k es → NumbersRise k (map number_of es)
numbers-rise k [] r = tt
numbers-rise k (e ∷ es) r =
    let next : suc e.0 ≡ e.0 + 1 = omega arith in (
      r.0,
      subst (λ m. NumbersRise m (map number_of es)) next (numbers-rise (suc e.0) es r.1),
    )

abbrev made : List ObjectId → List (List ℕ) → List Bool → List ℕ → List Sleeper → GraphParts
made numbers children finalised roots sleepers =
    record { numbers = numbers; children = children; finalised = finalised; roots = roots; sleepers = sleepers }

pub parts-made : (s : State) (os : List (ℕ × Object)) (numbers : List ObjectId) (children : List (List ℕ))
    (finalised : List Bool) (roots : List ℕ) (sleepers : List Sleeper) → os ≡ s.objects → numbers ≡ map number_of os
    → children ≡ map (row_of os) os
    → finalised ≡ map (λ e. has_finaliser s e.0) s.objects
    → made numbers children finalised roots sleepers ≡ record (parts_of s [] sleepers) { roots = roots }
parts-made s os numbers children finalised roots sleepers same p q r =
    ap (λ (ns : List ObjectId). made ns children finalised roots sleepers) (p ∙ ap (map number_of) same)
    ∙ ap (λ (rows : List (List ℕ)). made (map number_of s.objects) rows finalised roots sleepers)
    (q ∙ ap (λ (es : List (ℕ × Object)). map (row_of es) es) same)
    ∙ ap (λ (fs : List Bool). made (map number_of s.objects) (map (row_of s.objects) s.objects) fs roots sleepers) r

-- what was made of these roots and sleepers
pub parts-are : (s : State) (os : List ℕ) (parts : GraphParts) (roots : List ℕ) (sleepers those : List Sleeper)
    → parts ≡ record (parts_of s [] sleepers) { roots = roots } → roots ≡ ranks s.objects os → sleepers ≡ those
    → parts ≡ parts_of s os those
parts-are s os parts roots sleepers those p r q =
    p ∙ ap (λ (l : List ℕ). let g : GraphParts = record (parts_of s [] sleepers) { roots = l } in g) r
    ∙ ap (parts_of s os) q

module _ (s : State) (n : Numbered s) (w : IsWhole s) where
  ranks-below : (os : List ℕ) → Every (Present s) os → Every (λ p. p < length s.objects) (ranks s.objects os)
  ranks-below [] a = tt
  ranks-below (o ∷ os) a = (
    let e = rank-entry s n w o a.0 in slice_get_within s.objects (rank o s.objects)
        (o, e.0) e.1,
    ranks-below os a.1,
  )

  nodes-are : (roots : List ℕ) (sleepers : List Sleeper) (os : List ℕ) → Every (Present s) os
      → AreNodes (parts_of s roots sleepers) (ranks s.objects os)
  nodes-are roots sleepers os a = subst (λ (k : ℕ). Every (λ p. p < k) (ranks s.objects os))
      (sym (length-map s.objects (row_of s.objects))) (ranks-below os a)

  in-range : (roots : List ℕ) (sleepers : List Sleeper) → length s.objects + length sleepers < 4294967296
      → Every (Present s) roots
      → Every (λ x. AreNodes (parts_of s roots sleepers) x.waits) sleepers
      → Every (λ x. AreNodes (parts_of s roots sleepers) x.references) sleepers
      → IsInRange (parts_of s roots sleepers)
  in-range roots sleepers few there waits references =
      let rows = length-map s.objects (row_of s.objects) in
      record {
        numbered = length-map s.objects number_of ∙ sym rows;
        flagged = length-map s.objects (λ (e : ℕ × Object). has_finaliser s e.0) ∙ sym rows;
        numbers = numbers-rise 0 s.objects n.objects_rise;
        few = subst (λ (k : ℕ). k + length sleepers < 4294967296) (sym rows) few;
        children =
            Every-map (AreNodes (parts_of s roots sleepers)) (row_of s.objects) s.objects
            (Every-Entry (λ o x. AreNodes (parts_of s roots sleepers) (ranks s.objects (object_refs x))) s.objects
            (λ o x i. nodes-are roots sleepers (object_refs x) (w.objects o x i)));
        roots = nodes-are roots sleepers roots there;
        waits = waits;
        references = references;
      }

  waited-there : (r : GoroutineView) → Every (Present s) (goroutine_refs r)
      → Every (Present s) (waited (waits_of r.mode))
  waited-there r a = Every-from (Present s) (waited (waits_of r.mode))
      (λ o m. Every-at (Present s) (goroutine_refs r) o a (waited-refs s n w r o m))

  pub live-in_range : (sleepers : List Sleeper) → length s.objects + length sleepers < 4294967296
      → sleepers ≡ map (sleeper_of s.objects) (sleeping s) → IsInRange (live_parts s)
  live-in_range sleepers few same =
      let those : List Sleeper = map (sleeper_of s.objects) (sleeping s) in
      in-range (live_roots s) those (subst (λ (l : List Sleeper). length s.objects + length l < 4294967296) same few)
      (Every-from (Present s) (live_roots s) (λ o m. (root-live s n w o m).1))
      (Every-map (λ (x : Sleeper). AreNodes (live_parts s) x.waits) (sleeper_of s.objects) (sleeping s)
      (Every-from (λ (e : ℕ × GoroutineView). AreNodes (live_parts s) (ranks s.objects (waited (waits_of e.1.mode))))
      (sleeping s)
      (λ e i. nodes-are (live_roots s) those (waited (waits_of e.1.mode))
      (waited-there e.1 (w.goroutines e.0 e.1 (sleeping-entry s e i).0)))))
      (Every-map (λ (x : Sleeper). AreNodes (live_parts s) x.references) (sleeper_of s.objects) (sleeping s)
      (Every-from (λ (e : ℕ × GoroutineView). AreNodes (live_parts s) (ranks s.objects (goroutine_refs e.1)))
      (sleeping s)
      (λ e i. nodes-are (live_roots s) those (goroutine_refs e.1) (w.goroutines e.0 e.1 (sleeping-entry s e i).0))))

  -- the nodes of the sources are nodes of the live graph
  pub sources-in_range : (gone : List ℕ) → AreNodes (live_parts s) (ranks s.objects (sources s gone))
  sources-in_range gone =
      nodes-are (live_roots s) (map (sleeper_of s.objects) (sleeping s)) (sources s gone)
      (Every-from (Present s) (sources s gone) (λ o m. source-present s n w gone o m))
