-- The least closed set of the retained graph is what its sources reach.
-- For: `retained_parts`, golf_snapshot/specs/Parts.antt; the law `retained_graph_law`, src/laws.rt.
-- By: induction over how a place gets into the least closed set, and over how an object is reached.
use Rattle.std.proofs.Common.{◌≡◌, ℕ, not, List, Some, inl, inr, sym, subst, ◌∙◌, slice_get}
use Rattle.golf_theory.specs.Membership.{In, is_in}
use Rattle.golf_theory.specs.Maps.{Entry, rank}
use Rattle.golf_theory.proofs.Lists.{In-cases, In-map, In-map_back, Every-at}
use Rattle.golf_theory.proofs.Derivations.{Reached-root, Reached-step, Reached-least}
use Rattle.golf_data.specs.declared.value.Object.{Object}
use Rattle.golf_model.specs.Values.{refs}
use Rattle.golf_model.specs.State.{State}
use Rattle.golf_model.proofs.Agreeing.{refs_where-sound, goroutine_refs_where-sound}
use Rattle.golf_model.specs.Refs.{object_refs, queue_refs, goroutine_refs_where, has_finaliser}
use Rattle.golf_model.specs.Reach.{RefersTo, Reach, sources}
use Rattle.golf_model.specs.Graph.{Justifies, Least, children_of}
use Rattle.golf_model.specs.Presence.{Present, IsWhole}
use Rattle.golf_model.specs.Futures.{Numbered}
use Rattle.golf_snapshot.specs.Parts.{ranks, retained_parts}
use Rattle.golf_snapshot.specs.Stands.{IsObject, RetainedGraph}
use Rattle.golf_snapshot.proofs.Ranking.{Entry-at, at-rank, rank-at, row-at, same-key}
use Rattle.golf_snapshot.proofs.LiveSound.{rank-entry}

module _ (s : State) (n : Numbered s) (w : IsWhole s) (gone : List ℕ) where
  abbrev pub Reaches : ℕ → Type 0
  Reaches = Reach s (sources s gone)

  abbrev pub Closes : ℕ → Type 0
  Closes = Least (retained_parts s gone)

  pub source-present : (o : ℕ) → In o (sources s gone) → Present s o
  source-present o h = elim (In-cases o (refs s.globals) _ h) [
    | inl i ↦ Every-at (Present s) _ o w.globals i
    | inr h2 ↦ elim (In-cases o (queue_refs s.queue) _ h2) [
      | inl i ↦ Every-at (Present s) _ o w.queue i
      | inr h3 ↦ elim (In-cases o (goroutine_refs_where (λ g. not (is_in g gone)) s.goroutines) _ h3) [
        | inl i ↦ let a = goroutine_refs_where-sound (λ g. not (is_in g gone)) s.goroutines o i in Every-at
            (Present s) _ o (w.goroutines a.0 a.1 a.3) a.4
        | inr i ↦ let a = refs_where-sound (has_finaliser s) s.objects o i in Every-at (Present s) _ o
            (w.objects a.0 a.1 a.3) a.4
      ]
    ]
  ]

  -- the place is that of an object that is reached
  abbrev pub IsReached : ℕ → Type 0
  IsReached k = (e : ℕ × Object) × (slice_get s.objects k ≡ Some e) × Reaches e.0

  object-reached : (o : ℕ) → Present s o → Reaches o → IsReached (rank o s.objects)
  object-reached o p r = let e = rank-entry s n w o p in ((o, e.0), e.1, r)

  ranked-reached : (os : List ℕ) (k : ℕ) → ((o : ℕ) → In o os → Present s o × Reaches o) → In k (ranks s.objects os)
      → IsReached k
  ranked-reached os k h i = let r = In-map_back (λ o. rank o s.objects) k os i in subst IsReached (sym r.1)
      (let a = h r.0 r.2 in object-reached r.0 a.0 a.1)

  children-by : (k : ℕ) (e : ℕ × Object) → slice_get s.objects k ≡ Some e
      → children_of (retained_parts s gone) k ≡ ranks s.objects (object_refs e.1)
  children-by k e h = row-at (λ (d : ℕ × Object). ranks s.objects (object_refs d.1)) s.objects k e h

  step-reached : (q p : ℕ) → IsReached q → Justifies (retained_parts s gone) q p → IsReached p
  step-reached q p (e, at, r) (Justifies.child i) =
      let x = Entry-at s.objects q e at in
      ranked-reached (object_refs e.1) p
      (λ o m. (
        Every-at (Present s) (object_refs e.1) o (w.objects e.0 e.1 x) m,
        Reached-step (λ k. In k (sources s gone)) (RefersTo s) e.0 o r (e.1, x, m),
      ))
      (subst (In p) (children-by q e at) i)
  step-reached q p h (Justifies.wakes j e i) = absurd i
  step-reached q p h (Justifies.refers j e i) = absurd i

  closes-reached : (k : ℕ) → Closes k → IsReached k
  closes-reached k h =
      Reached-least (λ q. In q (retained_parts s gone).roots) (Justifies (retained_parts s gone)) IsReached
      (λ q i. ranked-reached (sources s gone) q
      (λ o m. (source-present o m, Reached-root (λ j. In j (sources s gone)) (RefersTo s) o m)) i)
      (λ q p r j. step-reached q p r j) k h

  -- if it has a place, that is in the least closed set
  abbrev pub Shows : ℕ → Type 0
  Shows o = (x : Object) → Entry s.objects o x → Closes (rank o s.objects)

  step-shows : (p o : ℕ) → Shows p → RefersTo s p o → Shows o
  step-shows p o h (y, e, i) = λ x m.
      Reached-step (λ q. In q (retained_parts s gone).roots) (Justifies (retained_parts s gone)) (rank p s.objects)
      (rank o s.objects) (h y e)
      (Justifies.child (subst (In (rank o s.objects))
      (sym (children-by (rank p s.objects) (p, y) (at-rank 0 s.objects p y n.objects_rise e)))
      (In-map (λ k. rank k s.objects) o (object_refs y) i)))

  reached-closes : (o : ℕ) → Reaches o → Shows o
  reached-closes o h =
      Reached-least (λ q. In q (sources s gone)) (RefersTo s) Shows
      (λ q i. λ x m. Reached-root (λ p. In p (retained_parts s gone).roots) (Justifies (retained_parts s gone))
      (rank q s.objects) (In-map (λ k. rank k s.objects) q (sources s gone) i))
      (λ p q r j. step-shows p q r j) o h

  key-reached : (k o : ℕ) → IsObject s k o → IsReached k → Reaches o
  key-reached k o i r = subst Reaches (same-key r.0 (o, i.0) (sym r.1 ∙ i.1)) r.2

pub retained-graph : RetainedGraph
retained-graph s gone n w k o i = (
  λ h. key-reached s n w gone k o i (closes-reached s n w gone k h),
  λ r. subst (Least (retained_parts s gone)) (rank-at 0 s.objects k o i.0 n.objects_rise i.1)
      (reached-closes s n w gone o r i.0 (Entry-at s.objects k (o, i.0) i.1)),
)
