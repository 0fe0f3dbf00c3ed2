-- What is in the least closed set of the live graph is live.
-- For: `Least`, golf_model/specs/Graph.antt; `live_parts`, golf_snapshot/specs/Parts.antt.
-- By: induction over how a place gets into the least closed set: a root, or justified by one in it.
use Rattle.std.proofs.Common.{◌≡◌, ℕ, ◌+◌, true, false, ◌||◌, List, [], ◌∷◌, length, Option, Some, None, ◌⊎◌, inl, inr}
use Rattle.std.proofs.Common.{refl, sym, ap, subst, ◌∙◌, arith, slice_get, ◌==◌}
use Rattle.std.specs.Prelude.{option_map, unwrap_or}
use Rattle.std.proofs.lemmas.List.{length-map}
use Rattle.std.proofs.lemmas.Option.{slice_get-map, slice_get_within}
use Rattle.std.proofs.lemmas.Bool.{eqb-true}
use Rattle.golf_theory.specs.Membership.{In, Every}
use Rattle.golf_theory.specs.Maps.{Entry, keys, rank}
use Rattle.golf_theory.proofs.Lists.{In-right, Every-from, In-cases, In-map_back, In-slice_get, Every-at}
use Rattle.golf_theory.proofs.MapEntries.{Entry-keys}
use Rattle.golf_theory.proofs.Derivations.{Reached-root, Reached-step, Reached-least}
use Rattle.golf_data.specs.declared.value.Object.{Object}
use Rattle.golf_data.specs.declared.goroutine.Wait.{Wait}
use Rattle.golf_model.specs.Views.{GoroutineView}
use Rattle.golf_model.specs.Values.{value_refs, refs}
use Rattle.golf_model.specs.Waiters.{waits_of}
use Rattle.golf_model.specs.State.{State, is_running}
use Rattle.golf_model.specs.Refs.{object_refs, goroutine_refs, waited, wait_refs, frames_refs, queue_refs}
use Rattle.golf_model.specs.Refs.{has_finaliser}
use Rattle.golf_model.specs.LiveSet.{Node, LiveRoot, LiveStep, Live}
use Rattle.golf_model.specs.Graph.{Justifies, Least, children_of, sleeper_waits, sleeper_references, sleeper_place}
use Rattle.golf_model.specs.Presence.{Present, IsWhole}
use Rattle.golf_model.specs.Futures.{Numbered}
use Rattle.golf_model.specs.Sleepers.{Sleeper}
use Rattle.golf_model.proofs.Agreeing.{refs_where-sound}
use Rattle.golf_theory.proofs.Tests.{In-from}
use Rattle.golf_snapshot.specs.Parts.{ranks, is_awake, awake_refs, live_roots, sleeping, sleeper_of, live_parts}
use Rattle.golf_snapshot.proofs.Ranking.{Entry-at, at-rank, cases_at, row-at, no_row-at, same-key}
use Rattle.golf_snapshot.proofs.Roots.{awake-sound, sleeping-entry}

-- what a place stands for
pub data Stands (s : State) : ℕ → Node → Type 0 where
  AsObject : (k o : ℕ) (x : Object) → slice_get s.objects k ≡ Some (o, x) → Stands s k (Node.AnObject o)
  AsSleeper : (j g : ℕ) (r : GoroutineView) → slice_get (sleeping s) j ≡ Some (g, r)
      → Stands s (length s.objects + j) (Node.AGoroutine g)

waited-in : (ws : List Wait) (o : ℕ) → In o (waited ws) → In o (wait_refs ws)
waited-in [] o h = absurd h
waited-in (v ∷ vs) o (inl h) = inl h
waited-in (v ∷ vs) o (inr h) = inr (In-right o (value_refs v.value) (wait_refs vs) (waited-in vs o h))

module _ (s : State) (n : Numbered s) (w : IsWhole s) where
  pub rank-entry : (o : ℕ) → Present s o → (x : Object) × (slice_get s.objects (rank o s.objects) ≡ Some (o, x))
  rank-entry o p = let e = Entry-keys s.objects o p in (e.0, at-rank 0 s.objects o e.0 n.objects_rise e.1)

  -- the place stands for something live
  abbrev pub StandsLive : ℕ → Type 0
  StandsLive p = (x : Node) × Stands s p x × Live s x

  object-live : (o : ℕ) → Present s o → Live s (Node.AnObject o) → StandsLive (rank o s.objects)
  object-live o p l = let e = rank-entry o p in (Node.AnObject o, Stands.AsObject (rank o s.objects) o e.0 e.1, l)

  ranked-live : (os : List ℕ) (p : ℕ) → Every (Present s) os → ((o : ℕ) → In o os → Live s (Node.AnObject o))
      → In p (ranks s.objects os) → StandsLive p
  ranked-live os p there live h =
      let r = In-map_back (λ o. rank o s.objects) p os h in
      subst StandsLive (sym r.1) (object-live r.0 (Every-at (Present s) os r.0 there r.2) (live r.0 r.2))

  -- the awake ones are live
  awake-live : (g : ℕ) (r : GoroutineView) → Entry s.goroutines g r → is_awake g r ≡ true → Live s (Node.AGoroutine g)
  awake-live g r e a = elim (is_running r.mode) as (λ b. is_running r.mode ≡ b → (b || (g == 0)) ≡ true
      → Live s (Node.AGoroutine g)) [
        | true ↦ λ t u. Reached-root (LiveRoot s) (LiveStep s) (Node.AGoroutine g) (LiveRoot.Running g r e t)
        | false ↦ λ t u. subst (λ k. Live s (Node.AGoroutine k)) (sym (eqb-true g 0 u))
            (Reached-root (LiveRoot s) (LiveStep s) (Node.AGoroutine 0) LiveRoot.FinaliserGoroutine)
      ] refl a

  pub root-live : (o : ℕ) → In o (live_roots s) → Live s (Node.AnObject o) × Present s o
  root-live o h = elim (In-cases o (refs s.globals) _ h) [
    | inl i ↦ (
      Reached-root (LiveRoot s) (LiveStep s) (Node.AnObject o) (LiveRoot.Global o i),
      Every-at (Present s) _ o w.globals i,
    )
    | inr h2 ↦ elim (In-cases o (queue_refs s.queue) _ h2) [
      | inl i ↦ (
        Reached-root (LiveRoot s) (LiveStep s) (Node.AnObject o) (LiveRoot.InQueue o i),
        Every-at (Present s) _ o w.queue i,
      )
      | inr h3 ↦ elim (In-cases o (awake_refs s.goroutines) _ h3) [
        | inl i ↦ (
            let a = awake-sound s.goroutines o i in (
              Reached-step (LiveRoot s) (LiveStep s) (Node.AGoroutine a.0) (Node.AnObject o)
                  (awake-live a.0 a.1 a.2 a.3)
                  (LiveStep.InGoroutine a.0 o a.1 a.2 a.4),
              Every-at (Present s) _ o (w.goroutines a.0 a.1 a.2) a.4,
            )
            )
        | inr i ↦ (
            let a = refs_where-sound (has_finaliser s) s.objects o i in (
              Reached-root (LiveRoot s) (LiveStep s) (Node.AnObject o)
                  (LiveRoot.InFinalised o a.0 a.1 (In-from a.0 (keys s.finalisers) a.2) a.3 a.4),
              Every-at (Present s) _ o (w.objects a.0 a.1 a.3) a.4,
            )
            )
      ]
    ]
  ]

  -- the nodes are as many as the objects
  pub place-is : (j : ℕ) → sleeper_place (live_parts s) j ≡ length s.objects + j
  place-is j = ap (λ k. k + j) (length-map s.objects (λ (d : ℕ × Object). ranks s.objects (object_refs d.1)))

  -- what is waited on is referred to
  pub waited-refs : (r : GoroutineView) (o : ℕ) → In o (waited (waits_of r.mode)) → In o (goroutine_refs r)
  waited-refs r o i = In-right o (frames_refs r.frames) (wait_refs (waits_of r.mode)) (waited-in (waits_of r.mode) o i)

  pub children-at : (from o : ℕ) (x : Object) → slice_get s.objects from ≡ Some (o, x)
      → children_of (live_parts s) from ≡ ranks s.objects (object_refs x)
  children-at from o x e = row-at (λ (d : ℕ × Object). ranks s.objects (object_refs d.1)) s.objects from (o, x) e

  no_children-at : (from : ℕ) → slice_get s.objects from ≡ None → children_of (live_parts s) from ≡ []
  no_children-at from e = no_row-at (λ (d : ℕ × Object). ranks s.objects (object_refs d.1)) s.objects from e

  pub sleeper-at : (j g : ℕ) (r : GoroutineView) → slice_get (sleeping s) j ≡ Some (g, r)
      → slice_get (live_parts s).sleepers j ≡ Some (sleeper_of s.objects (g, r))
  sleeper-at j g r e = slice_get-map (sleeper_of s.objects) (sleeping s) j ∙ ap (option_map (sleeper_of s.objects)) e

  no_sleeper-at : (j : ℕ) → slice_get (sleeping s) j ≡ None → slice_get (live_parts s).sleepers j ≡ None
  no_sleeper-at j e = slice_get-map (sleeper_of s.objects) (sleeping s) j ∙ ap (option_map (sleeper_of s.objects)) e

  pub waits-at : (j g : ℕ) (r : GoroutineView) → slice_get (sleeping s) j ≡ Some (g, r)
      → sleeper_waits (live_parts s) j ≡ ranks s.objects (waited (waits_of r.mode))
  waits-at j g r e = ap (λ (m : Option Sleeper). unwrap_or (option_map (λ x. x.waits) m) []) (sleeper-at j g r e)

  pub references-at : (j g : ℕ) (r : GoroutineView) → slice_get (sleeping s) j ≡ Some (g, r)
      → sleeper_references (live_parts s) j ≡ ranks s.objects (goroutine_refs r)
  references-at j g r e = ap (λ (m : Option Sleeper). unwrap_or (option_map (λ x. x.references) m) [])
      (sleeper-at j g r e)

  no_waits-at : (j : ℕ) → slice_get (sleeping s) j ≡ None → sleeper_waits (live_parts s) j ≡ []
  no_waits-at j e = ap (λ (m : Option Sleeper). unwrap_or (option_map (λ x. x.waits) m) []) (no_sleeper-at j e)

  no_references-at : (j : ℕ) → slice_get (sleeping s) j ≡ None → sleeper_references (live_parts s) j ≡ []
  no_references-at j e = ap (λ (m : Option Sleeper). unwrap_or (option_map (λ x. x.references) m) [])
      (no_sleeper-at j e)

  -- a place that stands for an object, by its number
  node-live : (k o : ℕ) (x : Object) → slice_get s.objects k ≡ Some (o, x) → StandsLive k → Live s (Node.AnObject o)
  node-live _ o x e (_, Stands.AsObject k p y f, l) =
      subst (λ q. Live s (Node.AnObject q)) (same-key (p, y) (o, x) (sym f ∙ e)) l
  node-live _ o x e (_, Stands.AsSleeper j g r f, l) = let t =
      slice_get_within s.objects (length s.objects + j) (o, x) e in absurd (omega (arith, t))

  -- a place that stands for a sleeper
  place-live : (k j g : ℕ) (r : GoroutineView) → k ≡ length s.objects + j → slice_get (sleeping s) j ≡ Some (g, r)
      → StandsLive k → Live s (Node.AGoroutine g)
  place-live _ j g r p e (_, Stands.AsObject k o x f, l) = let t =
      slice_get_within s.objects k (o, x) f in absurd (omega (arith, t, p))
  place-live _ j g r p e (_, Stands.AsSleeper i h q f, l) =
      let same : i ≡ j = omega (arith, p) in
      subst (λ m. Live s (Node.AGoroutine m)) (same-key (h, q) (g, r) (sym f ∙ ap (slice_get (sleeping s)) same ∙ e)) l

  step-live : (q p : ℕ) → StandsLive q → Justifies (live_parts s) q p → StandsLive p
  step-live q p h (Justifies.child i) = by_child (cases_at s.objects q)
    where
      by_child : ((e : ℕ × Object) × (slice_get s.objects q ≡ Some e)) ⊎ (slice_get s.objects q ≡ None) → StandsLive p
      by_child (inl (e, t)) =
          let l = node-live q e.0 e.1 t h in
          let x = Entry-at s.objects q e t in
          ranked-live (object_refs e.1) p (w.objects e.0 e.1 x)
          (λ o m. Reached-step (LiveRoot s) (LiveStep s) (Node.AnObject e.0) (Node.AnObject o) l
          (LiveStep.InObject e.0 o e.1 x m))
          (subst (In p) (children-at q e.0 e.1 t) i)
      by_child (inr t) = absurd (subst (In p) (no_children-at q t) i)
  step-live q p h (Justifies.wakes j e i) = by_wait (cases_at (sleeping s) j)
    where
      by_wait : ((x : ℕ × GoroutineView) × (slice_get (sleeping s) j ≡ Some x)) ⊎ (slice_get (sleeping s) j ≡ None)
          → StandsLive p
      by_wait (inl ((g, r), t)) =
          let a = sleeping-entry s (g, r) (In-slice_get (sleeping s) j (g, r) t) in
          let b = In-map_back (λ o. rank o s.objects) q (waited (waits_of r.mode))
          (subst (In q) (waits-at j g r t) i) in
          let o = b.0 in
          let there = Every-at (Present s) (goroutine_refs r) o (w.goroutines g r a.0) (waited-refs r o b.2) in
          let x = rank-entry o there in
          let l = node-live q o x.0 (ap (slice_get s.objects) b.1 ∙ x.1) h in
          subst StandsLive (sym (e ∙ place-is j)) (
            Node.AGoroutine g,
            Stands.AsSleeper j g r t,
            Reached-step (LiveRoot s) (LiveStep s) (Node.AnObject o) (Node.AGoroutine g) l
                (LiveStep.Awakened o g r a.0 b.2),
          )
      by_wait (inr t) = absurd (subst (In q) (no_waits-at j t) i)
  step-live q p h (Justifies.refers j e i) = by_reference (cases_at (sleeping s) j)
    where
      by_reference : ((x : ℕ × GoroutineView) × (slice_get (sleeping s) j ≡ Some x)) ⊎ (slice_get (sleeping s) j ≡ None)
          → StandsLive p
      by_reference (inl ((g, r), t)) =
          let a = sleeping-entry s (g, r) (In-slice_get (sleeping s) j (g, r) t) in
          let l = place-live q j g r (e ∙ place-is j) t h in
          ranked-live (goroutine_refs r) p (w.goroutines g r a.0)
          (λ o m. Reached-step (LiveRoot s) (LiveStep s) (Node.AGoroutine g) (Node.AnObject o) l
          (LiveStep.InGoroutine g o r a.0 m))
          (subst (In p) (references-at j g r t) i)
      by_reference (inr t) = absurd (subst (In p) (no_references-at j t) i)

  -- each place of the least closed set stands for something live
  pub least-live : (p : ℕ) → Least (live_parts s) p → StandsLive p
  least-live p h =
      Reached-least (λ q. In q (live_parts s).roots) (Justifies (live_parts s)) StandsLive
      (λ q i. ranked-live (live_roots s) q (Every-from (Present s) (live_roots s) (λ o m. (root-live o m).1))
      (λ o m. (root-live o m).0) i)
      (λ q r l j. step-live q r l j) p h

  pub least-object : (k o : ℕ) (x : Object) → slice_get s.objects k ≡ Some (o, x) → Least (live_parts s) k
      → Live s (Node.AnObject o)
  least-object k o x e h = node-live k o x e (least-live k h)

  pub least-goroutine : (j g : ℕ) (r : GoroutineView) → slice_get (sleeping s) j ≡ Some (g, r)
      → Least (live_parts s) (length s.objects + j) → Live s (Node.AGoroutine g)
  least-goroutine j g r e h = place-live (length s.objects + j) j g r refl e (least-live (length s.objects + j) h)
