-- What is live is in the least closed set of the live graph.
-- For: `Live`, golf_model/specs/LiveSet.antt; the law `live_graph_law`, src/laws.rt.
-- By: induction over how a node comes to be live: a root, or made live by a live one.
use Rattle.std.proofs.Common.{◌≡◌, ℕ, ◌+◌, Bool, true, false, ◌||◌, List, length, Some, refl, sym, subst, ◌∙◌}
use Rattle.std.proofs.Common.{slice_get, ◌==◌}
use Rattle.golf_theory.specs.Membership.{In}
use Rattle.golf_theory.specs.Maps.{Entry, keys, rank}
use Rattle.golf_theory.proofs.Lists.{In-left, In-right, In-map, In-slice_get, Every-at}
use Rattle.golf_theory.proofs.MapEntries.{Entry-keys}
use Rattle.golf_theory.proofs.MapFinds.{Entry-one}
use Rattle.golf_theory.proofs.Derivations.{Reached-root, Reached-step, Reached-least}
use Rattle.golf_theory.proofs.Tests.{is_in-from}
use Rattle.golf_data.specs.declared.value.Object.{Object}
use Rattle.golf_model.specs.Views.{GoroutineView}
use Rattle.golf_model.specs.Values.{refs}
use Rattle.golf_model.specs.Waiters.{waits_of}
use Rattle.golf_model.specs.State.{State, is_running}
use Rattle.golf_model.specs.Refs.{object_refs, goroutine_refs, waited, queue_refs, has_finaliser}
use Rattle.golf_model.specs.LiveSet.{Node, LiveRoot, LiveStep, Live}
use Rattle.golf_model.specs.Graph.{Justifies, Least}
use Rattle.golf_model.specs.Presence.{Present, IsWhole}
use Rattle.golf_model.specs.Futures.{Numbered}
use Rattle.golf_model.proofs.Agreeing.{refs_where-complete}
use Rattle.golf_snapshot.specs.Parts.{ranks, is_awake, awake_refs, live_roots, sleeping, live_parts}
use Rattle.golf_snapshot.specs.Stands.{LivesAlike, LiveGraph}
use Rattle.golf_snapshot.proofs.Ranking.{Entry-at, at-rank, rank-at}
use Rattle.golf_snapshot.proofs.Roots.{awake-complete, asleep-place, sleeping-entry}
use Rattle.golf_snapshot.proofs.LiveSound.{children-at, waits-at, references-at, place-is, waited-refs, least-object}
use Rattle.golf_snapshot.proofs.LiveSound.{least-goroutine}

runs-awake : (b : Bool) (c : Bool) → b ≡ true → (b || c) ≡ true
runs-awake true c e = refl
runs-awake false c e = cc

zero-awake : (b : Bool) → (b || (0 == 0)) ≡ true
zero-awake true = refl
zero-awake false = refl

both-ways : (b : Bool) → b ≡ true → b ≡ false → ⊥
both-ways b t f = let e : true ≡ false = sym t ∙ f in cc

module _ (s : State) (n : Numbered s) (w : IsWhole s) where
  -- if it has a place, that is in the least closed set
  abbrev pub Shown : Node → Type 0
  Shown (Node.AnObject o) = (x : Object) → Entry s.objects o x → Least (live_parts s) (rank o s.objects)
  Shown (Node.AGoroutine g) = (j : ℕ) (r : GoroutineView) → slice_get (sleeping s) j ≡ Some (g, r)
      → Least (live_parts s) (length s.objects + j)

  from-root : (o : ℕ) → In o (live_roots s) → Least (live_parts s) (rank o s.objects)
  from-root o i = Reached-root (λ q. In q (live_parts s).roots) (Justifies (live_parts s)) (rank o s.objects)
      (In-map (λ k. rank k s.objects) o (live_roots s) i)

  sleeps : (j g : ℕ) (r : GoroutineView) → slice_get (sleeping s) j ≡ Some (g, r) → Entry s.goroutines g r
      × (is_awake g r ≡ false)
  sleeps j g r f = sleeping-entry s (g, r) (In-slice_get (sleeping s) j (g, r) f)

  shown-root : (x : Node) → LiveRoot s x → Shown x
  shown-root _ (LiveRoot.Global o i) = λ x e. from-root o (In-left o (refs s.globals) _ i)
  shown-root _ (LiveRoot.InQueue o i) = λ x e. from-root o
      (In-right o (refs s.globals) _ (In-left o (queue_refs s.queue) _ i))
  shown-root _ (LiveRoot.InFinalised o p y f e i) = λ x h.
      from-root o (In-right o (refs s.globals) _
      (In-right o (queue_refs s.queue) _ (In-right o (awake_refs s.goroutines) _
      (refs_where-complete (has_finaliser s) s.objects o p y (is_in-from p (keys s.finalisers) f) e i))))
  shown-root _ (LiveRoot.Running g r e t) = λ j q f.
      let a = sleeps j g q f in
      let same = Entry-one s.goroutines g r q n.goroutines_rise e a.0 in
      absurd (both-ways (is_awake g q) (subst (λ (m : GoroutineView). is_awake g m ≡ true) same
      (runs-awake (is_running r.mode) (g == 0) t)) a.1)
  shown-root _ LiveRoot.FinaliserGoroutine =
      λ j q f. absurd (both-ways (is_awake 0 q) (zero-awake (is_running q.mode)) (sleeps j 0 q f).1)

  justified : (q p : ℕ) → Least (live_parts s) q → Justifies (live_parts s) q p → Least (live_parts s) p
  justified q p l h = Reached-step (λ k. In k (live_parts s).roots) (Justifies (live_parts s)) q p l h

  ranked : (o : ℕ) (os : List ℕ) → In o os → In (rank o s.objects) (ranks s.objects os)
  ranked o os i = In-map (λ k. rank k s.objects) o os i

  by-reference : (g o : ℕ) (r : GoroutineView) (b : Bool) → is_awake g r ≡ b → Entry s.goroutines g r
      → In o (goroutine_refs r) → Shown (Node.AGoroutine g) → Least (live_parts s) (rank o s.objects)
  by-reference g o r true a e i h = from-root o
      (In-right o (refs s.globals) _ (In-right o (queue_refs s.queue) _
      (In-left o (awake_refs s.goroutines) _ (awake-complete s.goroutines o g r e a i))))
  by-reference g o r false a e i h =
      let t = asleep-place s g r e a in
      justified (length s.objects + t.0) (rank o s.objects) (h t.0 r t.1)
      (Justifies.refers t.0 (sym (place-is s n w t.0))
      (subst (In (rank o s.objects)) (sym (references-at s n w t.0 g r t.1)) (ranked o (goroutine_refs r) i)))

  shown-step : (q x : Node) → Shown q → LiveStep s q x → Shown x
  shown-step _ _ h (LiveStep.InObject p o y e i) = λ x m.
      justified (rank p s.objects) (rank o s.objects) (h y e)
      (Justifies.child (subst (In (rank o s.objects))
      (sym (children-at s n w (rank p s.objects) p y (at-rank 0 s.objects p y n.objects_rise e)))
      (ranked o (object_refs y) i)))
  shown-step _ _ h (LiveStep.InGoroutine g o r e i) = λ x m. by-reference g o r (is_awake g r) refl e i h
  shown-step _ _ h (LiveStep.Awakened o g r e i) = λ j q f.
      let a = sleeps j g q f in
      let same = Entry-one s.goroutines g r q n.goroutines_rise e a.0 in
      let there = Entry-keys s.objects o (Every-at (Present s) (goroutine_refs r) o (w.goroutines g r e)
      (waited-refs s n w r o i)) in
      let v = subst (λ (m : GoroutineView). In o (waited (waits_of m.mode))) same i in
      justified (rank o s.objects) (length s.objects + j) (h there.0 there.1)
      (Justifies.wakes j (sym (place-is s n w j))
      (subst (In (rank o s.objects)) (sym (waits-at s n w j g q f)) (ranked o (waited (waits_of q.mode)) v)))

  live-shown : (x : Node) → Live s x → Shown x
  live-shown x l = Reached-least (LiveRoot s) (LiveStep s) Shown shown-root shown-step x l

  lives-alike : LivesAlike (live_parts s) s
  lives-alike = record {
    objects = λ k o i. (
      λ h. least-object s n w k o i.0 i.1 h,
      λ l. subst (Least (live_parts s)) (rank-at 0 s.objects k o i.0 n.objects_rise i.1)
          (live-shown (Node.AnObject o) l i.0 (Entry-at s.objects k (o, i.0) i.1)),
    );
    goroutines = λ j g i. (λ h. least-goroutine s n w j g i.0 i.1 h, λ l. live-shown (Node.AGoroutine g) l j i.0 i.1);
  }

pub live-graph : LiveGraph
live-graph s n w = lives-alike s n w
