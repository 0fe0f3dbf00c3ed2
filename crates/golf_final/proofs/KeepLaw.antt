-- On the graph of a state, what is kept is what the definitions keep.
-- For: `keeps_law`, src/laws.rt; `KeepsAlike`, specs/KeepRule.antt
-- By: induction over the steps that lead to an object
use Rattle.std.proofs.Common.{◌≡◌, ℕ, ◌+◌, ◌<◌, Bool, true, false, ◌||◌, List, [], length, get_or, Option, Some, ◌==◌}
use Rattle.std.proofs.Common.{◌⊎◌, inl, inr, refl, sym, ap, subst, ◌∙◌, slice_get}
use Rattle.std.specs.Prelude.{◌↔◌, option_map, unwrap_or}
use Rattle.std.proofs.lemmas.List.{length-map}
use Rattle.std.proofs.lemmas.Option.{slice_get-map, slice_get_within, get_or_from_slice_get}
use Rattle.golf_theory.specs.Membership.{In}
use Rattle.golf_theory.specs.Maps.{Entry, find, keys, rank}
use Rattle.golf_theory.proofs.Lists.{In-map, In-map_back, In-slice_get, Every-at}
use Rattle.golf_theory.proofs.Tests.{is_in-from, In-from}
use Rattle.golf_theory.proofs.MapFinds.{find-Entry}
use Rattle.golf_theory.proofs.Derivations.{Reached-root, Reached-step, Reached-least}
use Rattle.golf_data.specs.declared.value.Object.{Object}
use Rattle.golf_model.specs.Views.{GoroutineView}
use Rattle.golf_model.specs.State.{State, is_running}
use Rattle.golf_model.specs.Refs.{object_refs, goroutine_refs, refs_of_goroutine, has_finaliser}
use Rattle.golf_model.specs.Reach.{RefersTo, Reach}
use Rattle.golf_model.specs.LiveSet.{Node, Live, Dead}
use Rattle.golf_model.specs.Collections.{Keeps}
use Rattle.golf_model.specs.Graph.{children_of, sleeper_references, sleeper_count, node_count, Least}
use Rattle.golf_model.specs.Presence.{Present, IsWhole}
use Rattle.golf_model.specs.Futures.{Numbered}
use Rattle.golf_model.specs.declared.graph.Marked.{Marked}
use Rattle.golf_model.specs.Sleepers.{Sleeper}
use Rattle.golf_marks.specs.Flags.{IsSet}
use Rattle.golf_mark.specs.MarkingResult.{MarksLeast}
use Rattle.golf_snapshot.specs.Parts.{ranks, row_of, sleeping, sleeper_of, live_parts}
use Rattle.golf_snapshot.proofs.Ranking.{Entry-at, at-rank, row-at}
use Rattle.golf_snapshot.proofs.Roots.{sleeping-entry}
use Rattle.golf_snapshot.proofs.LiveSound.{rank-entry}
use Rattle.golf_snapshot.proofs.LiveComplete.{live-graph}
use Rattle.golf_final.specs.KeepRule.{HasChild, IsReachedFrom, Prevents, IsKept, KeepsAlike}

-- what some objects that are there reach, and what their nodes come to
module _ (s : State) (n : Numbered s) (w : IsWhole s) (starts : List ℕ)
    (there : (o : ℕ) → In o starts → Present s o) where
  reached-present : (o : ℕ) → Reach s starts o → Present s o
  reached-present o r = Reached-least (λ q. In q starts) (RefersTo s) (Present s) there
      (λ p q d l. Every-at (Present s) (object_refs l.0) q (w.objects p l.0 l.1) l.2) o r

  -- the place is that of an object that is reached
  abbrev pub IsReached : ℕ → Type 0
  IsReached k = (e : ℕ × Object) × (slice_get s.objects k ≡ Some e) × Reach s starts e.0

  ranked-reached : (os : List ℕ) (k : ℕ) → ((o : ℕ) → In o os → Present s o × Reach s starts o)
      → In k (ranks s.objects os) → IsReached k
  ranked-reached os k h i =
      let r = In-map_back (λ o. rank o s.objects) k os i in
      let a = h r.0 r.2 in
      let e = rank-entry s n w r.0 a.0 in
      subst IsReached (sym r.1) ((r.0, e.0), e.1, a.1)

  children-by : (k : ℕ) (e : ℕ × Object) → slice_get s.objects k ≡ Some e
      → children_of (live_parts s) k ≡ ranks s.objects (object_refs e.1)
  children-by k e h = row-at (λ (d : ℕ × Object). ranks s.objects (object_refs d.1)) s.objects k e h

  pub comes-reached : (k : ℕ) → IsReachedFrom (live_parts s) (ranks s.objects starts) k → IsReached k
  comes-reached k h = Reached-least (λ q. In q (ranks s.objects starts)) (HasChild (live_parts s)) IsReached
      (λ q i. ranked-reached starts q (λ o m. (there o m, Reached-root (λ j. In j starts) (RefersTo s) o m)) i)
      (λ q p r i.
      let x = Entry-at s.objects q r.0 r.1 in
      ranked-reached (object_refs r.0.1) p
      (λ o m. (
        Every-at (Present s) (object_refs r.0.1) o (w.objects r.0.0 r.0.1 x) m,
        Reached-step (λ j. In j starts) (RefersTo s) r.0.0 o r.2 (r.0.1, x, m),
      ))
      (subst (In p) (children-by q r.0 r.1) i)) k h

  pub reached-comes : (o : ℕ) → Reach s starts o
      → IsReachedFrom (live_parts s) (ranks s.objects starts) (rank o s.objects)
  reached-comes o r = Reached-least (λ q. In q starts) (RefersTo s)
      (λ q. IsReachedFrom (live_parts s) (ranks s.objects starts) (rank q s.objects))
      (λ q i. Reached-root (λ p. In p (ranks s.objects starts)) (HasChild (live_parts s)) (rank q s.objects)
      (In-map (λ j. rank j s.objects) q starts i))
      (λ p q d l. Reached-step (λ j. In j (ranks s.objects starts)) (HasChild (live_parts s)) (rank p s.objects)
      (rank q s.objects) d
      (subst (In (rank q s.objects)) (sym (children-by (rank p s.objects) (p, l.0)
      (at-rank 0 s.objects p l.0 n.objects_rise l.1))) (In-map (λ j. rank j s.objects) q (object_refs l.0) l.2))) o
      r

-- the flags of a node
module _ (s : State) (n : Numbered s) (w : IsWhole s) (m : Marked) (marks : MarksLeast (live_parts s) m) (k : ℕ)
    (e : ℕ × Object) (at : slice_get s.objects k ≡ Some e) where
  below : k < node_count (live_parts s)
  below = subst (λ (c : ℕ). k < c) (sym (length-map s.objects (row_of s.objects))) (slice_get_within s.objects k e at)

  flag-live : IsSet m.flags k ↔ Live s (Node.AnObject e.0)
  flag-live =
      let a = (live-graph s n w).objects k e.0 (e.1, at) in
      (λ t. a.0 ((marks.flags k).0 t).1, λ l. (marks.flags k).1 (below, a.1 l))

  finaliser-flag : get_or (live_parts s).finalised k false ≡ has_finaliser s e.0
  finaliser-flag = get_or_from_slice_get (live_parts s).finalised k (has_finaliser s e.0) false
      (slice_get-map (λ (d : ℕ × Object). has_finaliser s d.0) s.objects k
      ∙ ap (option_map (λ (d : ℕ × Object). has_finaliser s d.0)) at)

  pub prevents-alike : (sets : Bool) → Prevents (live_parts s) m.flags sets k
      ↔ (In e.0 (keys s.finalisers) ⊎ ((sets ≡ true) × Live s (Node.AnObject e.0)))
  prevents-alike sets = (
    λ p. elim p [
      | inl f ↦ inl (In-from e.0 (keys s.finalisers) (sym finaliser-flag ∙ f))
      | inr l ↦ inr (l.0, flag-live.0 l.1)
    ],
    λ p. elim p [
      | inl f ↦ inl (finaliser-flag ∙ is_in-from e.0 (keys s.finalisers) f)
      | inr l ↦ inr (l.0, flag-live.1 l.1)
    ],
  )

not-running : (running : Bool) (z : Bool) → (running || z) ≡ false → running ≡ false
not-running true z e = cc
not-running false z e = refl

-- the flags of a sleeper
module _ (s : State) (n : Numbered s) (w : IsWhole s) (m : Marked) (marks : MarksLeast (live_parts s) m) (j g : ℕ)
    (r : GoroutineView) (at : slice_get (sleeping s) j ≡ Some (g, r)) where
  sleeps : Entry s.goroutines g r × (is_running r.mode ≡ false)
  sleeps = let e = sleeping-entry s (g, r)
      (In-slice_get (sleeping s) j (g, r) at) in (e.0, not-running (is_running r.mode) (g == 0) e.1)

  few : j < sleeper_count (live_parts s)
  few = subst (λ (c : ℕ). j < c) (sym (length-map (sleeping s) (sleeper_of s.objects)))
      (slice_get_within (sleeping s) j (g, r) at)

  awake-live : IsSet m.awake j ↔ Live s (Node.AGoroutine g)
  awake-live =
      let a = (live-graph s n w).goroutines j g (r, at) in
      let i = marks.awake j few in
      let place : node_count (live_parts s) + j ≡ length s.objects + j =
      ap (λ (c : ℕ). c + j) (length-map s.objects (row_of s.objects)) in (
        λ t. a.0 (subst (Least (live_parts s)) place (i.0 t)),
        λ l. i.1 (subst (Least (live_parts s)) (sym place) (a.1 l)),
      )

  refs-are : sleeper_references (live_parts s) j ≡ ranks s.objects (goroutine_refs r)
  refs-are = ap (λ (o : Option Sleeper). unwrap_or (option_map (λ (x : Sleeper). x.references) o) [])
      (slice_get-map (sleeper_of s.objects) (sleeping s) j ∙ ap (option_map (sleeper_of s.objects)) at)

  found : refs_of_goroutine (find g s.goroutines) ≡ goroutine_refs r
  found = ap refs_of_goroutine (find-Entry s.goroutines g r n.goroutines_rise sleeps.0)

  present : (o : ℕ) → In o (goroutine_refs r) → Present s o
  present o i = Every-at (Present s) (goroutine_refs r) o (w.goroutines g r sleeps.0) i

  pub kept-alike : (sets : Bool) → IsKept (live_parts s) m sets j ↔ (Dead s g × Keeps s sets g)
  kept-alike sets = (
    λ t.
        let p = t.1.0 in
        let c = comes-reached s n w (goroutine_refs r) present p
        (subst (λ (l : List ℕ). IsReachedFrom (live_parts s) l p) refs-are t.1.1) in
        let reach = subst (λ (l : List ℕ). Reach s l c.0.0) (sym found) c.2 in (
          (r, sleeps.0, sleeps.1, λ l. t.0 (awake-live.1 l)),
          (c.0.0, reach, (prevents-alike s n w m marks p c.0 c.1 sets).0 t.1.2),
        ),
    λ t.
        let o = t.1.0 in
        let reach = subst (λ (l : List ℕ). Reach s l o) found t.1.1 in
        let e = rank-entry s n w o (reached-present s n w (goroutine_refs r) present o reach) in (
          λ a. t.0.3 (awake-live.0 a),
          (
            rank o s.objects,
            subst (λ (l : List ℕ). IsReachedFrom (live_parts s) l (rank o s.objects)) (sym refs-are)
                (reached-comes s n w (goroutine_refs r) present o reach),
            (prevents-alike s n w m marks (rank o s.objects) (o, e.0) e.1 sets).1 t.1.2,
          ),
        ),
  )

pub keeps-alike : KeepsAlike
keeps-alike s m sets flags n w marks has j g i =
    let few = subst (λ (c : ℕ). j < c) (sym (length-map (sleeping s) (sleeper_of s.objects)))
    (slice_get_within (sleeping s) j (g, i.0) i.1) in
    let a = has.kept j few in
    let b = kept-alike s n w m marks j g i.0 i.1 sets in
    (λ t. b.0 (a.0 t), λ t. a.1 (b.1 t))
