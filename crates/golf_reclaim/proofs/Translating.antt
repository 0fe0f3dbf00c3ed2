-- What the marked places of a state's graphs say of the state.
-- For: `find_dead` and `find_retained`, src/markings.rt
-- By: induction over the list of blocked goroutines; else the laws of the marked places
use Rattle.std.proofs.Common.{◌≡◌, ℕ, ◌<◌, Bool, true, false, not, ◌||◌, ◌&&◌, ◌==◌, List, [], ◌∷◌, length, map, filter}
use Rattle.std.proofs.Common.{get_or, Some, refl, ◌∙◌, slice_get, inl, inr}
use Rattle.std.proofs.lemmas.Bool.{eqb-true, cases_Bool}
use Rattle.std.proofs.lemmas.List.{length-map}
use Rattle.std.proofs.lemmas.Option.{slice_get_within}
use Rattle.golf_theory.specs.Membership.{is_in}
use Rattle.golf_theory.proofs.Derivations.{Reached-root}
use Rattle.golf_theory.proofs.Tests.{same_test, is_in-from, In-from, is_in-append}
use Rattle.golf_base.specs.declared.ids.GoroutineId.{GoroutineId}
use Rattle.golf_data.specs.declared.value.Object.{Object}
use Rattle.golf_model.specs.Collections.{retained}
use Rattle.golf_model.specs.Futures.{Numbered}
use Rattle.golf_model.specs.LiveSet.{Node, LiveRoot, LiveStep, has_object, has_goroutine, live_list, live_objects}
use Rattle.golf_model.specs.LiveSet.{is_dead, dead}
use Rattle.golf_model.specs.Views.{GoroutineView}
use Rattle.golf_model.specs.Presence.{IsWhole}
use Rattle.golf_model.specs.Reach.{reach, sources}
use Rattle.golf_model.specs.Refs.{has_finaliser}
use Rattle.golf_model.specs.Reports.{numbers, retained_objects}
use Rattle.golf_model.specs.State.{State, is_running}
use Rattle.golf_model.specs.declared.graph.Marked.{Marked}
use Rattle.golf_model.specs.Sleepers.{Sleeper}
use Rattle.golf_model.proofs.Agreeing.{live_list-sound, live_list-complete, has_object-sound, has_object-complete}
use Rattle.golf_model.proofs.Agreeing.{has_goroutine-sound, has_goroutine-complete, reach-sound, reach-complete}
use Rattle.golf_snapshot.specs.Parts.{row_of, is_awake, sleeping, sleeper_of, live_parts, retained_parts}
use Rattle.golf_snapshot.proofs.LiveComplete.{live-graph}
use Rattle.golf_snapshot.proofs.LiveSound.{place-is}
use Rattle.golf_snapshot.proofs.RetainedLaw.{retained-graph}
use Rattle.golf_mark.specs.MarkingResult.{MarksLeast}
use Rattle.golf_theory.specs.Flags.{left_out}
use Rattle.golf_theory.proofs.Flagged.{left_out-filter}
use Rattle.golf_reclaim.specs.Flags.{count_set, either}
use Rattle.golf_reclaim.proofs.Flags.{flags-are, counted, either-map, filter-both, keys_where-filter}

-- ---- what the flags are

module _ (s : State) (n : Numbered s) (w : IsWhole s) where
  below-count : (k : ℕ) (e : ℕ × Object) → slice_get s.objects k ≡ Some e
      → k < length (map (row_of s.objects) s.objects)
  below-count k e at = rw (length-map s.objects (row_of s.objects)) (slice_get_within s.objects k e at)

  pub live-flags : (m : Marked) → MarksLeast (live_parts s) m
      → m.flags ≡ map (λ e. has_object (live_list s) e.0) s.objects
  live-flags m h = flags-are (λ (e : ℕ × Object). has_object (live_list s) e.0) s.objects m.flags
      (h.flag_count ∙ length-map s.objects (row_of s.objects)) (λ k e at.
      let a = (live-graph s n w).objects k e.0 (e.1, at) in
      same_test (get_or m.flags k false) (has_object (live_list s) e.0)
      (λ t. has_object-complete (live_list s) e.0 (live_list-complete s (Node.AnObject e.0) (a.0 ((h.flags k).0 t).1)))
      (λ t. (h.flags k).1 (
        below-count k e at,
        a.1 (live_list-sound s (Node.AnObject e.0) (has_object-sound (live_list s) e.0 t)),
      )))

  pub awake-flags : (m : Marked) → MarksLeast (live_parts s) m
      → m.awake ≡ map (λ e. has_goroutine (live_list s) e.0) (sleeping s)
  awake-flags m h =
      let count = length-map (sleeping s) (sleeper_of s.objects) in
      flags-are (λ (e : ℕ × GoroutineView). has_goroutine (live_list s) e.0) (sleeping s) m.awake
      (h.awake_count ∙ count) (λ k e at.
      let a = (live-graph s n w).goroutines k e.0 (e.1, at) in
      let i = h.awake k (rw count (slice_get_within (sleeping s) k e at)) in
      let place = place-is s n w k in
      same_test (get_or m.awake k false) (has_goroutine (live_list s) e.0)
      (λ t. has_goroutine-complete (live_list s) e.0
      (live_list-complete s (Node.AGoroutine e.0) (a.0 (rw place at (i.0 t)))))
      (λ t. i.1 (rw place (a.1 (live_list-sound s (Node.AGoroutine e.0) (has_goroutine-sound (live_list s) e.0 t))))))

  pub retained-flags : (gone : List ℕ) (m : Marked) → MarksLeast (retained_parts s gone) m
      → m.flags ≡ map (λ e. is_in e.0 (reach s (sources s gone))) s.objects
  retained-flags gone m h = flags-are (λ (e : ℕ × Object). is_in e.0 (reach s (sources s gone))) s.objects m.flags
      (h.flag_count ∙ length-map s.objects (row_of s.objects)) (λ k e at.
      let a = retained-graph s gone n w k e.0 (e.1, at) in
      same_test (get_or m.flags k false) (is_in e.0 (reach s (sources s gone)))
      (λ t. is_in-from e.0 (reach s (sources s gone)) (reach-complete s (sources s gone) e.0 (a.0 ((h.flags k).0 t).1)))
      (λ t. (h.flags k).1 (
        below-count k e at,
        a.1 (reach-sound s (sources s gone) e.0 (In-from e.0 (reach s (sources s gone)) t)),
      )))

  -- ---- what they count and leave

  pub live-count : (m : Marked) → MarksLeast (live_parts s) m → count_set m.flags ≡ length (live_objects s)
  live-count m h = rw (live-flags m h) (counted (has_object (live_list s)) s.objects)

  -- the flags of what is left
  pub left-flags : (gone : List ℕ) (m : Marked) → MarksLeast (retained_parts s gone) m
      → either m.flags (map (λ e. has_finaliser s e.0) s.objects) ≡ map (λ e. is_in e.0 (retained s gone)) s.objects
  left-flags gone m h = rw (
    retained-flags gone m h,
    either-map (λ (e : ℕ × Object). is_in e.0
        (reach s (sources s gone))) (λ (e : ℕ × Object). has_finaliser s e.0) s.objects,
  ) (simp is_in-append)

  pub left-count : (gone : List ℕ) (keep : List Bool) → keep ≡ map (λ e. is_in e.0 (retained s gone)) s.objects
      → count_set keep ≡ length (retained_objects s gone)
  left-count gone keep e = rw e (counted (λ o. is_in o (retained s gone)) s.objects)

-- goroutine 0 is live
zero-live : (s : State) → has_goroutine (live_list s) 0 ≡ true
zero-live s = has_goroutine-complete (live_list s) 0
    (live_list-complete s (Node.AGoroutine 0)
    (Reached-root (LiveRoot s) (LiveStep s) (Node.AGoroutine 0) LiveRoot.FinaliserGoroutine))

-- asleep and not awakened is blocked and outside the live set
dead_test : (live : List Node) (g : ℕ) (running : Bool) → has_goroutine live 0 ≡ true
    → (not (running || (g == 0)) && not (has_goroutine live g)) ≡ (not running && not (has_goroutine live g))
dead_test live g true z = refl
dead_test live g false z = elim (cases_Bool (g == 0)) [ inl t ↦ rw (t, eqb-true g 0 t, z) | inr f ↦ rw f ]

pub dead-asleep : (s : State) → map (λ e. e.0) (filter (λ e. not (has_goroutine (live_list s) e.0)) (sleeping s))
    ≡ dead s
dead-asleep s =
    let live = live_list s in
    let alike : (e : ℕ × GoroutineView) → (not (is_awake e.0 e.1) && not (has_goroutine live e.0))
    ≡ is_dead live e.0 e.1 = λ e. dead_test live e.0 (is_running e.1.mode) (zero-live s) in
    rw (filter-both (λ (e : ℕ × GoroutineView). not (has_goroutine live e.0))
    (λ (e : ℕ × GoroutineView). not (is_awake e.0 e.1)) s.goroutines)
    (simp alike (keys_where-filter (is_dead live) s.goroutines))

-- the goroutine of a sleeper
abbrev pub goroutine_of : ℕ × GoroutineView → GoroutineId
goroutine_of e = record { 0 = e.0 }

pub sleepers-goroutines : (objects : List (ℕ × Object)) (es : List (ℕ × GoroutineView))
    → map (λ (x : Sleeper). x.goroutine) (map (sleeper_of objects) es) ≡ map goroutine_of es
sleepers-goroutines objects [] = refl
sleepers-goroutines objects (e ∷ es) = rw (sleepers-goroutines objects es)

pub numbers-goroutines : (es : List (ℕ × GoroutineView)) → numbers (map goroutine_of es) ≡ map (λ e. e.0) es
numbers-goroutines [] = refl
numbers-goroutines (e ∷ es) = rw (numbers-goroutines es)

pub dead-flags : (s : State) (n : Numbered s) (w : IsWhole s) (m : Marked) → MarksLeast (live_parts s) m
    → numbers (left_out m.awake (map (λ x. x.goroutine) (live_parts s).sleepers)) ≡ dead s
dead-flags s n w m h =
    let has : ℕ × GoroutineView → Bool = λ e. has_goroutine (live_list s) e.0 in
    rw (
      awake-flags s n w m h,
      sleepers-goroutines s.objects (sleeping s),
      left_out-filter has goroutine_of (sleeping s),
      numbers-goroutines (filter (λ (e : ℕ × GoroutineView). not (has_goroutine (live_list s) e.0)) (sleeping s)),
    )
    (dead-asleep s)
