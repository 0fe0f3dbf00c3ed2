-- Who is removed: the sleepers that are neither awake nor kept.
-- For: `find_dead`, src/markings.rt; `IsUnkept`, specs/Flags.antt
-- By: cases of the goroutines that are blocked; no induction
use Rattle.std.proofs.Common.{◌≡◌, ℕ, Bool, true, false, not, ◌||◌, ◌&&◌, List, map, filter, get_or, Some, refl}
use Rattle.std.proofs.Common.{◌∙◌, slice_get, ◌==◌}
use Rattle.std.proofs.lemmas.Bool.{and_parts, and_from, not-true, not_from_false, both_ways, false_from_ne_true}
use Rattle.std.proofs.lemmas.List.{length-map}
use Rattle.golf_theory.proofs.Lists.{In-slice_get}
use Rattle.golf_theory.proofs.Tests.{same_test}
use Rattle.golf_base.specs.declared.ids.GoroutineId.{GoroutineId}
use Rattle.golf_model.specs.Views.{GoroutineView}
use Rattle.golf_model.specs.State.{State, is_running}
use Rattle.golf_model.specs.LiveSet.{Node, Live, has_goroutine, live_list, Dead}
use Rattle.golf_model.specs.Collections.{keeps, unkept, removed}
use Rattle.golf_model.specs.Futures.{Numbered}
use Rattle.golf_model.specs.Presence.{IsWhole}
use Rattle.golf_model.specs.Reports.{numbers}
use Rattle.golf_model.specs.declared.graph.Marked.{Marked}
use Rattle.golf_model.proofs.Agreeing.{live_list-sound, live_list-complete, has_goroutine-sound, has_goroutine-complete}
use Rattle.golf_model.proofs.Agreeing.{keeps-sound, keeps-complete}
use Rattle.golf_theory.specs.Flags.{left_out}
use Rattle.golf_theory.proofs.Flagged.{left_out-filter}
use Rattle.golf_snapshot.specs.Parts.{sleeping, sleeper_of, live_parts}
use Rattle.golf_snapshot.proofs.Roots.{sleeping-entry}
use Rattle.golf_mark.specs.MarkingResult.{MarksLeast}
use Rattle.golf_final.specs.KeepRule.{HasKept}
use Rattle.golf_final.proofs.KeepLaw.{keeps-alike}
use Rattle.golf_reclaim.specs.Flags.{either, IsUnkept}
use Rattle.golf_reclaim.proofs.Flags.{flags-are, either-map, filter-both, map-filter-swap}
use Rattle.golf_reclaim.proofs.Translating.{awake-flags, dead-asleep, goroutine_of, sleepers-goroutines}
use Rattle.golf_reclaim.proofs.Translating.{numbers-goroutines}

running-not : (running z : Bool) → (running || z) ≡ false → running ≡ false
running-not true z e = cc
running-not false z e = refl

neither : (a k : Bool) → not (a || (not a && k)) ≡ (not a && not k)
neither true k = refl
neither false k = refl

module _ (s : State) (n : Numbered s) (w : IsWhole s) (sets : Bool) (m : Marked)
    (marks : MarksLeast (live_parts s) m) where
  not-live : (g : ℕ) → (Live s (Node.AGoroutine g) → ⊥) → not (has_goroutine (live_list s) g) ≡ true
  not-live g h = not_from_false (has_goroutine (live_list s) g)
      (false_from_ne_true (has_goroutine (live_list s) g)
      (λ t. h (live_list-sound s (Node.AGoroutine g) (has_goroutine-sound (live_list s) g t))))

  is-dead : (k : ℕ) (e : ℕ × GoroutineView) → slice_get (sleeping s) k ≡ Some e
      → not (has_goroutine (live_list s) e.0) ≡ true → Dead s e.0
  is-dead k e at t =
      let i = sleeping-entry s e (In-slice_get (sleeping s) k e at) in (
        e.1,
        i.0,
        running-not (is_running e.1.mode) (e.0 == 0) i.1,
        λ l. both_ways (has_goroutine (live_list s) e.0) (not-true (has_goroutine (live_list s) e.0) t)
            (has_goroutine-complete (live_list s) e.0 (live_list-complete s (Node.AGoroutine e.0) l)),
      )

  module _ (flags : List Bool) (has : HasKept (live_parts s) m sets flags) where
    kept-are : flags ≡ map (λ e. not (has_goroutine (live_list s) e.0) && keeps s sets e.0) (sleeping s)
    kept-are = flags-are (λ (e : ℕ × GoroutineView). not (has_goroutine (live_list s) e.0) && keeps s sets e.0)
        (sleeping s) flags (has.count ∙ length-map (sleeping s) (sleeper_of s.objects)) (λ k e at.
        let a = keeps-alike s m sets flags n w marks has k e.0 (e.1, at) in
        same_test (get_or flags k false) (not (has_goroutine (live_list s) e.0) && keeps s sets e.0)
        (λ t. let d = a.0 t in and_from (not (has_goroutine (live_list s) e.0)) (keeps s sets e.0) (not-live e.0 d.0.3)
        (keeps-complete s sets e.0 d.1))
        (λ t. let p = and_parts (not (has_goroutine (live_list s) e.0)) (keeps s sets e.0) t in a.1
        (is-dead k e at p.0, keeps-sound s sets e.0 p.1)))

    gone-are : numbers (left_out (either m.awake flags) (map (λ x. x.goroutine) (live_parts s).sleepers))
        ≡ unkept s sets
    gone-are =
        let live : ℕ × GoroutineView → Bool = λ e. has_goroutine (live_list s) e.0 in
        let kept : ℕ × GoroutineView → Bool = λ e. not (has_goroutine (live_list s) e.0) && keeps s sets e.0 in
        rw (
          awake-flags s n w m marks,
          kept-are,
          either-map live kept (sleeping s),
          sleepers-goroutines s.objects (sleeping s),
          left_out-filter (λ e. live e || kept e) goroutine_of (sleeping s),
          numbers-goroutines (filter (λ (e : ℕ × GoroutineView). not (live e || kept e)) (sleeping s)),
          ← (dead-asleep s),
          map-filter-swap (λ (e : ℕ × GoroutineView). e.0) (λ g. not (keeps s sets g))
              (filter (λ (e : ℕ × GoroutineView). not (live e)) (sleeping s)),
          filter-both (λ (e : ℕ × GoroutineView). not (keeps s sets e.0)) (λ (e : ℕ × GoroutineView). not (live e))
              (sleeping s),
        ) (simp neither)

  pub removed-are : (recover : Bool) (gone : List GoroutineId) → IsUnkept recover sets (live_parts s) m gone
      → numbers gone ≡ removed s recover sets
  removed-are true gone h = rw h.2 (gone-are h.0 h.1)
  removed-are false gone h = rw h
