-- The sleepers of which something is told are the live ones.
-- For: `live_are_told`, src/laws.rt
-- By: cases of the mode of a goroutine; induction over the list of goroutines
use Rattle.std.proofs.Common.{◌≡◌, ℕ, zero, suc, ◌+◌, Bool, true, not, ◌||◌, ◌==◌, List, [], ◌∷◌, map, length, Some}
use Rattle.std.proofs.Common.{None, inl, inr, refl, sym, ap, subst, ◌∙◌}
use Rattle.std.specs.Prelude.{slice_get, unwrap_or}
use Rattle.std.proofs.lemmas.List.{length-map}
use Rattle.golf_theory.specs.Maps.{Entry, find}
use Rattle.golf_theory.specs.Membership.{In}
use Rattle.golf_theory.proofs.Lists.{In-filter, In-slice_get}
use Rattle.golf_theory.proofs.MapFinds.{find-Entry}
use Rattle.golf_data.specs.declared.goroutine.Mode.{Mode}
use Rattle.golf_data.specs.declared.report.Entry.{Entry as Told}
use Rattle.golf_model.specs.declared.graph.GraphParts.{GraphParts}
use Rattle.golf_model.specs.Futures.{Numbered}
use Rattle.golf_model.specs.Graph.{sleeper_place, Least, IsInRange}
use Rattle.golf_model.specs.LiveSet.{Node, Live}
use Rattle.golf_model.specs.Presence.{IsWhole}
use Rattle.golf_model.specs.Reports.{goroutine_id, entry_by, entry_of}
use Rattle.golf_model.specs.State.{State, is_running}
use Rattle.golf_model.specs.Views.{GoroutineView}
use Rattle.golf_snapshot.specs.Parts.{row_of, is_awake, sleeping, sleeper_of, live_parts}
use Rattle.golf_snapshot.specs.Stands.{IsSleeper}
use Rattle.golf_snapshot.proofs.LiveComplete.{live-graph}
use Rattle.golf_cert.specs.ComputedLevels.{reason_to, reason_in}
use Rattle.golf_cert.proofs.Computing.{reasons_computed}
use Rattle.golf_why.specs.Explanations.{sleeper_entries_in}
use Rattle.golf_why.specs.Laws.{LiveAreTold}
use Rattle.golf_why.proofs.Saying.{none-told, one-told}

get-map : {A B : Type 0} (f : A → B) (xs : List A) (k : ℕ) (x : A) → slice_get xs k ≡ Some x
    → slice_get (map f xs) k ≡ Some (f x)
get-map f [] k x e = cc
get-map f (y ∷ ys) zero x e = cc
get-map f (y ∷ ys) (suc k) x e = get-map f ys k x e

In-Entry : (es : List (ℕ × GoroutineView)) (g : ℕ) (r : GoroutineView) → In (g, r) es → Entry es g r
In-Entry [] g r h = absurd h
In-Entry (e ∷ es) g r (inl same) = inl (ap (λ x. x.0) same, ap (λ x. x.1) same)
In-Entry (e ∷ es) g r (inr h) = inr (In-Entry es g r h)

-- who is not awake is blocked
blocked : (g started : ℕ) (mode : Mode) (b : Bool) → not (is_running mode || b) ≡ true → (e : Told)
    × (entry_by g started mode ≡ e ∷ [])
blocked g started Mode.Running b h = cc
blocked g started (Mode.Blocked kind line waits ticket) b h =
    (record { goroutine = goroutine_id g; wait = kind; line = line; started = started }, refl)

module _ (s : State) (n : Numbered s) (w : IsWhole s) (fit : IsInRange (live_parts s)) (k g : ℕ)
    (sleeper : IsSleeper s k g) where
  abbrev graph : GraphParts
  graph = live_parts s

  abbrev place : ℕ
  place = sleeper_place graph k

  place-is : length s.objects + k ≡ place
  place-is = ap (λ c. c + k) (sym (length-map s.objects (row_of s.objects)))

  least : Live s (Node.AGoroutine g) → Least graph place
  least l = subst (Least graph) place-is (((live-graph s n w).goroutines k g sleeper).1 l)

  lives : Least graph place → Live s (Node.AGoroutine g)
  lives l = ((live-graph s n w).goroutines k g sleeper).0 (subst (Least graph) (sym place-is) l)

  there : In (g, sleeper.0) s.goroutines × (not (is_awake g sleeper.0) ≡ true)
  there = In-filter (λ e. not (is_awake e.0 e.1)) (g, sleeper.0) s.goroutines
      (In-slice_get (sleeping s) k (g, sleeper.0) sleeper.1)

  found : find g s.goroutines ≡ Some sleeper.0
  found = find-Entry s.goroutines g sleeper.0 n.goroutines_rise (In-Entry s.goroutines g sleeper.0 there.0)

  entry : (e : Told) × (entry_of g (find g s.goroutines) ≡ e ∷ [])
  entry =
      let b = blocked g sleeper.0.started sleeper.0.mode (g == 0) there.1 in
      (b.0, ap (entry_of g) found ∙ b.1)

  here : unwrap_or (slice_get (sleeper_entries_in s graph) k) None ≡ Some entry.0
  here =
      ap (λ o. unwrap_or o None) (get-map (λ x. slice_get (entry_of x.goroutine.0 (find x.goroutine.0 s.goroutines)) 0)
      graph.sleepers k (sleeper_of s.objects (g, sleeper.0))
      (get-map (sleeper_of s.objects) (sleeping s) k (g, sleeper.0) sleeper.1))
      ∙ ap (λ es. slice_get es 0) entry.1

pub live_told : LiveAreTold
live_told s n w fit k g sleeper =
    let graph = live_parts s in
    let place : ℕ = sleeper_place graph k in
    let computed = reasons_computed graph fit place in record {
      live = λ l.
          let reason = (computed.0 (reason_to graph place)).1 (least s n w fit k g sleeper l, refl) in
          let e = entry s n w fit k g sleeper in record {
            entry = e.0;
            blocked = e.1;
            places = reason_in graph k;
            reason = reason;
            is_told = sym (one-told graph k place (sleeper_entries_in s graph) e.0 (reason_in graph k)
                (here s n w fit k g sleeper) reason refl);
          };
      dead = λ d. sym (none-told graph k (unwrap_or (slice_get (sleeper_entries_in s graph) k) None)
          (computed.1 (λ l. d (lives s n w fit k g sleeper l))));
    }
