-- The numbers of all turns of a run by threads: that there are some, and those of a history.
-- For: `texts_by_threads`, src/threads.rt; `AreTurns`, specs/Ways.antt
-- By: induction over the list of numbers, and over k, the turns that are allowed
use Rattle.std.proofs.Common.{◌≡◌, ℕ, zero, suc, ◌+◌, ◌<◌, ◌≤◌, ◌⊎◌, inl, inr, false, List, [], ◌∷◌, ◌++◌, length, map}
use Rattle.std.proofs.Common.{take, Option, Some, None, slice_get, refl, sym, ap, ◌∙◌, arith, length-append}
use Rattle.std.specs.Prelude.{option_map}
use Rattle.std.proofs.lemmas.List.{take_all, take-map, length-map, length-take-le}
use Rattle.std.proofs.lemmas.Option.{slice_get-map, slice_get_within}
use Rattle.std.proofs.lemmas.Simd.{map-map}
use Rattle.golf_data.specs.declared.code.Code.{Code}
use Rattle.golf_data.specs.declared.goroutine.Ending.{Ending}
use Rattle.golf_model.specs.State.{start, runnable, ending}
use Rattle.golf_model.specs.Runs.{Event, run}
use Rattle.golf_run_schedules.specs.Events.{turns_from, turns_among}
use Rattle.golf_run_texts.specs.Output.{events_of}
use Rattle.golf_model_futures.proofs.RealRuns.{real-runs}
use Rattle.golf_world.specs.declared.history.HistoryEntry.{HistoryEntry}
use Rattle.golf_world.specs.History.{most_entries, turns, after, number_at, IsHistory}
use Rattle.golf_world.proofs.Executions.{after-is}
use Rattle.golf_world.proofs.Freeing.{same_can_run}
use Rattle.golf_command.specs.Ways.{turns_with, after_turns, IsTurnAt, history_options, AreTurns}

-- ---- the events

no-collections : (ns : List ℕ) (k : ℕ) → turns_from None k ns ≡ turns_with ns
no-collections [] k = refl
no-collections (n ∷ ns) k = ap (λ es. Event.Turn n ∷ es) (no-collections ns (k + 1))

pub their-events : (ns : List ℕ) → length ns ≤ most_entries → events_of (history_options ns) ≡ turns_with ns
unfolding events_of history_options
their-events ns few = ap (λ xs. turns_from None 1 xs) (take_all most_entries ns few) ∙ no-collections ns 1

pub turns-counted : (ns : List ℕ) → turns_among (turns_with ns) ≡ length ns
turns-counted [] = refl
turns-counted (n ∷ ns) = let later = turns-counted ns in omega (arith, later)

-- ---- there are such numbers

not-ended : (e : Ending) → ◌≡◌ {A = Option Ending} (Some e) None → ⊥
not-ended e is = cc

not-there : (n : ℕ) → ◌≡◌ {A = Option ℕ} (Some n) None → ⊥
not-there n is = cc

same-number : (m n : ℕ) → ◌≡◌ {A = Option ℕ} (Some m) (Some n) → m ≡ n
same-number m n is = cc

get_push : (xs : List ℕ) (y z t : ℕ) → slice_get (xs ++ y ∷ []) t ≡ Some z
    → ((slice_get xs t ≡ Some z) × (take t (xs ++ y ∷ []) ≡ take t xs))
    ⊎ ((take t (xs ++ y ∷ []) ≡ xs) × (y ≡ z) × (t ≡ length xs))
get_push [] y z zero e = inr (refl, cc, refl)
get_push [] y z (suc t) e = absurd cc
get_push (x ∷ xs) y z zero e = inl (e, refl)
get_push (x ∷ xs) y z (suc t) e = elim (get_push xs y z t e) [
  | inl h ↦ inl (h.0, ap (λ l. x ∷ l) h.1)
  | inr h ↦ inr
      (ap (λ l. x ∷ l) h.0, h.1, ap suc h.2)
]

module _ (code : Code) (threads : ℕ) (some : 0 < threads) where
  -- turns until there are k of them or an ending
  record Grown (k : ℕ) : Type 0 where
    ns : List ℕ
    each : (t n : ℕ) → slice_get ns t ≡ Some n → IsTurnAt code threads ns t n
    few : length ns ≤ k
    whole : ending (after_turns code ns) ≡ None → length ns ≡ k

  module _ (k : ℕ) (g : Grown k) where
    abbrev next : ℕ
    next = number_at 0 (length g.ns) (length (runnable (after_turns code g.ns)))

    abbrev more : List ℕ
    more = g.ns ++ next ∷ []

    at-last : (t n : ℕ) → next ≡ n → t ≡ length g.ns → ending (after_turns code g.ns) ≡ None → take t more ≡ g.ns
        → IsTurnAt code threads more t n
    at-last t n is place goes same = record {
      thread = 0;
      is_one = some;
      number = sym is ∙ (λ i. number_at 0 (sym place i) (length (runnable (after_turns code (sym same i)))));
      goes = ap (λ xs. ending (after_turns code xs)) same ∙ goes;
    }

    at-earlier : (t n : ℕ) → take t more ≡ take t g.ns → IsTurnAt code threads g.ns t n → IsTurnAt code threads more t n
    at-earlier t n same h = record {
      thread = h.thread;
      is_one = h.is_one;
      number = h.number ∙ ap (λ xs. number_at h.thread t (length (runnable (after_turns code xs)))) (sym same);
      goes = ap (λ xs. ending (after_turns code xs)) same ∙ h.goes;
    }

    grow-by : (o : Option Ending) → ending (after_turns code g.ns) ≡ o → Grown (suc k)
    grow-by (Some e) is = record {
      ns = g.ns;
      each = g.each;
      few = omega (arith, g.few);
      whole = λ none. absurd (not-ended e (sym is ∙ none));
    }
    grow-by None is =
        let full = g.whole is in record {
          ns = more;
          each = λ t n here. elim (get_push g.ns next n t here) [
            | inl h ↦ at-earlier t n h.1 (g.each t n h.0)
            | inr h ↦ at-last t n h.1 h.2 is h.0
          ];
          few = omega (arith, length-append g.ns (next ∷ []), full);
          whole = λ _. omega (arith, length-append g.ns (next ∷ []), full);
        }

  grown : (k : ℕ) → Grown k
  grown zero = record { ns = []; each = λ t n here. absurd cc; few = omega arith; whole = λ _. refl }
  grown (suc k) = let g = grown k in grow-by k g (ending (after_turns code g.ns)) refl

  pub some-turns : (ns : List ℕ) × AreTurns code threads ns
  some-turns = let g = grown most_entries in (
    g.ns,
    record { each = g.each; few = g.few; whole = g.whole; events = their-events g.ns g.few },
  )

-- ---- those of a history

abbrev pub numbers_in : List HistoryEntry → List ℕ
numbers_in es = map (λ e. e.number) es

pub numbers-counted : (es : List HistoryEntry) → length (numbers_in es) ≡ length es
numbers-counted es = length-map es (λ (e : HistoryEntry). e.number)

module _ (code : Code) where
  pub turns-are : (es : List HistoryEntry) → turns_with (numbers_in es) ≡ turns es
  turns-are es = map-map (λ n. Event.Turn n) (λ (e : HistoryEntry). e.number) es

  pub after-is-run : (es : List HistoryEntry) → after_turns code (numbers_in es) ≡ run code (start code) (turns es)
  unfolding after_turns
  after-is-run es = ap (λ x. run code (start code) x) (turns-are es)

  same-ending : (es : List HistoryEntry) → ending (after_turns code (numbers_in es)) ≡ ending (after code es)
  same-ending es = ap ending (after-is-run es)
      ∙ sym (ap ending (after-is code es) ∙ (real-runs code false (turns es)).1)

  same-runnable : (es : List HistoryEntry) → runnable (after code es) ≡ runnable (after_turns code (numbers_in es))
  same-runnable es = ap runnable (after-is code es) ∙ same_can_run code false (turns es)
      ∙ ap runnable (sym (after-is-run es))

  module _ (threads : ℕ) (es : List HistoryEntry) (h : IsHistory code threads es) where
    numbered : (t n : ℕ) (o : Option HistoryEntry) → slice_get es t ≡ o → slice_get (numbers_in es) t ≡ Some n
        → IsTurnAt code threads (numbers_in es) t n
    numbered t n None is here = absurd (not-there n
        (sym here ∙ slice_get-map (λ (x : HistoryEntry). x.number) es t
        ∙ ap (option_map (λ (x : HistoryEntry). x.number)) is))
    numbered t n (Some e) is here =
        let entry = h t e is in
        let number : n ≡ e.number = same-number n e.number
        (sym here ∙ slice_get-map (λ (x : HistoryEntry). x.number) es t
        ∙ ap (option_map (λ (x : HistoryEntry). x.number)) is) in
        let inside : t < length es = slice_get_within es t e is in
        let place : length (take t es) ≡ t = length-take-le t es (omega arith) in
        let same : take t (numbers_in es) ≡ numbers_in (take t es) = take-map (λ (x : HistoryEntry). x.number) t es in
        record {
          thread = e.pass;
          is_one = entry.pass;
          number = number ∙ entry.number ∙ (λ i. number_at e.pass (place i) (length (same-runnable (take t es) i)))
              ∙ ap (λ xs. number_at e.pass t (length (runnable (after_turns code xs)))) (sym same);
          goes = ap (λ xs. ending (after_turns code xs)) same ∙ same-ending (take t es) ∙ entry.goes;
        }

    pub history-turns : length es ≤ most_entries
        → (ending (run code (start code) (turns es)) ≡ None → length es ≡ most_entries)
        → AreTurns code threads (numbers_in es)
    history-turns few whole =
        let count = numbers-counted es in
        let short : length (numbers_in es) ≤ most_entries = omega (arith, count, few) in
        record {
          each = λ t n here. numbered t n (slice_get es t) refl here;
          few = short;
          whole = λ goes. count ∙ whole (sym (ap ending (after-is-run es)) ∙ goes);
          events = their-events (numbers_in es) short;
        }
