-- Histories that grow by an entry: the state, the reports and the book after them.
-- For: `new`, `take_turn`, src/execution.rt; `IsExecution`, specs/History.antt
-- By: induction over the list of entries, and over the list of states right before collections
use Rattle.std.proofs.Common.{◌≡◌, ℕ, zero, suc, ◌%◌, ◌<◌, ◌⊎◌, inl, inr, Bool, true, false, List, [], ◌∷◌, ◌++◌}
use Rattle.std.proofs.Common.{length, take, Option, Some, None, slice_get, refl, sym, ap, ◌∙◌, subst, arith}
use Rattle.std.proofs.Common.{length-append, append-nil, append_assoc}
use Rattle.std.specs.Prelude.{is_some, option_to_list}
use Rattle.golf_base.specs.declared.ids.GoroutineId.{GoroutineId}
use Rattle.golf_data.specs.declared.code.Code.{Code}
use Rattle.golf_data.specs.declared.goroutine.Ending.{Ending}
use Rattle.golf_data.specs.declared.report.Book.{Book}
use Rattle.golf_data.specs.declared.report.Report.{Report}
use Rattle.golf_model.specs.State.{State, start, runnable, ending}
use Rattle.golf_model.specs.Turn.{step, wants_collection, whose_turn}
use Rattle.golf_model.specs.Collections.{sets_finalisers, real_collect}
use Rattle.golf_model.specs.Runs.{Event, has_ended, run_by, stops_by, happens_by, happens_in, collected_if, stop_in}
use Rattle.golf_model.specs.Runs.{stop_if}
use Rattle.golf_model.specs.Reports.{report, real_run, real_reports, new_book, book_after, reports_from}
use Rattle.golf_data.specs.Places.{HasPlaces}
use Rattle.golf_model.specs.Futures.{Leads}
use Rattle.golf_machine.proofs.TurnLaws.{whose}
use Rattle.golf_world.proofs.Spawning.{step-size, collect-size}
use Rattle.golf_model_futures.proofs.OrderedCollecting.{collecting-goes}
use Rattle.golf_world.specs.declared.history.HistoryEntry.{HistoryEntry}
use Rattle.golf_world.specs.declared.history.Stepped.{Stepped}
use Rattle.golf_world.specs.Steps.{HasCollected, DoesTurn}
use Rattle.golf_world.specs.History.{entry, most_entries, turns, after, reports_after, books, stops, booked, number_at}
use Rattle.golf_world.specs.History.{next_number, IsEntry, IsHistory, IsExecution}

-- a pass takes the next number: it is found by the length of the history and by how many goroutines can run
pub record TakesNext (code : Code) (passes p number at count : ℕ) (s : State) (b : Book) (es : List HistoryEntry)
    (rs : List Report) : Type 0 where
  pub execution : IsExecution code passes s b es rs
  pub here : at ≡ length es
  pub many : count ≡ length (runnable s)
  pub is : number ≡ number_at p at count

module _ (code : Code) where
  abbrev collecting : State → State
  collecting s = real_collect s false (sets_finalisers code)

  run-push : (es : List HistoryEntry) (e : HistoryEntry) (s : State)
      → run_by collecting code s (turns (es ++ e ∷ [])) ≡ happens_by collecting code
      (run_by collecting code s (turns es)) (Event.Turn e.number)
  run-push [] e s = refl
  run-push (x ∷ es) e s = run-push es e (happens_by collecting code s (Event.Turn x.number))

  abbrev stops_at : State → HistoryEntry → List State
  stops_at s e = stop_in collecting code (has_ended s) s (Event.Turn e.number)

  stops-push : (es : List HistoryEntry) (e : HistoryEntry) (s : State)
      → stops_by collecting code s (turns (es ++ e ∷ [])) ≡ stops_by collecting code s (turns es)
      ++ stops_at (run_by collecting code s (turns es)) e
  stops-push [] e s = append-nil (stops_at s e)
  stops-push (x ∷ es) e s =
      let u : State = happens_by collecting code s (Event.Turn x.number) in
      ap (λ (ps : List State). stops_at s x ++ ps) (stops-push es e u)
      ∙ sym (append_assoc (stops_at s x) (stops_by collecting code u (turns es))
      (stops_at (run_by collecting code u (turns es)) e))

  reports-append : (ps qs : List State) (book : Book)
      → reports_from false (sets_finalisers code) book (ps ++ qs) ≡ reports_from false (sets_finalisers code) book ps
      ++ reports_from false (sets_finalisers code) (books code book ps) qs
  reports-append [] qs book = refl
  reports-append (p ∷ ps) qs book = ap (λ rs. report false (sets_finalisers code) book p ∷ rs)
      (reports-append ps qs (book_after false (sets_finalisers code) book p))

  books-append : (ps qs : List State) (book : Book) → books code book (ps ++ qs) ≡ books code (books code book ps) qs
  books-append [] qs book = refl
  books-append (p ∷ ps) qs book = books-append ps qs (book_after false (sets_finalisers code) book p)

  after-none : after code [] ≡ start code
  unfolding after
  after-none = refl

  reports-none : reports_after code [] ≡ []
  unfolding reports_after
  reports-none = refl

  booked-none : booked code [] ≡ new_book
  unfolding booked
  booked-none = refl

  pub after-is : (es : List HistoryEntry) → after code es ≡ real_run code (turns es) false
  unfolding after
  after-is es = refl

  pub reports-is : (es : List HistoryEntry) → reports_after code es ≡ real_reports code (turns es) false
  unfolding reports_after
  reports-is es = refl

  after-push : (es : List HistoryEntry) (e : HistoryEntry)
      → after code (es ++ e ∷ []) ≡ happens_by collecting code (after code es) (Event.Turn e.number)
  unfolding after
  after-push es e = run-push es e (start code)

  reports-push : (es : List HistoryEntry) (e : HistoryEntry) → reports_after code (es ++ e ∷ []) ≡ reports_after code es
      ++ reports_from false (sets_finalisers code) (booked code es) (stops_at (after code es) e)
  unfolding after reports_after booked
  reports-push es e = ap (reports_from false (sets_finalisers code) new_book) (stops-push es e (start code))
      ∙ reports-append (stops code es) (stops_at (run_by collecting code (start code) (turns es)) e) new_book

  booked-push : (es : List HistoryEntry) (e : HistoryEntry)
      → booked code (es ++ e ∷ []) ≡ books code (booked code es) (stops_at (after code es) e)
  unfolding after booked
  booked-push es e = ap (books code new_book) (stops-push es e (start code))
      ∙ books-append (stops code es) (stops_at (run_by collecting code (start code) (turns es)) e) new_book

  not-ended : (o : Option Ending) → o ≡ None → is_some o ≡ false
  not-ended None e = refl
  not-ended (Some x) e = cc

  -- what stands at a place of a list with one item more
  get_push : {A : Type 0} (xs : List A) (y z : A) (t : ℕ) → slice_get (xs ++ y ∷ []) t ≡ Some z
      → ((slice_get xs t ≡ Some z) × (take t (xs ++ y ∷ []) ≡ take t xs)) ⊎ ((take t (xs ++ y ∷ []) ≡ xs) × (y ≡ z))
  get_push [] y z zero e = inr (refl, cc)
  get_push [] y z (suc t) e = absurd cc
  get_push (x ∷ xs) y z zero e = inl (e, refl)
  get_push (x ∷ xs) y z (suc t) e = elim (get_push xs y z t e) [
    | inl h ↦ inl (h.0, ap (λ l. x ∷ l) h.1)
    | inr h ↦ inr
        (ap (λ l. x ∷ l) h.0, h.1)
  ]

  history_push : (passes : ℕ) (es : List HistoryEntry) (e : HistoryEntry) → IsHistory code passes es
      → IsEntry code passes es e → IsHistory code passes (es ++ e ∷ [])
  history_push passes es e h new k x at = elim (get_push es e x k at) [
    | inl j ↦ subst (λ l. IsEntry code passes l x) (sym j.1) (h k x j.0)
    | inr j ↦ subst (λ (y : List HistoryEntry × HistoryEntry). IsEntry code passes y.0 y.1)
        (λ i. (sym j.0 i, j.1 i)) new
  ]

  pub execution_begins : (passes : ℕ) (s : State) (b : Book) (es : List HistoryEntry) (rs : List Report)
      → s ≡ start code → HasPlaces code → b ≡ new_book → es ≡ [] → rs ≡ [] → IsExecution code passes s b es rs
  execution_begins passes s b es rs e fit f none gone =
      subst (λ (y : List HistoryEntry × List Report). IsExecution code passes s b y.0 y.1)
      (λ i. (sym none i, sym gone i)) (record {
        state = e ∙ sym after-none;
        reports = sym reports-none;
        book = f ∙ sym booked-none;
        leads = subst (Leads code) (sym e) Leads.Start;
        places = fit;
        none = ap (λ (x : Book). x.reclaimed) f;
        narrow = omega (arith, ap (λ (x : State). length x.goroutines) e);
        counted = omega (arith, ap (λ (x : Book). x.collections) f);
        history = λ k x at. absurd cc;
        few = omega arith;
      })

  module _ (passes p n : ℕ) (s : State) (b : Book) (es : List HistoryEntry) (rs : List Report)
      (c : IsExecution code passes s b es rs) (low : p < passes) (goes : ending s ≡ None)
      (few : length es < most_entries) (is : n ≡ next_number code p es) where
    abbrev more : List HistoryEntry
    more = es ++ entry p n ∷ []

    ended : has_ended s ≡ false
    ended = not-ended (ending s) goes

    happens-next : happens_by collecting code s (Event.Turn n) ≡ collected_if collecting code
        (wants_collection code s n) (step code s n)
    happens-next = ap (λ (d : Bool). happens_in collecting code d s (Event.Turn n)) ended

    stops-next : stops_at s (entry p n) ≡ stop_if collecting code (wants_collection code s n) (step code s n)
    stops-next = ap (λ (d : Bool). stop_in collecting code d s (Event.Turn n)) ended

    history-more : IsHistory code passes more
    history-more = history_push passes es (entry p n) c.history
        (record { pass = low; number = is; goes = ap ending (sym c.state) ∙ goes })

    state-more : after code more ≡ collected_if collecting code (wants_collection code s n) (step code s n)
    state-more = after-push es (entry p n)
        ∙ ap (λ (u : State). happens_by collecting code u (Event.Turn n)) (sym c.state) ∙ happens-next

    module _ (ps : List State) (there : stop_if collecting code (wants_collection code s n) (step code s n) ≡ ps) where
      stops-more : stops_at (after code es) (entry p n) ≡ ps
      stops-more = ap (λ (u : State). stops_at u (entry p n)) (sym c.state) ∙ stops-next ∙ there

      reports-more : reports_after code more ≡ rs ++ reports_from false (sets_finalisers code) b ps
      reports-more =
          reports-push es (entry p n) ∙ ap (λ (qs : List State). reports_after code es
          ++ reports_from false (sets_finalisers code) (booked code es) qs) stops-more
          ∙ (λ i. sym c.reports i ++ reports_from false (sets_finalisers code) (sym c.book i) ps)

      booked-more : booked code more ≡ books code b ps
      booked-more = booked-push es (entry p n) ∙ ap (books code (booked code es)) stops-more
          ∙ ap (λ (k : Book). books code k ps) (sym c.book)

    pub execution_quiet : (t : State) (d : Book) (qs : List Report) → wants_collection code s n ≡ false
        → t ≡ step code s n → d ≡ b → qs ≡ rs → IsExecution code passes t d more qs
    execution_quiet t d qs w then same all =
        let there : stop_if collecting code (wants_collection code s n) (step code s n) ≡ [] =
        ap (λ (x : Bool). stop_if collecting code x (step code s n)) w in
        record {
          state = then ∙ sym (state-more ∙ ap (λ (x : Bool). collected_if collecting code x (step code s n)) w);
          reports = all ∙ sym (append-nil rs) ∙ sym (reports-more [] there);
          book = same ∙ sym (booked-more [] there);
          leads = subst (Leads code) (sym then) (Leads.Turn s n c.leads goes);
          places = c.places;
          none = ap (λ (x : Book). x.reclaimed) same ∙ c.none;
          narrow = omega (
            arith,
            ap (λ (x : State). length x.goroutines) then,
            step-size code s n,
            c.narrow,
            length-append es (entry p n ∷ []),
          );
          counted = omega (arith, ap (λ (x : Book). x.collections) same, c.counted, length-append es (entry p n ∷ []));
          history = history-more;
          few = omega (arith, few, length-append es (entry p n ∷ []));
        }

    pub execution_loud : (t : State) (d : Book) (r : Report) (qs : List Report) → wants_collection code s n ≡ true
        → t ≡ collecting (step code s n) → r ≡ report false (sets_finalisers code) b (step code s n)
        → d ≡ book_after false (sets_finalisers code) b (step code s n)
        → qs ≡ rs ++ r ∷ [] → IsExecution code passes t d more qs
    execution_loud t d r qs w then told noted all =
        let u : State = step code s n in
        let there : stop_if collecting code (wants_collection code s n) u ≡ u ∷ [] =
        ap (λ (x : Bool). stop_if collecting code x u) w in
        record {
          state = then ∙ sym (state-more ∙ ap (λ (x : Bool). collected_if collecting code x u) w);
          reports = all ∙ ap (λ (x : Report). rs ++ x ∷ []) told ∙ sym (reports-more (u ∷ []) there);
          book = noted ∙ sym (booked-more (u ∷ []) there);
          leads = subst (Leads code) (sym then)
              (Leads.Collection u false (Leads.Turn s n c.leads goes) (collecting-goes code s n goes w));
          places = c.places;
          none = ap (λ (x : Book). x.reclaimed) noted ∙ append-nil b.reclaimed ∙ c.none;
          narrow = omega (
            arith,
            ap (λ (x : State). length x.goroutines) then,
            collect-size u false (sets_finalisers code),
            step-size code s n,
            c.narrow,
            length-append es (entry p n ∷ []),
          );
          counted = omega (arith, ap (λ (x : Book). x.collections) noted, c.counted, length-append es (entry p n ∷ []));
          history = history-more;
          few = omega (arith, few, length-append es (entry p n ∷ []));
        }

    pub execution_next : (o : Option Report) (t : State) (d : Book) (qs : List Report) → HasCollected code n o s t b d
        → qs ≡ rs ++ option_to_list o → IsExecution code passes t d more qs
    execution_next None t d qs h e = execution_quiet t d qs h.0 h.1 h.2 (e ∙ append-nil rs)
    execution_next (Some r) t d qs h e = execution_loud t d r qs h.0 h.1 h.2 h.3 e

  -- the number is the next one, and picks the goroutine at its place
  pub next_is : {passes number at count : ℕ} {s : State} {b : Book} {es : List HistoryEntry} {rs : List Report} (p : ℕ)
      → TakesNext code passes p number at count s b es rs → number ≡ next_number code p es
  next_is {count = count} {es = es} p n =
      let same : count ≡ length (runnable (after code es)) = n.many
      ∙ ap (λ (u : State). length (runnable u)) n.execution.state in
      n.is ∙ (λ i. number_at p (n.here i) (same i))

  pub does_turn : {passes number at count : ℕ} {s : State} {b : Book} {es old new : List HistoryEntry}
      {rs : List Report} (p : ℕ) (g : GoroutineId) → TakesNext code passes p number at count s b es rs
      → length es < most_entries → ending s ≡ None → slice_get (runnable s) (number % count) ≡ Some g.0 → es ≡ old
      → new ≡ es ++ entry p number ∷ []
      → DoesTurn code p (Stepped.Turned at g number) old new
  does_turn {number = number} {at = at} {count = count} {s = s} {es = es} {new = new} p g n few goes here same made =
      let who : whose_turn (after code es) number ≡ Some g.0 =
      ap (λ (u : State). whose_turn u number) (sym n.execution.state)
      ∙ whose s number g.0 (number % count) count here refl n.many in
      subst (λ (l : List HistoryEntry). DoesTurn code p (Stepped.Turned at g number) l new) same
      (n.here, few, ap ending (sym n.execution.state) ∙ goes, next_is p n, who, made)
