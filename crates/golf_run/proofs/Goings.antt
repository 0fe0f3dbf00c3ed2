-- A run goes on from one event to the next.
-- For: `IsUnderWay`, specs/UnderWay.antt
-- By: cases of the event, and whether a collection follows; no induction
use Rattle.std.proofs.Common.{◌≡◌, ℕ, ◌+◌, Bool, true, false, List, [], ◌∷◌, ◌++◌, length, length-append, Option, Some}
use Rattle.std.proofs.Common.{None, refl, sym, ap, subst, ◌∙◌, append-nil, arith}
use Rattle.std.specs.Prelude.{is_some}
use Rattle.std.specs.Io.KnownBytes.{Appends}
use Rattle.std.proofs.KnownBytes.{Appends-trans}
use Rattle.golf_data.specs.declared.code.Code.{Code}
use Rattle.golf_data.specs.declared.goroutine.Ending.{Ending}
use Rattle.golf_data.specs.declared.report.Book.{Book}
use Rattle.golf_model.specs.State.{State, ending}
use Rattle.golf_model.specs.Turn.{step, wants_collection}
use Rattle.golf_model.specs.Collections.{sets_finalisers}
use Rattle.golf_model.specs.Runs.{Event, has_ended, collected_if, happens_in, stop_in, stop_if}
use Rattle.golf_model.specs.Reports.{report, book_after, new_book, numbers}
use Rattle.golf_model.specs.Futures.{Leads}
use Rattle.golf_run_texts.specs.Output.{joined}
use Rattle.golf_run_texts.specs.declared.totals.Totals.{Totals}
use Rattle.golf_run_texts.specs.Totals.{totals_of}
use Rattle.golf_model_futures.specs.EarlierOutput.{prefixed}
use Rattle.golf_model_futures.proofs.Printing.{step-prefixed}
use Rattle.golf_model_futures.proofs.Leading.{leads-numbered}
use Rattle.golf_run.specs.Told.{told, told_by, noted, collected, totalled}
use Rattle.golf_run_texts.specs.Writes.{emptied, told_lines}
use Rattle.golf_run.specs.OneEvent.{turned, prints, collects}
use Rattle.golf_run.specs.HasLeft.{HasLeft}
use Rattle.golf_run.specs.HasRun.{Sinks}
use Rattle.golf_run.specs.UnderWay.{at, reports_to, collecting, real_at, real_stops_to, real_book_to, stops_text}
use Rattle.golf_run.specs.UnderWay.{told_to, IsCounted, IsUnderWay}
use Rattle.golf_run.proofs.Writing.{stops-text-append}
use Rattle.golf_run.proofs.Totalling.{counted-more, totals-are}
use Rattle.golf_run.proofs.Printed.{collect-prefixed, report-prefixed, book-prefixed, told-prefixed}
use Rattle.golf_run.proofs.Real.{same-output, real-next, real_stops-next, reports-next, real_book-next}
use Rattle.golf_run.proofs.Leaving.{step-left, emptied-left, collect-left}
use Rattle.golf_model_futures.proofs.OrderedCollecting.{collecting-goes}

not-ended : (o : Option Ending) → o ≡ None → is_some o ≡ false
not-ended None e = refl
not-ended (Some x) e = cc

-- what was printed, taken
regroup : (w : List ℕ) (t : State) → prefixed w t ≡ prefixed (w ++ t.output) (emptied t)
regroup w t = ap (λ (o : List ℕ). record t { output = o }) (sym (append-nil (w ++ t.output)))

-- an event on a state with something printed before
module _ (code : Code) (collect : State → State) (w : List ℕ) (state whole : State)
    (same : whole ≡ prefixed w state) where
  abbrev pub placed : Event → State
  placed e = prefixed (w ++ prints code e state) (turned code e state)

  stepped : (c : ℕ) → step code whole c ≡ placed (Event.Turn c)
  stepped c = ap (λ s. step code s c) same ∙ step-prefixed w code state c ∙ regroup w (step code state c)

  stayed : whole ≡ placed Event.Collect
  stayed = same ∙ ap (λ (v : List ℕ). prefixed v state) (sym (append-nil w))

  wanted : (c : ℕ) → wants_collection code whole c ≡ wants_collection code state c
  wanted c = ap (λ s. wants_collection code s c) same

  pub happened : (e : Event) → happens_in collect code false whole e ≡ collected_if collect code (collects code e state)
      (placed e)
  happened (Event.Turn c) = ap (λ b. collected_if collect code b (step code whole c)) (wanted c)
      ∙ ap (collected_if collect code (wants_collection code state c)) (stepped c)
  happened Event.Collect = ap collect stayed

  pub stopped : (e : Event) → stop_in collect code false whole e ≡ stop_if collect code (collects code e state)
      (placed e)
  stopped (Event.Turn c) = ap (λ b. stop_if collect code b (step code whole c)) (wanted c)
      ∙ ap (stop_if collect code (wants_collection code state c)) (stepped c)
  stopped Event.Collect = ap (λ s. s ∷ []) stayed

-- a collection that follows finds no ending
pub collects-goes : (code : Code) (e : Event) (s : State) → ending s ≡ None → collects code e s ≡ true
    → ending (turned code e s) ≡ None
collects-goes code (Event.Turn c) s goes w = collecting-goes code s c goes w
collects-goes code Event.Collect s goes w = goes

pub turned-leads : (code : Code) (e : Event) (s : State) → ending s ≡ None → Leads code s → Leads code (turned code e s)
turned-leads code (Event.Turn c) s goes l = Leads.Emptied (step code s c) (Leads.Turn s c l goes)
turned-leads code Event.Collect s goes l = l

pub turned-left : (code : Code) (e : Event) (s : State) (gone : List ℕ) → HasLeft gone s
    → HasLeft gone (turned code e s)
turned-left code (Event.Turn c) s gone h = emptied-left gone (step code s c) (step-left code gone s c h)
turned-left code Event.Collect s gone h = h

turned-taken : (code : Code) (e : Event) (s : State) → s.output ≡ [] → (turned code e s).output ≡ []
turned-taken code (Event.Turn c) s h = refl
turned-taken code Event.Collect s h = h

module _ (code : Code) (recover : Bool) (done : List Event) (e : Event) (state : State) (goes : ending state ≡ None)
    (same : real_at code recover done ≡ prefixed (real_at code recover done).output state)
    (taken : state.output ≡ []) where
  abbrev pub printed : List ℕ
  printed = (real_at code recover done).output

  abbrev pub more : List Event
  more = done ++ e ∷ []

  pub going : has_ended (real_at code recover done) ≡ false
  going = ap has_ended same ∙ not-ended (ending state) goes

  -- the state after the event, and the collection that follows
  abbrev pub after : Bool → State
  after b = collected_if (collecting code recover) code b (turned code e state)

  collected-by : (b : Bool) (w : List ℕ) (s : State)
      → collected_if (collecting code recover) code b (prefixed w s) ≡ prefixed w
      (collected_if (collecting code recover) code b s)
  collected-by true w s = collect-prefixed w s recover (sets_finalisers code)
  collected-by false w s = refl

  pub moved : real_at code recover more ≡ prefixed (printed ++ prints code e state) (after (collects code e state))
  moved =
      real-next code recover done e ∙ ap (λ b. happens_in (collecting code recover) code b
      (real_at code recover done) e) going
      ∙ happened code (collecting code recover) printed state (real_at code recover done) same e
      ∙ collected-by (collects code e state) (printed ++ prints code e state) (turned code e state)

  empty-after : (b : Bool) → (after b).output ≡ []
  empty-after true = turned-taken code e state taken
  empty-after false = turned-taken code e state taken

  -- what the event printed stands after what was printed before
  pub real-grown : (real_at code recover more).output ≡ printed ++ prints code e state
  real-grown =
      ap (λ (s : State). s.output) moved ∙ ap (λ (w : List ℕ). (printed ++ prints code e state) ++ w)
      (empty-after (collects code e state)) ∙ append-nil (printed ++ prints code e state)

  pub grown : (at code more).output ≡ (at code done).output ++ prints code e state
  grown = same-output code recover more ∙ real-grown
      ∙ ap (λ (w : List ℕ). w ++ prints code e state) (sym (same-output code recover done))

  pub same-next : real_at code recover more ≡ prefixed (real_at code recover more).output
      (after (collects code e state))
  same-next = moved ∙ ap (λ (w : List ℕ). prefixed w (after (collects code e state))) (sym real-grown)

  stops-are : (b : Bool) → collects code e state ≡ b → real_stops_to code recover more ≡ real_stops_to code recover done
      ++ stop_if (collecting code recover) code b (prefixed (printed ++ prints code e state) (turned code e state))
  stops-are b h =
      real_stops-next code recover done e ∙ ap
      (λ c. real_stops_to code recover done
      ++ stop_in (collecting code recover) code c (real_at code recover done) e) going
      ∙ ap (λ ps. real_stops_to code recover done ++ ps)
      (stopped code (collecting code recover) printed state (real_at code recover done) same e)
      ∙ ap (λ c. real_stops_to code recover done
      ++ stop_if (collecting code recover) code c (prefixed (printed ++ prints code e state) (turned code e state)))
      h

  pub silent : collects code e state ≡ false → (reports_to code recover more ≡ reports_to code recover done)
      × (real_book_to code recover more ≡ real_book_to code recover done)
  silent h = (
    reports-next code recover done e [] (stops-are false h) ∙ append-nil (reports_to code recover done),
    real_book-next code recover done e [] (stops-are false h),
  )

  -- the collection's report is that of the state in memory
  pub spoken : (book : Book) → book ≡ real_book_to code recover done → collects code e state ≡ true
      → (reports_to code recover more ≡ reports_to code recover done
      ++ told recover (sets_finalisers code) book (turned code e state) ∷ [])
      × (real_book_to code recover more ≡ noted recover (sets_finalisers code) book (turned code e state))
  unfolding told noted
  spoken book is h =
      let sets = sets_finalisers code in
      let t = turned code e state in
      let w : List ℕ = printed ++ prints code e state in
      let p : State = prefixed w t in (
        reports-next code recover done e (p ∷ []) (stops-are true h)
            ∙ ap (λ r. reports_to code recover done ++ r ∷ [])
            (ap (λ b. report recover sets b p) (sym is) ∙ report-prefixed w t recover sets book),
        real_book-next code recover done e (p ∷ []) (stops-are true h)
            ∙ ap (λ b. book_after recover sets b p) (sym is) ∙ book-prefixed w t recover sets book,
      )

  -- what the collections tell
  pub told-silent : (why : Bool) → collects code e state ≡ false
      → told_to code recover why more ≡ told_to code recover why done
  unfolding told_to
  told-silent why h = ap (stops_text recover (sets_finalisers code) why new_book)
      (stops-are false h ∙ append-nil (real_stops_to code recover done))

  pub told-grown : (why : Bool) (book : Book) → book ≡ real_book_to code recover done → collects code e state ≡ true
      → told_to code recover why more ≡ told_to code recover why done
      ++ joined (told_by recover (sets_finalisers code) why book (turned code e state))
  unfolding told_to real_book_to told told_by
  told-grown why book is h =
      let sets = sets_finalisers code in
      let t = turned code e state in
      let w : List ℕ = printed ++ prints code e state in
      let p : State = prefixed w t in
      ap (stops_text recover sets why new_book) (stops-are true h)
      ∙ stops-text-append code recover sets why (real_stops_to code recover done) (p ∷ []) new_book
      ∙ ap (λ t. told_to code recover why done ++ t)
      (append-nil (joined (told_lines why (report recover sets (real_book_to code recover done) p) p))
      ∙ ap joined (ap (λ b. told_by recover sets why b p) (sym is) ∙ told-prefixed w t recover sets book why))

  -- turns, collections and the emptying of the output lead to it
  pub leads-next : Leads code state → (b : Bool) → collects code e state ≡ b → Leads code (after b)
  leads-next l true h = Leads.Collection (turned code e state) recover (turned-leads code e state goes l)
      (collects-goes code e state goes h)
  leads-next l false h = turned-leads code e state goes l

  one-more : length more ≡ length done + 1
  one-more = length-append done (e ∷ [])

-- the run under way, one event on
module _ {code : Code} {recover why : Bool} {done : List Event} {state : State} {ledger : Book} {totals : Totals}
    {old now : Sinks} (e : Event) (goes : ending state ≡ None)
    (w : IsUnderWay code recover why done state ledger totals old now) where
  out-next : (out : Option (List ℕ)) → Appends now.out out (prints code e state)
      → Appends old.out out (at code (done ++ e ∷ [])).output
  out-next out a = subst (Appends old.out out) (sym (grown code recover done e state goes w.same w.taken))
      (Appends-trans _ _ _ _ _ w.out a)

  -- without a collection
  pub quiet : {out : Option (List ℕ)} {of ef : ℕ} → Appends now.out out (prints code e state)
      → collects code e state ≡ false
      → IsUnderWay code recover why (done ++ e ∷ []) (turned code e state) ledger totals old
      (record { out = out; out_faults = of; err = now.err; err_faults = ef })
  quiet {out = out} a h =
      let m = silent code recover done e state goes w.same w.taken h in
      record {
        same = same-next code recover done e state goes w.same w.taken
            ∙ ap (λ b. prefixed (real_at code recover (done ++ e ∷ [])).output
            (after code recover done e state goes w.same w.taken b)) h;
        leads = leads-next code recover done e state goes w.same w.taken w.leads false h;
        taken = turned-taken code e state w.taken;
        book = w.book ∙ sym m.1;
        counted = subst (IsCounted ledger) (sym m.0) w.counted;
        summed = w.summed ∙ ap totals_of (sym m.0);
        few = (let n = one-more code recover done e state goes w.same w.taken in omega (arith, n, w.few));
        left = turned-left code e state (numbers ledger.reclaimed) w.left;
        out = out-next out a;
        err = subst (Appends old.err now.err)
            (sym (told-silent code recover done e state goes w.same w.taken why h)) w.err;
      }

  -- with one
  pub loud : {out err : Option (List ℕ)} {of ef : ℕ} {sum : Totals} {later : State} {next : Book}
      → Appends now.out out (prints code e state) → collects code e state ≡ true
      → sum ≡ totalled recover (sets_finalisers code) ledger (turned code e state)
      → later ≡ collected recover (sets_finalisers code) (turned code e state)
      → next ≡ noted recover (sets_finalisers code) ledger (turned code e state)
      → Appends now.err err (joined (told_by recover (sets_finalisers code) why ledger (turned code e state)))
      → IsUnderWay code recover why (done ++ e ∷ []) later next sum old
      (record { out = out; out_faults = of; err = err; err_faults = ef })
  unfolding noted collected totalled
  loud {out = out} {err = err} {later = later} {next = next} a h who left is t =
      let sets = sets_finalisers code in
      let stands : State = turned code e state in
      let leads = turned-leads code e state goes w.leads in
      let m = spoken code recover done e state goes w.same w.taken ledger w.book h in
      let counts = counted-more recover sets ledger stands (reports_to code recover done) w.counted
      (leads-numbered code stands leads) in
      let there : after code recover done e state goes w.same w.taken (collects code e state) ≡ later =
      ap (after code recover done e state goes w.same w.taken) h ∙ sym left in
      record {
        same = same-next code recover done e state goes w.same w.taken
            ∙ ap (prefixed (real_at code recover (done ++ e ∷ [])).output) there;
        leads = subst (Leads code) (sym left) (leads-next code recover done e state goes w.same w.taken w.leads true h);
        taken = ap (λ (s : State). s.output) left ∙ turned-taken code e state w.taken;
        book = is ∙ sym m.1;
        counted = subst (IsCounted next) (sym m.0)
            (subst (λ b. IsCounted b (reports_to code recover done ++ told recover sets ledger stands ∷ []))
            (sym is) counts);
        summed = who ∙ totals-are (noted recover sets ledger stands) (reports_to code recover done)
            (told recover sets ledger stands) counts ∙ ap totals_of (sym m.0);
        few = (let n = ap (λ (b : Book). b.collections) is in let l = one-more code recover done e state goes w.same
            w.taken in omega (arith, n, l, w.few));
        left = subst (λ (b : Book). HasLeft (numbers b.reclaimed) later) (sym is)
            (subst (λ (s : State). HasLeft (numbers (book_after recover sets ledger stands).reclaimed) s) (sym left)
            (collect-left recover sets ledger stands (leads-numbered code stands leads)
            (turned-left code e state (numbers ledger.reclaimed) w.left)));
        out = out-next out a;
        err = subst (Appends old.err err) (sym
            (told-grown code recover done e state goes w.same w.taken why ledger w.book h))
            (Appends-trans _ _ _ _ _ w.err t);
      }
