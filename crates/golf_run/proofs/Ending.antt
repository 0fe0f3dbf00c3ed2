-- What a run has written if it stops: at its end, all of it.
-- For: `go_through`, src/turns.rt; `HasGone`, specs/HasGone.antt
-- By: cases of the outcome; no induction
use Rattle.std.proofs.Common.{◌≡◌, ℕ, ◌+◌, Bool, true, List, [], ◌∷◌, ◌++◌, length, ◌⊎◌, inl, inr, refl, sym, ap, subst}
use Rattle.std.proofs.Common.{◌∙◌, append_assoc, append-nil, arith}
use Rattle.std.specs.Prelude.{Option, Some, None, Result, Ok, Err, IsErr, IsErrAnd, is_some}
use Rattle.std.specs.Io.KnownBytes.{Appends}
use Rattle.std.proofs.KnownBytes.{Appends-trans, Appends-nil}
use Rattle.golf_base.specs.Causes.{Rose}
use Rattle.golf_data.specs.declared.code.Code.{Code}
use Rattle.golf_data.specs.declared.goroutine.Ending.{Ending}
use Rattle.golf_data.specs.declared.report.Book.{Book}
use Rattle.golf_data.specs.declared.report.Report.{Report}
use Rattle.golf_model.specs.State.{State, start, ending}
use Rattle.golf_model.specs.Turn.{step}
use Rattle.golf_model.specs.Collections.{plain_collect, sets_finalisers}
use Rattle.golf_model.specs.Runs.{Event, has_ended, run, stops_by}
use Rattle.golf_model.specs.Reports.{reports_from, new_book, book_of, numbers}
use Rattle.golf_model.specs.Futures.{Leads}
use Rattle.golf_run_schedules.specs.declared.options.RunOptions.{RunOptions}
use Rattle.golf_run_schedules.specs.Events.{turns_among}
use Rattle.golf_run_texts.specs.declared.totals.Totals.{Totals}
use Rattle.golf_run_texts.specs.Texts.{last_line}
use Rattle.golf_run_texts.specs.Totals.{totals_of}
use Rattle.golf_run_texts.specs.Output.{events_of, last_of, reports_of, end_of}
use Rattle.golf_run_texts.specs.Writes.{Write, out_bytes, err_bytes, line_writes, writes_from, event_writes_of}
use Rattle.golf_run_texts.specs.Writes.{writes_of}
use Rattle.golf_run.specs.declared.fault.RunFault.{RunFault}
use Rattle.golf_run.specs.declared.fault.RunFault.TheVariants as faults
use Rattle.golf_run.specs.Lines.{IsCutIn, IsStoppedIn}
use Rattle.golf_run.specs.Told.{told_by, HasTold}
use Rattle.golf_run.specs.OneEvent.{turned, prints, says, collects, HasTurned}
use Rattle.golf_run.specs.HasLeft.{HasLeft}
use Rattle.golf_run.specs.declared.turns.Course.{Course}
use Rattle.golf_run.specs.HasRun.{Sinks, sinks, GotWrites, IsSteady, WasCut, WasStopped}
use Rattle.golf_run.specs.HasGone.{WentThrough, HasGone}
use Rattle.golf_run.specs.UnderWay.{at, stops_to, reports_to, book_to, told_to, writes_to, real_at, real_stops_to}
use Rattle.golf_run.specs.UnderWay.{real_book_to, IsUnderWay, IsGoing}
use Rattle.golf_run.proofs.Appending.{run-append, stops-append, reports-append, ended-run, ended-stops}
use Rattle.golf_run_texts.proofs.Writings.{out-append, err-append}
use Rattle.golf_run.proofs.Writing.{ended-writes}
use Rattle.golf_run.proofs.Real.{same-ending}
use Rattle.golf_run.proofs.Leaving.{start-left}
use Rattle.golf_run.proofs.Cutting.{out-done, err-done, behind, events-split, writes-split, followed_by, writes-next}
use Rattle.golf_run.proofs.Cutting.{follows-told, says-out, says-err, out-cut, lines-cut, lines-stopped}

-- the whole run, after some of its events
module _ (code : Code) (options : RunOptions) (done rest : List Event) (split : events_of options ≡ done ++ rest) where
  abbrev sets : Bool
  sets = sets_finalisers code

  abbrev pub later : List Report
  later = reports_from options.recover sets (book_to code options.recover done)
      (stops_by plain_collect code (at code done) rest)

  pub last-from : last_of code options ≡ run code (at code done) rest
  unfolding last_of at
  last-from = ap (run code (start code)) split ∙ run-append plain_collect code done rest (start code)

  pub reports-split : reports_of code options ≡ reports_to code options.recover done ++ later
  unfolding reports_of reports_to book_to stops_to at
  reports-split =
      ap (λ es. book_of (stops_by plain_collect code (start code) es) options.recover sets) split
      ∙ ap (λ ps. book_of ps options.recover sets) (stops-append plain_collect code done rest (start code))
      ∙ reports-append options.recover sets (stops_by plain_collect code (start code) done)
      (stops_by plain_collect code (run code (start code) done) rest) new_book

-- the last line tells the turns only if the run has not ended
last-turns : (texts : List (List ℕ)) (turns all : ℕ) (o : Option Ending) → (o ≡ None → turns ≡ all)
    → last_line texts turns o ≡ last_line texts all o
last-turns texts turns all (Some e) h = refl
last-turns texts turns all None h = ap (λ n. last_line texts n None) (h refl)

not-none : (o : Option Ending) → is_some o ≡ true → o ≡ None → ⊥
not-none None h e = cc
not-none (Some x) h e = cc

module _ {code : Code} {options : RunOptions} {rest : List Event} {given : ℕ} {state : State} {ledger : Book}
    {totals : Totals} {old now : Sinks} (g : IsGoing code options rest given state ledger totals old now) where
  -- what was written by then is whole
  pub got-now : GotWrites (writes_to code options.recover options.why g.done) old now
  got-now = (
    subst (Appends old.out now.out) (sym (out-done code options.recover options.why g.done)) g.under_way.out,
    subst (Appends old.err now.err) (sym (err-done code options.recover options.why g.done)) g.under_way.err,
  )

  -- at the end
  module _ (over : (is_some (ending state) ≡ true) ⊎ (rest ≡ [])) where
    ended : (has_ended (at code g.done) ≡ true) ⊎ (rest ≡ [])
    ended = elim over [
      | inl e ↦ inl (ap is_some (same-ending code options.recover g.done ∙ ap ending g.under_way.same)
          ∙ e)
      | inr e ↦ inr e
    ]

    last-is : last_of code options ≡ at code g.done
    last-is = elim ended [
      | inl e ↦ last-from code options g.done rest g.split ∙ ended-run code rest (at code g.done) e
      | inr e ↦ last-from code options g.done rest g.split ∙ ap (run code (at code g.done)) e
    ]

    none-later : later code options g.done rest g.split ≡ []
    none-later = elim ended [
      | inl e ↦ ap (reports_from options.recover (sets_finalisers code) (book_to code options.recover g.done))
          (ended-stops code rest (at code g.done) e)
      | inr e ↦ ap (λ es. reports_from options.recover (sets_finalisers code) (book_to code options.recover g.done)
          (stops_by plain_collect code (at code g.done) es)) e
    ]

    reports-are : reports_of code options ≡ reports_to code options.recover g.done
    reports-are = reports-split code options g.done rest g.split
        ∙ ap (λ rs. reports_to code options.recover g.done ++ rs) none-later
        ∙ append-nil (reports_to code options.recover g.done)

    ending-is : ending (last_of code options) ≡ ending state
    ending-is = ap ending last-is ∙ same-ending code options.recover g.done ∙ ap ending g.under_way.same

    all-turns : ending state ≡ None → given ≡ turns_among (events_of options)
    all-turns goes = elim over [
      | inl e ↦ absurd (not-none (ending state) e goes)
      | inr e ↦ g.turns ∙ ap turns_among (sym (g.split ∙ ap (λ es. g.done ++ es) e ∙ append-nil g.done))
    ]

    real-ended : (is_some (ending state) ≡ true) → has_ended (real_at code options.recover g.done) ≡ true
    real-ended e = ap has_ended g.under_way.same ∙ e

    all-written : event_writes_of code options ≡ writes_to code options.recover options.why g.done
    all-written =
        events-split code options g.done rest g.split
        ∙ ap (λ ws. writes_to code options.recover options.why g.done ++ ws) (elim over [
          | inl e ↦ ended-writes code options.recover (sets_finalisers code) options.why rest
              (real_book_to code options.recover g.done) (real_at code options.recover g.done) (real-ended e)
          | inr e ↦ ap (writes_from code options.recover (sets_finalisers code) options.why
              (real_book_to code options.recover g.done) (real_at code options.recover g.done)) e
        ])
        ∙ append-nil (writes_to code options.recover options.why g.done)

    -- all events came about
    pub went : (course : Course) → course.turns ≡ given → course.ending ≡ ending state → course.totals ≡ totals
        → IsSteady old now → WentThrough course code options old now
    unfolding end_of
    went course t e sum steady =
        let all = turns_among (events_of options) in record {
          ends = e ∙ sym ending-is;
          line = ap (λ n. last_line code.texts n course.ending) t ∙ ap (last_line code.texts given) e
              ∙ last-turns code.texts given all (ending state) all-turns
              ∙ ap (last_line code.texts all) (sym ending-is);
          totals = sum ∙ g.under_way.summed ∙ ap totals_of (sym reports-are);
          got = subst (λ ws. GotWrites ws old now) (sym all-written) got-now;
          steady = steady;
        }

-- the run is under way, its program has not ended, and this event comes next
pub record IsNext (code : Code) (options : RunOptions) (event : Event) (rest : List Event) (more : ℕ) (state : State)
    (ledger : Book) (totals : Totals) (old now : Sinks) : Type 0 where
  pub count : ℕ
  pub going : IsGoing code options (event ∷ rest) count state ledger totals old now
  pub goes : ending state ≡ None
  pub counted : more ≡ count + turns_among (event ∷ [])

module _ {code : Code} {options : RunOptions} {event : Event} {rest : List Event} {more : ℕ} {state : State}
    {ledger : Book} {totals : Totals} {old now : Sinks}
    (next : IsNext code options event rest more state ledger totals old now) where
  pub split-next : events_of options ≡ (next.going.done ++ event ∷ []) ++ rest
  split-next = next.going.split ∙ sym (append_assoc next.going.done (event ∷ []) rest)

  abbrev pub followed : List Write
  followed = followed_by code options.recover options.why next.going.done event state next.goes
      next.going.under_way.same next.going.under_way.taken (collects code event state)

  abbrev pub behind-next : List Write
  behind-next = behind code options (next.going.done ++ event ∷ []) rest split-next

  -- what the event prints comes next, and then what the collection that follows tells
  pub order-next : writes_of code options ≡
      (writes_to code options.recover options.why next.going.done ++ says code event state) ++ (followed ++ behind-next)
  order-next =
      let w = next.going.under_way in
      writes-split code options (next.going.done ++ event ∷ []) rest split-next
      ∙ ap (λ ws. ws ++ behind-next) (writes-next code options.recover options.why next.going.done event state next.goes
      w.same w.taken)
      ∙ append_assoc (writes_to code options.recover options.why next.going.done ++ says code event state) followed
      behind-next

  pub order-told : collects code event state ≡ true
      → writes_of code options ≡ (writes_to code options.recover options.why next.going.done ++ says code event state)
      ++ (line_writes (told_by options.recover (sets_finalisers code) options.why ledger (turned code event state))
      ++ behind-next)
  order-told c =
      let w = next.going.under_way in
      order-next
      ∙ ap (λ ws. (writes_to code options.recover options.why next.going.done ++ says code event state)
      ++ (ws ++ behind-next))
      (ap (followed_by code options.recover options.why next.going.done event state next.goes w.same w.taken) c
      ∙ follows-told code options.recover options.why next.going.done event state next.goes w.same w.taken ledger
      w.book)

  pub got-said : (out : Option (List ℕ)) (of ef : ℕ) → Appends now.out out (prints code event state)
      → GotWrites (writes_to code options.recover options.why next.going.done ++ says code event state) old
      (sinks out of now.err ef)
  got-said out of ef a =
      let before = writes_to code options.recover options.why next.going.done in
      let got = got-now next.going in (
        subst (Appends old.out out) (ap (λ t. out_bytes before ++ t) (sym (says-out code event state))
            ∙ sym (out-append before (says code event state))) (Appends-trans _ _ _ _ _ got.0 a),
        subst (Appends old.err now.err) (sym (append-nil (err_bytes before))
            ∙ ap (λ t. err_bytes before ++ t) (sym (says-err code event state))
            ∙ sym (err-append before (says code event state))) got.1,
      )

-- answers that are errors
pub memory-stopped : (r : Result Course RunFault) (code : Code) (options : RunOptions) (old new : Sinks) → IsErr r
    → IsErrAnd r (λ e. e ≡ faults.Memory) → WasStopped (writes_of code options) old new → HasGone r code options old new
memory-stopped (Ok x) code options old new i a w = cc
memory-stopped (Err faults.Write) code options old new i a w = cc
memory-stopped (Err faults.Memory) code options old new i a w = w

pub broken : (r : Result Course RunFault) (code : Code) (options : RunOptions) (old new : Sinks) → IsErr r
    → IsErrAnd r (λ e. e ≡ faults.Write) → WasCut (writes_of code options) old new → HasGone r code options old new
broken (Ok x) code options old new i a w = cc
broken (Err faults.Write) code options old new i a w = w
broken (Err faults.Memory) code options old new i a w = cc

-- the run before its first event
pub begins : {code : Code} {recover why : Bool} {state : State} {book : Book} {totals : Totals} {old : Sinks}
    → state ≡ start code → book ≡ new_book → totals ≡ totals_of []
    → IsUnderWay code recover why [] state book totals old old
unfolding at stops_to reports_to real_at real_stops_to real_book_to told_to
begins {code} {state = state} {old = old} is none nothing = record {
  same = sym is;
  leads = subst (Leads code) (sym is) Leads.Start;
  taken = ap (λ (s : State). s.output) is;
  book = none;
  counted = record {
    collections = ap (λ (b : Book). b.collections) none;
    reported = ap (λ (b : Book). length b.reported) none;
    reclaimed = ap (λ (b : Book). length b.reclaimed) none;
  };
  summed = nothing;
  few = (let n = ap (λ (b : Book). b.collections) none in omega (arith, n));
  left = subst (λ (b : Book). HasLeft (numbers b.reclaimed) state) (sym none)
      (subst (HasLeft []) (sym is) (start-left code));
  out = Appends-nil old.out;
  err = Appends-nil old.err;
}

-- these writes of the run come next, those before them are whole, and no write has failed
pub record StandsBefore (code : Code) (options : RunOptions) (next : List Write) (old now : Sinks) : Type 0 where
  pub done : List Write
  pub more : List Write
  pub order : writes_of code options ≡ done ++ (next ++ more)
  pub got : GotWrites done old now
  pub steady : IsSteady old now

-- the report of a collection on this state was not told to its end
pub record FailsToTell (recover sets why : Bool) (book : Book) (told : State) (e : RunFault) (now : Sinks)
    (err : Option (List ℕ)) (ef : ℕ) : Type 0 where
  pub outcome : Result Totals RunFault
  pub state : State
  pub later : State
  pub next : Book
  pub was : outcome ≡ Err e
  pub stands : state ≡ told
  pub has_told : HasTold recover sets why outcome state later book next now.err err now.err_faults ef

-- that stops the run
pub tell-stopped : {recover sets why : Bool} {book : Book} {told : State} {e : RunFault} {code : Code}
    {options : RunOptions} {old now : Sinks} {err : Option (List ℕ)} {ef : ℕ} (result : Result Course RunFault)
    → IsErr result → IsErrAnd result (λ x. x ≡ e)
    → StandsBefore code options (line_writes (told_by recover sets why book told)) old now
    → FailsToTell recover sets why book told e now err ef
    → HasGone result code options old (sinks now.out now.out_faults err ef)
tell-stopped {recover} {sets} {why} {book} {told} {e = faults.Write} {code = code} {options = options} {old = old}
    {now = now} {err = err} {ef = ef} result failed same b f =
    let left = subst (λ x. HasTold recover sets why x f.state f.later book f.next now.err err now.err_faults ef) f.was
    f.has_told in
    broken result code options old _ failed same
    (lines-cut (writes_of code options) b.done b.more
    (told_by recover sets why book told) b.order old now b.got err ef
    (subst (λ x. IsCutIn (told_by recover sets why book x) now.err err) f.stands left.0) b.steady.out
    (subst (λ n. Rose n ef) b.steady.err left.1))
tell-stopped {recover} {sets} {why} {book} {told} {e = faults.Memory} {code = code} {options = options} {old = old}
    {now = now} {err = err} {ef = ef} result failed same b f =
    let left = subst (λ x. HasTold recover sets why x f.state f.later book f.next now.err err now.err_faults ef) f.was
    f.has_told in
    memory-stopped result code options old _ failed same
    (lines-stopped (writes_of code options) b.done b.more
    (told_by recover sets why book told) b.order old now b.got err ef
    (subst (λ x. IsStoppedIn (told_by recover sets why book x) now.err err) f.stands left.0) b.steady.out
    (left.1 ∙ b.steady.err))

-- an event in this state did not come about
pub record FailsToTurn (code : Code) (event : Event) (s : State) (e : RunFault) (now : Sinks) (out : Option (List ℕ))
    (of : ℕ) : Type 0 where
  pub after : State
  pub failed : HasTurned (Err e) code event s after now.out out now.out_faults of

-- that stops it too
pub turn-stopped : {code : Code} {options : RunOptions} {event : Event} {s : State} {e : RunFault} {old now : Sinks}
    {out : Option (List ℕ)} {of : ℕ} (result : Result Course RunFault) → IsErr result → IsErrAnd result (λ x. x ≡ e)
    → StandsBefore code options (says code event s) old now → FailsToTurn code event s e now out of
    → HasGone result code options old (sinks out of now.err now.err_faults)
turn-stopped {code} {options} {event = Event.Turn c} {s = s} {e = faults.Write} {old = old} {now = now} {out = out}
    {of = of} result failed same b f =
    broken result code options old _ failed same
    (out-cut (writes_of code options) b.done b.more old now b.got
    (step code s c).output b.order out of now.err_faults f.failed.0
    (subst (λ n. Rose n of) b.steady.out f.failed.1) b.steady.err)
turn-stopped {code} {options} {event = Event.Turn c} {s = s} {e = faults.Memory} {old = old} {now = now} {out = out}
    {of = of} result failed same b f =
    let here : sinks out of now.err now.err_faults ≡ now =
    λ i. sinks (f.failed.0 i) (f.failed.1 i) now.err now.err_faults in
    let stands : WasStopped (writes_of code options) old now =
    record {
      done = b.done;
      later = says code (Event.Turn c) s ++ b.more;
      order = b.order;
      got = b.got;
      steady = b.steady;
    } in
    memory-stopped result code options old _ failed same
    (subst (WasStopped (writes_of code options) old) (sym here) stands)
turn-stopped {event = Event.Collect} {e = faults.Write} result failed same b f = absurd f.failed
turn-stopped {event = Event.Collect} {e = faults.Memory} result failed same b f = absurd f.failed
