-- A run that tells its turns goes on from one event to the next.
-- For: `go_over` and `trace`, src/traced_run.rt; `HasGoneTraced`, specs/Traced.antt
-- By: cases of the event, and whether a collection follows; no induction
use Rattle.std.proofs.Common.{◌≡◌, ℕ, ◌+◌, ◌-◌, ◌^◌, ◌<◌, Bool, true, false, not, ◌==◌, cond, List, [], ◌∷◌, ◌++◌}
use Rattle.std.proofs.Common.{Option, Some, None}
use Rattle.std.proofs.Common.{refl, sym, ap, subst, ◌∙◌, append_assoc, append-nil, ◌⊎◌, inl, inr}
use Rattle.std.specs.Prelude.{is_some, Result, Ok, Err, IsErr, IsErrAnd}
use Rattle.std.specs.Io.KnownBytes.{Appends}
use Rattle.std.proofs.KnownBytes.{Appends-trans, Appends-nil}
use Rattle.golf_base.specs.Causes.{Rose, WritesPrefix}
use Rattle.golf_data.specs.declared.code.Code.{Code}
use Rattle.golf_data.specs.declared.report.Book.{Book}
use Rattle.golf_model.specs.State.{State, start, ending}
use Rattle.golf_model.specs.Turn.{step}
use Rattle.golf_model.specs.Collections.{sets_finalisers}
use Rattle.golf_model.specs.Runs.{Event}
use Rattle.golf_model.specs.Reports.{new_book}
use Rattle.golf_run_schedules.specs.declared.options.RunOptions.{RunOptions}
use Rattle.golf_run_schedules.specs.Events.{events, turns_among}
use Rattle.golf_run_texts.specs.declared.totals.Totals.{Totals}
use Rattle.golf_run_texts.specs.declared.status.Status.{Status}
use Rattle.golf_run_texts.specs.Texts.{last_line}
use Rattle.golf_run_texts.specs.Output.{events_of, end_of, status_by}
use Rattle.golf_run_texts.specs.Writes.{Write, out_bytes, err_bytes}
use Rattle.golf_run_texts.proofs.Writings.{out-append, err-append}
use Rattle.golf_run.specs.declared.fault.RunFault.{RunFault}
use Rattle.golf_run.specs.declared.fault.RunFault.TheVariants as faults
use Rattle.golf_run.specs.declared.turns.Course.{Course}
use Rattle.golf_run.specs.OneEvent.{turned, prints, says, collects, HasTurned}
use Rattle.golf_run.specs.HasRun.{Sinks, sinks, GotWrites, IsSteady, WasCut, WasStopped}
use Rattle.golf_run.specs.UnderWay.{IsGoing}
use Rattle.golf_run.specs.TraceWrites.{book_if, totals_if, state_if, event_text, traced_from, event_traces_of}
use Rattle.golf_run.specs.TraceWrites.{traces_of, HasTraced}
use Rattle.golf_run.specs.Traced.{ComesNext, nowhere, TracedThrough, HasGoneTraced}
use Rattle.golf_run.proofs.Cutting.{says-out, says-err, out-cut, err-cut}
use Rattle.golf_run.proofs.Ending.{IsNext, went}
use Rattle.golf_run.proofs.Stepping.{going-quiet, going-loud}
use Rattle.golf_run.proofs.Finishing.{status-is}

-- the run is under way, these writes are done, and those of the events that are left are still to come
pub record IsTracing (code : Code) (options : RunOptions) (left : List Event) (given : ℕ) (state : State) (book : Book)
    (totals : Totals) (old now : Sinks) : Type 0 where
  pub going : IsGoing code options left given state book totals nowhere nowhere
  pub done : List Write
  pub order : event_traces_of code options
      ≡ done ++ traced_from code options.recover options.why given book state left
  pub got : GotWrites done old now
  pub steady : IsSteady old now

-- before the first event all writes are still to come
pub begun : (code : Code) (options : RunOptions) (left : List Event) (given : ℕ) (state : State) (book : Book)
    → left ≡ events options.schedule options.turns options.every → given ≡ 0 → state ≡ start code → book ≡ new_book
    → event_traces_of code options ≡ traced_from code options.recover options.why given book state left
unfolding event_traces_of events_of
begun code options left given state book are none is empty =
    sym (λ i. traced_from code options.recover options.why (none i) (empty i) (is i) (are i))

-- what an event printed is written too
module _ (code : Code) (e : Event) (s : State) (done : List Write) (old now : Sinks)
    (got : GotWrites done old now) where
  pub got-says : (out : Option (List ℕ)) (of ef : ℕ) → Appends now.out out (prints code e s)
      → GotWrites (done ++ says code e s) old (sinks out of now.err ef)
  got-says out of ef a = (
    subst (Appends old.out out) (ap (λ t. out_bytes done ++ t) (sym (says-out code e s))
        ∙ sym (out-append done (says code e s))) (Appends-trans _ _ _ _ _ got.0 a),
    subst (Appends old.err now.err) (sym (append-nil (err_bytes done))
        ∙ ap (λ t. err_bytes done ++ t) (sym (says-err code e s))
        ∙ sym (err-append done (says code e s))) got.1,
  )

-- a text is written too
pub got-text : (text : List ℕ) (done : List Write) (old now : Sinks) → GotWrites done old now → (err : Option (List ℕ))
    (of ef : ℕ) → Appends now.err err text → GotWrites (done ++ Write.ToErr text ∷ []) old (sinks now.out of err ef)
got-text text done old now got err of ef a = (
  subst (Appends old.out now.out) (sym (append-nil (out_bytes done)) ∙ sym (out-append done (Write.ToErr text ∷ [])))
      got.0,
  subst (Appends old.err err) (ap (λ t. err_bytes done ++ t) (sym (append-nil text))
      ∙ sym (err-append done (Write.ToErr text ∷ []))) (Appends-trans _ _ _ _ _ got.1 a),
)

-- an event comes next
module _ {code : Code} {options : RunOptions} {e : Event} {before after : List Event} {given more : ℕ} {state : State}
    {book : Book} {totals : Totals} {old now : Sinks}
    (t : IsTracing code options before given state book totals old now)
    (comes : ComesNext (Some e) state before after given more) where
  pub next : IsNext code options e after more state book totals nowhere nowhere
  next = record {
    count = given;
    going = subst (λ es. IsGoing code options es given state book totals nowhere nowhere) comes.1 t.going;
    goes = comes.0;
    counted = comes.2;
  }

  abbrev pub text : List ℕ
  text = event_text code options.recover options.why more book state e

  abbrev pub then_state : State
  then_state = state_if options.recover (sets_finalisers code) (collects code e state) (turned code e state)

  abbrev pub then_book : Book
  then_book = book_if options.recover (sets_finalisers code) (collects code e state) book (turned code e state)

  abbrev pub rest : List Write
  rest = traced_from code options.recover options.why more then_book then_state after

  abbrev pub last : List Write
  last = Write.ToErr (end_of code options) ∷ []

  -- its output comes next, then its text, and then the rest
  pub event-order : event_traces_of code options ≡ (t.done ++ says code e state) ++ Write.ToErr text ∷ rest
  event-order =
      t.order ∙ ap (λ es. t.done ++ traced_from code options.recover options.why given book state es) comes.1
      ∙ ap (λ b. t.done ++ cond b [] (says code e state
      ++ Write.ToErr (event_text code options.recover options.why (given + turns_among (e ∷ [])) book state e)
      ∷ traced_from code options.recover options.why (given + turns_among (e ∷ [])) then_book then_state after))
      (ap is_some comes.0)
      ∙ ap (λ n. t.done ++ (says code e state
      ++ Write.ToErr (event_text code options.recover options.why n book state e)
      ∷ traced_from code options.recover options.why n then_book then_state after)) (sym comes.2)
      ∙ sym (append_assoc t.done (says code e state) (Write.ToErr text ∷ rest))

  pub whole-order : traces_of code options ≡ (t.done ++ says code e state) ++ Write.ToErr text ∷ (rest ++ last)
  unfolding traces_of
  whole-order = ap (λ ws. ws ++ last) event-order
      ∙ append_assoc (t.done ++ says code e state) (Write.ToErr text ∷ rest) last

  output-order : traces_of code options ≡ t.done ++ (says code e state ++ Write.ToErr text ∷ (rest ++ last))
  output-order = whole-order ∙ append_assoc t.done (says code e state) (Write.ToErr text ∷ (rest ++ last))

  -- the state, the book and the totals after the event
  totals_then : Bool → Totals
  totals_then b = totals_if options.recover (sets_finalisers code) b book totals (turned code e state)

  pub goes-on : (b : Bool) → b ≡ collects code e state
      → IsGoing code options after more (state_if options.recover (sets_finalisers code) b (turned code e state))
      (book_if options.recover (sets_finalisers code) b book (turned code e state))
      (totals_if options.recover (sets_finalisers code) b book totals (turned code e state)) nowhere nowhere
  goes-on true h = going-loud next {out = None} {err = None} refl tt (sym h) refl refl refl tt
  goes-on false h = going-quiet next {out = None} tt (sym h)

  -- the event failed
  pub event-failed : (fault : RunFault) (later : State) (out : Option (List ℕ)) (of : ℕ)
      → HasTurned (Err fault) code e state later now.out out now.out_faults of → (result : Result Course RunFault)
      → IsErr result → IsErrAnd result (λ x. x ≡ fault)
      → HasGoneTraced result code options old (sinks out of now.err now.err_faults)
  event-failed fault later out of h result failed same =
      by fault e h (Write.ToErr text ∷ (rest ++ last)) output-order result failed same
    where
      by : (fault : RunFault) (e : Event) → HasTurned (Err fault) code e state later now.out out now.out_faults of
          → (more_writes : List Write) → traces_of code options ≡ t.done ++ (says code e state ++ more_writes)
          → (result : Result Course RunFault) → IsErr result → IsErrAnd result (λ x. x ≡ fault)
          → HasGoneTraced result code options old (sinks out of now.err now.err_faults)
      by fault e h w order (Ok x) i a = cc
      by faults.Write (Event.Turn c) h w order (Err faults.Write) i a =
          out-cut (traces_of code options) t.done w old now t.got (step code state c).output order out of now.err_faults
          h.0 (subst (λ n. Rose n of) t.steady.out h.1) t.steady.err
      by faults.Memory (Event.Turn c) h w order (Err faults.Memory) i a =
          let here : sinks out of now.err now.err_faults ≡ now =
          λ i. sinks (h.0 i) (h.1 i) now.err now.err_faults in
          subst (WasStopped (traces_of code options) old) (sym here) (record {
            done = t.done;
            later = says code (Event.Turn c) state ++ w;
            order = order;
            got = t.got;
            steady = t.steady;
          })
      by faults.Write (Event.Turn c) h w order (Err faults.Memory) i a = cc
      by faults.Memory (Event.Turn c) h w order (Err faults.Write) i a = cc
      by faults.Write Event.Collect h w order (Err x) i a = absurd h
      by faults.Memory Event.Collect h w order (Err x) i a = absurd h

  -- the event happened, and its output was written
  module _ (out : Option (List ℕ)) (of : ℕ) (a : Appends now.out out (prints code e state))
      (calm : of ≡ now.out_faults) where
    steady-out : IsSteady old (sinks out of now.err now.err_faults)
    steady-out = record { out = calm ∙ t.steady.out; err = t.steady.err }

    -- memory ran out for its text
    pub text-stopped : (result : Result Course RunFault) → IsErr result → IsErrAnd result (λ x. x ≡ faults.Memory)
        → HasGoneTraced result code options old (sinks out of now.err now.err_faults)
    text-stopped (Ok x) i h = cc
    text-stopped (Err faults.Write) i h = cc
    text-stopped (Err faults.Memory) i h = record {
      done = t.done ++ says code e state;
      later = Write.ToErr text ∷ (rest ++ last);
      order = whole-order;
      got = got-says code e state t.done old now t.got out of now.err_faults a;
      steady = steady-out;
    }

    module _ (err : Option (List ℕ)) (ef : ℕ) (piece : List ℕ) (is : piece ≡ text) where
      -- the write of its text was cut
      pub text-cut : WritesPrefix now.err err piece → Rose now.err_faults ef → (result : Result Course RunFault)
          → IsErr result → IsErrAnd result (λ x. x ≡ faults.Write)
          → HasGoneTraced result code options old (sinks out of err ef)
      text-cut prefix rose (Ok x) i h = cc
      text-cut prefix rose (Err faults.Memory) i h = cc
      text-cut prefix rose (Err faults.Write) i h =
          err-cut (traces_of code options) (t.done ++ says code e state) (rest ++ last) old
          (sinks out of now.err now.err_faults)
          (got-says code e state t.done old now t.got out of now.err_faults a) text whole-order
          err of ef (subst (WritesPrefix now.err err) is prefix) (calm ∙ t.steady.out)
          (subst (λ n. Rose n ef) t.steady.err rose)

      -- its text was written
      pub traced-on : {b : Bool} {after_state : State} {after_book : Book} {after_totals : Totals}
          → Appends now.err err piece → ef ≡ now.err_faults → b ≡ collects code e state
          → after_state ≡ state_if options.recover (sets_finalisers code) b (turned code e state)
          → after_book ≡ book_if options.recover (sets_finalisers code) b book (turned code e state)
          → after_totals ≡ totals_if options.recover (sets_finalisers code) b book totals (turned code e state)
          → IsTracing code options after more after_state after_book after_totals old (sinks out of err ef)
      traced-on {b} appends quiet wants state-is book-is totals-is = record {
        going = subst (λ (x : State × (Book × Totals)). IsGoing code options after more x.0 x.1.0 x.1.1 nowhere nowhere)
            (λ i. (sym state-is i, (sym book-is i, sym totals-is i))) (goes-on b wants);
        done = (t.done ++ says code e state) ++ Write.ToErr text ∷ [];
        order = event-order
            ∙ sym (append_assoc (t.done ++ says code e state) (Write.ToErr text ∷ []) rest)
            ∙ ap (λ (x : State × Book). ((t.done ++ says code e state) ++ Write.ToErr text ∷ [])
            ++ traced_from code options.recover options.why more x.1 x.0 after)
            (λ i. (
              (ap (λ c. state_if options.recover (sets_finalisers code) c (turned code e state)) (sym wants)
                  ∙ sym state-is) i,
              (ap (λ c. book_if options.recover (sets_finalisers code) c book (turned code e state)) (sym wants)
                  ∙ sym book-is) i,
            ));
        got = got-text text (t.done ++ says code e state) old (sinks out of now.err now.err_faults)
            (got-says code e state t.done old now t.got out of now.err_faults a) err of ef
            (subst (Appends now.err err) is appends);
        steady = record { out = calm ∙ t.steady.out; err = quiet ∙ t.steady.err };
      }

ended-none : (b : Bool) (ws : List Write) → b ≡ true → cond b [] ws ≡ []
ended-none true ws h = refl
ended-none false ws h = cc

-- no event comes next
pub traced-through : {code : Code} {options : RunOptions} {before after : List Event} {given more : ℕ} {state : State}
    {book : Book} {totals : Totals} {old now : Sinks}
    (t : IsTracing code options before given state book totals old now) → ComesNext None state before after given more
    → (course : Course) → course.turns ≡ more → course.ending ≡ ending state → course.totals ≡ totals
    → TracedThrough course code options old now
traced-through {code} {options} {before} {after} {state = state} {book = book} {totals = totals} {old} {now} t none
    course turns ends sum = record {
      went = went t.going over course (turns ∙ none.2) ends sum (record { out = refl; err = refl });
      got = subst (λ ws. GotWrites ws old now) (sym (all ∙ append-nil t.done)) t.got;
      steady = t.steady;
    }
  where
    over : (is_some (ending state) ≡ true) ⊎ (before ≡ [])
    over = elim none.0 [
      | inl e ↦ inl e
      | inr e ↦ inr (sym none.1 ∙ e)
    ]

    nothing-left : (es : List Event) (n : ℕ) → (is_some (ending state) ≡ true) ⊎ (es ≡ [])
        → traced_from code options.recover options.why n book state es ≡ []
    nothing-left [] n h = refl
    nothing-left (e ∷ es) n (inl h) = ended-none (is_some (ending state)) _ h
    nothing-left (e ∷ es) n (inr h) = cc

    all : event_traces_of code options ≡ t.done ++ []
    all = t.order ∙ ap (λ ws. t.done ++ ws) (nothing-left before _ over)

-- ---- the last line

module _ (course : Course) (code : Code) (options : RunOptions) (old now : Sinks)
    (w : TracedThrough course code options old now) where
  -- memory ran out for it
  pub last-memory : (r : Result Status RunFault) → IsErr r → IsErrAnd r (λ e. e ≡ faults.Memory)
      → HasTraced r code options old now
  unfolding traces_of
  last-memory (Ok x) i a = cc
  last-memory (Err faults.Write) i a = cc
  last-memory (Err faults.Memory) i a = record {
    done = event_traces_of code options;
    later = Write.ToErr (end_of code options) ∷ [];
    order = refl;
    got = w.got;
    steady = w.steady;
  }

  module _ (line : List ℕ) (is : line ≡ last_line code.texts course.turns course.ending) (err : Option (List ℕ))
      (ef : ℕ) where
    -- its write failed
    pub last-broken : (r : Result Status RunFault) → IsErr r → IsErrAnd r (λ e. e ≡ faults.Write)
        → WritesPrefix now.err err line → Rose now.err_faults ef
        → HasTraced r code options old (sinks now.out now.out_faults err ef)
    unfolding traces_of
    last-broken (Ok x) i a f rose = cc
    last-broken (Err faults.Memory) i a f rose = cc
    last-broken (Err faults.Write) i a f rose =
        err-cut (event_traces_of code options ++ Write.ToErr (end_of code options) ∷ []) (event_traces_of code options)
        [] old now w.got (end_of code options) refl err now.out_faults ef
        (subst (WritesPrefix now.err err) (is ∙ w.went.line) f) w.steady.out
        (subst (λ n. Rose n ef) w.steady.err rose)

    -- all is written
    pub last-whole : (answer : Status) → answer ≡ status_by (not (course.totals.reported == 0)) course.ending
        → Appends now.err err line → ef ≡ now.err_faults
        → HasTraced (Ok answer) code options old (sinks now.out now.out_faults err ef)
    unfolding traces_of
    last-whole answer e a steady = (
      status-is course code options nowhere nowhere w.went answer e,
      got-text (end_of code options) (event_traces_of code options) old now w.got err now.out_faults ef
          (subst (Appends now.err err) (is ∙ w.went.line) a),
      record { out = w.steady.out; err = steady ∙ w.steady.err },
    )
