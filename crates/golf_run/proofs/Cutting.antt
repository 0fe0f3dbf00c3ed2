-- What was written if the writes of a run were cut, or stopped.
-- For: `WasCut` and `WasStopped`, specs/HasRun.antt; `writes_of`, golf_run_texts/specs/Writes.antt
-- By: cases of the event, and of the sink that was cut; for lines, induction over their list
use Rattle.std.proofs.Common.{◌≡◌, ℕ, Bool, true, false, List, [], ◌∷◌, ◌++◌, refl, sym, ap, subst, ◌∙◌, append_assoc}
use Rattle.std.proofs.Common.{append-nil}
use Rattle.std.specs.Prelude.{Option, None}
use Rattle.std.specs.Io.KnownBytes.{Appends}
use Rattle.std.proofs.KnownBytes.{Appends-trans}
use Rattle.golf_base.specs.Causes.{Rose, WritesPrefix}
use Rattle.golf_data.specs.declared.code.Code.{Code}
use Rattle.golf_data.specs.declared.report.Book.{Book}
use Rattle.golf_model.specs.State.{State, start, ending}
use Rattle.golf_model.specs.Turn.{step}
use Rattle.golf_model.specs.Collections.{sets_finalisers}
use Rattle.golf_model.specs.Runs.{Event, has_ended, stop_in, stop_if}
use Rattle.golf_model.specs.Reports.{new_book, report}
use Rattle.golf_run_schedules.specs.declared.options.RunOptions.{RunOptions}
use Rattle.golf_run_texts.specs.Output.{events_of, joined, end_of}
use Rattle.golf_run_texts.specs.Writes.{Write, out_bytes, err_bytes, emptied, told_lines, line_writes, prints_in}
use Rattle.golf_run_texts.specs.Writes.{collection_writes, writes_in, writes_from, event_writes_of, writes_of}
use Rattle.golf_model_futures.specs.EarlierOutput.{prefixed}
use Rattle.golf_run.specs.Lines.{IsCutIn, IsStoppedIn}
use Rattle.golf_run.specs.Told.{told, told_by}
use Rattle.golf_run.specs.OneEvent.{turned, prints, says, collects}
use Rattle.golf_run.specs.HasRun.{Sinks, sinks, GotWrites, WasCut, WasStopped}
use Rattle.golf_run.specs.UnderWay.{at, told_to, writes_to, collecting, real_at, real_stops_to, real_book_to}
use Rattle.golf_run_texts.proofs.Writings.{out-append, err-append}
use Rattle.golf_run.proofs.Writing.{lines-out, lines-err, writes-append, writes-out, writes-err}
use Rattle.golf_run.proofs.Printed.{told-prefixed}
use Rattle.golf_run.proofs.Real.{same-output}
use Rattle.golf_run.proofs.Goings.{placed, stopped, going}

-- ---- what the events done write

module _ (code : Code) (recover why : Bool) (done : List Event) where
  pub out-done : out_bytes (writes_to code recover why done) ≡ (at code done).output
  unfolding writes_to real_at
  out-done = writes-out code recover (sets_finalisers code) why done new_book (start code)
      ∙ sym (same-output code recover done)

  pub err-done : err_bytes (writes_to code recover why done) ≡ told_to code recover why done
  unfolding writes_to told_to real_stops_to
  err-done = writes-err code recover (sets_finalisers code) why done new_book (start code)

module _ (code : Code) (options : RunOptions) (done rest : List Event) (split : events_of options ≡ done ++ rest) where
  -- the writes of those after them
  abbrev pub later_writes : List Write
  later_writes = writes_from code options.recover (sets_finalisers code) options.why
      (real_book_to code options.recover done) (real_at code options.recover done) rest

  abbrev pub behind : List Write
  behind = later_writes ++ Write.ToErr (end_of code options) ∷ []

  pub events-split : event_writes_of code options ≡ writes_to code options.recover options.why done ++ later_writes
  unfolding event_writes_of writes_to real_book_to real_stops_to real_at
  events-split =
      let sets = sets_finalisers code in
      ap (λ es. writes_from code options.recover sets options.why new_book (start code) es) split
      ∙ writes-append code options.recover sets options.why done rest new_book (start code)

  pub writes-split : writes_of code options ≡ writes_to code options.recover options.why done ++ behind
  unfolding writes_of
  writes-split = ap (λ ws. ws ++ Write.ToErr (end_of code options) ∷ []) events-split
      ∙ append_assoc (writes_to code options.recover options.why done) later_writes
      (Write.ToErr (end_of code options) ∷ [])

-- ---- one event more

emptied-same : (s : State) → s.output ≡ [] → emptied s ≡ s
emptied-same s h = ap (λ (o : List ℕ). record s { output = o }) (sym h)

pub says-out : (code : Code) (e : Event) (s : State) → out_bytes (says code e s) ≡ prints code e s
says-out code (Event.Turn c) s = append-nil (step code s c).output
says-out code Event.Collect s = refl

pub says-err : (code : Code) (e : Event) (s : State) → err_bytes (says code e s) ≡ []
says-err code (Event.Turn c) s = refl
says-err code Event.Collect s = refl

said-by : (code : Code) (e : Event) (m s : State) → emptied m ≡ s → prints_in code m e ≡ says code e s
said-by code (Event.Turn c) m s h = ap (λ t. Write.ToOut (step code t c).output ∷ []) h
said-by code Event.Collect m s h = refl

module _ (code : Code) (recover why : Bool) (done : List Event) (e : Event) (state : State) (goes : ending state ≡ None)
    (same : real_at code recover done ≡ prefixed (real_at code recover done).output state)
    (taken : state.output ≡ []) where
  abbrev machine : State
  machine = real_at code recover done

  -- the writes of the collection that follows it
  abbrev pub followed_by : Bool → List Write
  followed_by b = collection_writes code recover (sets_finalisers code) why (real_book_to code recover done)
      (stop_if (collecting code recover) code b
      (placed code (collecting code recover) machine.output state machine same e))

  said : prints_in code machine e ≡ says code e state
  said = said-by code e machine state (ap emptied same ∙ emptied-same state taken)

  pub writes-next : writes_to code recover why (done ++ e ∷ []) ≡ (writes_to code recover why done ++ says code e state)
      ++ followed_by (collects code e state)
  unfolding writes_to real_book_to real_stops_to real_at
  writes-next =
      let sets = sets_finalisers code in
      let m = real_at code recover done in
      let book = real_book_to code recover done in
      writes-append code recover sets why done (e ∷ []) new_book (start code)
      ∙ ap (λ ws. writes_to code recover why done ++ ws)
      (append-nil (writes_in code recover sets why (has_ended m) book m e)
      ∙ ap (λ b. writes_in code recover sets why b book m e) (going code recover done e state goes same taken)
      ∙ ap (λ ws. ws ++ collection_writes code recover sets why book (stop_in (collecting code recover) code false m e))
      said
      ∙ ap (λ ps. says code e state ++ collection_writes code recover sets why book ps)
      (stopped code (collecting code recover) m.output state m same e))
      ∙ sym (append_assoc (writes_to code recover why done) (says code e state) (followed_by (collects code e state)))

  -- the collection's lines are those of the state in memory
  pub follows-told : (book : Book) → book ≡ real_book_to code recover done
      → followed_by true ≡ line_writes (told_by recover (sets_finalisers code) why book (turned code e state))
  unfolding told told_by
  follows-told book is =
      let sets = sets_finalisers code in
      let t = turned code e state in
      let w : List ℕ = machine.output ++ prints code e state in
      append-nil (line_writes (told_lines why (report recover sets (real_book_to code recover done) (prefixed w t))
      (prefixed w t)))
      ∙ ap line_writes (ap (λ b. told_by recover sets why b (prefixed w t)) (sym is)
      ∙ told-prefixed w t recover sets book why)

-- ---- writes that were cut

module _ (writes done later : List Write) (old now : Sinks) (got : GotWrites done old now) where
  pub out-cut : (bytes : List ℕ) → writes ≡ done ++ Write.ToOut bytes ∷ later → (out : Option (List ℕ)) (of ef : ℕ)
      → WritesPrefix now.out out bytes → Rose old.out_faults of → ef ≡ old.err_faults
      → WasCut writes old (sinks out of now.err ef)
  out-cut bytes order out of ef f rose steady = record {
    done = done;
    cut = Write.ToOut bytes;
    prefix = Write.ToOut f.0;
    later = later;
    order = order;
    is_prefix = (f.1, f.2);
    got = (
      subst (Appends old.out out) (ap (λ t. out_bytes done ++ t) (sym (append-nil f.0))
          ∙ sym (out-append done (Write.ToOut f.0 ∷ []))) (Appends-trans _ _ _ _ _ got.0 f.3),
      subst (Appends old.err now.err) (sym (append-nil (err_bytes done)) ∙ sym (err-append done (Write.ToOut f.0 ∷ [])))
          got.1,
    );
    failed = (rose, steady);
  }

  pub err-cut : (bytes : List ℕ) → writes ≡ done ++ Write.ToErr bytes ∷ later → (err : Option (List ℕ)) (of ef : ℕ)
      → WritesPrefix now.err err bytes → of ≡ old.out_faults → Rose old.err_faults ef
      → WasCut writes old (sinks now.out of err ef)
  err-cut bytes order err of ef f steady rose = record {
    done = done;
    cut = Write.ToErr bytes;
    prefix = Write.ToErr f.0;
    later = later;
    order = order;
    is_prefix = (f.1, f.2);
    got = (
      subst (Appends old.out now.out) (sym (append-nil (out_bytes done)) ∙ sym (out-append done (Write.ToErr f.0 ∷ [])))
          got.0,
      subst (Appends old.err err) (ap (λ t. err_bytes done ++ t) (sym (append-nil f.0))
          ∙ sym (err-append done (Write.ToErr f.0 ∷ []))) (Appends-trans _ _ _ _ _ got.1 f.3),
    );
    failed = (steady, rose);
  }

-- ---- lines that were cut, or stopped

line-writes-append : (ls ms : List (List ℕ)) → line_writes (ls ++ ms) ≡ line_writes ls ++ line_writes ms
line-writes-append [] ms = refl
line-writes-append (l ∷ ls) ms = ap (λ ws. Write.ToErr l ∷ ws) (line-writes-append ls ms)

module _ (writes done later : List Write) (lines : List (List ℕ))
    (order : writes ≡ done ++ (line_writes lines ++ later)) (old now : Sinks) (got : GotWrites done old now) where
  -- these lines too
  pub got-lines : (ls : List (List ℕ)) (err : Option (List ℕ)) (of ef : ℕ) → Appends now.err err (joined ls)
      → GotWrites (done ++ line_writes ls) old (sinks now.out of err ef)
  got-lines ls err of ef a = (
    subst (Appends old.out now.out) (sym (append-nil (out_bytes done))
        ∙ ap (λ t. out_bytes done ++ t) (sym (lines-out ls)) ∙ sym (out-append done (line_writes ls))) got.0,
    subst (Appends old.err err) (ap (λ t. err_bytes done ++ t) (sym (lines-err ls))
        ∙ sym (err-append done (line_writes ls))) (Appends-trans _ _ _ _ _ got.1 a),
  )

  reorder : (ls : List (List ℕ)) (more : List Write) → line_writes lines ≡ line_writes ls ++ more
      → writes ≡ (done ++ line_writes ls) ++ (more ++ later)
  reorder ls more e = order ∙ ap (λ ws. done ++ (ws ++ later)) e
      ∙ ap (λ ws. done ++ ws) (append_assoc (line_writes ls) more later)
      ∙ sym (append_assoc done (line_writes ls) (more ++ later))

  pub lines-cut : (err : Option (List ℕ)) (ef : ℕ) → IsCutIn lines now.err err → now.out_faults ≡ old.out_faults
      → Rose old.err_faults ef → WasCut writes old (sinks now.out now.out_faults err ef)
  lines-cut err ef h steady rose =
      let before = line_writes h.done in
      record {
        done = done ++ before;
        cut = Write.ToErr h.cut;
        prefix = Write.ToErr h.prefix;
        later = line_writes h.later ++ later;
        order = reorder h.done (Write.ToErr h.cut ∷ line_writes h.later)
            (ap line_writes h.order ∙ line-writes-append h.done (h.cut ∷ h.later));
        is_prefix = (h.rest, h.is_prefix);
        got = (
          subst (Appends old.out now.out)
              (sym (append-nil (out_bytes done)) ∙ ap (λ t. out_bytes done ++ t) (sym (lines-out h.done))
              ∙ sym (out-append done before) ∙ sym (append-nil (out_bytes (done ++ before)))
              ∙ sym (out-append (done ++ before) (Write.ToErr h.prefix ∷ []))) got.0,
          subst (Appends old.err err)
              (sym (append_assoc (err_bytes done) (joined h.done) h.prefix)
              ∙ ap (λ t. (err_bytes done ++ t) ++ h.prefix) (sym (lines-err h.done))
              ∙ ap (λ t. t ++ h.prefix) (sym (err-append done before))
              ∙ ap (λ t. err_bytes (done ++ before) ++ t) (sym (append-nil h.prefix))
              ∙ sym (err-append (done ++ before) (Write.ToErr h.prefix ∷ [])))
              (Appends-trans _ _ _ _ _ got.1 h.got),
        );
        failed = (steady, rose);
      }

  pub lines-stopped : (err : Option (List ℕ)) (ef : ℕ) → IsStoppedIn lines now.err err → now.out_faults ≡ old.out_faults
      → ef ≡ old.err_faults → WasStopped writes old (sinks now.out now.out_faults err ef)
  lines-stopped err ef h out_steady err_steady = record {
    done = done ++ line_writes h.done;
    later = line_writes h.later ++ later;
    order = reorder h.done (line_writes h.later) (ap line_writes h.order ∙ line-writes-append h.done h.later);
    got = got-lines h.done err now.out_faults ef h.got;
    steady = record { out = out_steady; err = err_steady };
  }
