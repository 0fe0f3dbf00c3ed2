-- What the writes of a run come to, sink by sink.
-- For: `writes_from`, golf_run_texts/specs/Writes.antt; `stops_text`, specs/UnderWay.antt
-- By: induction over the list of events, and over the list of lines
use Rattle.std.proofs.Common.{◌≡◌, ℕ, Bool, true, false, List, [], ◌∷◌, ◌++◌, map, refl, sym, ap, ◌∙◌, append_assoc}
use Rattle.std.proofs.Common.{append-nil}
use Rattle.golf_data.specs.declared.code.Code.{Code}
use Rattle.golf_data.specs.declared.report.Book.{Book}
use Rattle.golf_data.specs.declared.report.Entry.{Entry}
use Rattle.golf_data.specs.declared.report.Report.{Report}
use Rattle.golf_model.specs.State.{State, start}
use Rattle.golf_model.specs.Turn.{step, wants_collection}
use Rattle.golf_model.specs.Collections.{sets_finalisers}
use Rattle.golf_model.specs.Runs.{Event, has_ended, collected_if, happens_in, happens_by, run_by, stop_in, stops_by}
use Rattle.golf_model.specs.Reports.{report, reports_from, book_after, new_book}
use Rattle.golf_run_schedules.specs.declared.options.RunOptions.{RunOptions}
use Rattle.golf_run_texts.specs.Texts.{entry_line, entry_lines, report_line, report_lines, report_text}
use Rattle.golf_run_texts.specs.Output.{events_of, out_of, last_of, reports_of, real_stops_of, why_lines, joined}
use Rattle.golf_run_texts.specs.Output.{collections_text, end_of, err_of}
use Rattle.golf_run_texts.specs.Writes.{Write, out_bytes, err_bytes, emptied, freeing, books, told_lines, line_writes}
use Rattle.golf_run_texts.specs.Writes.{prints_in, collection_writes, writes_in, writes_from, event_writes_of}
use Rattle.golf_run_texts.specs.Writes.{writes_of}
use Rattle.golf_run_texts.proofs.Writings.{out-append, err-append}
use Rattle.golf_model_futures.specs.EarlierOutput.{prefixed}
use Rattle.golf_model_futures.proofs.Printing.{step-prefixed}
use Rattle.golf_model_futures.proofs.RealRuns.{real-runs}
use Rattle.golf_run.specs.UnderWay.{stops_text}
use Rattle.golf_run.proofs.Appending.{books-append}
use Rattle.golf_run.proofs.Printed.{collect-prefixed}

-- ---- lists of writes and of lines

pub lines-out : (ls : List (List ℕ)) → out_bytes (line_writes ls) ≡ []
lines-out [] = refl
lines-out (l ∷ ls) = lines-out ls

pub lines-err : (ls : List (List ℕ)) → err_bytes (line_writes ls) ≡ joined ls
lines-err [] = refl
lines-err (l ∷ ls) = ap (λ t. l ++ t) (lines-err ls)

pub joined-append : (ls ms : List (List ℕ)) → joined (ls ++ ms) ≡ joined ls ++ joined ms
joined-append [] ms = refl
joined-append (l ∷ ls) ms = ap (λ t. l ++ t) (joined-append ls ms) ∙ sym (append_assoc l (joined ls) (joined ms))

entries-joined : (es : List Entry) → joined (map entry_line es) ≡ entry_lines es
entries-joined [] = refl
entries-joined (e ∷ es) = ap (λ t. entry_line e ++ t) (entries-joined es)

report-joined : (r : Report) → joined (report_lines r) ≡ report_text r
report-joined r = ap (λ t. report_line r ++ t) (entries-joined r.reported)

-- ---- what was printed before

-- a state, and what it has printed
whole : (s : State) → s ≡ prefixed s.output (emptied s)
whole s = ap (λ (w : List ℕ). record s { output = w }) (sym (append-nil s.output))

module _ (code : Code) (recover sets : Bool) where
  abbrev collect : State → State
  collect s = freeing recover sets s

  collected-apart : (b : Bool) (w : List ℕ) (s : State)
      → collected_if collect code b (prefixed w s) ≡ prefixed w (collected_if collect code b s)
  collected-apart true w s = collect-prefixed w s recover sets
  collected-apart false w s = refl

  in-apart : (b : Bool) (w : List ℕ) (s : State) (e : Event)
      → happens_in collect code b (prefixed w s) e ≡ prefixed w (happens_in collect code b s e)
  in-apart true w s e = refl
  in-apart false w s (Event.Turn c) = ap (collected_if collect code (wants_collection code s c))
      (step-prefixed w code s c) ∙ collected-apart (wants_collection code s c) w (step code s c)
  in-apart false w s Event.Collect = collect-prefixed w s recover sets

  happens-apart : (w : List ℕ) (s : State) (e : Event)
      → happens_by collect code (prefixed w s) e ≡ prefixed w (happens_by collect code s e)
  happens-apart w s e = in-apart (has_ended s) w s e

  run-apart : (w : List ℕ) (es : List Event) (s : State)
      → run_by collect code (prefixed w s) es ≡ prefixed w (run_by collect code s es)
  run-apart w [] s = refl
  run-apart w (e ∷ es) s = ap (λ t. run_by collect code t es) (happens-apart w s e)
      ∙ run-apart w es (happens_by collect code s e)

  -- what an event prints stands after what was printed before it
  happens-emptied : (s : State) (e : Event)
      → emptied (happens_by collect code s e) ≡ emptied (happens_by collect code (emptied s) e)
  happens-emptied s e = ap emptied (ap (λ t. happens_by collect code t e) (whole s)
      ∙ happens-apart s.output (emptied s) e)

  run-output : (s : State) (es : List Event) → (run_by collect code s es).output ≡ s.output
      ++ (run_by collect code (emptied s) es).output
  run-output s es = ap (λ (t : State). t.output)
      (ap (λ t. run_by collect code t es) (whole s) ∙ run-apart s.output es (emptied s))

  collected-output : (b : Bool) (s : State) → (collected_if collect code b s).output ≡ s.output
  collected-output true s = refl
  collected-output false s = refl

  printed-by : (s : State) (e : Event) → out_bytes (prints_in code s e) ≡
      (happens_in collect code false (emptied s) e).output
  printed-by s (Event.Turn c) = append-nil (step code (emptied s) c).output
      ∙ sym (collected-output (wants_collection code (emptied s) c) (step code (emptied s) c))
  printed-by s Event.Collect = refl

  prints-err : (s : State) (e : Event) → err_bytes (prints_in code s e) ≡ []
  prints-err s (Event.Turn c) = refl
  prints-err s Event.Collect = refl

  module _ (why : Bool) where
    -- ---- the writes of collections

    told-out : (book : Book) (ps : List State) → out_bytes (collection_writes code recover sets why book ps) ≡ []
    told-out book [] = refl
    told-out book (p ∷ ps) =
        let ls = told_lines why (report recover sets book p) p in
        let next = book_after recover sets book p in
        out-append (line_writes ls) (collection_writes code recover sets why next ps)
        ∙ ap (λ t. t ++ out_bytes (collection_writes code recover sets why next ps)) (lines-out ls)
        ∙ told-out next ps

    told-err : (book : Book) (ps : List State)
        → err_bytes (collection_writes code recover sets why book ps) ≡ stops_text recover sets why book ps
    told-err book [] = refl
    told-err book (p ∷ ps) =
        let ls = told_lines why (report recover sets book p) p in
        let next = book_after recover sets book p in
        err-append (line_writes ls) (collection_writes code recover sets why next ps)
        ∙ ap (λ t. t ++ err_bytes (collection_writes code recover sets why next ps)) (lines-err ls)
        ∙ ap (λ t. joined ls ++ t) (told-err next ps)

    pub stops-text-append : (ps qs : List State) (book : Book)
        → stops_text recover sets why book (ps ++ qs) ≡ stops_text recover sets why book ps
        ++ stops_text recover sets why (books recover sets book ps) qs
    stops-text-append [] qs book = refl
    stops-text-append (p ∷ ps) qs book =
        let ls = told_lines why (report recover sets book p) p in
        let next = book_after recover sets book p in
        ap (λ t. joined ls ++ t) (stops-text-append ps qs next)
        ∙ sym (append_assoc (joined ls) (stops_text recover sets why next ps)
        (stops_text recover sets why (books recover sets next ps) qs))

    -- ---- the writes of events

    pub writes-append : (es fs : List Event) (book : Book) (s : State)
        → writes_from code recover sets why book s (es ++ fs) ≡ writes_from code recover sets why book s es
        ++ writes_from code recover sets why (books recover sets book (stops_by collect code s es))
        (run_by collect code s es) fs
    writes-append [] fs book s = refl
    writes-append (e ∷ es) fs book s =
        let these = writes_in code recover sets why (has_ended s) book s e in
        let stop = stop_in collect code (has_ended s) s e in
        let next = happens_by collect code s e in
        ap (λ ws. these ++ ws) (writes-append es fs (books recover sets book stop) next)
        ∙ sym (append_assoc these (writes_from code recover sets why (books recover sets book stop) next es)
        (writes_from code recover sets why (books recover sets (books recover sets book stop)
        (stops_by collect code next es)) (run_by collect code next es) fs))
        ∙ ap (λ b. writes_from code recover sets why book s (e ∷ es)
        ++ writes_from code recover sets why b (run_by collect code next es) fs)
        (sym (books-append recover sets stop (stops_by collect code next es) book))

    event-out : (b : Bool) (book : Book) (s : State) (e : Event)
        → out_bytes (writes_in code recover sets why b book s e) ≡ (happens_in collect code b (emptied s) e).output
    event-out true book s e = refl
    event-out false book s e =
        let told = collection_writes code recover sets why book (stop_in collect code false s e) in
        out-append (prints_in code s e) told ∙ ap (λ t. out_bytes (prints_in code s e) ++ t)
        (told-out book (stop_in collect code false s e)) ∙ append-nil (out_bytes (prints_in code s e))
        ∙ printed-by s e

    -- to standard output goes what the machine prints
    pub writes-out : (es : List Event) (book : Book) (s : State)
        → out_bytes (writes_from code recover sets why book s es) ≡ (run_by collect code (emptied s) es).output
    writes-out [] book s = refl
    writes-out (e ∷ es) book s =
        let these = writes_in code recover sets why (has_ended s) book s e in
        let there = books recover sets book (stop_in collect code (has_ended s) s e) in
        let next = happens_by collect code s e in
        let later = happens_by collect code (emptied s) e in
        out-append these (writes_from code recover sets why there next es)
        ∙ ap (λ t. t ++ out_bytes (writes_from code recover sets why there next es)) (event-out (has_ended s) book s e)
        ∙ ap (λ t. later.output ++ t) (writes-out es there next
        ∙ ap (λ (t : State). (run_by collect code t es).output) (happens-emptied s e))
        ∙ sym (run-output later es)

    event-err : (b : Bool) (book : Book) (s : State) (e : Event)
        → err_bytes (writes_in code recover sets why b book s e) ≡ stops_text recover sets why book
        (stop_in collect code b s e)
    event-err true book s e = refl
    event-err false book s e =
        let told = collection_writes code recover sets why book (stop_in collect code false s e) in
        err-append (prints_in code s e) told ∙ ap (λ t. t ++ err_bytes told) (prints-err s e)
        ∙ told-err book (stop_in collect code false s e)

    -- to standard error goes what its collections tell
    pub writes-err : (es : List Event) (book : Book) (s : State)
        → err_bytes (writes_from code recover sets why book s es) ≡ stops_text recover sets why book
        (stops_by collect code s es)
    writes-err [] book s = refl
    writes-err (e ∷ es) book s =
        let these = writes_in code recover sets why (has_ended s) book s e in
        let stop = stop_in collect code (has_ended s) s e in
        let next = happens_by collect code s e in
        let there = books recover sets book stop in
        let stops = stops_by collect code next es in
        err-append these (writes_from code recover sets why there next es)
        ∙ ap (λ t. t ++ err_bytes (writes_from code recover sets why there next es)) (event-err (has_ended s) book s e)
        ∙ ap (λ t. stops_text recover sets why book stop ++ t) (writes-err es there next)
        ∙ sym (stops-text-append stop stops book)

    -- if the program has ended nothing more is written
    pub ended-writes : (es : List Event) (book : Book) (s : State) → has_ended s ≡ true
        → writes_from code recover sets why book s es ≡ []
    ended-writes [] book s h = refl
    ended-writes (e ∷ es) book s h =
        ap (λ b. writes_in code recover sets why b book s e
        ++ writes_from code recover sets why (books recover sets book (stop_in collect code b s e))
        (happens_in collect code b s e) es) h
        ∙ ended-writes es book s h

    -- ---- the texts, report by report

    pub texts-are : (ps : List State) (book : Book)
        → stops_text recover sets why book ps ≡ collections_text why (reports_from recover sets book ps) ps
    texts-are [] book = refl
    texts-are (p ∷ ps) book =
        let r = report recover sets book p in
        let next = book_after recover sets book p in
        ap (λ t. t ++ stops_text recover sets why next ps)
        (joined-append (report_lines r) (why_lines why r.number p)
        ∙ ap (λ t. t ++ joined (why_lines why r.number p)) (report-joined r))
        ∙ ap (λ t. (report_text r ++ joined (why_lines why r.number p)) ++ t) (texts-are ps next)

-- ---- the whole run: the writes to each sink together are its text

pub events-out : (code : Code) (options : RunOptions) → out_bytes (event_writes_of code options) ≡ out_of code options
unfolding event_writes_of out_of last_of
events-out code options =
    writes-out code options.recover (sets_finalisers code) options.why (events_of options) new_book (start code)
    ∙ (real-runs code options.recover (events_of options)).0

pub events-err : (code : Code) (options : RunOptions)
    → err_bytes (event_writes_of code options) ≡ collections_text options.why (reports_of code options)
    (real_stops_of code options)
unfolding event_writes_of reports_of real_stops_of
events-err code options =
    let sets = sets_finalisers code in
    let stops = stops_by (freeing options.recover sets) code (start code) (events_of options) in
    writes-err code options.recover sets options.why (events_of options) new_book (start code)
    ∙ texts-are code options.recover sets options.why stops new_book
    ∙ ap (λ rs. collections_text options.why rs stops) ((real-runs code options.recover (events_of options)).2)

pub out-whole : (code : Code) (options : RunOptions) → out_bytes (writes_of code options) ≡ out_of code options
unfolding writes_of
out-whole code options =
    let ws = event_writes_of code options in
    out-append ws (Write.ToErr (end_of code options) ∷ []) ∙ append-nil (out_bytes ws) ∙ events-out code options

pub err-whole : (code : Code) (options : RunOptions) → err_bytes (writes_of code options) ≡ err_of code options
unfolding writes_of err_of
err-whole code options =
    let ws = event_writes_of code options in
    let line = end_of code options in
    err-append ws (Write.ToErr line ∷ []) ∙ ap (λ t. err_bytes ws ++ t) (append-nil line)
    ∙ ap (λ t. t ++ line) (events-err code options)
