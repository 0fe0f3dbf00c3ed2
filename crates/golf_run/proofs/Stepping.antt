-- One event of a run, in the run's own words.
-- For: `go_through`, src/turns.rt
-- By: cases of the event; for counts of events, induction over the turns of the schedule
use Rattle.std.proofs.Common.{◌≡◌, ℕ, zero, suc, ◌+◌, ◌-◌, ◌*◌, ◌^◌, ◌<◌, ◌≤◌, Bool, true, false, List, [], ◌∷◌, ◌++◌}
use Rattle.std.proofs.Common.{length, length-append, take, Option, sym, ap, subst, ◌∙◌, append_assoc, arith}
use Rattle.std.specs.Io.KnownBytes.{Appends}
use Rattle.golf_data.specs.declared.code.Code.{Code}
use Rattle.golf_data.specs.declared.report.Book.{Book}
use Rattle.golf_model.specs.State.{State, start}
use Rattle.golf_model.specs.Collections.{sets_finalisers}
use Rattle.golf_model.specs.Runs.{Event}
use Rattle.golf_model.specs.Presence.{IsWhole}
use Rattle.golf_model.specs.Reports.{numbers, new_book}
use Rattle.golf_model_futures.proofs.OrderedLeading.{leads-whole}
use Rattle.golf_reclaim.specs.RunBook.{AreGone}
use Rattle.golf_run_schedules.specs.declared.schedule.Schedule.{Schedule}
use Rattle.golf_run_schedules.specs.declared.options.RunOptions.{RunOptions}
use Rattle.golf_run_schedules.specs.Options.{IsWithinLimits}
use Rattle.golf_run_schedules.specs.Events.{rotation, congruence, congruent, numbers as numbers_by, is_due}
use Rattle.golf_run_schedules.specs.Events.{collection_if, turns_from, events as events_by, turns_among}
use Rattle.golf_run_texts.specs.declared.totals.Totals.{Totals}
use Rattle.golf_run_texts.specs.Totals.{totals_of}
use Rattle.golf_run_texts.specs.Output.{events_of, joined}
use Rattle.golf_run_texts.specs.Writes.{line_writes}
use Rattle.golf_run.specs.Told.{told_by, noted, collected, totalled}
use Rattle.golf_run.specs.OneEvent.{turned, prints, says, collects}
use Rattle.golf_run.specs.HasRun.{Sinks, sinks, IsSteady}
use Rattle.golf_run.specs.UnderWay.{writes_to, IsGoing}
use Rattle.golf_run.proofs.Goings.{turned-leads, turned-left, quiet, loud}
use Rattle.golf_run.proofs.Ending.{IsNext, StandsBefore, begins, split-next, got-now, followed, behind-next, order-next}
use Rattle.golf_run.proofs.Ending.{order-told, got-said}

turns-append : (es fs : List Event) → turns_among (es ++ fs) ≡ turns_among es + turns_among fs
turns-append [] fs = zero-plus (turns_among fs)
  where
    zero-plus : (n : ℕ) → n ≡ 0 + n
    zero-plus n = omega arith
turns-append (Event.Turn c ∷ es) fs = let h = turns-append es fs in omega (arith, h)
turns-append (Event.Collect ∷ es) fs = turns-append es fs

-- ---- how many events there are

rotation-count : (n k : ℕ) → length (rotation n k) ≤ n
rotation-count zero k = omega arith
rotation-count (suc n) k = let h = rotation-count n (k + 1) in omega (arith, h)

congruence-count : (n x : ℕ) → length (congruence n x) ≤ n
congruence-count zero x = omega arith
congruence-count (suc n) x = let h = congruence-count n (congruent x) in omega (arith, h)

take-count : (n : ℕ) (xs : List ℕ) → length (take n xs) ≤ n
take-count zero xs = omega arith
take-count (suc n) [] = omega arith
take-count (suc n) (x ∷ xs) = let h = take-count n xs in omega (arith, h)

numbers-count : (schedule : Schedule) (turns : ℕ) → length (numbers_by schedule turns) ≤ turns
numbers-count Schedule.Rotate turns = rotation-count turns 0
numbers-count (Schedule.Seed x) turns = congruence-count turns x
numbers-count (Schedule.Choices cs) turns = take-count turns cs

collection-count : (b : Bool) → length (collection_if b) ≤ 1
collection-count true = omega arith
collection-count false = omega arith

turns-count : (every : Option ℕ) (k : ℕ) (cs : List ℕ) → length (turns_from every k cs) ≤ 2 * length cs
turns-count every k [] = omega arith
turns-count every k (c ∷ cs) =
    let a = collection-count (is_due every k) in
    let b = turns-count every (k + 1) cs in
    let d = length-append (collection_if (is_due every k)) (turns_from every (k + 1) cs) in
    omega (arith, a, b, d)

events-count : (options : RunOptions) → length (events_of options) ≤ 2 * options.turns
unfolding events_of
events-count options =
    let a = turns-count options.every 1 (numbers_by options.schedule options.turns) in
    let b = numbers-count options.schedule options.turns in
    omega (arith, a, b)

-- ---- one event

module _ {code : Code} {options : RunOptions} {event : Event} {rest : List Event} {more : ℕ} {state : State}
    {ledger : Book} {totals : Totals} {old now : Sinks}
    (next : IsNext code options event rest more state ledger totals old now) where
  turns-next : more ≡ turns_among (next.going.done ++ event ∷ [])
  turns-next = next.counted ∙ ap (λ n. n + turns_among (event ∷ [])) next.going.turns
      ∙ sym (turns-append next.going.done (event ∷ []))

  -- without a collection
  pub going-quiet : {out : Option (List ℕ)} {of ef : ℕ} → Appends now.out out (prints code event state)
      → collects code event state ≡ false
      → IsGoing code options rest more (turned code event state) ledger totals old
      (record { out = out; out_faults = of; err = now.err; err_faults = ef })
  going-quiet a h = record {
    done = next.going.done ++ event ∷ [];
    split = split-next next;
    turns = turns-next;
    under_way = quiet event next.goes next.going.under_way a h;
  }

  -- with a collection
  pub going-loud : {sets : Bool} {out err : Option (List ℕ)} {of ef : ℕ} {sum : Totals} {after : State} {book : Book}
      → sets ≡ sets_finalisers code → Appends now.out out (prints code event state) → collects code event state ≡ true
      → sum ≡ totalled options.recover sets ledger (turned code event state)
      → after ≡ collected options.recover sets (turned code event state)
      → book ≡ noted options.recover sets ledger (turned code event state)
      → Appends now.err err (joined (told_by options.recover sets options.why ledger (turned code event state)))
      → IsGoing code options rest more after book sum old
      (record { out = out; out_faults = of; err = err; err_faults = ef })
  going-loud {err = err} same a h who left noted-is t = record {
    done = next.going.done ++ event ∷ [];
    split = split-next next;
    turns = turns-next;
    under_way = loud event next.goes next.going.under_way a h
        (who ∙ ap (λ b. totalled options.recover b ledger (turned code event state)) same)
        (left ∙ ap (λ b. collected options.recover b (turned code event state)) same)
        (noted-is ∙ ap (λ b. noted options.recover b ledger (turned code event state)) same)
        (subst (λ b. Appends now.err err (joined
        (told_by options.recover b options.why ledger (turned code event state)))) same t);
  }

  -- what the collection asks for
  pub whole-next : IsWhole (turned code event state)
  whole-next = leads-whole code (turned code event state)
      (turned-leads code event state next.goes next.going.under_way.leads)

  pub gone-next : AreGone ledger (turned code event state)
  gone-next = (turned-left code event state (numbers ledger.reclaimed) next.going.under_way.left).absent

  pub few-next : IsWithinLimits options → ledger.collections < 2 ^ 32 - 1
  few-next limits =
      let a = events-count options in
      let b = ap length next.going.split ∙ length-append next.going.done (event ∷ rest) in
      omega (arith, a, b, next.going.under_way.few, limits.turns)

  -- what the event prints comes next
  pub event-next : IsSteady old now → StandsBefore code options (says code event state) old now
  event-next steady =
      let before = writes_to code options.recover options.why next.going.done in
      let after =
      followed next
      ++ behind-next next in
      record {
        done = before;
        more = after;
        order = order-next next ∙ append_assoc before (says code event state) after;
        got = got-now next.going;
        steady = steady;
      }

  -- and then the report of the collection
  pub report-next : {sets : Bool} {out : Option (List ℕ)} {of : ℕ} → sets ≡ sets_finalisers code
      → collects code event state ≡ true → Appends now.out out (prints code event state) → of ≡ now.out_faults
      → IsSteady old now
      → StandsBefore code options (line_writes
      (told_by options.recover sets options.why ledger (turned code event state))) old
      (sinks out of now.err now.err_faults)
  report-next {out = out} {of = of} same h a quiet-out steady =
      let before = writes_to code options.recover options.why next.going.done ++ says code event state in
      let after = behind-next next in
      record {
        done = before;
        more = after;
        order =
            order-told next h
            ∙ ap (λ b. before ++ (line_writes (told_by options.recover b options.why ledger (turned code event state))
            ++ after)) (sym same);
        got = got-said next out of now.err_faults a;
        steady = record { out = quiet-out ∙ steady.out; err = steady.err };
      }

-- before the first event
pub starts : {code : Code} {options : RunOptions} {left : List Event} {count : ℕ} {state : State} {book : Book}
    {totals : Totals} {old : Sinks} → left ≡ events_by options.schedule options.turns options.every → count ≡ 0
    → state ≡ start code → book ≡ new_book → totals ≡ totals_of []
    → IsGoing code options left count state book totals old old
unfolding events_of
starts are none is empty nothing = record {
  done = [];
  split = sym are;
  turns = none;
  under_way = begins is empty nothing;
}
