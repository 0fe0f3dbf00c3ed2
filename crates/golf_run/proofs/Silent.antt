-- Turns of a run after which the outside is not needed.
-- For: `go_through`, src/turns.rt; `HasGoneOn`, golf_machine/specs/Batches.antt
-- By: induction over the list of turns that were taken in one go
use Rattle.std.proofs.Common.{◌≡◌, ℕ, ◌+◌, Bool, true, false, List, [], ◌∷◌, ◌++◌, length, Option, Some, None, refl}
use Rattle.std.proofs.Common.{sym, ap, subst, ◌∙◌, ◌⊎◌, inl, inr, arith}
use Rattle.std.specs.Prelude.{is_some}
use Rattle.std.specs.Io.KnownBytes.{Appends}
use Rattle.std.proofs.KnownBytes.{Appends-nil}
use Rattle.golf_data.specs.declared.code.Code.{Code}
use Rattle.golf_data.specs.declared.goroutine.Ending.{Ending}
use Rattle.golf_data.specs.declared.report.Book.{Book}
use Rattle.golf_model.specs.State.{State, ending}
use Rattle.golf_model.specs.Turn.{step, wants_collection}
use Rattle.golf_model.specs.Runs.{Event}
use Rattle.golf_machine.specs.Turns.{turned_of}
use Rattle.golf_machine.specs.Batches.{turn_events, needs_outside, stops_after, steps, GoOn, HasGoneOn}
use Rattle.golf_run_schedules.specs.declared.options.RunOptions.{RunOptions}
use Rattle.golf_run_texts.specs.declared.totals.Totals.{Totals}
use Rattle.golf_run.specs.OneEvent.{turned, prints}
use Rattle.golf_run.specs.HasRun.{Sinks}
use Rattle.golf_run.specs.UnderWay.{IsGoing}
use Rattle.golf_run.specs.EventBatches.{HasComeTo, HasStopped}
use Rattle.golf_run.proofs.Ending.{IsNext}
use Rattle.golf_run.proofs.Stepping.{going-quiet}

-- what such a turn leaves
record IsSilent (ends : Option Ending) (wants : Bool) (printed : List ℕ) : Type 0 where
  pub goes : ends ≡ None
  pub quiet : wants ≡ false
  pub none : printed ≡ []

silent-by : (o : Option Ending) (b : Bool) (p : List ℕ) → needs_outside (turned_of o b) p ≡ false → IsSilent o b p
silent-by (Some e) b p h = cc
silent-by None true p h = cc
silent-by None false [] h = record { goes = refl; quiet = refl; none = refl }
silent-by None false (x ∷ p) h = cc

silent : (code : Code) (s : State) (c : ℕ) → stops_after code s c ≡ false
    → IsSilent (ending (step code s c)) (wants_collection code s c) (step code s c).output
silent code s c h = silent-by (ending (step code s c)) (wants_collection code s c) (step code s c).output h

-- the program goes on after them
pub still-goes : (code : Code) (cs : List ℕ) (s : State) → ending s ≡ None → GoOn code s cs
    → ending (steps code s cs) ≡ None
still-goes code [] s goes g = goes
still-goes code (c ∷ cs) s goes g = still-goes code cs (step code s c) (silent code s c g.0).goes g.1

-- the event comes in a state that has not ended
pub come-goes : {code : Code} {s : State} {event : Event} {before after : List Event} {n m : ℕ}
    (c : HasComeTo code s event before after n m) → ending c.state ≡ None
come-goes {code} {s} c = ap ending c.silent.state ∙ still-goes code c.silent.taken s c.begins c.silent.silent

module _ {code : Code} {options : RunOptions} {ledger : Book} {totals : Totals} {old now : Sinks} where
  same-count : (n m : ℕ) (after : List Event) (s : State) → n ≡ m → IsGoing code options after n s ledger totals old now
      → IsGoing code options after m s ledger totals old now
  same-count n m after s e g = subst (λ k. IsGoing code options after k s ledger totals old now) e g

  -- the run is under way after them
  silent-going : (cs : List ℕ) (after : List Event) (n : ℕ) (s : State)
      → IsGoing code options (turn_events cs ++ after) n s ledger totals old now → ending s ≡ None → GoOn code s cs
      → IsGoing code options after (n + length cs) (steps code s cs) ledger totals old now
  silent-going [] after n s going goes g = same-count n (n + 0) after s (omega arith) going
  silent-going (c ∷ cs) after n s going goes g =
      let q = silent code s c g.0 in
      let e = Event.Turn c in
      let kept : turned code e s ≡ step code s c =
      ap (λ (o : List ℕ). record (step code s c) { output = o }) (sym q.none) in
      let appends : Appends now.out now.out (prints code e s) =
      subst (Appends now.out now.out) (sym q.none) (Appends-nil now.out) in
      let comes : IsNext code options e (turn_events cs ++ after) (n + 1) s ledger totals old now =
      record { count = n; going = going; goes = goes; counted = refl } in
      let one : IsGoing code options (turn_events cs ++ after) (n + 1) (turned code e s) ledger totals old now =
      going-quiet comes {out = now.out} {of = now.out_faults} {ef = now.err_faults} appends q.quiet in
      let next = subst (λ (t : State). IsGoing code options (turn_events cs ++ after) (n + 1) t ledger totals old now)
      kept one in
      same-count (n + 1 + length cs) (n + length (c ∷ cs)) after (steps code (step code s c) cs) (omega arith)
      (silent-going cs after (n + 1) (step code s c) next q.goes g.1)

  gone-going : {s t : State} {before after : List Event} {n m : ℕ}
      → IsGoing code options before n s ledger totals old now → ending s ≡ None → HasGoneOn code s t before after n m
      → IsGoing code options after m t ledger totals old now
  gone-going {s = s} {after = after} {n = n} {m = m} going goes w =
      let first = subst (λ (es : List Event). IsGoing code options es n s ledger totals old now) w.order going in
      subst (λ (x : State). IsGoing code options after m x ledger totals old now) (sym w.state)
      (same-count (n + length w.taken) m after (steps code s w.taken) (sym w.count)
      (silent-going w.taken after n s first goes w.silent))

  -- up to the event that comes next
  pub come-next : {s : State} {event : Event} {before after : List Event} {n m : ℕ}
      (c : HasComeTo code s event before after n m) → IsGoing code options before n s ledger totals old now
      → IsNext code options event after m c.state ledger totals old now
  come-next c going = record {
    count = c.earlier;
    going = gone-going going c.begins c.silent;
    goes = come-goes c;
    counted = c.count;
  }

  -- nothing is left, or the program has ended
  pub stopped-going : {s t : State} {before after : List Event} {n m : ℕ} → HasStopped code s t before after n m
      → IsGoing code options before n s ledger totals old now
      → IsGoing code options after m t ledger totals old now × ((is_some (ending t) ≡ true) ⊎ (after ≡ []))
  stopped-going {s = s} {before = before} {after = after} {m = m} (inl e) g = (
    subst (λ (x : State). IsGoing code options after m x ledger totals old now) (sym e.1)
        (subst (λ (es : List Event). IsGoing code options es m s ledger totals old now) (sym e.2)
        (subst (λ k. IsGoing code options before k s ledger totals old now) (sym e.3) g)),
    inl (ap (λ (x : State). is_some (ending x)) e.1 ∙ e.0),
  )
  stopped-going (inr e) g = (gone-going g e.0 e.2, inr e.1)
