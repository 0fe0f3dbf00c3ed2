-- What a run comes to once all its events came about.
-- For: `run`, src/written_run.rt; `survey`, src/silent_run.rt
-- By: cases of the outcome; no induction
use Rattle.std.proofs.Common.{◌≡◌, ℕ, not, ◌==◌, List, [], ◌∷◌, ◌++◌, refl, sym, ap, subst, ◌∙◌}
use Rattle.std.specs.Prelude.{Option, Result, Ok, Err, IsErr, IsErrAnd}
use Rattle.std.specs.Io.KnownBytes.{Appends}
use Rattle.std.proofs.KnownBytes.{Appends-trans}
use Rattle.golf_base.specs.Causes.{Rose, WritesPrefix}
use Rattle.golf_data.specs.declared.code.Code.{Code}
use Rattle.golf_run_schedules.specs.declared.options.RunOptions.{RunOptions}
use Rattle.golf_run_texts.specs.declared.status.Status.{Status}
use Rattle.golf_run_texts.specs.declared.totals.Totals.{Totals}
use Rattle.golf_run_texts.specs.Output.{anyone_reported, status_by, reports_of, end_of, err_of, status_of}
use Rattle.golf_run_texts.specs.Writes.{Write, event_writes_of, writes_of}
use Rattle.golf_run.specs.declared.fault.RunFault.{RunFault}
use Rattle.golf_run.specs.declared.fault.RunFault.TheVariants as faults
use Rattle.golf_run.specs.declared.turns.Course.{Course}
use Rattle.golf_run.specs.HasRun.{Sinks, sinks, HasRun}
use Rattle.golf_run.specs.HasGone.{WentThrough, HasGone}
use Rattle.golf_run.proofs.Totalling.{anyone-counted}
use Rattle.golf_run.proofs.Writing.{events-out, events-err}
use Rattle.golf_run.proofs.Cutting.{err-cut}

-- the events did not all come about
pub passed-on : (e : RunFault) (r : Result Course RunFault) (result : Result Status RunFault) (code : Code)
    (options : RunOptions) (old new : Sinks) → r ≡ Err e → HasGone r code options old new → IsErr result
    → IsErrAnd result (λ x. x ≡ e) → HasRun result code options old new
passed-on e r (Ok x) code options old new is h i a = cc
passed-on e r (Err x) code options old new is h i a =
    at-fault x (subst (λ y. HasGone y code options old new) (is ∙ ap (λ y. Err y) (sym a)) h)
  where
    at-fault : (x : RunFault) → HasGone (Err x) code options old new → HasRun (Err x) code options old new
    at-fault faults.Write h = h
    at-fault faults.Memory h = h

module _ (course : Course) (code : Code) (options : RunOptions) (old now : Sinks)
    (w : WentThrough course code options old now) where
  -- the status
  pub status-is : (answer : Status) → answer ≡ status_by (not (course.totals.reported == 0)) course.ending
      → answer ≡ status_of code options
  unfolding status_of
  status-is answer e =
      e ∙ ap (λ b. status_by b course.ending)
      (ap (λ (t : Totals). not (t.reported == 0)) w.totals ∙ sym (anyone-counted (reports_of code options)))
      ∙ ap (status_by (anyone_reported (reports_of code options))) w.ends

  -- memory ran out for the last line
  pub line-memory : (r : Result Status RunFault) → IsErr r → IsErrAnd r (λ e. e ≡ faults.Memory)
      → HasRun r code options old now
  unfolding writes_of
  line-memory (Ok x) i a = cc
  line-memory (Err faults.Write) i a = cc
  line-memory (Err faults.Memory) i a = record {
    done = event_writes_of code options;
    later = Write.ToErr (end_of code options) ∷ [];
    order = refl;
    got = w.got;
    steady = w.steady;
  }

  -- its write failed
  pub line-broken : (r : Result Status RunFault) → IsErr r → IsErrAnd r (λ e. e ≡ faults.Write) → (line : List ℕ)
      → line ≡ end_of code options → (err : Option (List ℕ)) (ef : ℕ) → WritesPrefix now.err err line
      → Rose now.err_faults ef
      → HasRun r code options old (sinks now.out now.out_faults err ef)
  unfolding writes_of
  line-broken (Ok x) i a line is err ef f rose = cc
  line-broken (Err faults.Write) i a line is err ef f rose =
      err-cut (event_writes_of code options ++ Write.ToErr (end_of code options) ∷ [])
      (event_writes_of code options) [] old now w.got (end_of code options) refl
      err now.out_faults ef (subst (WritesPrefix now.err err) is f) w.steady.out
      (subst (λ n. Rose n ef) w.steady.err rose)
  line-broken (Err faults.Memory) i a line is err ef f rose = cc

  -- both texts are whole
  pub line-whole : (answer : Status) → answer ≡ status_by (not (course.totals.reported == 0)) course.ending
      → (line : List ℕ) → line ≡ end_of code options → (err : Option (List ℕ)) (ef : ℕ) → Appends now.err err line
      → ef ≡ now.err_faults
      → HasRun (Ok answer) code options old (sinks now.out now.out_faults err ef)
  unfolding err_of
  line-whole answer e line is err ef a steady = (
    record {
      status = status-is answer e;
      out = subst (Appends old.out now.out) (events-out code options) w.got.0;
      err = subst (Appends old.err err) (ap (λ t. t ++ end_of code options) (events-err code options))
          (Appends-trans _ _ _ _ _ w.got.1 (subst (Appends now.err err) is a));
    },
    record { out = w.steady.out; err = steady ∙ w.steady.err },
  )
