-- What the ends of a trace mean.
-- For: `tell_turns`, `tell_threads`, src/traces.rt; `CodeTells`, specs/Means.antt
-- By: cases of how the run stopped; no induction
use Rattle.std.proofs.Common.{◌≡◌, ℕ, Bool, List, [], ◌∷◌, ◌++◌, inl, inr, refl, sym, ap, subst, ◌∙◌, append_assoc}
use Rattle.std.specs.Prelude.{Option, Err}
use Rattle.std.specs.Io.KnownBytes.{Appends}
use Rattle.golf_base.specs.Causes.{Rose, WritesPrefix}
use Rattle.golf_data.specs.declared.code.Code.{Code}
use Rattle.golf_run_schedules.specs.declared.options.RunOptions.{RunOptions}
use Rattle.golf_run_texts.specs.declared.status.Status.{Status}
use Rattle.golf_run_texts.specs.declared.status.Status.TheVariants as s
use Rattle.golf_run_texts.specs.Fixed.{no_memory_text}
use Rattle.golf_run_texts.specs.Output.{status_of}
use Rattle.golf_run_texts.specs.Texts.{history_line}
use Rattle.golf_run_texts.specs.Writes.{Write}
use Rattle.golf_run.specs.declared.fault.RunFault.{RunFault}
use Rattle.golf_run.specs.declared.fault.RunFault.TheVariants as faults
use Rattle.golf_run.specs.HasRun.{Sinks, sinks, GotWrites, IsSteady, WasCut, WasStopped}
use Rattle.golf_run.specs.TraceWrites.{traces_of, HasTraced}
use Rattle.golf_command.specs.Ends.{EndsWith}
use Rattle.golf_command.specs.Ways.{history_options, AreTurns}
use Rattle.golf_explore_words.specs.declared.line.ExploreLine.{ExploreLine}
use Rattle.golf_explore_command.specs.Means.{CodeTells, Wrote, history_traces}
use Rattle.golf_explore_command.specs.Means.CodeComes.{Traced, OutOfMemoryInTrace, TracedByThreads, OutOfMemoryForTurns}
use Rattle.golf_explore_command.specs.Means.CodeComes.{OutOfMemoryInHistory}
use Rattle.golf_explore_command.proofs.Writing.{nothing-written, still-steady, err-whole, err-cut, ends}

-- ---- a run by its options

module _ (code : Code) (options : RunOptions) (shows : Bool) {old : Sinks} where
  -- all was written
  pub trace-whole : {new : Sinks} (status : Status) → status ≡ status_of code options
      → GotWrites (traces_of code options) old new → IsSteady old new
      → CodeTells code (ExploreLine.Trace options) shows status old new
  trace-whole status is got steady = record {
    status = status_of code options;
    writes = traces_of code options;
    comes = Traced options;
    wrote = inl (is, got, steady);
  }

  -- a write failed
  pub trace-cut : {new : Sinks} (fault : RunFault) → fault ≡ faults.Write → HasTraced (Err fault) code options old new
      → CodeTells code (ExploreLine.Trace options) shows s.WriteFault old new
  trace-cut faults.Memory is cut = cc
  trace-cut faults.Write is cut = record {
    status = status_of code options;
    writes = traces_of code options;
    comes = Traced options;
    wrote = inr (refl, cut);
  }

  -- memory ran out, and a line says so
  pub trace-stopped : (now : Sinks) (fault : RunFault) → fault ≡ faults.Memory → (r : Status)
      (err : Option (List ℕ)) (ef : ℕ) → HasTraced (Err fault) code options old now
      → EndsWith r s.Memory no_memory_text now.err err now.err_faults ef
      → CodeTells code (ExploreLine.Trace options) shows r old (sinks now.out now.out_faults err ef)
  trace-stopped now faults.Write is r err ef h e = cc
  trace-stopped now faults.Memory is r err ef stopped e = record {
    status = s.Memory;
    writes = stopped.done ++ Write.ToErr no_memory_text ∷ [];
    comes = OutOfMemoryInTrace options stopped.done stopped.later stopped.order;
    wrote = ends stopped.done old now stopped.got stopped.steady err ef s.Memory r no_memory_text e;
  }

-- ---- a run by threads

-- memory ran out for the turns
pub turns-lack : (code : Code) (threads : ℕ) (shows : Bool) (old : Sinks) (err : Option (List ℕ)) (ef : ℕ) (r : Status)
    → EndsWith r s.Memory no_memory_text old.err err old.err_faults ef
    → CodeTells code (ExploreLine.TraceThreads threads) shows r old (sinks old.out old.out_faults err ef)
turns-lack code threads shows old err ef r e = record {
  status = s.Memory;
  writes = Write.ToErr no_memory_text ∷ [];
  comes = OutOfMemoryForTurns threads;
  wrote = ends [] old old (nothing-written old) (still-steady old) err ef s.Memory r no_memory_text e;
}

module _ (code : Code) (ns : List ℕ) where
  abbrev traces : List Write
  traces = traces_of code (history_options ns)

  abbrev last : List Write
  last = Write.ToErr (history_line ns) ∷ []

  -- some of the turns were told, and these writes come later
  goes-on : (done later : List Write) → traces ≡ done ++ later → history_traces code ns ≡ done ++ (later ++ last)
  goes-on done later order = ap (λ ws. ws ++ last) order ∙ append_assoc done later last

module _ (code : Code) (threads : ℕ) (ns : List ℕ) (turns : AreTurns code threads ns) (options : RunOptions)
    (by : options ≡ history_options ns) (shows : Bool) {old : Sinks} where
  module _ (now : Sinks) (status : Status) (is : status ≡ status_of code options)
      (got : GotWrites (traces_of code options) old now) (steady : IsSteady old now) where
    got-all : GotWrites (traces code ns) old now
    got-all = subst (λ o. GotWrites (traces_of code o) old now) by got

    status-is : status ≡ status_of code (history_options ns)
    status-is = is ∙ ap (status_of code) by

    -- all was written
    pub history-whole : (err : Option (List ℕ)) (ef : ℕ) (line : List ℕ) → line ≡ history_line ns
        → Appends now.err err line → ef ≡ now.err_faults
        → CodeTells code (ExploreLine.TraceThreads threads) shows status old (sinks now.out now.out_faults err ef)
    history-whole err ef line same a quiet = record {
      status = status_of code (history_options ns);
      writes = history_traces code ns;
      comes = TracedByThreads threads ns turns;
      wrote = subst (λ x. Wrote (status_of code (history_options ns)) (history_traces code ns) x old
          (sinks now.out now.out_faults err ef)) (sym status-is)
          (err-whole (traces code ns) old now got-all steady err ef (status_of code (history_options ns))
          (history_line ns)
          (subst (Appends now.err err) same a) quiet);
    }

    -- the write of the numbers failed
    pub numbers-fail : (err : Option (List ℕ)) (ef : ℕ) (line : List ℕ) → line ≡ history_line ns
        → WritesPrefix now.err err line → Rose now.err_faults ef
        → CodeTells code (ExploreLine.TraceThreads threads) shows s.WriteFault old (sinks now.out now.out_faults err ef)
    numbers-fail err ef line same prefix rose = record {
      status = status_of code (history_options ns);
      writes = history_traces code ns;
      comes = TracedByThreads threads ns turns;
      wrote = err-cut (traces code ns) old now got-all steady err ef (status_of code (history_options ns))
          (history_line ns) []
          (subst (WritesPrefix now.err err) same prefix) rose;
    }

  -- a write of the run failed
  pub history-cut : {new : Sinks} (fault : RunFault) → fault ≡ faults.Write → HasTraced (Err fault) code options old new
      → CodeTells code (ExploreLine.TraceThreads threads) shows s.WriteFault old new
  history-cut faults.Memory is h = cc
  history-cut {new} faults.Write is h =
      let cut = subst (λ o. WasCut (traces_of code o) old new) by h in record {
        status = status_of code (history_options ns);
        writes = history_traces code ns;
        comes = TracedByThreads threads ns turns;
        wrote = inr (
          refl,
          record {
            done = cut.done;
            cut = cut.cut;
            prefix = cut.prefix;
            later = cut.later ++ last code ns;
            order = goes-on code ns cut.done (cut.cut ∷ cut.later) cut.order;
            is_prefix = cut.is_prefix;
            got = cut.got;
            failed = cut.failed;
          },
        );
      }

  -- memory ran out in the run, and a line says so
  pub history-stopped : (now : Sinks) (fault : RunFault) → fault ≡ faults.Memory → (r : Status)
      (err : Option (List ℕ)) (ef : ℕ) → HasTraced (Err fault) code options old now
      → EndsWith r s.Memory no_memory_text now.err err now.err_faults ef
      → CodeTells code (ExploreLine.TraceThreads threads) shows r old (sinks now.out now.out_faults err ef)
  history-stopped now faults.Write is r err ef h e = cc
  history-stopped now faults.Memory is r err ef h e =
      let stopped = subst (λ o. WasStopped (traces_of code o) old now) by h in record {
        status = s.Memory;
        writes = stopped.done ++ Write.ToErr no_memory_text ∷ [];
        comes = OutOfMemoryInHistory threads ns stopped.done (stopped.later ++ last code ns) turns
            (goes-on code ns stopped.done stopped.later stopped.order);
        wrote = ends stopped.done old now stopped.got stopped.steady err ef s.Memory r no_memory_text e;
      }
