-- What the ends of a file's run mean.
-- For: `run_source`, src/top.rt; `run_generated`, src/generated.rt; `FileTells`, specs/Means.antt
-- By: cases of the way of the line and of the status; no induction
use Rattle.std.proofs.Common.{◌≡◌, ◌≤◌, ℕ, Bool, true, false, List, [], ◌∷◌, ◌++◌, length, refl, sym, subst, ap, ◌∙◌}
use Rattle.std.proofs.Common.{inl, inr, append_assoc}
use Rattle.std.specs.Prelude.{Option, Some, None}
use Rattle.std.specs.Io.KnownBytes.{Appends}
use Rattle.golf_data.specs.declared.code.Code.{Code}
use Rattle.golf_data.specs.declared.goroutine.Ending.{Ending}
use Rattle.golf_model.specs.State.{ending}
use Rattle.golf_syntax_trees.specs.declared.declarations.File.{File}
use Rattle.golf_code_of.specs.Files.{CodeOf}
use Rattle.golf_run_schedules.specs.declared.options.RunOptions.{RunOptions}
use Rattle.golf_command_words.specs.declared.line.CommandLine.{CommandLine}
use Rattle.golf_command_words.specs.Words.{IsWithin}
use Rattle.golf_run_texts.specs.declared.status.Status.{Status}
use Rattle.golf_run_texts.specs.declared.status.Status.TheVariants as s
use Rattle.golf_run_texts.specs.Fixed.{most_bytes, no_memory_text}
use Rattle.golf_run_texts.specs.Texts.{lexical_line, syntax_line, rule_line}
use Rattle.golf_run_texts.specs.Output.{status_by, status_of, last_of, reports_of, anyone_reported, events_of}
use Rattle.golf_run_texts.specs.Writes.{Write}
use Rattle.golf_model.proofs.Agreeing.{dead-sound, dead-complete, others-live}
use Rattle.golf_model_futures.proofs.MainLaws as Law
use Rattle.golf_meaning_runs.proofs.WholeFiles.{files-sound}
use Rattle.golf_meaning_runs.proofs.Agreeing.{programs-agree}
use Rattle.golf_meaning_runs.proofs.Runs.{runs-mean-sources}
use Rattle.golf_meaning_runs.proofs.JoinedRuns.{runs-are-joined}
use Rattle.golf_code_never_stuck.specs.Reached.{IsProgram}
use Rattle.golf_code_never_stuck.proofs.Reaching.{reached-moves-on}
use Rattle.golf_code_never_stuck.proofs.Plain.{plain-runs-go-on}
use Rattle.golf_reader.specs.declared.refusal.Refusal.{Refusal}
use Rattle.golf_reader.specs.declared.refusal.Refusal.TheVariants as refusals
use Rattle.golf_reader.specs.Refusals.{IsRefusedBy, IsOnly}
use Rattle.golf_run.specs.HasRun.{Sinks, sinks, GotWrites, IsSteady}
use Rattle.golf_command.specs.Ends.{EndsWith, Refuses}
use Rattle.golf_command.specs.Ways.{Way, IsWayOf, options_of, status_by_options, status_for, out_for, err_for}
use Rattle.golf_command.specs.Ways.{writes_for}
use Rattle.golf_command.specs.Promises.{ReadsFile, Accepts, AreTrue, MovesAlways, MeansItsSource, RefusedBy}
use Rattle.golf_command.specs.Promises.RefusedBy.{Unlexed, Unparsed, Untyped}
use Rattle.golf_command.specs.Means.{Breaks, IsSoundBy, IsSound, Begins, AreFirst, MayFollow, MayStand, GoesWhole, Says}
use Rattle.golf_command.specs.Means.{FileTells}
use Rattle.golf_command.specs.Means.IsCause.{Refusal as Refusing, OutOfMemory}
use Rattle.golf_command.specs.Means.MayFollow.{Next, Cause}
use Rattle.golf_command.proofs.Sinking.{gets-more, breaks-later, some-rose, says}
use Rattle.golf_command.proofs.Ways.{some-way, none-stands}

-- the reports of a run are true
are-true : (code : Code) (options : RunOptions) → AreTrue code options
unfolding reports_of
are-true code options = record {
  each = Law.book_tells_of_each code (events_of options) options.recover;
  dead = λ p g i. (dead-sound p g, dead-complete p g);
  still = λ p g i d. Law.reported_are_still code (events_of options) p g i (dead-complete p g d);
  live = λ p g r i h f n. others-live p g r h f n;
}

-- the code of a file that the program accepts is never stuck
moves-always : (bytes : List ℕ) (file : File) (options : RunOptions) → Accepts bytes file
    → MovesAlways (CodeOf file) options
moves-always bytes file options a =
    let program : IsProgram file = record { good = a.typed.tree.reads.form.good; typed = a.typed.keeps } in
    let plain = plain-runs-go-on file program in record {
      run = plain.0;
      continuations = plain.1 (events_of options);
      moves = λ s c leads going. reached-moves-on (CodeOf file) s c
          (record { file = file; program = program; coded = refl; leads = leads }) going;
    }

-- each function of such a file does what its source says
means-its-source : (bytes : List ℕ) (file : File) → Accepts bytes file → MeansItsSource file
means-its-source bytes file a =
    let program : IsProgram file = record { good = a.typed.tree.reads.form.good; typed = a.typed.keeps } in record {
      agrees = programs-agree file program;
      lacks_no_rule = files-sound file a.typed.keeps a.typed.tree.reads.form.good;
      runs = runs-mean-sources file program;
      joined = runs-are-joined file program;
    }

sound-by : (options : Option RunOptions) (bytes : List ℕ) (file : File) → Accepts bytes file
    → IsSoundBy options (CodeOf file)
sound-by (Some options) bytes file a = record {
  reports = are-true (CodeOf file) options;
  moves = moves-always bytes file options a;
}
sound-by None bytes file a = tt

sound-way : (way : Way) (bytes : List ℕ) (file : File) → Accepts bytes file → IsSound way file
sound-way way bytes file a = record {
  source = means-its-source bytes file a;
  run = sound-by (options_of way) bytes file a;
}

begins : (line : CommandLine) (bytes : List ℕ) (file : File) → Accepts bytes file
    → (w : (way : Way) × IsWayOf line file way) → Begins line file []
begins line bytes file a w = record {
  way = w.0;
  is_way = w.1;
  later = writes_for w.0 (CodeOf file);
  order = refl;
  sound = sound-way w.0 bytes file a;
}

module _ (line : CommandLine) (bytes : List ℕ) (within : IsWithin line) where
  none-first : AreFirst line bytes []
  none-first = record {
    accepted = λ file a. begins line bytes file a (some-way line file within);
    refused = λ none. refl;
  }

  module _ (old new : Sinks) where
    -- a write failed after these
    broken : (done : List Write) (cut : Write) (r : Status) → MayFollow line bytes done cut → r ≡ s.WriteFault
        → Breaks old new done cut → FileTells line bytes r old new
    broken done cut r why is breaks = subst (λ t. FileTells line bytes t old new) (sym is)
        (record { means = (done, (cut, why, breaks)); causes = some-rose cut old new breaks.failed })

    pub refused-tells : ReadsFile line → (text : List ℕ) (r : Status) → RefusedBy bytes text
        → Says s.Refused text r old new
        → FileTells line bytes r old new
    refused-tells reads text r why (inl e) =
        subst (λ t. FileTells line bytes t old new) (sym e.0)
        (record { means = record { reads = reads; text = text; why = why; got = e.1 }; causes = e.2 })
    refused-tells reads text r why (inr e) =
        broken [] (Write.ToErr text) r (Cause text none-first (Refusing text reads why)) e.0 e.1

    pub memory-tells : (r : Status) → Says s.Memory no_memory_text r old new → FileTells line bytes r old new
    memory-tells r (inl e) = subst (λ t. FileTells line bytes t old new) (sym e.0)
        (record { means = ([], none-stands line, none-first, e.1); causes = e.2 })
    memory-tells r (inr e) = broken [] (Write.ToErr no_memory_text) r
        (Cause no_memory_text none-first (OutOfMemory (none-stands line))) e.0 e.1

  -- the file of a line that reads is refused
  module _ (reads : ReadsFile line) (short : length bytes ≤ most_bytes) (out : Option (List ℕ)) (of : ℕ)
      (err err' : Option (List ℕ)) (ef ef' : ℕ) where
    abbrev Told : Status → Type 0
    Told r = FileTells line bytes r (sinks out of err ef) (sinks out of err' ef')

    by-text : (text : List ℕ) (r : Status) → RefusedBy bytes text → EndsWith r s.Refused text err err' ef ef' → Told r
    by-text text r why e = refused-tells (sinks out of err ef) (sinks out of err' ef') reads text r why
        (says out of err err' ef ef' s.Refused r text e)

    by-want : (r : Status) → EndsWith r s.Memory no_memory_text err err' ef ef' → Told r
    by-want r e = memory-tells (sinks out of err ef) (sinks out of err' ef') r
        (says out of err err' ef ef' s.Memory r no_memory_text e)

    pub refusal-tells : (refusal : Refusal) (r : Status) → IsRefusedBy bytes refusal → Refuses r refusal err err' ef ef'
        → Told r
    refusal-tells (refusals.Lexical at byte) r why (inl e) =
        by-text (lexical_line at byte) r (Unlexed at byte short why) e
    refusal-tells (refusals.Lexical at byte) r why (inr e) = by-want r e
    refusal-tells (refusals.Syntax at) r why (inl e) = by-text (syntax_line at) r (Unparsed at short why) e
    refusal-tells (refusals.Syntax at) r why (inr e) = by-want r e
    refusal-tells (refusals.Untyped at rule) r why (inl e) = by-text (rule_line at rule) r (Untyped at rule short why) e
    refusal-tells (refusals.Untyped at rule) r why (inr e) = by-want r e
    refusal-tells refusals.Memory r why (inl e) = by-want r e
    refusal-tells refusals.Memory r why (inr e) = by-want r e

  -- the file has this code
  module _ (file : File) (code : Code) (accepted : Accepts bytes file) (is : code ≡ CodeOf file)
      (only : IsOnly bytes file) (way : Way) (is_way : IsWayOf line file way) where
    first-of : (done more : List Write) → writes_for way code ≡ done ++ more → AreFirst line bytes done
    first-of done more split = record {
      accepted = λ other a. record {
        way = way;
        is_way = subst (λ f. IsWayOf line f way) (sym (only other a.typed)) is_way;
        later = more;
        order = ap (λ f. writes_for way (CodeOf f)) (only other a.typed) ∙ ap (writes_for way) (sym is) ∙ split;
        sound = sound-way way bytes other a;
      };
      refused = λ none. absurd (none file accepted);
    }

    module _ (old new : Sinks) where
      goes-whole : (r : Status) → r ≡ status_for way code → Appends old.out new.out (out_for way code)
          → Appends old.err new.err (err_for way code) → GoesWhole line bytes r old new
      goes-whole r status out err = record {
        file = file;
        accepts = accepted;
        way = way;
        is_way = is_way;
        status = status ∙ ap (λ c. status_for way c) is;
        out = subst (λ c. Appends old.out new.out (out_for way c)) is out;
        err = subst (λ c. Appends old.err new.err (err_for way c)) is err;
        sound = sound-way way bytes file accepted;
      }

      status-runs : (o : Option Ending) (b : Bool) → GoesWhole line bytes (status_by b o) old new → IsSteady old new
          → FileTells line bytes (status_by b o) old new
      status-runs (Some Ending.Returned) true h steady = record { means = h; causes = steady }
      status-runs (Some Ending.Returned) false h steady = record { means = h; causes = steady }
      status-runs (Some (Ending.Panicked kind g at)) b h steady = record { means = h; causes = steady }
      status-runs (Some Ending.Asleep) b h steady = record { means = h; causes = steady }
      status-runs None b h steady = record { means = h; causes = steady }

      status-goes : (options : Option RunOptions) → GoesWhole line bytes (status_by_options options code) old new
          → IsSteady old new → FileTells line bytes (status_by_options options code) old new
      unfolding status_of
      status-goes (Some options) h steady = status-runs (ending (last_of code options))
          (anyone_reported (reports_of code options)) h steady
      status-goes None h steady = record { means = h; causes = steady }

      -- it went to its end
      pub went-tells : (r : Status) → r ≡ status_for way code → Appends old.out new.out (out_for way code)
          → Appends old.err new.err (err_for way code) → IsSteady old new → FileTells line bytes r old new
      went-tells r status out err steady =
          subst (λ t. FileTells line bytes t old new) (sym status)
          (status-goes (options_of way) (subst (λ t. GoesWhole line bytes t old new) status
          (goes-whole r status out err)) steady)

      -- a write failed in it
      pub failed-tells : (done rest : List Write) (cut : Write) → writes_for way code ≡ done ++ (cut ∷ rest)
          → Breaks old new done cut → FileTells line bytes s.WriteFault old new
      failed-tells done rest cut split breaks =
          broken old new done cut s.WriteFault
          (Next cut (first-of (done ++ cut ∷ []) rest (split ∙ sym (append_assoc done (cut ∷ []) rest)))) refl breaks

    -- memory ran out in it, and then a line was written
    module _ (out out' mid err err' : Option (List ℕ)) (of of' mf ef ef' : ℕ) (done more : List Write)
        (split : writes_for way code ≡ done ++ more) (stands : MayStand line done) where
      abbrev first : Sinks
      first = sinks out of err ef

      abbrev mid_way : Sinks
      mid_way = sinks out' of' mid mf

      abbrev last : Sinks
      last = sinks out' of' err' ef'

      stopped : (r : Status) → GotWrites done first mid_way → IsSteady first mid_way
          → Says s.Memory no_memory_text r mid_way last → FileTells line bytes r first last
      stopped r got steady (inl e) = subst (λ t. FileTells line bytes t first last) (sym e.0) (record {
        means = (
          done,
          stands,
          first-of done more split,
          gets-more first mid_way last done (Write.ToErr no_memory_text ∷ []) got e.1,
        );
        causes = record { out = e.2.out ∙ steady.out; err = e.2.err ∙ steady.err };
      })
      stopped r got steady (inr e) = broken first last done (Write.ToErr no_memory_text) r
          (Cause no_memory_text (first-of done more split) (OutOfMemory stands)) e.0
          (breaks-later first mid_way last done (Write.ToErr no_memory_text) got steady e.1)

      pub stopped-tells : (r : Status) → GotWrites done first mid_way → IsSteady first mid_way
          → EndsWith r s.Memory no_memory_text mid err' mf ef' → FileTells line bytes r first last
      stopped-tells r got steady ends = stopped r got steady
          (says out' of' mid err' mf ef' s.Memory r no_memory_text ends)
