-- What the ends of a search mean.
-- For: `tell_answer`, src/top.rt; `CodeTells`, specs/Means.antt
-- By: cases of which write failed; no induction
use Rattle.std.proofs.Common.{◌≡◌, ℕ, suc, Bool, List, [], ◌∷◌, ◌++◌, refl, sym, ap, subst, ◌∙◌, append_assoc}
use Rattle.std.specs.Prelude.{Option, Err}
use Rattle.std.specs.Io.KnownBytes.{Appends}
use Rattle.std.proofs.KnownBytes.{Appends-nil, Appends-trans}
use Rattle.golf_base.specs.Causes.{Rose, WritesPrefix}
use Rattle.golf_data.specs.declared.code.Code.{Code}
use Rattle.golf_run_texts.specs.declared.status.Status.{Status}
use Rattle.golf_run_texts.specs.declared.status.Status.TheVariants as s
use Rattle.golf_run_texts.specs.Fixed.{no_memory_text}
use Rattle.golf_run_texts.specs.Writes.{Write}
use Rattle.golf_run.specs.declared.fault.RunFault.{RunFault}
use Rattle.golf_run.specs.declared.fault.RunFault.TheVariants as faults
use Rattle.golf_run.specs.HasRun.{Sinks, sinks, GotWrites, IsSteady}
use Rattle.golf_command.specs.Ends.{EndsWith}
use Rattle.golf_explore_words.specs.declared.line.ExploreLine.{ExploreLine}
use Rattle.golf_explore_words.specs.declared.line.Question.{Question}
use Rattle.golf_explore_words.specs.Words.{states_in}
use Rattle.golf_explore_command.specs.Texts.{note_line}
use Rattle.golf_explore_command.specs.Answers.{IsAnswer}
use Rattle.golf_explore_command.specs.Progress.{states_told, progress_line, progress_text, progress, HasToldLines}
use Rattle.golf_explore_command.specs.Progress.{IsCutInLine, Meanwhile}
use Rattle.golf_explore_command.specs.Means.{CodeTells, Wrote, noted}
use Rattle.golf_explore_command.specs.Means.CodeComes.{Answered, OutOfMemory, OutOfMemoryLater}
use Rattle.golf_explore_command.proofs.Progressing.{progress-out, progress-err, none-told}
use Rattle.golf_explore_command.proofs.Writing.{nothing-written, still-steady, err-cut, ends, out-whole, out-cut}

-- ---- how a call that told of its progress ended

pub cut : {T : Type 0} (P : T → Type 0) {shows : Bool} {err err' : Option (List ℕ)} {ef ef' : ℕ} (fault : RunFault)
    → fault ≡ faults.Write → Meanwhile {T = T} P shows (Err fault) err err' ef ef' → IsCutInLine shows err err' ef ef'
cut P faults.Memory is h = cc
cut P faults.Write is h = h

pub short : {T : Type 0} (P : T → Type 0) {shows : Bool} {err err' : Option (List ℕ)} {ef ef' : ℕ} (fault : RunFault)
    → fault ≡ faults.Memory → Meanwhile {T = T} P shows (Err fault) err err' ef ef'
    → (n : ℕ) × HasToldLines shows n err err' ef ef'
short P faults.Write is h = cc
short P faults.Memory is h = h

-- ---- the writes of an answer

module _ (code : Code) (question : Question) (shows : Bool) (out : Option (List ℕ)) (of : ℕ) (err : Option (List ℕ))
    (ef : ℕ) where
  abbrev old : Sinks
  old = sinks out of err ef

  abbrev line : ExploreLine
  line = ExploreLine.Ask question

  -- memory ran out for the note
  pub note-lacks : (err' : Option (List ℕ)) (ef' : ℕ) (r : Status) → EndsWith r s.Memory no_memory_text err err' ef ef'
      → CodeTells code line shows r old (sinks out of err' ef')
  note-lacks err' ef' r e = record {
    status = s.Memory;
    writes = Write.ToErr no_memory_text ∷ [];
    comes = OutOfMemory question;
    wrote = ends [] old old (nothing-written old) (still-steady old) err' ef' s.Memory r no_memory_text e;
  }

  -- the write of the note failed
  pub note-fails : (err' : Option (List ℕ)) (ef' : ℕ) (note : List ℕ) → note ≡ note_line (states_in question)
      → WritesPrefix err err' note → Rose ef ef' → CodeTells code line shows s.WriteFault old (sinks out of err' ef')
  note-fails err' ef' note is prefix rose = record {
    status = s.Memory;
    writes = noted question 0 ++ Write.ToErr no_memory_text ∷ [];
    comes = OutOfMemoryLater question 0 (none-told shows err err ef ef).may;
    wrote = err-cut [] old old (nothing-written old) (still-steady old) err' ef' s.Memory
        (note_line (states_in question)) (Write.ToErr no_memory_text ∷ []) (subst (WritesPrefix err err') is prefix)
        rose;
  }

  module _ (mid : Option (List ℕ)) (mf : ℕ) (note : List ℕ) (is : note ≡ note_line (states_in question))
      (whole : Appends err mid note) (quiet : mf ≡ ef) where
    -- the note and some lines of progress were written
    got-noted : (n : ℕ) (later : Option (List ℕ)) (lf : ℕ) → Appends mid later (progress_text n)
        → GotWrites (noted question n) old (sinks out of later lf)
    got-noted n later lf a = (
      subst (Appends out out) (sym (progress-out n)) (Appends-nil out),
      subst (λ t. Appends err later (note_line (states_in question) ++ t)) (sym (progress-err n))
          (Appends-trans err mid later (note_line (states_in question)) (progress_text n)
          (subst (Appends err mid) is whole) a),
    )

    -- the write of a line of progress failed
    pub line-fails : (err' : Option (List ℕ)) (ef' : ℕ) → IsCutInLine shows mid err' mf ef'
        → CodeTells code line shows s.WriteFault old (sinks out of err' ef')
    line-fails err' ef' c = record {
      status = s.Memory;
      writes = noted question (suc c.told) ++ Write.ToErr no_memory_text ∷ [];
      comes = OutOfMemoryLater question (suc c.told) c.may;
      wrote = subst (λ (ws : List Write). Wrote s.Memory ws s.WriteFault old (sinks out of err' ef'))
          (sym (ap (λ ws. Write.ToErr (note_line (states_in question)) ∷ ws)
          (append_assoc (progress c.told) (Write.ToErr (progress_line (states_told (suc c.told))) ∷ [])
          (Write.ToErr no_memory_text ∷ []))))
          (err-cut (noted question c.told) old (sinks out of c.mid mf) (got-noted c.told c.mid mf c.got)
          (record { out = refl; err = quiet }) err' ef' s.Memory (progress_line (states_told (suc c.told)))
          (Write.ToErr no_memory_text ∷ []) c.prefix c.failed);
    }

    module _ (n : ℕ) (later : Option (List ℕ)) (lf : ℕ) (told : HasToldLines shows n mid later mf lf) where
      got : GotWrites (noted question n) old (sinks out of later lf)
      got = got-noted n later lf told.got

      steady : IsSteady old (sinks out of later lf)
      steady = record { out = refl; err = told.quiet ∙ quiet }

      -- memory ran out for the search
      pub search-lacks : (err' : Option (List ℕ)) (ef' : ℕ) (r : Status)
          → EndsWith r s.Memory no_memory_text later err' lf ef'
          → CodeTells code line shows r old (sinks out of err' ef')
      search-lacks err' ef' r e = record {
        status = s.Memory;
        writes = noted question n ++ Write.ToErr no_memory_text ∷ [];
        comes = OutOfMemoryLater question n told.may;
        wrote = ends (noted question n) old (sinks out of later lf) got steady err' ef' s.Memory r no_memory_text e;
      }

      module _ (out' : Option (List ℕ)) (of' : ℕ) (status : Status) (text slice : List ℕ)
          (answers : IsAnswer code question status text) (same : slice ≡ text) where
        -- the answer is written
        pub answer-whole : Appends out out' slice → of' ≡ of
            → CodeTells code line shows status old (sinks out' of' later lf)
        answer-whole written still = record {
          status = status;
          writes = noted question n ++ Write.ToOut text ∷ [];
          comes = Answered question n status text told.may answers;
          wrote = out-whole (noted question n) old (sinks out of later lf) got steady out' of' status text
              (subst (Appends out out') same written) still;
        }

        -- its write failed
        pub answer-fails : WritesPrefix out out' slice → Rose of of'
            → CodeTells code line shows s.WriteFault old (sinks out' of' later lf)
        answer-fails prefix rose = record {
          status = status;
          writes = noted question n ++ Write.ToOut text ∷ [];
          comes = Answered question n status text told.may answers;
          wrote = out-cut (noted question n) old (sinks out of later lf) got steady out' of' status text
              (subst (WritesPrefix out out') same prefix) rose;
        }
