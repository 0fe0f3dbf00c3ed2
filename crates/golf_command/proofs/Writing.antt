-- What it means that the texts of a run that is over were written, or could not be made.
-- For: `write_texts`, `write_told`, src/texts.rt; `HasWrittenRun`, specs/Written.antt
-- By: cases of whether the texts were made and written; no induction
use Rattle.std.proofs.Common.{◌≡◌, ℕ, List, [], ◌∷◌, refl, sym, subst, ap, ◌∙◌, inl, inr, append-nil}
use Rattle.std.specs.Prelude.{Option, false, Result, Ok, Err, IfOk}
use Rattle.std.specs.Io.KnownBytes.{Appends}
use Rattle.std.proofs.KnownBytes.{Appends-nil}
use Rattle.golf_base.specs.Causes.{Rose, WritesPrefix}
use Rattle.golf_base.specs.declared.Memory.{Memory}
use Rattle.golf_data.specs.declared.code.Code.{Code}
use Rattle.golf_syntax_trees.specs.declared.declarations.File.{File}
use Rattle.golf_code_of.specs.Files.{CodeOf}
use Rattle.golf_meaning_statements.specs.Files.{function_count}
use Rattle.golf_run_texts.specs.Texts.{meaning_line}
use Rattle.golf_reader.specs.Refusals.{IsOnly}
use Rattle.golf_command_words.specs.declared.line.CommandLine.{CommandLine}
use Rattle.golf_command_words.specs.Words.{IsWithin}
use Rattle.golf_run_texts.specs.declared.status.Status.{Status}
use Rattle.golf_run_texts.specs.declared.status.Status.TheVariants as s
use Rattle.golf_run_texts.specs.Fixed.{no_memory_text}
use Rattle.golf_run_texts.specs.Writes.{Write}
use Rattle.golf_run.specs.HasRun.{Sinks, sinks}
use Rattle.golf_command.specs.declared.texts.RunTexts.{RunTexts}
use Rattle.golf_command.specs.GeneratedRuns.{generated_writes}
use Rattle.golf_command.specs.Ways.{Way, IsWayOf, AreTurns, out_for, err_for, writes_for}
use Rattle.golf_command.specs.Written.{AreTextsOf, AreTextsByThreads, text_writes, WroteBoth, HasWrittenRun}
use Rattle.golf_command.specs.Written.{HasWrittenText}
use Rattle.golf_command.specs.Promises.{Accepts}
use Rattle.golf_command.specs.Means.{Says, FileTells}
use Rattle.golf_command.proofs.Filing.{went-tells, failed-tells, memory-tells}

-- ---- both texts

module _ (out out' err err' : Option (List ℕ)) (of of' ef ef' : ℕ) (text line : List ℕ) where
  -- the second one was cut
  pub line-cut : Appends out out' text → of' ≡ of → WritesPrefix err err' line → Rose ef ef'
      → WroteBoth false text line (sinks out of err ef) (sinks out' of' err' ef')
  line-cut a e f rose = record {
    done = Write.ToOut text ∷ [];
    cut = Write.ToErr line;
    prefix = Write.ToErr f.0;
    later = [];
    order = refl;
    is_prefix = (f.1, f.2);
    got = (subst (Appends out out') (sym (append-nil text)) a, subst (Appends err err') (sym (append-nil f.0)) f.3);
    failed = (e, rose);
  }

-- the first one was cut, and nothing was written after it
pub text-cut : (out out' err : Option (List ℕ)) (of of' ef : ℕ) (text line : List ℕ) → WritesPrefix out out' text
    → Rose of of' → WroteBoth false text line (sinks out of err ef) (sinks out' of' err ef)
text-cut out out' err of of' ef text line f rose = record {
  done = [];
  cut = Write.ToOut text;
  prefix = Write.ToOut f.0;
  later = Write.ToErr line ∷ [];
  order = refl;
  is_prefix = (f.1, f.2);
  got = (subst (Appends out out') (sym (append-nil f.0)) f.3, Appends-nil err);
  failed = (rose, refl);
}

-- ---- the texts of a run

-- a way in which all is written at the end
abbrev pub WritesLast : Way → Code → Type 0
WritesLast way code = writes_for way code ≡ Write.ToOut (out_for way code) ∷ Write.ToErr (err_for way code) ∷ []

pub generated-last : (parts : ℕ) (code : Code) → WritesLast (Way.Generated parts) code
unfolding generated_writes
generated-last parts code = refl

-- the file has this code, and its run goes in this way
module _ (line : CommandLine) (bytes : List ℕ) (within : IsWithin line) (file : File) (code : Code)
    (accepted : Accepts bytes file) (is : code ≡ CodeOf file) (only : IsOnly bytes file) where
  module _ (way : Way) (is_way : IsWayOf line file way) (last : WritesLast way code) (of : RunTexts)
      (h : AreTextsOf of way code) (old new : Sinks) where
    these : writes_for way code ≡ text_writes of
    these = last ∙ ap (λ t. Write.ToOut t ∷ Write.ToErr (err_for way code) ∷ []) (sym h.out)
        ∙ ap (λ t. Write.ToOut of.out ∷ Write.ToErr t ∷ []) (sym h.err)

    texts-tell : (r : Status) → HasWrittenRun (Ok of) r old new → FileTells line bytes r old new
    texts-tell r (inl w) = went-tells line bytes within file code accepted is only way is_way old new r (w.0 ∙ h.status)
        (subst (Appends old.out new.out) (append-nil of.out ∙ h.out) w.1.0)
        (subst (Appends old.err new.err) (append-nil of.err ∙ h.err) w.1.1) w.2
    texts-tell r (inr w) =
        subst (λ t. FileTells line bytes t old new) (sym w.0)
        (failed-tells line bytes within file code accepted is only way is_way old new w.1.done w.1.later w.1.cut
        (these ∙ w.1.order)
        (record { prefix = w.1.prefix; is_prefix = w.1.is_prefix; got = w.1.got; failed = w.1.failed }))

  -- texts of some way of the line, or none
  abbrev MadeOf : RunTexts → Type 0
  MadeOf of = (way : Way) × IsWayOf line file way × WritesLast way code × AreTextsOf of way code

  pub written-tells : (made : Result RunTexts Memory) (r : Status) (old new : Sinks) → IfOk made MadeOf
      → HasWrittenRun made r old new → FileTells line bytes r old new
  written-tells (Ok of) r old new h w = texts-tell h.0 h.1 h.2 of h.3 old new r w
  written-tells (Err m) r old new h w = memory-tells line bytes within old new r w

pub made-of-parts : (parts : ℕ) (file : File) (code : Code) (made : Result RunTexts Memory)
    → IfOk made (λ of. AreTextsOf of (Way.Generated parts) code)
    → IfOk made (λ of. (way : Way) × IsWayOf (CommandLine.Generate parts) file way × WritesLast way code
    × AreTextsOf of way code)
made-of-parts parts file code (Ok of) h = (Way.Generated parts, refl, generated-last parts code, h)
made-of-parts parts file code (Err m) h = tt

pub made-by-threads : (threads : ℕ) (file : File) (code : Code) → code ≡ CodeOf file → (made : Result RunTexts Memory)
    → IfOk made (λ of. AreTextsByThreads of threads code)
    → IfOk made (λ of. (way : Way) × IsWayOf (CommandLine.Threads threads) file way × WritesLast way code
    × AreTextsOf of way code)
made-by-threads threads file code is (Ok of) h =
    (Way.ByThreads h.0, (h.0, refl, subst (λ c. AreTurns c threads h.0) is h.1), refl, h.2)
made-by-threads threads file code is (Err m) h = tt

-- ---- the text of a line that runs nothing

module _ (bytes : List ℕ) (file : File) (accepted : Accepts bytes file) (only : IsOnly bytes file) where
  abbrev way : Way
  way = Way.Compared (function_count file.declarations)

  pub told-tells : (made : Result (List ℕ) Memory) (r : Status) (old new : Sinks)
      → IfOk made (λ text. text ≡ meaning_line (function_count file.declarations)) → HasWrittenText made r old new
      → FileTells CommandLine.Meaning bytes r old new
  told-tells (Ok text) r old new is (inl w) =
      went-tells CommandLine.Meaning bytes tt file (CodeOf file) accepted refl only way refl old new r w.0
      (subst (Appends old.out new.out) (append-nil text ∙ is) w.1.0) w.1.1 w.2
  told-tells (Ok text) r old new is (inr w) =
      subst (λ t. FileTells CommandLine.Meaning bytes t old new) (sym w.0)
      (failed-tells CommandLine.Meaning bytes tt file (CodeOf file) accepted refl only way refl old new [] []
      (Write.ToOut text) (ap (λ t. Write.ToOut t ∷ []) (sym is)) w.1)
  told-tells (Err m) r old new is w = memory-tells CommandLine.Meaning bytes tt old new r w

pub told-whole : (out out' err : Option (List ℕ)) (of of' ef : ℕ) (text : List ℕ) → Appends out out' text → of' ≡ of
    → HasWrittenText (Ok text) s.Clean (sinks out of err ef) (sinks out' of' err ef)
told-whole out out' err of of' ef text a e =
    inl (refl, (subst (Appends out out') (sym (append-nil text)) a, Appends-nil err), record { out = e; err = refl })

pub told-cut : (out out' err : Option (List ℕ)) (of of' ef : ℕ) (text : List ℕ) → WritesPrefix out out' text
    → Rose of of' → HasWrittenText (Ok text) s.WriteFault (sinks out of err ef) (sinks out' of' err ef)
told-cut out out' err of of' ef text f rose =
    inr (
      refl,
      record {
        prefix = Write.ToOut f.0;
        is_prefix = (f.1, f.2);
        got = (subst (Appends out out') (sym (append-nil f.0)) f.3, Appends-nil err);
        failed = (rose, refl);
      },
    )

-- the text in other words
pub same-text : (made : Result (List ℕ) Memory) (text now : List ℕ) (r : Status) (old new : Sinks) → made ≡ Ok text
    → now ≡ text → HasWrittenText (Ok now) r old new → HasWrittenText made r old new
same-text made text now r old new e n told =
    subst (λ (x : Result (List ℕ) Memory). HasWrittenText x r old new) (sym e)
    (subst (λ (t : List ℕ). HasWrittenText (Ok t) r old new) n told)

pub none-told : (made : Result (List ℕ) Memory) (m : Memory) (r : Status) (old new : Sinks) → made ≡ Err m
    → Says s.Memory no_memory_text r old new → HasWrittenText made r old new
none-told made m r old new e said = subst (λ (x : Result (List ℕ) Memory). HasWrittenText x r old new) (sym e) said

-- there are none
pub none-written : (made : Result RunTexts Memory) (m : Memory) (r : Status) (old new : Sinks) → made ≡ Err m
    → Says s.Memory no_memory_text r old new → HasWrittenRun made r old new
none-written made m r old new e said = subst (λ (x : Result RunTexts Memory). HasWrittenRun x r old new) (sym e) said

-- the file in other words
pub same-file : (line : CommandLine) (bytes other : List ℕ) (r : Status) (old new : Sinks) → bytes ≡ other
    → FileTells line bytes r old new → FileTells line other r old new
same-file line bytes other r old new e h = subst (λ bs. FileTells line bs r old new) e h
