-- What the reading of a line's file means for a line that reads.
-- For: `fetch`, `load`, src/source_file.rt; `run_source`, src/top.rt
-- By: cases of how the reading ends; no induction
use Rattle.std.proofs.Common.{◌≡◌, ◌≤◌, ℕ, List, ◌⊎◌, inl, inr, subst}
use Rattle.std.specs.Prelude.{Option}
use Rattle.golf_base.specs.Causes.{Rose, ReadsSome}
use Rattle.golf_syntax_trees.specs.declared.declarations.File.{File}
use Rattle.golf_reader.specs.declared.refusal.Refusal.{Refusal}
use Rattle.golf_reader.specs.declared.refusal.Refusal.TheVariants as refusals
use Rattle.golf_reader.specs.Refusals.{IsRefusedBy, HasTypedTree, IsOnly}
use Rattle.golf_command_words.specs.declared.line.CommandLine.{CommandLine}
use Rattle.golf_run_texts.specs.declared.status.Status.{Status}
use Rattle.golf_run_texts.specs.declared.status.Status.TheVariants as s
use Rattle.golf_run_texts.specs.Fixed.{most_bytes, too_long_text, read_fault_text, no_memory_text}
use Rattle.golf_run.specs.HasRun.{Sinks, sinks}
use Rattle.golf_command.specs.Ends.{EndsWith, Refuses}
use Rattle.golf_command.specs.Promises.{ReadsFile}
use Rattle.golf_command.specs.Promises.RefusedBy.{TooLong, Unlexed, Unparsed, Untyped}
use Rattle.golf_command.specs.Means.{seen, FileTells, LineTells}
use Rattle.golf_command.specs.Loads.{HasFetched, HasFile, EndsUnread, SourceFailed, FileRefused, MemoryRanOut}
use Rattle.golf_command.proofs.Sinking.{says}
use Rattle.golf_command.proofs.Filing.{refusal-tells}
use Rattle.golf_command.proofs.Calling.{file-tells, read-file, unread, too-long, long-file, memory-fails}

pub fails-to-read : {left left' : Option (List ℕ)} {rf rf' : ℕ} {err err' : Option (List ℕ)} {ef ef' : ℕ} {r : Status}
    → Rose rf rf' → rf ≤ rf' → EndsWith r s.ReadFault read_fault_text err err' ef ef'
    → EndsUnread r left left' rf rf' err err' ef ef'
fails-to-read {err = err} {err' = err'} {ef = ef} {ef' = ef'} {r = r} rose later e line reads within out of =
    unread line reads rose later (says out of err err' ef ef' s.ReadFault r read_fault_text e)

pub is-too-long : {left left' : Option (List ℕ)} {rf rf' : ℕ} {err err' : Option (List ℕ)} {ef ef' : ℕ} {r : Status}
    → ReadsSome left left' most_bytes → rf' ≡ rf → EndsWith r s.Refused too_long_text err err' ef ef'
    → EndsUnread r left left' rf rf' err err' ef ef'
is-too-long {err = err} {err' = err'} {ef = ef} {ef' = ef'} {r = r} more same e line reads within out of =
    too-long line reads within more same (says out of err err' ef ef' s.Refused r too_long_text e)

pub lacks-memory : {left left' : Option (List ℕ)} {rf rf' : ℕ} {err err' : Option (List ℕ)} {ef ef' : ℕ} {r : Status}
    → rf' ≡ rf → EndsWith r s.Memory no_memory_text err err' ef ef' → EndsUnread r left left' rf rf' err err' ef ef'
lacks-memory {left} {left'} {rf} {rf'} {err} {err'} {ef} {ef'} {r} same e line reads within out of =
    memory-fails line within left left' rf rf' r _ _ same (says out of err err' ef ef' s.Memory r no_memory_text e)

is-refused : {bytes : List ℕ} {left left' : Option (List ℕ)} {rf rf' : ℕ} {err err' : Option (List ℕ)} {ef ef' : ℕ}
    {r : Status} (refusal : Refusal) → HasFetched bytes left left' rf rf' → IsRefusedBy bytes refusal
    → Refuses r refusal err err' ef ef' → EndsUnread r left left' rf rf' err err' ef ef'
is-refused {bytes} {left} {err = err} {err' = err'} {ef = ef} {ef' = ef'} {r = r} refusal h why e line reads within out
    of =
    file-tells line bytes (read-file line left bytes reads h.told) h.quiet (λ _ _. h.at_end)
    (refusal-tells line bytes within reads h.within out of err err' ef ef' refusal r why e)

-- the bytes are refused, and nothing was written before
pub then-refused : {bytes : List ℕ} {left left' : Option (List ℕ)} {rf rf' : ℕ} {err err1 err' : Option (List ℕ)}
    {ef ef1 ef' : ℕ} {r : Status} (refusal : Refusal) → HasFetched bytes left left' rf rf' → err1 ≡ err → ef1 ≡ ef
    → IsRefusedBy bytes refusal → Refuses r refusal err1 err' ef1 ef' → EndsUnread r left left' rf rf' err err' ef ef'
then-refused {err' = err'} {ef' = ef'} {r = r} refusal h same quiet why e =
    is-refused refusal h why (subst (λ (y : Option (List ℕ) × ℕ). Refuses r refusal y.0 err' y.1 ef')
    (λ i. (same i, quiet i)) e)

-- there is a file, and what follows tells of it
pub loaded-tells : {file : File} {left left' : Option (List ℕ)} {rf rf' : ℕ} {out err err1 : Option (List ℕ)}
    {of ef ef1 : ℕ} {b : Sinks} {r : Status} (line : CommandLine) → ReadsFile line
    → (l : HasFile file left left' rf rf')
    → err1 ≡ err → ef1 ≡ ef
    → FileTells line l.bytes r (sinks out of err1 ef1) b
    → LineTells line r (seen left rf (sinks out of err ef)) (seen left' rf' b)
loaded-tells {left = left} {out = out} {of = of} {b = b} {r = r} line reads l same quiet h =
    file-tells line l.bytes (read-file line left l.bytes reads l.told) l.quiet (λ _ _. l.at_end)
    (subst (λ (y : Option (List ℕ) × ℕ). FileTells line l.bytes r (sinks out of y.0 y.1) b) (λ i. (same i, quiet i)) h)

-- the file of the bytes
pub of-bytes : {file : File} {bytes : List ℕ} {left left' : Option (List ℕ)} {rf rf' : ℕ}
    → HasFetched bytes left left' rf rf' → HasTypedTree bytes file → IsOnly bytes file → HasFile file left left' rf rf'
of-bytes {bytes = bytes} h typed only = record {
  bytes = bytes;
  told = h.told;
  at_end = h.at_end;
  quiet = h.quiet;
  accepts = record { within = h.within; typed = typed };
  only = only;
}

-- ---- why there is no file, in words of no line

pub too-long-so : (left left' : Option (List ℕ)) {rf rf' : ℕ} {err err' : Option (List ℕ)} {ef ef' : ℕ} {r : Status}
    → ReadsSome left left' most_bytes → rf' ≡ rf → EndsWith r s.Refused too_long_text err err' ef ef'
    → FileRefused r left rf rf' err err' ef ef'
too-long-so left left' more same e =
    let file = long-file left left' more in record {
      bytes = file.0;
      told = file.1;
      text = too_long_text;
      why = TooLong file.2;
      quiet = same;
      says = e;
    }

module _ (left left' : Option (List ℕ)) (rf rf' : ℕ) (err err' : Option (List ℕ)) (ef ef' : ℕ) (r : Status)
    (bytes : List ℕ) (h : HasFetched bytes left left' rf rf') where
  abbrev Fails : Type 0
  Fails = FileRefused r left rf rf' err err' ef ef' ⊎ MemoryRanOut r rf rf' err err' ef ef'

  lacks : EndsWith r s.Memory no_memory_text err err' ef ef' → Fails
  lacks e = inr (record { quiet = h.quiet; says = e })

  refused-so : (refusal : Refusal) → IsRefusedBy bytes refusal → Refuses r refusal err err' ef ef' → Fails
  refused-so refusal why (inr e) = lacks e
  refused-so (refusals.Lexical line byte) why (inl e) =
      inl (record {
        bytes = bytes;
        told = h.told;
        text = _;
        why = Unlexed line byte h.within why;
        quiet = h.quiet;
        says = e;
      })
  refused-so (refusals.Syntax line) why (inl e) =
      inl (record {
        bytes = bytes;
        told = h.told;
        text = _;
        why = Unparsed line h.within why;
        quiet = h.quiet;
        says = e;
      })
  refused-so (refusals.Untyped line rule) why (inl e) =
      inl (record {
        bytes = bytes;
        told = h.told;
        text = _;
        why = Untyped line rule h.within why;
        quiet = h.quiet;
        says = e;
      })
  refused-so refusals.Memory why (inl e) = lacks e

-- the bytes are refused, and nothing was written before
pub then-fails : {bytes : List ℕ} {left left' : Option (List ℕ)} {rf rf' : ℕ} {err err1 err' : Option (List ℕ)}
    {ef ef1 ef' : ℕ} {r : Status} (refusal : Refusal) → HasFetched bytes left left' rf rf' → err1 ≡ err → ef1 ≡ ef
    → IsRefusedBy bytes refusal → Refuses r refusal err1 err' ef1 ef'
    → SourceFailed r rf rf' err err' ef ef' ⊎ (FileRefused r left rf rf' err err' ef ef'
    ⊎ MemoryRanOut r rf rf' err err' ef ef')
then-fails {bytes} {left} {left'} {rf} {rf'} {err} {err' = err'} {ef = ef} {ef' = ef'} {r = r} refusal h same quiet why
    e =
    inr (refused-so left left' rf rf' err err' ef ef' r bytes h refusal why
    (subst (λ (y : Option (List ℕ) × ℕ). Refuses r refusal y.0 err' y.1 ef') (λ i. (same i, quiet i)) e))
