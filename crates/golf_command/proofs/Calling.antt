-- What the ends of a call mean, by its words.
-- For: `golf`, `serve`, src/top.rt; `fetch`, src/source_file.rt; `Tells`, specs/Means.antt
-- By: cases of the line and of how the call ends; no induction
use Rattle.std.proofs.Common.{◌≡◌, ◌≤◌, ◌<◌, ◌+◌, ℕ, List, [], ◌∷◌, ◌++◌, length, length-append, refl, sym, subst, ap}
use Rattle.std.proofs.Common.{◌∙◌, ◌⊎◌, inl, inr, append-nil, arith}
use Rattle.std.specs.Prelude.{Option, Some, None, IfSome, replicate}
use Rattle.std.specs.Io.KnownBytes.{Appends, Keeps, Consumes, IsAtEnd}
use Rattle.std.proofs.KnownBytes.{Keeps-refl}
use Rattle.std.proofs.lemmas.List.{length-replicate}
use Rattle.golf_base.specs.Causes.{Rose, ReadsSome}
use Rattle.golf_code_of.specs.Files.{CodeOf}
use Rattle.golf_command_sample.specs.File.{file as generated_file}
use Rattle.golf_command_words.specs.declared.line.CommandLine.{CommandLine}
use Rattle.golf_command_words.specs.Words.{line_of, IsWithin}
use Rattle.golf_command_words.proofs.Limits.{line-within}
use Rattle.golf_run_texts.specs.declared.status.Status.{Status}
use Rattle.golf_run_texts.specs.declared.status.Status.TheVariants as s
use Rattle.golf_run_texts.specs.Fixed.{most_bytes, usage_text, read_fault_text, too_long_text, no_memory_text}
use Rattle.golf_run_texts.specs.Writes.{Write}
use Rattle.golf_run.specs.HasRun.{Sinks, GotWrites, HasFailed, IsSteady}
use Rattle.golf_command.specs.Ways.{out_for, err_for}
use Rattle.golf_command.specs.Promises.{StandFor, IsNoLine, ReadsFile, IsFileOf, WordsMean}
use Rattle.golf_command.specs.Promises.RefusedBy.{TooLong}
use Rattle.golf_command.specs.Promises.WordsMean.{Misused, Refused, Goes}
use Rattle.golf_command.specs.Means.{View, seen, FileMeans, GoesWhole, Says, IsWholeEnd, LineMeans, UsageMeans}
use Rattle.golf_command.specs.Means.{SinkCauses, SourceCauses, Causes, IsQuiet, GotMeaning, FileTells, LineTells}
use Rattle.golf_command.specs.Means.{IsUntouched, Tells}
use Rattle.golf_command.specs.Served.{AsksThreads}
use Rattle.golf_command.proofs.Sinking.{some-rose}
use Rattle.golf_command.proofs.Filing.{refused-tells, memory-tells}

-- ---- a line

-- no count of the source rose, and no other than those of a file's run
causes-of : (r : Status) (before now : ℕ) (a b : Sinks) → now ≡ before → SinkCauses r a b → (r ≡ s.ReadFault → ⊥)
    → SourceCauses r before now
causes-of s.Clean before now a b e h never = e
causes-of s.Found before now a b e h never = e
causes-of s.Crashed before now a b e h never = e
causes-of s.Spent before now a b e h never = e
causes-of s.Refused before now a b e h never = e
causes-of s.Usage before now a b e h never = e
causes-of s.ReadFault before now a b e h never = absurd (never refl)
causes-of s.WriteFault before now a b e h never = omega (arith, e)
causes-of s.Memory before now a b e h never = e

-- a run over a file's bytes does not end so
no-read-fault : (line : CommandLine) (bytes : List ℕ) (r : Status) (a b : Sinks) → FileMeans line bytes r a b
    → r ≡ s.ReadFault → ⊥
no-read-fault line bytes s.Clean a b m e = cc
no-read-fault line bytes s.Found a b m e = cc
no-read-fault line bytes s.Crashed a b m e = cc
no-read-fault line bytes s.Spent a b m e = cc
no-read-fault line bytes s.Refused a b m e = cc
no-read-fault line bytes s.Usage a b m e = cc
no-read-fault line bytes s.ReadFault a b m e = m
no-read-fault line bytes s.WriteFault a b m e = cc
no-read-fault line bytes s.Memory a b m e = cc

-- a file of which the status tells
pub file-tells : {left left' : Option (List ℕ)} {rf rf' : ℕ} {r : Status} {a b : Sinks} (line : CommandLine)
    (bytes : List ℕ)
    → IsFileOf line left bytes → rf' ≡ rf → (ReadsFile line → IsWholeEnd r → IsAtEnd left') → FileTells line bytes r a b
    → LineTells line r (seen left rf a) (seen left' rf' b)
file-tells {rf = rf} {rf' = rf'} {r = r} {a = a} {b = b} line bytes is same end h = record {
  means = inr (record { bytes = bytes; is_file = is; means = h.means; at_end = end });
  causes = record {
    source = causes-of r rf rf' a b same h.causes (no-read-fault line bytes r a b h.means);
    sinks = h.causes;
  };
}

-- the bytes that were read to their end are those that were left
pub all-left : (left left' : Option (List ℕ)) (bytes : List ℕ) → Consumes left left' bytes → IsAtEnd left'
    → IfSome left (λ told. told ≡ bytes)
all-left None left' bytes t e = tt
all-left (Some xs) None bytes t e = absurd t
all-left (Some xs) (Some ys) bytes t e = t ∙ ap (λ zs. bytes ++ zs) e ∙ append-nil bytes

-- bytes that may be those of the line
known : (left : Option (List ℕ)) → (bytes : List ℕ) × IfSome left (λ told. told ≡ bytes)
known None = ([], tt)
known (Some xs) = (xs, refl)

some-file : (line : CommandLine) (left : Option (List ℕ)) → (bytes : List ℕ) × IsFileOf line left bytes
some-file (CommandLine.Run options) left = known left
some-file (CommandLine.Generate n) left = (generated_file n, refl)
some-file (CommandLine.Threads n) left = known left
some-file CommandLine.Meaning left = known left

-- the file of a line that reads is what was left
pub read-file : (line : CommandLine) (left : Option (List ℕ)) (bytes : List ℕ) → ReadsFile line
    → IfSome left (λ told. told ≡ bytes) → IsFileOf line left bytes
read-file (CommandLine.Run options) left bytes reads told = told
read-file (CommandLine.Generate n) left bytes reads told = absurd reads
read-file (CommandLine.Threads n) left bytes reads told = told
read-file CommandLine.Meaning left bytes reads told = told

-- memory ran out before anything was run
pub memory-fails : (line : CommandLine) (within : IsWithin line) (left left' : Option (List ℕ)) (rf rf' : ℕ)
    (r : Status) (a b : Sinks) → rf' ≡ rf → Says s.Memory no_memory_text r a b
    → LineTells line r (seen left rf a) (seen left' rf' b)
memory-fails line within left left' rf rf' r a b same h =
    let file = some-file line left in
    file-tells line file.0 file.1 same (λ reads ran. absurd (no-run r a b h ran))
    (memory-tells line file.0 within a b r h)
  where
    no-run : (r : Status) (a b : Sinks) → Says s.Memory no_memory_text r a b → IsWholeEnd r → ⊥
    no-run r a b (inl e) ran = subst IsWholeEnd e.0 ran
    no-run r a b (inr e) ran = subst IsWholeEnd e.0 ran

-- the source failed
pub unread : {left left' : Option (List ℕ)} {rf rf' : ℕ} {r : Status} {a b : Sinks} (line : CommandLine)
    → ReadsFile line
    → Rose rf rf' → rf ≤ rf' → Says s.ReadFault read_fault_text r a b
    → LineTells line r (seen left rf a) (seen left' rf' b)
unread {left} {left'} {rf} {rf'} {r} {a} {b} line reads rose later h = record {
  means = inl (record { reads = reads; failed = rose; says = h });
  causes = caused h;
}
  where
    caused : Says s.ReadFault read_fault_text r a b → Causes r (seen left rf a) (seen left' rf' b)
    caused (inl e) = subst (λ t. Causes t (seen left rf a) (seen left' rf' b)) (sym e.0)
        (record { source = rose; sinks = e.2 })
    caused (inr e) = subst (λ t. Causes t (seen left rf a) (seen left' rf' b)) (sym e.0)
        (record { source = later; sinks = some-rose (Write.ToErr read_fault_text) a b e.1.failed })

-- more bytes came than a file may have
longer : (n : ℕ) → (bytes : List ℕ) × (n < length bytes)
longer n = (replicate (n + 1) 0, omega (arith, length-replicate {A = ℕ}))

pub long-file : (left left' : Option (List ℕ)) → ReadsSome left left' most_bytes → (bytes : List ℕ)
    × IfSome left (λ told. told ≡ bytes) × (most_bytes < length bytes)
long-file None left' h = let some = longer most_bytes in (some.0, tt, some.1)
long-file (Some xs) None h = absurd h.1
long-file (Some xs) (Some ys) h = (xs, refl, omega (arith, ap length h.1, length-append h.0 ys, h.2))

pub too-long : {left left' : Option (List ℕ)} {rf rf' : ℕ} {r : Status} {a b : Sinks} (line : CommandLine)
    → ReadsFile line
    → IsWithin line → ReadsSome left left' most_bytes → rf' ≡ rf → Says s.Refused too_long_text r a b
    → LineTells line r (seen left rf a) (seen left' rf' b)
too-long {left} {left'} {r = r} {a = a} {b = b} line reads within more same h =
    let file = long-file left left' more in
    file-tells line file.0 (read-file line left file.0 reads file.1) same (λ _ ran. absurd (no-run h ran))
    (refused-tells line file.0 within a b reads too_long_text r (TooLong file.2) h)
  where
    no-run : Says s.Refused too_long_text r a b → IsWholeEnd r → ⊥
    no-run (inl e) ran = subst IsWholeEnd e.0 ran
    no-run (inr e) ran = subst IsWholeEnd e.0 ran

-- ---- all words

-- a line of words is within its limits
line-is-within : (words : List (List ℕ)) (line : CommandLine) → StandFor words line → IsWithin line
line-is-within words line is = subst (λ (o : Option CommandLine). IfSome o IsWithin) is (line-within words)

same-line : (a b : CommandLine) → ◌≡◌ {A = Option CommandLine} (Some a) (Some b) → a ≡ b
same-line a b e = cc

not-none : (a : CommandLine) → ◌≡◌ {A = Option CommandLine} (Some a) None → ⊥
not-none a e = cc

-- a write that failed raised a count
loud : (cut : Write) (left left' : Option (List ℕ)) (rf rf' : ℕ) (a b : Sinks)
    → IsQuiet (seen left rf a) (seen left' rf' b) → HasFailed cut a b → ⊥
loud (Write.ToOut bytes) left left' rf rf' a b q f = q.out f.0
loud (Write.ToErr bytes) left left' rf rf' a b q f = q.err f.1

module _ (words : List (List ℕ)) (left left' : Option (List ℕ)) (rf rf' : ℕ) (a b : Sinks) where
  abbrev before : View
  before = seen left rf a

  abbrev after : View
  after = seen left' rf' b

  abbrev Whole : Status → Type 0
  Whole r = (r ≡ s.Memory) ⊎ GotMeaning words r before after

  module _ (quiet : IsQuiet before after) where
    -- a line that says why nothing was done
    line-got : (r : Status) (text : List ℕ) → WordsMean words left r [] text → GotWrites (Write.ToErr text ∷ []) a b
        → GotMeaning words r before after
    line-got r text why got = record {
      out = [];
      err = text;
      meaning = why;
      got_out = got.0;
      got_err = subst (Appends a.err b.err) (append-nil text) got.1;
    }

    said : (status r : Status) (text : List ℕ) → Says status text r a b → (status ≡ s.Memory)
        ⊎ WordsMean words left status [] text → Whole r
    said status r text (inl e) (inl want) = inl (e.0 ∙ want)
    said status r text (inl e) (inr why) =
        inr (line-got r text (subst (λ t. WordsMean words left t [] text) (sym e.0) why) e.1)
    said status r text (inr e) why = absurd (loud (Write.ToErr text) left left' rf rf' a b quiet e.1.failed)

    ran : (line : CommandLine) (bytes : List ℕ) (r : Status) → StandFor words line → IsFileOf line left bytes
        → GoesWhole line bytes r a b → Whole r
    ran line bytes r is file h =
        let out = out_for h.way (CodeOf h.file) in
        let err = err_for h.way (CodeOf h.file) in
        inr (record {
          out = out;
          err = err;
          meaning = subst (λ t. WordsMean words left t out err) (sym h.status)
              (Goes line bytes h.file h.way is file h.accepts h.is_way);
          got_out = h.out;
          got_err = h.err;
        })

    of-file : (line : CommandLine) (bytes : List ℕ) (r : Status) → StandFor words line → IsFileOf line left bytes
        → FileMeans line bytes r a b → Whole r
    of-file line bytes s.Clean is file m = ran line bytes s.Clean is file m
    of-file line bytes s.Found is file m = ran line bytes s.Found is file m
    of-file line bytes s.Crashed is file m = ran line bytes s.Crashed is file m
    of-file line bytes s.Spent is file m = ran line bytes s.Spent is file m
    of-file line bytes s.Refused is file m =
        inr (line-got s.Refused m.text (Refused line bytes m.text is m.reads file m.why) m.got)
    of-file line bytes s.Usage is file m = absurd m
    of-file line bytes s.ReadFault is file m = absurd m
    of-file line bytes s.WriteFault is file m = absurd (loud m.1.0 left left' rf rf' a b quiet m.1.2.failed)
    of-file line bytes s.Memory is file m = inl refl

    of-line : (line : CommandLine) (r : Status) → StandFor words line → LineMeans line r before after → Whole r
    of-line line r is (inl h) = absurd (quiet.source h.failed)
    of-line line r is (inr h) = of-file line h.bytes r is h.is_file h.means

    of-none : (r : Status) → IsNoLine words → UsageMeans r before after → Whole r
    of-none r none (inl h) = said s.Usage r usage_text h (inr (Misused none))
    of-none r none (inr h) = said s.Memory r no_memory_text h (inl refl)

    of-words : (o : Option CommandLine) (r : Status) → line_of words ≡ o
        → ((line : CommandLine) → StandFor words line → LineMeans line r before after)
        → (IsNoLine words → UsageMeans r before after) → Whole r
    of-words (Some line) r is m u = of-line line r is (m line is)
    of-words None r is m u = of-none r is (u is)

  tells : (r : Status) → ((line : CommandLine) → StandFor words line → LineMeans line r before after)
      → (IsNoLine words → UsageMeans r before after)
      → (((line : CommandLine) → StandFor words line → ReadsFile line → ⊥) → IsUntouched before after)
      → Causes r before after
      → Tells words r before after
  tells r means usage unread causes = record {
    line = means;
    usage = usage;
    unread = unread;
    causes = causes;
    complete = λ quiet. of-words quiet (line_of words) r refl means usage;
  }

  untouched : left' ≡ left → rf' ≡ rf → IsUntouched before after
  untouched same counts = record { left = subst (Keeps left) (sym same) (Keeps-refl left); faults = counts }

  tells-line : (line : CommandLine) (r : Status) → StandFor words line → LineTells line r before after
      → ((ReadsFile line → ⊥) → IsUntouched before after) → Tells words r before after
  tells-line line r is h unread = tells r
      (λ other same. subst (λ l. LineMeans l r before after) (same-line line other (sym is ∙ same)) h.means)
      (λ none. absurd (not-none line (sym is ∙ none)))
      (λ none. unread (λ reads. none line is reads))
      h.causes

  -- the words are a line that reads
  pub tells-reading : (line : CommandLine) (r : Status) → ReadsFile line → StandFor words line
      → LineTells line r before after
      → Tells words r before after
  tells-reading line r reads is h = tells-line line r is h (λ none. absurd (none reads))

  -- they ask for a generated file
  pub tells-generate : (n : ℕ) (r : Status) → StandFor words (CommandLine.Generate n)
      → LineTells (CommandLine.Generate n) r before after → left' ≡ left → rf' ≡ rf → Tells words r before after
  tells-generate n r is h same counts = tells-line (CommandLine.Generate n) r is h (λ _. untouched same counts)

  says-causes : (status r : Status) (text : List ℕ)
      → ((v w : View) → w.read_faults ≡ v.read_faults → IsSteady v.sinks w.sinks → Causes status v w) → rf' ≡ rf
      → Says status text r a b → Causes r before after
  says-causes status r text quiet same (inl e) =
      subst (λ t. Causes t before after) (sym e.0) (quiet before after same e.2)
  says-causes status r text quiet same (inr e) =
      subst (λ t. Causes t before after) (sym e.0)
      (record { source = omega (arith, same); sinks = some-rose (Write.ToErr text) a b e.1.failed })

  -- they are no line
  pub tells-usage : (r : Status) → IsNoLine words → Says s.Usage usage_text r a b → left' ≡ left → rf' ≡ rf
      → Tells words r before after
  tells-usage r none h same counts = tells r
      (λ line is. absurd (not-none line (sym is ∙ none)))
      (λ _. inl h)
      (λ _. untouched same counts)
      (says-causes s.Usage r usage_text (λ v w x y. record { source = x; sinks = y }) counts h)

  -- memory ran out for the words
  pub tells-memory : (r : Status) → Says s.Memory no_memory_text r a b → left' ≡ left → rf' ≡ rf
      → Tells words r before after
  tells-memory r h same counts =
      let causes : Causes r before after = says-causes s.Memory r no_memory_text
      (λ v w x y. record { source = x; sinks = y }) counts h in
      tells r (λ line is. (memory-fails line (line-is-within words line is) left left' rf rf' r a b counts h).means)
      (λ _. inr h) (λ _. untouched same counts) causes

-- a line that asks for a generated file reads nothing
pub generated-line : (n : ℕ) (left : Option (List ℕ)) (rf : ℕ) (r : Status) (a b : Sinks)
    → FileTells (CommandLine.Generate n) (generated_file n) r a b
    → LineTells (CommandLine.Generate n) r (seen left rf a) (seen left rf b)
generated-line n left rf r a b h = file-tells (CommandLine.Generate n) (generated_file n) refl refl
    (λ reads ran. absurd reads) h

-- a run by threads tells all, if the call before it left it and changed nothing
pub tells-threads : (words : List (List ℕ)) (n : ℕ) (r : Status) (before mid after : View)
    → AsksThreads words n before mid → LineTells (CommandLine.Threads n) r mid after → Tells words r before after
tells-threads words n r before mid after asks h =
    tells-reading words before.left after.left before.read_faults after.read_faults before.sinks after.sinks
    (CommandLine.Threads n) r tt asks.line
    (subst (λ (v : View). LineTells (CommandLine.Threads n) r v after) asks.same h)
