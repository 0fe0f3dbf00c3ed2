-- What the ends of a call mean, by its words.
-- For: `explorer`, `serve`, src/top.rt; `CallTells`, specs/Means.antt
-- By: cases of how the reading ends; no induction
use Rattle.std.proofs.Common.{◌≡◌, ℕ, ◌≤◌, ◌⊎◌, inl, inr, Bool, true, false, List, [], ◌∷◌, ◌++◌, Some, None, sym}
use Rattle.std.proofs.Common.{if◌then◌else◌, subst, arith, refl}
use Rattle.std.specs.Prelude.{Option, option_map}
use Rattle.std.specs.Io.KnownBytes.{Keeps}
use Rattle.std.proofs.KnownBytes.{Keeps-refl}
use Rattle.golf_base.specs.Causes.{Rose}
use Rattle.golf_data.specs.declared.code.Code.{Code}
use Rattle.golf_syntax_trees.specs.declared.declarations.File.{File}
use Rattle.golf_code_of.specs.Files.{CodeOf}
use Rattle.golf_run_texts.specs.declared.status.Status.{Status}
use Rattle.golf_run_texts.specs.declared.status.Status.TheVariants as s
use Rattle.golf_run_texts.specs.Fixed.{read_fault_text, no_memory_text}
use Rattle.golf_run_texts.specs.Writes.{Write}
use Rattle.golf_data.specs.declared.goroutine.Ending.{Ending}
use Rattle.golf_model.specs.State.{ending}
use Rattle.golf_run_schedules.specs.declared.options.RunOptions.{RunOptions}
use Rattle.golf_run_texts.specs.Output.{last_of, reports_of, anyone_reported, status_by, status_of}
use Rattle.golf_run.specs.HasRun.{Sinks, sinks}
use Rattle.golf_command.specs.Ends.{EndsWith}
use Rattle.golf_command.specs.Ways.{history_options}
use Rattle.golf_command.specs.Means.{seen, SourceCauses}
use Rattle.golf_command.specs.Loads.{SourceFailed, FileRefused, MemoryRanOut, HasFile}
use Rattle.golf_explore_words.specs.declared.line.ExploreLine.{ExploreLine}
use Rattle.golf_explore_words.specs.declared.line.Request.{Request}
use Rattle.golf_explore_words.specs.Words.{asks_version, line_of, request_of}
use Rattle.golf_explore_words.specs.declared.line.Question.{Question}
use Rattle.golf_explore.specs.declared.full_search.Explored.{Explored}
use Rattle.golf_explore.specs.declared.preemption_search.SearchResult.{SearchResult}
use Rattle.golf_explore_command.specs.declared.search_answers.Searched.{Searched}
use Rattle.golf_explore_command.specs.Texts.{usage_text, version_text}
use Rattle.golf_explore_command.specs.Answers.{status_for, status_searched, IsAnswer}
use Rattle.golf_explore_command.specs.Means.{CodeComes, Wrote, CodeTells, CallTells}
use Rattle.golf_explore_command.specs.Means.ComesOf.{Misused, Versioned, Unread, Refused, Served, NoMemory}
use Rattle.golf_explore_command.proofs.Writing.{nothing-written, still-steady, ends, out-ends}

-- a status other than that of a source that failed
abbrev IsNoReadFault : Status → Type 0
IsNoReadFault s.ReadFault = ⊥
IsNoReadFault _ = Unit {0}

-- no count of the source rose
still-causes : (r : Status) (before now : ℕ) → IsNoReadFault r → now ≡ before → SourceCauses r before now
still-causes s.Clean before now n same = same
still-causes s.Found before now n same = same
still-causes s.Crashed before now n same = same
still-causes s.Spent before now n same = same
still-causes s.Refused before now n same = same
still-causes s.Usage before now n same = same
still-causes s.ReadFault before now n same = absurd n
still-causes s.WriteFault before now n same = omega (arith, same)
still-causes s.Memory before now n same = same

-- the status of one line that was written, or of its fault
line-status : (r status : Status) (text : List ℕ) (err err' : Option (List ℕ)) (ef ef' : ℕ) → IsNoReadFault status
    → EndsWith r status text err err' ef ef' → IsNoReadFault r
line-status r status text err err' ef ef' n (inl e) = subst IsNoReadFault (sym e.0) n
line-status r status text err err' ef ef' n (inr e) = subst IsNoReadFault (sym e.0) tt

read-causes : (r : Status) (text : List ℕ) (err err' : Option (List ℕ)) (ef ef' before now : ℕ) → Rose before now
    → before ≤ now → EndsWith r s.ReadFault text err err' ef ef' → SourceCauses r before now
read-causes r text err err' ef ef' before now rose later (inl e) =
    subst (λ x. SourceCauses x before now) (sym e.0) rose
read-causes r text err err' ef ef' before now rose later (inr e) =
    subst (λ x. SourceCauses x before now) (sym e.0) later

-- words for a file do not ask for the version
serves : (words : List (List ℕ)) (line : ExploreLine) → request_of words ≡ Some (Request.Serve line)
    → asks_version words ≡ false
serves words line is = go (asks_version words) (line_of words) is
  where
    go : (asks : Bool) (found : Option ExploreLine)
        → (if asks then Some Request.Version else option_map (λ l. Request.Serve l) found) ≡ Some (Request.Serve line)
        → asks ≡ false
    go true found e = absurd (cc)
    go false found e = refl

-- ---- the version

pub versioned : (words : List (List ℕ)) (left left' : Option (List ℕ)) (rf rf' : ℕ) (out out' : Option (List ℕ))
    (of of' : ℕ) (err : Option (List ℕ)) (ef : ℕ) (r : Status) (shows : Bool)
    → request_of words ≡ Some Request.Version → left' ≡ left → rf' ≡ rf
    → EndsWith r s.Clean version_text out out' of of'
    → CallTells words shows r (seen left rf (sinks out of err ef)) (seen left' rf' (sinks out' of' err ef))
versioned words left left' rf rf' out out' of of' err ef r shows is same quiet e =
    let before = sinks out of err ef in
    record {
      status = s.Clean;
      writes = Write.ToOut version_text ∷ [];
      comes = Versioned is (subst (Keeps left) (sym same) (Keeps-refl left));
      wrote = out-ends [] before before (nothing-written before) (still-steady before) out' of' s.Clean r version_text e;
      source = still-causes r rf rf' (line-status r s.Clean version_text out out' of of' tt e) quiet;
    }

module _ (words : List (List ℕ)) (left left' : Option (List ℕ)) (rf rf' : ℕ) (out : Option (List ℕ)) (of : ℕ)
    (err err' : Option (List ℕ)) (ef ef' : ℕ) (r : Status) (shows : Bool) where
  abbrev before : Sinks
  before = sinks out of err ef

  -- the line of a cause alone
  ends-alone : (status : Status) (text : List ℕ) → EndsWith r status text err err' ef ef'
      → Wrote status (Write.ToErr text ∷ []) r before (sinks out of err' ef')
  ends-alone status text e = ends [] before before (nothing-written before) (still-steady before) err' ef' status r text
      e

  abbrev Told : Type 0
  Told = CallTells words shows r (seen left rf (sinks out of err ef)) (seen left' rf' (sinks out of err' ef'))

  -- ---- the words are no line

  pub misused : request_of words ≡ None → left' ≡ left → rf' ≡ rf → EndsWith r s.Usage usage_text err err' ef ef' → Told
  misused none same quiet e = record {
    status = s.Usage;
    writes = Write.ToErr usage_text ∷ [];
    comes = Misused none (subst (Keeps left) (sym same) (Keeps-refl left));
    wrote = ends-alone s.Usage usage_text e;
    source = still-causes r rf rf' (line-status r s.Usage usage_text err err' ef ef' tt e) quiet;
  }

  pub no-memory : asks_version words ≡ false → rf' ≡ rf → EndsWith r s.Memory no_memory_text err err' ef ef' → Told
  no-memory serves-file quiet e = record {
    status = s.Memory;
    writes = Write.ToErr no_memory_text ∷ [];
    comes = NoMemory serves-file;
    wrote = ends-alone s.Memory no_memory_text e;
    source = still-causes r rf rf' (line-status r s.Memory no_memory_text err err' ef ef' tt e) quiet;
  }

  -- ---- there is no file

  module _ (line : ExploreLine) (is : request_of words ≡ Some (Request.Serve line)) where
    unread : SourceFailed r rf rf' err err' ef ef' → Told
    unread h = record {
      status = s.ReadFault;
      writes = Write.ToErr read_fault_text ∷ [];
      comes = Unread line is;
      wrote = ends-alone s.ReadFault read_fault_text h.says;
      source = read-causes r read_fault_text err err' ef ef' rf rf' h.rose h.later h.says;
    }

    refused : FileRefused r left rf rf' err err' ef ef' → Told
    refused h = record {
      status = s.Refused;
      writes = Write.ToErr h.text ∷ [];
      comes = Refused line h.bytes h.text is h.told h.why;
      wrote = ends-alone s.Refused h.text h.says;
      source = still-causes r rf rf' (line-status r s.Refused h.text err err' ef ef' tt h.says) h.quiet;
    }

    pub fails : SourceFailed r rf rf' err err' ef ef' ⊎ (FileRefused r left rf rf' err err' ef ef'
        ⊎ MemoryRanOut r rf rf' err err' ef ef') → Told
    fails (inl h) = unread h
    fails (inr (inl h)) = refused h
    fails (inr (inr h)) = no-memory (serves words line is) h.quiet h.says

-- ---- there is one

-- a run never ends as a source that failed
by_ending : (reported : Bool) (ending : Option Ending) → IsNoReadFault (status_by reported ending)
by_ending true (Some Ending.Returned) = tt
by_ending false (Some Ending.Returned) = tt
by_ending reported (Some (Ending.Panicked kind g line)) = tt
by_ending reported (Some Ending.Asleep) = tt
by_ending reported None = tt

ran : (code : Code) (options : RunOptions) → IsNoReadFault (status_of code options)
unfolding status_of
ran code options = by_ending (anyone_reported (reports_of code options)) (ending (last_of code options))

-- a code is never served as a source that failed
served-status : (code : Code) (line : ExploreLine) (shows : Bool) (r : Status) (old new : Sinks)
    → CodeTells code line shows r old new → IsNoReadFault r
served-status code line shows r old new h = wrote h.status h.writes (comes line h.status h.writes h.comes) h.wrote
  where
    by : (explored : Explored) → IsNoReadFault (status_for explored)
    by (Explored.AllVisited told) = tt
    by (Explored.Leak numbers) = tt
    by Explored.Finalisers = tt
    by Explored.TooMany = tt

    by_searched : (searched : Searched) → IsNoReadFault (status_searched searched)
    by_searched (Searched.Told (SearchResult.Found numbers)) = tt
    by_searched (Searched.Told (SearchResult.Nothing states)) = tt
    by_searched (Searched.Told SearchResult.Finalisers) = tt
    by_searched (Searched.Told SearchResult.TooMany) = tt
    by_searched (Searched.OutOfTime seconds) = tt

    answered : (question : Question) (status : Status) (text : List ℕ) → IsAnswer code question status text
        → IsNoReadFault status
    answered (Question.All most) status text a = subst IsNoReadFault (sym a.status_is) (by a.explored)
    answered (Question.Search options) status text a = subst IsNoReadFault (sym a.status_is) (by_searched a.searched)

    comes : (line : ExploreLine) (status : Status) (writes : List Write) → CodeComes code shows line status writes
        → IsNoReadFault status
    comes _ _ _ (CodeComes.Answered question told status text may a) = answered question status text a
    comes _ _ _ (CodeComes.OutOfMemory question) = tt
    comes _ _ _ (CodeComes.OutOfMemoryLater question told may) = tt
    comes _ _ _ (CodeComes.Traced options) = ran code options
    comes _ _ _ (CodeComes.OutOfMemoryInTrace options done later order) = tt
    comes _ _ _ (CodeComes.TracedByThreads threads ns turns) = ran code (history_options ns)
    comes _ _ _ (CodeComes.OutOfMemoryForTurns threads) = tt
    comes _ _ _ (CodeComes.OutOfMemoryInHistory threads ns done later turns order) = tt

    wrote : (status : Status) (writes : List Write) → IsNoReadFault status → Wrote status writes r old new
        → IsNoReadFault r
    wrote status writes n (inl e) = subst IsNoReadFault (sym e.0) n
    wrote status writes n (inr e) = subst IsNoReadFault (sym e.0) tt

pub served : {file : File} {left left' : Option (List ℕ)} {rf rf' : ℕ} {out err mid : Option (List ℕ)} {of ef mf : ℕ}
    {b : Sinks} {r : Status} (words : List (List ℕ)) (line : ExploreLine) (shows : Bool) (code : Code)
    → request_of words ≡ Some (Request.Serve line)
    → (l : HasFile file left left' rf rf') → code ≡ CodeOf file → mid ≡ err → mf ≡ ef
    → CodeTells code line shows r (sinks out of mid mf) b
    → CallTells words shows r (seen left rf (sinks out of err ef)) (seen left' rf' b)
served {file} {left} {left'} {rf} {rf'} {out} {err} {mid} {of} {ef} {mf} {b} {r} words line shows code is l same still
    quiet h =
    let told = subst (λ (y : Option (List ℕ) × ℕ). CodeTells (CodeOf file) line shows r (sinks out of y.0 y.1) b)
    (λ i. (still i, quiet i)) (subst (λ c. CodeTells c line shows r (sinks out of mid mf) b) same h) in record {
      status = told.status;
      writes = told.writes;
      comes = Served line l.bytes file told.status told.writes is l.told l.at_end l.accepts told.comes;
      wrote = told.wrote;
      source = still-causes r rf rf' (served-status (CodeOf file) line shows r (sinks out of err ef) b told) l.quiet;
    }
