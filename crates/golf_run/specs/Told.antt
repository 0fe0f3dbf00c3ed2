-- The lines of one collection of a run, with recovery or without, of a code that sets finalisers or does not.
use Rattle.std.specs.Prelude.{◌≡◌, ℕ, Bool, true, false, List, [], ◌∷◌, map, length, Option, Some, None, Result, Ok}
use Rattle.std.specs.Prelude.{Err}
use Rattle.std.specs.Io.KnownBytes.{Appends}
use Rattle.golf_base.specs.Causes.{Rose}
use Rattle.golf_data.specs.declared.report.Book.{Book}
use Rattle.golf_data.specs.declared.report.Report.{Report}
use Rattle.golf_model.specs.State.{State}
use Rattle.golf_model.specs.Collections.{real_collect}
use Rattle.golf_model.specs.Reports.{report, book_after}
use Rattle.golf_why.specs.declared.explanation.Explanation.{Explanation}
use Rattle.golf_why.specs.Explanations.{reached_from, Explains, IsExplanation}
use Rattle.golf_run_texts.specs.Texts.{certificate_line, reached_line}
use Rattle.golf_run_texts.specs.Output.{joined}
use Rattle.golf_run_texts.specs.Writes.{told_lines}
use Rattle.golf_run_texts.specs.declared.totals.Totals.{Totals}
use Rattle.golf_run.specs.declared.fault.RunFault.{RunFault}
use Rattle.golf_run.specs.declared.fault.RunFault.TheVariants as faults
use Rattle.golf_run.specs.Lines.{IsCutIn, IsStoppedIn}

-- the report of a collection on this state
unfoldable pub told : Bool → Bool → Book → State → Report
told recover sets book s = report recover sets book s

-- the lines of this collection
unfoldable pub told_by : Bool → Bool → Bool → Book → State → List (List ℕ)
told_by recover sets why book s = told_lines why (told recover sets book s) s

-- the explanation of the state, if it is asked for
abbrev pub ExplainsIf : Bool → State → Option Explanation → Type 0
ExplainsIf false s o = o ≡ None
ExplainsIf true s None = ⊥
ExplainsIf true s (Some e) = Explains s e × IsExplanation e

-- the lines of the explanation
abbrev pub explained_lines : ℕ → Option Explanation → List (List ℕ)
explained_lines number None = []
explained_lines number (Some e) = certificate_line number e.places
    ∷ map reached_line (reached_from e.graph 0 e.sleeper_entries)

-- the book after this collection
unfoldable pub noted : Bool → Bool → Book → State → Book
noted recover sets book s = book_after recover sets book s

-- the totals: the counts of a book, and those of its last report
abbrev pub totals_by : Book → Report → Totals
totals_by book r = record {
  collections = book.collections;
  reported = length book.reported;
  kept = r.kept;
  reclaimed = length book.reclaimed;
  objects = r.objects;
}

-- the totals of all reports so far
unfoldable pub totalled : Bool → Bool → Book → State → Totals
totalled recover sets book s = totals_by (noted recover sets book s) (told recover sets book s)

-- the state after this collection
unfoldable pub collected : Bool → Bool → State → State
collected recover sets s = real_collect s recover sets

-- The lines were written, the book has the report, and the state is the one after the collection. Or a write failed in
-- the middle of a line. Or memory ran out between two lines.
abbrev pub HasTold : Bool → Bool → Bool → Result Totals RunFault → State → State → Book → Book → Option (List ℕ)
    → Option (List ℕ) → ℕ → ℕ → Type 0
HasTold recover sets why (Ok totals) s after book book' err err' before now =
    (totals ≡ totalled recover sets book s) × (after ≡ collected recover sets s) × (book' ≡ noted recover sets book s)
    × Appends err err' (joined (told_by recover sets why book s)) × (now ≡ before)
HasTold recover sets why (Err faults.Write) s after book book' err err' before now =
    IsCutIn (told_by recover sets why book s) err err' × Rose before now
HasTold recover sets why (Err faults.Memory) s after book book' err err' before now =
    IsStoppedIn (told_by recover sets why book s) err err' × (now ≡ before)
