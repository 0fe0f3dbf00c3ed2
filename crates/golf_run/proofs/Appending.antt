-- Runs over one list of events after another.
-- For: `run_by` and `stops_by`, golf_model/specs/Runs.antt
-- By: induction over the first list of events or of states
use Rattle.std.proofs.Common.{◌≡◌, Bool, true, List, [], ◌∷◌, ◌++◌, refl, ap, sym, ◌∙◌, append_assoc}
use Rattle.golf_data.specs.declared.code.Code.{Code}
use Rattle.golf_data.specs.declared.report.Book.{Book}
use Rattle.golf_model.specs.State.{State}
use Rattle.golf_model.specs.Collections.{plain_collect}
use Rattle.golf_model.specs.Runs.{Event, has_ended, happens, happens_by, happens_in, run, run_by, stop_in, stops_by}
use Rattle.golf_model.specs.Reports.{report, book_after, reports_from}
use Rattle.golf_run_texts.specs.Writes.{books}

-- of any kind of collections
module _ (collect : State → State) (code : Code) where
  pub run-append : (es fs : List Event) (s : State)
      → run_by collect code s (es ++ fs) ≡ run_by collect code (run_by collect code s es) fs
  run-append [] fs s = refl
  run-append (e ∷ es) fs s = run-append es fs (happens_by collect code s e)

  pub stops-append : (es fs : List Event) (s : State) → stops_by collect code s (es ++ fs) ≡ stops_by collect code s es
      ++ stops_by collect code (run_by collect code s es) fs
  stops-append [] fs s = refl
  stops-append (e ∷ es) fs s =
      ap (λ ps. stop_in collect code (has_ended s) s e ++ ps) (stops-append es fs (happens_by collect code s e))
      ∙ sym (append_assoc (stop_in collect code (has_ended s) s e)
      (stops_by collect code (happens_by collect code s e) es)
      (stops_by collect code (run_by collect code s (e ∷ es)) fs))

module _ (recover sets : Bool) where
  pub reports-append : (ps qs : List State) (book : Book)
      → reports_from recover sets book (ps ++ qs) ≡ reports_from recover sets book ps
      ++ reports_from recover sets (books recover sets book ps) qs
  reports-append [] qs book = refl
  reports-append (p ∷ ps) qs book = ap (λ rs. report recover sets book p ∷ rs)
      (reports-append ps qs (book_after recover sets book p))

  pub books-append : (ps qs : List State) (book : Book)
      → books recover sets book (ps ++ qs) ≡ books recover sets (books recover sets book ps) qs
  books-append [] qs book = refl
  books-append (p ∷ ps) qs book = books-append ps qs (book_after recover sets book p)

-- a state with an ending stays
pub ended-run : (code : Code) (es : List Event) (s : State) → has_ended s ≡ true → run code s es ≡ s
ended-run code [] s h = refl
ended-run code (e ∷ es) s h = let same : happens code s e ≡ s =
    ap (λ b. happens_in plain_collect code b s e) h in ap (λ t. run code t es) same ∙ ended-run code es s h

pub ended-stops : (code : Code) (es : List Event) (s : State) → has_ended s ≡ true
    → stops_by plain_collect code s es ≡ []
ended-stops code [] s h = refl
ended-stops code (e ∷ es) s h =
    let same : happens code s e ≡ s = ap (λ b. happens_in plain_collect code b s e) h in
    ap (λ b. stop_in plain_collect code b s e ++ stops_by plain_collect code (happens code s e) es) h
    ∙ ap (λ t. stops_by plain_collect code t es) same ∙ ended-stops code es s h
