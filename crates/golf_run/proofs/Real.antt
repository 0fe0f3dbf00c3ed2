-- The machine whose collections free and remove, beside the plain one.
-- For: `real_at` and `at`, specs/UnderWay.antt
-- By: equations, from the laws of one list of events after another; no induction here
use Rattle.std.proofs.Common.{◌≡◌, Bool, List, [], ◌∷◌, ◌++◌, sym, ap, ◌∙◌, append-nil}
use Rattle.golf_data.specs.declared.code.Code.{Code}
use Rattle.golf_model.specs.State.{State, start, ending}
use Rattle.golf_model.specs.Collections.{sets_finalisers}
use Rattle.golf_model.specs.Runs.{Event, has_ended, happens_by, stop_in, stops_by}
use Rattle.golf_model.specs.Reports.{reports_from, new_book}
use Rattle.golf_model_futures.proofs.RealRuns.{real-runs}
use Rattle.golf_run_texts.specs.Writes.{books}
use Rattle.golf_run.specs.UnderWay.{at, stops_to, reports_to, collecting, real_at, real_stops_to, real_book_to}
use Rattle.golf_run.proofs.Appending.{run-append, stops-append, reports-append, books-append}

module _ (code : Code) (recover : Bool) where
  pub reports-at : (es : List Event) → reports_to code recover es ≡ reports_from recover (sets_finalisers code) new_book
      (real_stops_to code recover es)
  unfolding reports_to stops_to real_stops_to
  reports-at es = sym (real-runs code recover es).2

  -- the plain machine prints and ends as it does
  module _ (done : List Event) where
    pub same-output : (at code done).output ≡ (real_at code recover done).output
    unfolding at real_at
    same-output = sym (real-runs code recover done).0

    pub same-ending : ending (at code done) ≡ ending (real_at code recover done)
    unfolding at real_at
    same-ending = sym (real-runs code recover done).1

    -- one event more
    module _ (e : Event) where
      pub real-next : real_at code recover (done ++ e ∷ []) ≡ happens_by (collecting code recover) code
          (real_at code recover done) e
      unfolding real_at
      real-next = run-append (collecting code recover) code done (e ∷ []) (start code)

      pub real_stops-next : real_stops_to code recover (done ++ e ∷ []) ≡ real_stops_to code recover done
          ++ stop_in (collecting code recover) code (has_ended (real_at code recover done))
          (real_at code recover done) e
      unfolding real_at real_stops_to
      real_stops-next =
          stops-append (collecting code recover) code done (e ∷ []) (start code)
          ∙ ap (λ ps. stops_by (collecting code recover) code (start code) done ++ ps) (append-nil _)

      -- what a collection that comes after the others adds
      module _ (ps : List State) (added : real_stops_to code recover (done ++ e ∷ []) ≡ real_stops_to code recover done
          ++ ps) where
        pub real_book-next : real_book_to code recover (done ++ e ∷ []) ≡ books recover (sets_finalisers code)
            (real_book_to code recover done) ps
        unfolding real_book_to
        real_book-next = ap (books recover (sets_finalisers code) new_book) added
            ∙ books-append recover (sets_finalisers code) (real_stops_to code recover done) ps new_book

        pub reports-next : reports_to code recover (done ++ e ∷ []) ≡ reports_to code recover done
            ++ reports_from recover (sets_finalisers code) (real_book_to code recover done) ps
        unfolding real_book_to
        reports-next =
            reports-at (done ++ e ∷ []) ∙ ap (reports_from recover (sets_finalisers code) new_book) added
            ∙ reports-append recover (sets_finalisers code) (real_stops_to code recover done) ps new_book
            ∙ ap (λ rs. rs ++ reports_from recover (sets_finalisers code)
            (books recover (sets_finalisers code) new_book (real_stops_to code recover done)) ps)
            (sym (reports-at done))
