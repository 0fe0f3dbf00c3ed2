-- Each report names exactly those whom it finds first.
-- For: `book_tells_of_each`, src/lib.rt; `report`, golf_model/specs/Reports.antt
-- By: induction over the list of states right before collections, and over the list of goroutines
use Rattle.std.proofs.Common.{◌≡◌, ℕ, Bool, false, not, List, [], ◌∷◌, ◌++◌, map, Option, inl, inr, refl, sym, ap, ◌∙◌}
use Rattle.golf_theory.specs.Membership.{In, Every, is_in}
use Rattle.golf_theory.specs.Maps.{Entry, find}
use Rattle.golf_theory.proofs.Lists.{In-filter, Every-from}
use Rattle.golf_theory.proofs.MapFinds.{find-Entry}
use Rattle.golf_data.specs.declared.code.Code.{Code}
use Rattle.golf_data.specs.declared.goroutine.Mode.{Mode}
use Rattle.golf_data.specs.declared.report.Book.{Book}
use Rattle.golf_data.specs.declared.report.Entry.{Entry as Reported}
use Rattle.golf_model.specs.Views.{GoroutineView}
use Rattle.golf_model.specs.State.{State, start, is_running}
use Rattle.golf_model.specs.LiveSet.{dead}
use Rattle.golf_model.specs.Collections.{sets_finalisers}
use Rattle.golf_model.specs.Runs.{Event, stops}
use Rattle.golf_model.specs.Reports.{numbers, entry_by, entry_of, entries, without, new_book, new_dead, book_after}
use Rattle.golf_model.specs.Reports.{report, reports_from, book_of}
use Rattle.golf_model.specs.Futures.{Numbered}
use Rattle.golf_model.proofs.Agreeing.{dead-sound}
use Rattle.golf_model_futures.specs.ReportedGoroutines.{named, TellsOfEach}
use Rattle.golf_model_futures.proofs.Leading.{numbered-start, numbered-step, numbered-collect}
use Rattle.golf_model_futures.proofs.RealReports.{numbers-append}
use Rattle.golf_model_futures.proofs.SameFutures.{map-append}
use Rattle.golf_model_futures.proofs.Stopping.{stops-kept}

-- a blocked goroutine has one entry
entry_by-one : (g started : ℕ) (mode : Mode) → is_running mode ≡ false
    → map (λ (e : Reported). e.goroutine.0) (entry_by g started mode) ≡ g ∷ []
entry_by-one g started Mode.Running h = cc
entry_by-one g started (Mode.Blocked kind line waits ticket) h = refl

entry_of-one : (p : State) (g : ℕ) (r : GoroutineView) → Numbered p → Entry p.goroutines g r → is_running r.mode ≡ false
    → map (λ (e : Reported). e.goroutine.0) (entry_of g (find g p.goroutines)) ≡ g ∷ []
entry_of-one p g r n e h = ap (λ (m : Option GoroutineView). map (λ (x : Reported). x.goroutine.0) (entry_of g m))
    (find-Entry p.goroutines g r n.goroutines_rise e) ∙ entry_by-one g r.started r.mode h

-- the entries of dead goroutines name them
entries-named : (p : State) (gs : List ℕ) → Numbered p → ((g : ℕ) → In g gs → In g (dead p))
    → map (λ (e : Reported). e.goroutine.0) (entries p gs) ≡ gs
entries-named p [] n h = refl
entries-named p (g ∷ gs) n h =
    let d = dead-sound p g (h g (inl refl)) in
    map-append (λ (e : Reported). e.goroutine.0) (entry_of g (find g p.goroutines)) (entries p gs)
    ∙ ap (λ (xs : List ℕ). xs ++ map (λ (e : Reported). e.goroutine.0) (entries p gs)) (entry_of-one p g d.0 n d.1 d.2)
    ∙ ap (λ (xs : List ℕ). g ∷ xs) (entries-named p gs n (λ k i. h k (inr i)))

pub report-named : (recover sets_finalisers : Bool) (book : Book) (p : State) → Numbered p
    → named (report recover sets_finalisers book p) ≡ without (dead p) (numbers book.reported)
report-named recover sets_finalisers book p n =
    entries-named p (new_dead book p) n (λ g i. (In-filter (λ h. not (is_in h (numbers book.reported))) g (dead p) i).0)

reports-tell : (recover sets_finalisers : Bool) (ps : List State) (book : Book) (told : List ℕ)
    → numbers book.reported ≡ told → Every Numbered ps
    → TellsOfEach told ps (reports_from recover sets_finalisers book ps)
reports-tell recover sets_finalisers [] book told h n = tt
reports-tell recover sets_finalisers (p ∷ ps) book told h n =
    let a = report-named recover sets_finalisers book p n.0 in (
      a ∙ ap (without (dead p)) h,
      reports-tell recover sets_finalisers ps (book_after recover sets_finalisers book p)
          (told ++ named (report recover sets_finalisers book p))
          (numbers-append book.reported (new_dead book p) ∙ ap (λ (xs : List ℕ). xs ++ new_dead book p) h
          ∙ ap (λ (xs : List ℕ). told ++ xs) (sym a)) n.1,
    )

pub book-tells : (code : Code) (events : List Event) (recover : Bool)
    → TellsOfEach [] (stops code events) (book_of (stops code events) recover (sets_finalisers code))
book-tells code events recover = reports-tell recover (sets_finalisers code) (stops code events) new_book [] refl
    (Every-from Numbered (stops code events)
    (λ p i. stops-kept code Numbered (numbered-step code) numbered-collect events (start code) p
    (numbered-start code) i))
