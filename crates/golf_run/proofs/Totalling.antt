-- What the reports come to, one after another.
-- For: `totals_by`, specs/Told.antt; `totals_of`, golf_run_texts/specs/Totals.antt
-- By: induction over the list of reports
use Rattle.std.proofs.Common.{◌≡◌, ℕ, ◌+◌, ◌<◌, Bool, true, not, ◌||◌, ◌==◌, List, [], ◌∷◌, ◌++◌, length, length-append}
use Rattle.std.proofs.Common.{map, refl, sym, ap, ◌∙◌, arith}
use Rattle.std.proofs.lemmas.Bool.{ne_eqb}
use Rattle.std.proofs.lemmas.List.{length-map}
use Rattle.golf_data.specs.declared.report.Book.{Book}
use Rattle.golf_data.specs.declared.report.Entry.{Entry}
use Rattle.golf_data.specs.declared.report.Report.{Report}
use Rattle.golf_model.specs.State.{State}
use Rattle.golf_model.specs.Futures.{Numbered}
use Rattle.golf_model.specs.Reports.{goroutine_id, new_dead, new_gone, report}
use Rattle.golf_model_futures.proofs.Tellings.{report-named}
use Rattle.golf_run_texts.specs.declared.totals.Totals.{Totals}
use Rattle.golf_run_texts.specs.Totals.{total_reported, total_reclaimed, of_last, totals_of}
use Rattle.golf_run_texts.specs.Output.{names_someone, anyone_reported}
use Rattle.golf_run.specs.Told.{told, noted, totals_by}
use Rattle.golf_run.specs.UnderWay.{IsCounted}

reported-more : (rs : List Report) (r : Report) → total_reported (rs ++ r ∷ []) ≡ total_reported rs + length r.reported
reported-more [] r = omega arith
reported-more (x ∷ rs) r = let h = reported-more rs r in omega (arith, h)

reclaimed-more : (rs : List Report) (r : Report) → total_reclaimed (rs ++ r ∷ []) ≡ total_reclaimed rs + r.reclaimed
reclaimed-more [] r = omega arith
reclaimed-more (x ∷ rs) r = let h = reclaimed-more rs r in omega (arith, h)

last-more : (number : Report → ℕ) (before : ℕ) (rs : List Report) (r : Report)
    → of_last number before (rs ++ r ∷ []) ≡ number r
last-more number before [] r = refl
last-more number before (x ∷ rs) r = last-more number (number x) rs r

-- a report has an entry for each goroutine that it adds to the book
as-many : (recover sets : Bool) (book : Book) (s : State) → Numbered s
    → length (report recover sets book s).reported ≡ length (new_dead book s)
as-many recover sets book s n =
    sym (length-map (report recover sets book s).reported (λ (e : Entry). e.goroutine.0))
    ∙ ap (λ (gs : List ℕ). length gs) (report-named recover sets book s n)

module _ (recover sets : Bool) (book : Book) (s : State) (rs : List Report) (h : IsCounted book rs) where
  pub counted-more : Numbered s → IsCounted (noted recover sets book s) (rs ++ told recover sets book s ∷ [])
  unfolding told noted
  counted-more n =
      let r = report recover sets book s in record {
        collections = (let a = length-append rs (r ∷ []) in let b = h.collections in omega (arith, a, b));
        reported =
            length-append book.reported (map goroutine_id (new_dead book s))
            ∙ ap (λ k. length book.reported + k)
            (length-map (new_dead book s) goroutine_id ∙ sym (as-many recover sets book s n))
            ∙ ap (λ k. k + length r.reported) h.reported ∙ sym (reported-more rs r);
        reclaimed =
            length-append book.reclaimed (map goroutine_id (new_gone recover sets book s))
            ∙ ap (λ k. length book.reclaimed + k) (length-map (new_gone recover sets book s) goroutine_id)
            ∙ ap (λ k. k + length (new_gone recover sets book s)) h.reclaimed ∙ sym (reclaimed-more rs r);
      }

abbrev all_five : ℕ → ℕ → ℕ → ℕ → ℕ → Totals
all_five a b c d e = record { collections = a; reported = b; kept = c; reclaimed = d; objects = e }

pub totals-are : (book : Book) (rs : List Report) (r : Report) → IsCounted book (rs ++ r ∷ [])
    → totals_by book r ≡ totals_of (rs ++ r ∷ [])
totals-are book rs r h =
    let kept = sym (last-more (λ x. x.kept) 0 rs r) in
    let objects = sym (last-more (λ x. x.objects) 0 rs r) in
    λ i. all_five (h.collections i) (h.reported i) (kept i) (h.reclaimed i) (objects i)

-- ---- whether any goroutine was reported

positive : (n : ℕ) → 0 < n → not (n == 0) ≡ true
positive n l = ap not (ne_eqb n 0 (λ e. omega (arith, l, e)))

someone : (es : List Entry) (n : ℕ) (b : Bool) → b ≡ not (n == 0) → (names_someone es || b) ≡ not (length es + n == 0)
someone [] n b h = let e : n ≡ 0 + n = omega arith in h ∙ ap (λ k. not (k == 0)) e
someone (e ∷ es) n b h = sym (positive (length (e ∷ es) + n) (omega arith))

pub anyone-counted : (rs : List Report) → anyone_reported rs ≡ not (total_reported rs == 0)
anyone-counted [] = refl
anyone-counted (r ∷ rs) = someone r.reported (total_reported rs) (anyone_reported rs) (anyone-counted rs)
