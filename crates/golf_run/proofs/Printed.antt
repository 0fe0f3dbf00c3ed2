-- What was printed before changes nothing of a collection, with recovery or without.
-- For: `real_collect`, golf_model/specs/Collections.antt; `told_by`, specs/Told.antt
-- By: computing; cases of whether there is recovery
use Rattle.std.proofs.Common.{◌≡◌, ℕ, ◌+◌, Bool, true, false, List, ◌∷◌, ◌++◌, length, map, refl, ap, ◌∙◌}
use Rattle.golf_data.specs.declared.report.Book.{Book}
use Rattle.golf_model.specs.State.{State}
use Rattle.golf_model.specs.Reach.{reach}
use Rattle.golf_model.specs.LiveSet.{live_list, live_objects, dead}
use Rattle.golf_model.specs.Collections.{real_collect}
use Rattle.golf_model.specs.Reports.{entries, new_dead, new_gone, all_gone, without, retained_objects, goroutine_id}
use Rattle.golf_model.specs.Reports.{report, book_after}
use Rattle.golf_why.specs.Explanations.{certificate_size, reached_in}
use Rattle.golf_run_texts.specs.Texts.{certificate_line, reached_line, report_lines}
use Rattle.golf_run_texts.specs.Output.{why_lines}
use Rattle.golf_run_texts.specs.Writes.{told_lines}
use Rattle.golf_model_futures.specs.EarlierOutput.{prefixed}
use Rattle.golf_model_futures.proofs.Printing.{same-entries}
use Rattle.golf_run.specs.Told.{told, told_by}

module _ (w : List ℕ) (s : State) where
  pub collect-prefixed : (recover sets : Bool)
      → real_collect (prefixed w s) recover sets ≡ prefixed w (real_collect s recover sets)
  unfolding reach live_list
  collect-prefixed true sets = refl
  collect-prefixed false sets = refl

  same-live : live_objects (prefixed w s) ≡ live_objects s
  unfolding live_list
  same-live = refl

  same-dead : dead (prefixed w s) ≡ dead s
  unfolding live_list
  same-dead = refl

  same-objects : (gone : List ℕ) → retained_objects (prefixed w s) gone ≡ retained_objects s gone
  unfolding reach
  same-objects gone = refl

  same-gone : (recover sets : Bool) (book : Book)
      → new_gone recover sets book (prefixed w s) ≡ new_gone recover sets book s
  unfolding reach live_list
  same-gone true sets book = refl
  same-gone false sets book = refl

  same-size : certificate_size (prefixed w s) ≡ certificate_size s
  unfolding certificate_size
  same-size = refl

  same-reached : reached_in (prefixed w s) ≡ reached_in s
  unfolding reached_in
  same-reached = refl

  why-prefixed : (why : Bool) (n : ℕ) → why_lines why n (prefixed w s) ≡ why_lines why n s
  why-prefixed true n = ap (λ k. certificate_line n k ∷ map reached_line (reached_in (prefixed w s))) same-size
      ∙ ap (λ rs. certificate_line n (certificate_size s) ∷ map reached_line rs) same-reached
  why-prefixed false n = refl

  module _ (recover sets : Bool) (book : Book) where
    same-new : new_dead book (prefixed w s) ≡ new_dead book s
    same-new = ap (λ gs. without gs (map (λ g. g.0) book.reported)) same-dead

    pub book-prefixed : book_after recover sets book (prefixed w s) ≡ book_after recover sets book s
    book-prefixed =
        let a = same-new in
        let b = same-gone recover sets book in
        λ i. record {
          collections = book.collections + 1;
          reported = book.reported ++ map goroutine_id (a i);
          reclaimed = book.reclaimed ++ map goroutine_id (b i);
        }

    same-all : all_gone recover sets book (prefixed w s) ≡ all_gone recover sets book s
    same-all = ap (λ (gs : List ℕ). map (λ g. g.0) book.reclaimed ++ gs) (same-gone recover sets book)

    pub report-prefixed : report recover sets book (prefixed w s) ≡ report recover sets book s
    report-prefixed =
        let a = same-live in
        let b = ap (entries (prefixed w s)) same-new ∙ same-entries w s (new_dead book s) in
        let c = ap (λ gs. without gs (all_gone recover sets book (prefixed w s))) same-dead
        ∙ ap (without (dead s)) same-all in
        let d = same-gone recover sets book in
        let e = ap (retained_objects (prefixed w s)) same-all ∙ same-objects (all_gone recover sets book s) in
        λ i. record {
          number = book.collections + 1;
          marked = length (a i);
          reported = b i;
          kept = length (c i);
          reclaimed = length (d i);
          objects = length (e i);
        }

    -- what is told beside it
    pub told-prefixed : (why : Bool) → told_by recover sets why book (prefixed w s) ≡ told_by recover sets why book s
    unfolding told told_by
    told-prefixed why = ap (λ r. told_lines why r (prefixed w s)) report-prefixed
        ∙ ap (λ ls. report_lines (report recover sets book s) ++ ls) (why-prefixed why (book.collections + 1))
