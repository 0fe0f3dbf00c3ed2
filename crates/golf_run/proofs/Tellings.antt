-- What the parts of one collection come to.
-- For: `tell`, src/turns.rt; `HasTold`, specs/Told.antt
-- By: cases of the outcome; no induction
use Rattle.std.proofs.Common.{◌≡◌, ℕ, Bool, true, false, List, ◌∷◌, ◌++◌, map, ap, subst, ◌∙◌}
use Rattle.std.specs.Prelude.{Option, Some, None, Result, Ok, Err, IsErr}
use Rattle.golf_data.specs.declared.report.Book.{Book}
use Rattle.golf_data.specs.declared.report.Report.{Report}
use Rattle.golf_model.specs.State.{State}
use Rattle.golf_model.specs.Collections.{real_collect}
use Rattle.golf_model.specs.Reports.{report, book_after}
use Rattle.golf_why.specs.declared.explanation.Explanation.{Explanation}
use Rattle.golf_why.specs.Explanations.{certificate_size, sleeper_entries_in, reached_from, reached_in}
use Rattle.golf_run_texts.specs.Texts.{certificate_line, reached_line, report_lines}
use Rattle.golf_run_texts.specs.Output.{why_lines}
use Rattle.golf_run_texts.specs.Writes.{told_lines}
use Rattle.golf_run_texts.specs.declared.totals.Totals.{Totals}
use Rattle.golf_run.specs.declared.fault.RunFault.{RunFault}
use Rattle.golf_run.specs.declared.fault.RunFault.TheVariants as faults
use Rattle.golf_run.specs.Lines.{HasWritten}
use Rattle.golf_run.specs.Told.{told, told_by, noted, collected, totals_by, totalled, HasTold, ExplainsIf}
use Rattle.golf_run.specs.Told.{explained_lines}
use Rattle.golf_run.proofs.Lines.{PassesOn, passed}

-- what was made of the state tells what is asked for
explained : (why : Bool) (s : State) (o : Option Explanation) (n : ℕ) → ExplainsIf why s o
    → explained_lines n o ≡ why_lines why n s
unfolding reached_in
explained false s o n h = ap (explained_lines n) h
explained true s None n h = absurd h
explained true s (Some e) n h =
    ap (λ k. certificate_line n k ∷ map reached_line (reached_from e.graph 0 e.sleeper_entries)) h.0.places
    ∙ ap (λ rs. certificate_line n (certificate_size s) ∷ map reached_line rs)
    (ap (reached_from e.graph 0) h.0.sleeper_entries ∙ ap (λ g. reached_from g 0 (sleeper_entries_in s g)) h.0.graph)

module _ (recover sets : Bool) (book : Book) (s : State) where
  -- the lines of a report that is the one told, and of what was made of the state
  pub lines-told : (why : Bool) (r : Report) (o : Option Explanation) → r ≡ report recover sets book s
      → ExplainsIf why s o → report_lines r ++ explained_lines r.number o ≡ told_by recover sets why book s
  unfolding told told_by
  lines-told why r o is h = ap (λ ls. report_lines r ++ ls) (explained why s o r.number h)
      ∙ ap (λ x. told_lines why x s) is

  pub totals-told : (now : Book) (r : Report) (t : Totals) → now ≡ book_after recover sets book s
      → r ≡ report recover sets book s → t ≡ totals_by now r → t ≡ totalled recover sets book s
  unfolding totalled noted told
  totals-told now r t after is e = e ∙ ap (λ b. totals_by b r) after
      ∙ ap (totals_by (book_after recover sets book s)) is

  pub noted-told : (now : Book) → now ≡ book_after recover sets book s → now ≡ noted recover sets book s
  unfolding noted
  noted-told now e = e

  pub collected-told : (after : State) → after ≡ real_collect s recover sets → after ≡ collected recover sets s
  unfolding collected
  collected-told after e = e

  -- it did not go on
  pub told-failed : {r : Result Totals RunFault} {lines : List (List ℕ)} {err err' : Option (List ℕ)} {f f' : ℕ}
      (why : Bool) (after : State) (now : Book) → lines ≡ told_by recover sets why book s
      → PassesOn Unit r lines err err' f f' → HasTold recover sets why r s after book now err err' f f'
  told-failed {r} {err = err} {err' = err'} {f = f} {f' = f'} why after now same p =
      by_error r p.failed (subst (λ ls. HasWritten r ls err err' f f') same (passed p))
    where
      by_error : (x : Result Totals RunFault) → IsErr x → HasWritten x (told_by recover sets why book s) err err' f f'
          → HasTold recover sets why x s after book now err err' f f'
      by_error (Ok t) i t' = cc
      by_error (Err faults.Write) i t' = t'
      by_error (Err faults.Memory) i t' = t'
