-- The lines of progress that standard error got.
-- For: `tell_progress`, src/progress.rt; `HasToldLines`, specs/Progress.antt
-- By: induction over the number of lines; else cases of how the next one went
use Rattle.std.proofs.Common.{◌≡◌, ℕ, zero, suc, ◌+◌, Bool, true, false, List, [], ◌∷◌, ◌++◌, refl, sym, ap, subst}
use Rattle.std.proofs.Common.{◌∙◌, append-nil, arith}
use Rattle.std.specs.Prelude.{Option, Result, Ok, Err, IsErr, IsErrAnd}
use Rattle.std.specs.Io.KnownBytes.{Appends}
use Rattle.std.proofs.KnownBytes.{Appends-nil, Appends-trans}
use Rattle.golf_base.specs.Causes.{Rose, WritesPrefix}
use Rattle.golf_run_texts.specs.Writes.{Write, out_bytes, err_bytes}
use Rattle.golf_run_texts.proofs.Writings.{out-append, err-append}
use Rattle.golf_run.specs.declared.fault.RunFault.{RunFault}
use Rattle.golf_run.specs.declared.fault.RunFault.TheVariants as faults
use Rattle.golf_explore_command.specs.Progress.{states_told, progress_line, progress_text, progress, MayTell}
use Rattle.golf_explore_command.specs.Progress.{HasToldLines, IsCutInLine, ToldUntil}

-- ---- the writes of the lines

pub progress-out : (n : ℕ) → out_bytes (progress n) ≡ []
progress-out zero = refl
progress-out (suc n) = out-append (progress n) (Write.ToErr (progress_line (states_told (suc n))) ∷ [])
    ∙ ap (λ t. t ++ []) (progress-out n)

pub progress-err : (n : ℕ) → err_bytes (progress n) ≡ progress_text n
progress-err zero = refl
progress-err (suc n) = err-append (progress n) (Write.ToErr (progress_line (states_told (suc n))) ∷ [])
    ∙ (λ i. progress-err n i ++ append-nil (progress_line (states_told (suc n))) i)

-- ---- the next line

module _ (shows : Bool) (first err : Option (List ℕ)) (before ef : ℕ) where
  pub none-told : HasToldLines shows 0 err err ef ef
  none-told = record { may = may shows; got = Appends-nil err; quiet = refl }
    where
      may : (b : Bool) → MayTell b 0
      may true = tt
      may false = refl

  module _ (told : ℕ) (h : HasToldLines shows told first err before ef) (asked : shows ≡ true) where
    next-may : MayTell shows (suc told)
    next-may = subst (λ b. MayTell b (suc told)) (sym asked) tt

    module _ (next due : ℕ) (line : List ℕ) (is_next : next ≡ told + 1) (is_due : due ≡ states_told next)
        (same : line ≡ progress_line due) where
      is-suc : next ≡ suc told
      is-suc = omega (arith, is_next)

      line-is : line ≡ progress_line (states_told (suc told))
      line-is = same ∙ ap progress_line (is_due ∙ ap states_told is-suc)

      pub next-told : (err' : Option (List ℕ)) (ef' : ℕ) → Appends err err' line → ef' ≡ ef
          → HasToldLines shows next first err' before ef'
      next-told err' ef' a quiet = subst (λ n. HasToldLines shows n first err' before ef') (sym is-suc) (record {
        may = next-may;
        got = Appends-trans first err err' (progress_text told) (progress_line (states_told (suc told))) h.got
            (subst (Appends err err') line-is a);
        quiet = quiet ∙ h.quiet;
      })

      next-cut : (err' : Option (List ℕ)) (ef' : ℕ) → WritesPrefix err err' line → Rose ef ef'
          → IsCutInLine shows first err' before ef'
      next-cut err' ef' f rose = record {
        told = told;
        may = next-may;
        mid = err;
        got = h.got;
        prefix = subst (WritesPrefix err err') line-is f;
        failed = subst (λ n. Rose n ef') h.quiet rose;
      }

      -- so the call that writes it ends
      pub next-fails : (err' : Option (List ℕ)) (ef' : ℕ) → WritesPrefix err err' line → Rose ef ef'
          → (result : Result ℕ RunFault) → IsErr result → IsErrAnd result (λ e. e ≡ faults.Write)
          → ToldUntil (λ n. HasToldLines shows n first err' before ef') shows result first err' before ef'
      next-fails err' ef' f rose (Ok n) is fault = cc
      next-fails err' ef' f rose (Err faults.Memory) is fault = cc
      next-fails err' ef' f rose (Err faults.Write) is fault = next-cut err' ef' f rose
