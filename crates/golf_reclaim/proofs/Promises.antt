-- What a collection promises, from what the state after it and its report are.
-- For: `collect`, src/collection.rt; `LeavesExactly`, specs/Promises.antt
-- By: putting the laws of the model together; no induction
use Rattle.std.proofs.Common.{◌≡◌, ℕ, Bool, true, false, not, List, refl, sym, ap, subst, ◌∙◌}
use Rattle.std.proofs.lemmas.Bool.{not-true, not_from_false, both_ways, false_from_ne_true}
use Rattle.golf_theory.specs.Maps.{keys}
use Rattle.golf_theory.specs.Membership.{In, is_in}
use Rattle.golf_theory.proofs.Lists.{In-filter, In-filter_old}
use Rattle.golf_theory.proofs.MapKeys.{keys-only}
use Rattle.golf_theory.proofs.Tests.{is_in-from, In-from, is_in-out}
use Rattle.golf_data.specs.declared.report.Book.{Book}
use Rattle.golf_data.specs.declared.report.Report.{Report}
use Rattle.golf_model.specs.State.{State}
use Rattle.golf_model.specs.LiveSet.{dead}
use Rattle.golf_model.specs.Collections.{plain_collect, keeps, removed, retained, real_collect}
use Rattle.golf_model.specs.Futures.{Numbered, Leads, futures}
use Rattle.golf_model.proofs.Agreeing.{dead-sound, dead-complete, keeps-sound, keeps-complete, retained-sound}
use Rattle.golf_model.proofs.Agreeing.{retained-complete}
use Rattle.golf_model_futures.proofs.DeadStill.{dead_still}
use Rattle.golf_model_futures.proofs.Recovering.{recovery-unseen}
use Rattle.golf_model_typing.proofs.Leading.{never-stuck}
use Rattle.golf_reclaim.specs.RunBook.{stays_reported}
use Rattle.golf_reclaim.specs.Collected.{new_in, report_of}
use Rattle.golf_reclaim.proofs.Entries.{entries-name}
use Rattle.golf_reclaim.specs.Promises.{AreStill, IsUnseen, IsRemoved, LeavesExactly, MovesOnAfter}

pub are-still : (s : State) (b : Book) (recover sets : Bool) (r : Report) → Numbered s → r ≡ report_of recover sets b s
    → AreStill r s
are-still s b recover sets r n e = λ code g h.
    let i = entries-name s g (new_in b s) (rw e at h) in
    dead_still code s g n (dead-sound s g (In-filter (λ k. not (stays_reported b k)) g (dead s) i).0)

module _ (s t : State) (recover sets : Bool) (is : t ≡ real_collect s recover sets) where
  pub is-unseen : IsUnseen recover sets s t
  is-unseen = λ code events l e.
      ap (λ (u : State). futures code u events (removed s recover sets)) is
      ∙ subst (λ b. futures code (real_collect s recover b) events (removed s recover b) ≡ futures code
      (plain_collect s) events (removed s recover b)) e (recovery-unseen code s recover events l)

  pub moves-on : MovesOnAfter sets s t
  moves-on = λ code types c shapes l goes e over.
      never-stuck code types shapes t c (subst (Leads code) (sym is)
      (subst (λ b. Leads code (real_collect s recover b)) e (Leads.Collection s recover l goes))) over

  gone-removed : (r : Bool) (g : ℕ) → In g (removed s r sets) → IsRemoved r sets s g
  gone-removed true g h =
      let d = In-filter (λ k. not (keeps s sets k)) g (dead s) h in (
        refl,
        dead-sound s g d.0,
        λ k. both_ways (keeps s sets g) (not-true (keeps s sets g) d.1)
            (keeps-complete s sets g k),
      )
  gone-removed false g h = absurd h

  removed-gone : (r : Bool) (g : ℕ) → IsRemoved r sets s g → In g (removed s r sets)
  removed-gone true g h = In-filter_old (λ k. not (keeps s sets k)) g (dead s)
      (not_from_false (keeps s sets g) (false_from_ne_true (keeps s sets g) (λ k. h.2 (keeps-sound s sets g k))))
      (dead-complete s g h.1)
  removed-gone false g h = cc (h.0)

  pub leaves-exactly : LeavesExactly recover sets s t
  leaves-exactly =
      let out : List ℕ = removed s recover sets in
      let who : keys t.goroutines ≡ _ = ap (λ (u : State). keys u.goroutines) is
      ∙ keys-only (λ g. not (is_in g out)) s.goroutines in
      let what : keys t.objects ≡ _ = ap (λ (u : State). keys u.objects) is
      ∙ keys-only (λ o. is_in o (retained s out)) s.objects in
      record {
        goroutines = λ g. (
          λ h. let i = In-filter (λ k. not (is_in k out)) g (keys s.goroutines)
              (rw who at h) in (
                i.0,
                λ r. both_ways (is_in g out) (not-true (is_in g out) i.1)
                    (is_in-from g out (removed-gone recover g r)),
              ),
          λ h. rw who (In-filter_old (λ k. not (is_in k out)) g (keys s.goroutines)
              (not_from_false (is_in g out) (is_in-out g out (λ i. h.1 (gone-removed recover g i)))) h.0),
        );
        objects = λ o. (
          λ h. let i = In-filter (λ k. is_in k (retained s out)) o (keys s.objects)
              (rw what at h) in (i.0, retained-sound s out o (In-from o (retained s out) i.1)),
          λ h. rw what (In-filter_old (λ k. is_in k (retained s out)) o (keys s.objects)
              (is_in-from o (retained s out) (retained-complete s out o h.1)) h.0),
        );
      }
