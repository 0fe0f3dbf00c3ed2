-- A collection's report and book, from what was found; and that its book can note it.
-- For: `collect`, src/collection.rt; `report_of` and `noted_by`, specs/Collected.antt
-- By: counting those of a list that satisfy a test; no other induction
use Rattle.std.proofs.Common.{◌≡◌, ℕ, ◌+◌, ◌≤◌, Bool, true, false, not, ◌||◌, List, [], length, filter}
use Rattle.std.proofs.Common.{inl, inr, refl, sym, ap, ◌∙◌, arith}
use Rattle.std.proofs.lemmas.Bool.{not-true, cases_Bool}
use Rattle.std.proofs.lemmas.List.{length-map}
use Rattle.std.proofs.lemmas.List.Filters.{length-filter_both}
use Rattle.golf_theory.specs.Counts.{times}
use Rattle.golf_theory.specs.Membership.{In, is_in}
use Rattle.golf_theory.proofs.Lists.{Every-from, filter-all, filter-same, In-filter}
use Rattle.golf_base.specs.declared.ids.GoroutineId.{GoroutineId}
use Rattle.golf_data.specs.declared.report.Book.{Book}
use Rattle.golf_data.specs.declared.report.Report.{Report}
use Rattle.golf_model.specs.LiveSet.{dead, live_objects}
use Rattle.golf_model.specs.Collections.{keeps, unkept, removed}
use Rattle.golf_model.specs.Futures.{Numbered}
use Rattle.golf_model.specs.Reports.{numbers, entries, without, retained_objects}
use Rattle.golf_model.specs.State.{State}
use Rattle.golf_reclaim.specs.RunBook.{stays_reported, CanNote, noted}
use Rattle.golf_reclaim.specs.Collected.{new_in, noted_by, report_of}
use Rattle.golf_reclaim.proofs.Entries.{numbers-ids}
use Rattle.golf_reclaim.proofs.Flags.{map-filter-swap, among-those}
use Rattle.golf_reclaim.proofs.Once.{filter-once, dead-once}

back : (b : Bool) → not (not b) ≡ b
back true = refl
back false = refl

module _ (s : State) (sets : Bool) where
  -- the dead who stay, and those who are removed, are all
  kept-by : (r : Bool) → length (without (dead s) (removed s r sets)) + length (removed s r sets) ≡ length (dead s)
  kept-by true = rw (filter-same (λ g. not (is_in g (unkept s sets))) (keeps s sets) (dead s)
      (Every-from (λ g. not (is_in g (unkept s sets)) ≡ keeps s sets g) (dead s) (λ g i.
      ap not (among-those (λ k. not (keeps s sets k)) (dead s) g i) ∙ back (keeps s sets g))))
      (length-filter_both (keeps s sets) (λ g. not (keeps s sets g)) (λ g. refl) (dead s))
  kept-by false = (let e = ap (λ (l : List ℕ). length l)
      (filter-all (λ g. not (is_in g [])) (dead s)
      (Every-from (λ g. not (is_in g []) ≡ true) (dead s) (λ g i. refl))) in omega (arith, e))

  removed-dead : (r : Bool) (g : ℕ) → In g (removed s r sets) → In g (dead s)
  removed-dead true g h = (In-filter (λ k. not (keeps s sets k)) g (dead s) h).0
  removed-dead false g h = absurd h

  removed-once : (r : Bool) (g : ℕ) → Numbered s → times g (removed s r sets) ≤ 1
  removed-once true g n = filter-once (λ k. not (keeps s sets k)) g (dead s) (dead-once s g n)
  removed-once false g n = omega arith

counted : (found : List GoroutineId) (those : List ℕ) → numbers found ≡ those → length found ≡ length those
counted found those are = sym (length-map found (λ (g : GoroutineId). g.0)) ∙ ap length are

module _ (s : State) (recover sets : Bool) (found gone : List GoroutineId) (are : numbers found ≡ dead s)
    (out : numbers gone ≡ removed s recover sets) where
  sizes : length (without (dead s) (removed s recover sets)) + length gone ≡ length found
  sizes = rw (counted gone _ out, counted found _ are) (kept-by s sets recover)

  pub fewer-gone : length gone ≤ length found
  fewer-gone = omega (arith, sizes)

  module _ (b : Book) (new : List GoroutineId) (fresh : new ≡ filter (λ g. not (stays_reported b g.0)) found) where
    new-numbers : numbers new ≡ new_in b s
    new-numbers = rw (fresh, ← (map-filter-swap (λ (g : GoroutineId). g.0) (λ k. not (stays_reported b k)) found), are)

    pub report-is : (it : Report) → it.number ≡ b.collections + 1 → it.marked ≡ length (live_objects s)
        → it.reported ≡ entries s (numbers new) → it.kept + length gone ≡ length found → it.reclaimed ≡ length gone
        → it.objects ≡ length (retained_objects s (removed s recover sets)) → it ≡ report_of recover sets b s
    report-is it n m r k c o =
        let many : it.kept ≡ length (without (dead s) (removed s recover sets)) =
        omega (arith, k, sizes) in
        rw (← n, ← m, ← new-numbers, ← r, ← many, ← (counted gone (removed s recover sets) out), ← c, ← o)

    pub book-is : noted new gone b ≡ noted_by recover sets b s
    book-is = rw (← new-numbers, ← out, numbers-ids new, numbers-ids gone)

    -- who is dead is new or stays reported
    known-by : (g : ℕ) → In g (dead s) → (stays_reported b g || is_in g (new_in b s)) ≡ true
    known-by g h = rw (among-those (λ k. not (stays_reported b k)) (dead s) g h)
        (elim (cases_Bool (stays_reported b g)) [ inl t ↦ rw t | inr f ↦ rw f ])

    pub can-note : Numbered s → CanNote (numbers new) (numbers gone) b
    can-note n = record {
      new_once = λ g. rw new-numbers (filter-once (λ k. not (stays_reported b k)) g (dead s) (dead-once s g n));
      gone_once = λ g. rw out (removed-once s sets recover g n);
      unreported = λ g h. not-true (stays_reported b g)
          (In-filter (λ k. not (stays_reported b k)) g (dead s) (rw new-numbers at h)).1;
      reported = λ g h. rw new-numbers (known-by g (removed-dead s sets recover g (rw out at h)));
    }
