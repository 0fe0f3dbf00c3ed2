-- If no goroutine of the state was removed before, a collection's report and book are those over plain states.
-- For: `collect`, src/collection.rt; `report` and `book_after`, golf_model/specs/Reports.antt
-- By: induction over the map of goroutines, for what the sources are; no other induction
use Rattle.std.proofs.Common.{◌≡◌, ℕ, Bool, true, false, not, List, [], ◌∷◌, length, inl}
use Rattle.std.proofs.Common.{inr, refl, ap, arith}
use Rattle.std.specs.Prelude.{nat_lt}
use Rattle.std.proofs.lemmas.Bool.{lt-ltb, ltb-true}
use Rattle.golf_theory.specs.Counts.{times}
use Rattle.golf_theory.specs.Maps.{keys}
use Rattle.golf_theory.specs.Membership.{In, is_in}
use Rattle.golf_theory.proofs.Lists.{Every-from, filter-all, filter-same, In-filter}
use Rattle.golf_theory.proofs.Tests.{is_in-from, In-from, is_in-out, is_in-append, same_test}
use Rattle.golf_theory.proofs.Times.{times-In, In-times, times-none}
use Rattle.golf_theory.proofs.MapEntries.{In-keys}
use Rattle.golf_data.specs.declared.report.Book.{Book}
use Rattle.golf_model.specs.Views.{GoroutineView}
use Rattle.golf_model.specs.Refs.{goroutine_refs_where}
use Rattle.golf_model.specs.LiveSet.{dead}
use Rattle.golf_model.specs.Reach.{sources}
use Rattle.golf_model.specs.Collections.{keeps, unkept, removed}
use Rattle.golf_model.specs.Reports.{numbers, without, new_dead, new_gone, all_gone}
use Rattle.golf_model.specs.Reports.{retained_objects, book_after, report}
use Rattle.golf_model.specs.State.{State}
use Rattle.golf_model.proofs.Agreeing.{dead-sound}
use Rattle.golf_reclaim.specs.RunBook.{stays_reported, AreGone}
use Rattle.golf_reclaim.specs.Collected.{new_in, noted_by, report_of}

-- the sources depend on those who are there alone
refs_where-there : (p q : ℕ → Bool) (es : List (ℕ × GoroutineView)) → ((g : ℕ) → In g (keys es) → p g ≡ q g)
    → goroutine_refs_where p es ≡ goroutine_refs_where q es
refs_where-there p q [] h = refl
refs_where-there p q (e ∷ es) h = rw (h e.0 (inl refl), refs_where-there p q es (λ g i. h g (inr i)))

-- one who was never removed stays reported if it was ever reported
stays-by : (b : Book) (g : ℕ) → (In g (numbers b.reclaimed) → ⊥) → stays_reported b g ≡ is_in g (numbers b.reported)
stays-by b g never =
    let none = times-none g (numbers b.reclaimed) never in
    let r : ℕ = times g (numbers b.reported) in
    rw none (same_test (nat_lt 0 r) (is_in g (numbers b.reported))
    (λ t. is_in-from g (numbers b.reported) (In-times g (numbers b.reported) (omega (arith, ltb-true 0 r t))))
    (λ t. lt-ltb 0 r (omega (arith, times-In g (numbers b.reported) (In-from g (numbers b.reported) t)))))

module _ (s : State) (b : Book) (recover sets : Bool) (apart : AreGone b s) where
  dead-there : (g : ℕ) → In g (dead s) → In g (keys s.goroutines)
  dead-there g h = let d = dead-sound s g h in In-keys s.goroutines g d.0 d.1

  not-before : (g : ℕ) → In g (keys s.goroutines) → is_in g (numbers b.reclaimed) ≡ false
  not-before g h = is_in-out g (numbers b.reclaimed) (apart g h)

  new-same : new_in b s ≡ new_dead b s
  new-same = filter-same (λ g. not (stays_reported b g)) (λ g. not (is_in g (numbers b.reported))) (dead s)
      (Every-from (λ g. not (stays_reported b g) ≡ not (is_in g (numbers b.reported))) (dead s)
      (λ g i. ap not (stays-by b g (apart g (dead-there g i)))))

  gone-by : (r : Bool) → new_gone r sets b s ≡ removed s r sets
  gone-by true = filter-all (λ x. not (is_in x (numbers b.reclaimed))) (unkept s sets)
      (Every-from (λ x. not (is_in x (numbers b.reclaimed)) ≡ true) (unkept s sets)
      (λ x i. ap not (not-before x (dead-there x (In-filter (λ g. not (keeps s sets g)) x (dead s) i).0))))
  gone-by false = refl

  -- who is gone by then is, of those who are there, who is gone now
  gone-there : (g : ℕ) → In g (keys s.goroutines)
      → is_in g (all_gone recover sets b s) ≡ is_in g (removed s recover sets)
  gone-there g h =
      rw (is_in-append g (numbers b.reclaimed) (new_gone recover sets b s), not-before g h, gone-by recover)

  same-sources : sources s (all_gone recover sets b s) ≡ sources s (removed s recover sets)
  same-sources = rw (refs_where-there (λ g. not (is_in g (all_gone recover sets b s)))
      (λ g. not (is_in g (removed s recover sets))) s.goroutines (λ g i. ap not (gone-there g i)))

  left-same : length (retained_objects s (all_gone recover sets b s)) ≡ length
      (retained_objects s (removed s recover sets))
  left-same = rw same-sources

  kept-same : length (without (dead s) (all_gone recover sets b s)) ≡ length (without (dead s) (removed s recover sets))
  kept-same = rw (filter-same (λ g. not (is_in g (all_gone recover sets b s)))
      (λ g. not (is_in g (removed s recover sets))) (dead s)
      (Every-from (λ g. not (is_in g (all_gone recover sets b s)) ≡ not (is_in g (removed s recover sets))) (dead s)
      (λ g i. ap not (gone-there g (dead-there g i)))))

  pub report-plain : report_of recover sets b s ≡ report recover sets b s
  report-plain = rw (new-same, kept-same, left-same, gone-by recover)

  pub book-plain : noted_by recover sets b s ≡ book_after recover sets b s
  book-plain = rw (new-same, gone-by recover)
