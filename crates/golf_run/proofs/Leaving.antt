-- Goroutines that were removed do not come back.
-- For: `HasLeft`, specs/HasLeft.antt
-- By: cases of whether it was removed before or by this collection; no induction
use Rattle.std.proofs.Common.{◌≡◌, ℕ, ◌<◌, ◌≤◌, Bool, true, false, List, [], ◌⊎◌, inl, inr, refl, subst, arith}
use Rattle.std.proofs.lemmas.Bool.{not-true, not_from_false}
use Rattle.golf_theory.specs.Membership.{In, Every, is_in}
use Rattle.golf_theory.proofs.Lists.{In-cases, In-filter, Every-from}
use Rattle.golf_theory.proofs.Tests.{is_in-out, not_in-from}
use Rattle.golf_theory.proofs.MapEntries.{Entry-keys, Entry-only, In-keys}
use Rattle.golf_theory.proofs.MapFinds.{Entry-below}
use Rattle.golf_data.specs.declared.code.Code.{Code}
use Rattle.golf_model.specs.State.{State, start}
use Rattle.golf_model.specs.Turn.{step}
use Rattle.golf_model.specs.Collections.{removed, unkept, real_collect}
use Rattle.golf_model.specs.Futures.{Numbered}
use Rattle.golf_model_futures.specs.Invariant.{Closed}
use Rattle.golf_model_futures.proofs.MainLaws as Law
use Rattle.golf_model_futures.proofs.Removing.{stays_by}
use Rattle.golf_theory.proofs.Derivations.{Reached-root}
use Rattle.golf_data.specs.declared.report.Book.{Book}
use Rattle.golf_model.specs.LiveSet.{Node, LiveRoot, LiveStep, Live}
use Rattle.golf_model.specs.Reports.{numbers, new_gone, book_after}
use Rattle.golf_model_futures.proofs.Removing.{gone-dead}
use Rattle.golf_model_futures.proofs.RealReports.{numbers-append}
use Rattle.golf_run.specs.HasLeft.{HasLeft}
use Rattle.golf_run_texts.specs.Writes.{emptied}

-- every object
abbrev anything : ℕ → Bool
anything o = true

all-any : (xs : List ℕ) → Every (λ o. anything o ≡ true) xs
all-any xs = Every-from (λ o. anything o ≡ true) xs (λ o i. refl)

stays : (gone : List ℕ) (g : ℕ) → (In g gone → ⊥) → stays_by gone g ≡ true
stays gone g h = not_from_false (is_in g gone) (is_in-out g gone h)

out : (gone : List ℕ) (g : ℕ) → stays_by gone g ≡ true → In g gone → ⊥
out gone g s = not_in-from g gone (not-true (is_in g gone) s)

-- the others are closed in what they come to
closed : (gone : List ℕ) (s : State) → HasLeft gone s → Closed s (λ o. anything o ≡ true) (λ g. stays_by gone g ≡ true)
closed gone s h = record {
  globals = all-any _;
  queue = all-any _;
  finalised = λ p f x e d. all-any _;
  objects = λ p x o e. all-any _;
  goroutines = λ g r m e. all-any _;
  running = λ g r e m. stays gone g (h.absent g (In-keys s.goroutines g r e));
  awake = λ g r o e i m. stays gone g (h.absent g (In-keys s.goroutines g r e));
  zero_in = stays gone 0 h.not_zero;
  new_objects = λ o l. refl;
  new_goroutines = λ g l. stays gone g (λ i. let b = h.given g i in absurd (omega (arith, b, l)));
}

pub step-left : (code : Code) (gone : List ℕ) (s : State) (k : ℕ) → HasLeft gone s → HasLeft gone (step code s k)
step-left code gone s k h =
    let kept = Law.turns_keep code s k anything (stays_by gone) (closed gone s h) in record {
      absent = λ g i j.
          let e = Entry-keys (step code s k).goroutines g i in
          let b = kept.1.goroutines.back g e.0 (λ t. out gone g t j) e.1 in
          h.absent g (In-keys s.goroutines g e.0 b) j;
      not_zero = h.not_zero;
      given = λ g j. below (step code s k).next_goroutine g (λ l. out gone g (kept.0.new_goroutines g l) j);
    }
  where
    below : (n g : ℕ) → (n ≤ g → ⊥) → g < n
    below n g f = omega (arith, f)

-- those that a collection removes
new-removed : (recover sets : Bool) (book : Book) (s : State) (g : ℕ) → In g (new_gone recover sets book s)
    → In g (removed s recover sets)
new-removed true sets book s g i = (In-filter _ g (unkept s sets) i).0
new-removed false sets book s g i = absurd i

pub collect-left : (recover sets : Bool) (book : Book) (s : State) → Numbered s → HasLeft (numbers book.reclaimed) s
    → HasLeft (numbers (book_after recover sets book s).reclaimed) (real_collect s recover sets)
collect-left recover sets book s n h = record {
  absent = λ g i j.
      let e = Entry-keys (real_collect s recover sets).goroutines g i in
      let b = Entry-only (stays_by (removed s recover sets)) s.goroutines g e.0 e.1 in
      elim (cases g j) [
        | inl l ↦ h.absent g (In-keys s.goroutines g e.0 b.1) l
        | inr r ↦ out (removed s recover sets) g b.0 (new-removed recover sets book s g r)
      ];
  not_zero = λ j. elim (cases 0 j) [
    | inl l ↦ h.not_zero l
    | inr r ↦ (gone-dead s recover sets 0 (new-removed recover sets book s 0 r)).2
        (root (Node.AGoroutine 0) LiveRoot.FinaliserGoroutine)
  ];
  given = λ g j. elim (cases g j) [
    | inl l ↦ h.given g l
    | inr r ↦ let d = gone-dead s recover sets g
        (new-removed recover sets book s g r) in Entry-below s.next_goroutine s.goroutines g d.0 n.goroutines_below d.1
  ];
}
  where
    cases : (g : ℕ) → In g (numbers (book_after recover sets book s).reclaimed) → In g (numbers book.reclaimed)
        ⊎ In g (new_gone recover sets book s)
    cases g j = In-cases g (numbers book.reclaimed) (new_gone recover sets book s)
        (subst (λ (gs : List ℕ). In g gs) (numbers-append book.reclaimed (new_gone recover sets book s)) j)

    root : (x : Node) → LiveRoot s x → Live s x
    root x r = Reached-root (LiveRoot s) (LiveStep s) x r

pub emptied-left : (gone : List ℕ) (s : State) → HasLeft gone s → HasLeft gone (emptied s)
emptied-left gone s h = record { absent = h.absent; not_zero = h.not_zero; given = h.given }

pub start-left : (code : Code) → HasLeft [] (start code)
start-left code = record { absent = λ g i j. absurd j; not_zero = λ j. absurd j; given = λ g j. absurd j }
