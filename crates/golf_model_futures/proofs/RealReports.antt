-- A stop of the state without what was removed is reported as that stop of the whole state.
-- For: `report`, `book_after`, golf_model/specs/Reports.antt; `real_runs_agree`, src/lib.rt
-- By: the laws of a cut state; induction over the list of numbers of goroutines
use Rattle.std.proofs.Common.{◌≡◌, ℕ, ◌+◌, Bool, true, false, not, List, [], ◌∷◌, ◌++◌, map, filter, length, inl, inr}
use Rattle.std.proofs.Common.{refl, sym, ap, ◌∙◌, subst}
use Rattle.std.proofs.lemmas.Bool.{not-true, not_from_false}
use Rattle.golf_theory.specs.Membership.{In, is_in}
use Rattle.golf_theory.specs.Maps.{only, keys}
use Rattle.golf_theory.proofs.Lists.{In-left, In-right, In-cases, In-filter, In-filter_old, Every-from, filter-same}
use Rattle.golf_theory.proofs.Lists.{filter-within}
use Rattle.golf_theory.proofs.Tests.{In-from, is_in-out, is_in-same, not_in-from, cases_in}
use Rattle.golf_theory.proofs.MapKeys.{keys-only}
use Rattle.golf_base.specs.declared.ids.GoroutineId.{GoroutineId}
use Rattle.golf_data.specs.declared.code.Code.{Code}
use Rattle.golf_data.specs.declared.report.Book.{Book}
use Rattle.golf_model.specs.State.{State}
use Rattle.golf_model.specs.LiveSet.{dead}
use Rattle.golf_model.specs.Collections.{unkept, removed, retained, cut, sets_finalisers}
use Rattle.golf_model.specs.Reports.{goroutine_id, numbers, entries, without, new_dead, new_gone, all_gone}
use Rattle.golf_model.specs.Reports.{retained_objects, book_after, report}
use Rattle.golf_model.specs.Futures.{Numbered}
use Rattle.golf_model_futures.proofs.Removing.{stays_by}
use Rattle.golf_model_futures.proofs.SameFutures.{map-append}
use Rattle.golf_model_futures.proofs.SameSight.{same-live_objects, entries-cut}
use Rattle.golf_model_futures.proofs.Modes.{Sim}
use Rattle.golf_model_futures.proofs.RealStops.{flow, cut-dead, cut-unkept, retained-into, retained-back}

numbers-ids : (gs : List ℕ) → numbers (map goroutine_id gs) ≡ gs
numbers-ids [] = refl
numbers-ids (g ∷ gs) = ap (λ (r : List ℕ). g ∷ r) (numbers-ids gs)

pub numbers-append : (ids : List GoroutineId) (gs : List ℕ) → numbers (ids ++ map goroutine_id gs) ≡ numbers ids ++ gs
numbers-append ids gs = map-append (λ (g : GoroutineId). g.0) ids (map goroutine_id gs)
    ∙ ap (λ (xs : List ℕ). numbers ids ++ xs) (numbers-ids gs)

-- what the book tells of the removed goroutines
pub record BookOf (gone : List ℕ) (book : Book) : Type 0 where
  pub reclaimed : numbers book.reclaimed ≡ gone
  pub reported : (g : ℕ) → In g gone → In g (numbers book.reported)

module _ (code : Code) (gone : List ℕ) (kept : ℕ → Bool) (t : State) (n : Numbered t) (z : Sim code gone kept t)
    (recover : Bool) (book : Book) (k : BookOf gone book) where
  -- who is not in a list that has all the removed ones stays
  without-stays : (xs : List ℕ) → ((g : ℕ) → In g gone → In g xs) → (g : ℕ) → not (is_in g xs) ≡ true
      → stays_by gone g ≡ true
  without-stays xs h g s = not_from_false (is_in g gone)
      (is_in-out g gone (λ i. not_in-from g xs (not-true (is_in g xs) s) (h g i)))

  without-dead : (xs : List ℕ) → ((g : ℕ) → In g gone → In g xs)
      → without (dead (cut (stays_by gone) kept t)) xs ≡ without (dead t) xs
  without-dead xs h =
      ap (λ (gs : List ℕ). without gs xs) (cut-dead code gone kept t n z)
      ∙ filter-within (λ g. not (is_in g xs)) (stays_by gone) (dead t) (without-stays xs h)

  same-new_dead : new_dead book (cut (stays_by gone) kept t) ≡ new_dead book t
  same-new_dead = without-dead (numbers book.reported) k.reported

  same-entries : entries (cut (stays_by gone) kept t) (new_dead book (cut (stays_by gone) kept t)) ≡ entries t
      (new_dead book t)
  same-entries =
      ap (entries (cut (stays_by gone) kept t)) same-new_dead
      ∙ entries-cut (stays_by gone) kept t (new_dead book t)
      (Every-from (λ g. stays_by gone g ≡ true) (new_dead book t)
      (λ g i. without-stays (numbers book.reported) k.reported g
      (In-filter (λ h. not (is_in h (numbers book.reported))) g (dead t) i).1))

  -- in the whole state, those that are removed now
  fresh-gone : (b : Bool) → removed (cut (stays_by gone) kept t) b (sets_finalisers code) ≡ new_gone b
      (sets_finalisers code) book t
  fresh-gone true = cut-unkept code gone kept t n z (sets_finalisers code)
      ∙ ap (without (unkept t (sets_finalisers code))) (sym k.reclaimed)
  fresh-gone false = refl

  same-new_gone : (b : Bool) → new_gone b (sets_finalisers code) book (cut (stays_by gone) kept t) ≡ new_gone b
      (sets_finalisers code) book t
  same-new_gone true =
      ap (λ (gs : List ℕ). without gs (numbers book.reclaimed))
      (cut-unkept code gone kept t n z (sets_finalisers code)
      ∙ ap (without (unkept t (sets_finalisers code))) (sym k.reclaimed))
      ∙ filter-within (λ g. not (is_in g (numbers book.reclaimed))) (λ g. not (is_in g (numbers book.reclaimed)))
      (unkept t (sets_finalisers code)) (λ g h. h)
  same-new_gone false = refl

  same-all_gone : all_gone recover (sets_finalisers code) book (cut (stays_by gone) kept t) ≡ all_gone recover
      (sets_finalisers code) book t
  same-all_gone = ap (λ (gs : List ℕ). numbers book.reclaimed ++ gs) (same-new_gone recover)

  gone-all : (g : ℕ) → In g gone → In g (all_gone recover (sets_finalisers code) book t)
  gone-all g i = In-left g (numbers book.reclaimed) _ (subst (λ (gs : List ℕ). In g gs) (sym k.reclaimed) i)

  same-still_kept : without (dead (cut (stays_by gone) kept t))
      (all_gone recover (sets_finalisers code) book (cut (stays_by gone) kept t)) ≡ without (dead t)
      (all_gone recover (sets_finalisers code) book t)
  same-still_kept = ap (without (dead (cut (stays_by gone) kept t))) same-all_gone
      ∙ without-dead (all_gone recover (sets_finalisers code) book t) gone-all

  same-retained : (gs : List ℕ) → ((g : ℕ) → In g gone → In g gs)
      → retained_objects (cut (stays_by gone) kept t) gs ≡ retained_objects t gs
  same-retained gs h =
      let into : (g : ℕ) → stays_by gs g ≡ true → (stays_by gone g ≡ true) × (stays_by gs g ≡ true) =
      λ g s. (without-stays gs h g s, s) in
      let back : (g : ℕ) → stays_by gone g ≡ true → stays_by gs g ≡ true → stays_by gs g ≡ true = λ g a s. s in
      filter-same (λ o. is_in o (retained (cut (stays_by gone) kept t) gs)) (λ o. is_in o (retained t gs))
      (keys (only kept t.objects))
      (Every-from _ (keys (only kept t.objects)) (λ o i. is_in-same o _ _
      (retained-back (stays_by gone) kept t (flow code gone kept t n z) gs gs into back o)
      (λ j. (retained-into (stays_by gone) kept t (flow code gone kept t n z) gs gs into back o j).0)))
      ∙ ap (filter (λ o. is_in o (retained t gs))) (keys-only kept t.objects)
      ∙ filter-within (λ o. is_in o (retained t gs)) kept (keys t.objects)
      (λ o s. (retained-into (stays_by gone) kept t (flow code gone kept t n z) gs gs into back o
      (In-from o (retained t gs) s)).1)

  same-objects : retained_objects (cut (stays_by gone) kept t)
      (all_gone recover (sets_finalisers code) book (cut (stays_by gone) kept t)) ≡ retained_objects t
      (all_gone recover (sets_finalisers code) book t)
  same-objects = ap (retained_objects (cut (stays_by gone) kept t)) same-all_gone
      ∙ same-retained (all_gone recover (sets_finalisers code) book t) gone-all

  -- the report, and the book after it
  pub same-report : report recover (sets_finalisers code) book (cut (stays_by gone) kept t) ≡ report recover
      (sets_finalisers code) book t
  same-report =
      let a = same-live_objects (stays_by gone) kept z.related.O z.G t z.related.closed z.related.within z.within
      (flow code gone kept t n z).finalised in
      let b = same-entries in
      let c = same-still_kept in
      let d = same-new_gone recover in
      let e = same-objects in
      λ i. record {
        number = book.collections + 1;
        marked = length (a i);
        reported = b i;
        kept = length (c i);
        reclaimed = length (d i);
        objects = length (e i);
      }

  pub same-book : book_after recover (sets_finalisers code) book (cut (stays_by gone) kept t) ≡ book_after recover
      (sets_finalisers code) book t
  same-book =
      let a = same-new_dead in
      let b = same-new_gone recover in
      λ i. record {
        collections = book.collections + 1;
        reported = book.reported ++ map goroutine_id (a i);
        reclaimed = book.reclaimed ++ map goroutine_id (b i);
      }

  -- who is removed now is dead, and is reported by now
  new-dead : (b : Bool) (g : ℕ) → In g (new_gone b (sets_finalisers code) book t) → In g (dead t)
  new-dead true g h = (In-filter _ g (dead t) (In-filter _ g (unkept t (sets_finalisers code)) h).0).0
  new-dead false g h = absurd h

  told : (g : ℕ) → In g (dead t) → In g (numbers book.reported ++ new_dead book t)
  told g d = elim (cases_in g (numbers book.reported)) [
    | inl i ↦ In-left g (numbers book.reported) _ i
    | inr f ↦ In-right g (numbers book.reported) _
        (In-filter_old (λ h. not (is_in h (numbers book.reported))) g (dead t)
        (not_from_false (is_in g (numbers book.reported)) (is_in-out g (numbers book.reported) f)) d)
  ]

  pub book-next : BookOf (gone ++ removed (cut (stays_by gone) kept t) recover (sets_finalisers code))
      (book_after recover (sets_finalisers code) book t)
  book-next = record {
    reclaimed = numbers-append book.reclaimed (new_gone recover (sets_finalisers code) book t)
        ∙ ap (λ (gs : List ℕ). gs ++ new_gone recover (sets_finalisers code) book t) k.reclaimed
        ∙ ap (λ (gs : List ℕ). gone ++ gs) (sym (fresh-gone recover));
    reported = λ g h. subst (λ (gs : List ℕ). In g gs) (sym (numbers-append book.reported (new_dead book t)))
        (elim (In-cases g gone _ h) [
          | inl i ↦ In-left g (numbers book.reported) _ (k.reported g i)
          | inr i ↦ told g (new-dead recover g (subst (λ (gs : List ℕ). In g gs) (fresh-gone recover) i))
        ]);
  }
