-- Who stays reported, as the book grows.
-- For: `staying_after`, `Ledger::unreported` and `Ledger::note`, src/ledger.rt; `HasStaying`, specs/RunBook.antt
-- By: cases of the lists in which a number stands; no induction
use Rattle.std.proofs.Common.{◌≡◌, ℕ, ◌+◌, ◌≤◌, Bool, true, false, not, cond, ◌&&◌, ◌||◌, List, [], ◌++◌, filter}
use Rattle.std.proofs.Common.{Result, Ok, Err, inl, inr, refl, sym, ◌∙◌, arith}
use Rattle.std.specs.Prelude.{IsOk, is_ok, nat_lt}
use Rattle.std.specs.List.Sorted.{IsNonDecreasingBy, IsPermutation}
use Rattle.std.proofs.lemmas.Bool.{and_parts, and_from, cases_Bool, lt-ltb, le-ltb, true≢false}
use Rattle.std.proofs.lemmas.List.{map-append}
use Rattle.std.proofs.lemmas.List.Elements.{filter-append}
use Rattle.std.proofs.lemmas.List.Sorted.{Contains-permutation, IsPermutation-sym}
use Rattle.golf_theory.specs.Counts.{times}
use Rattle.golf_theory.specs.Membership.{In, is_in}
use Rattle.golf_theory.proofs.Lists.{In-map, In-map_back}
use Rattle.golf_theory.proofs.Lists.{In-filter, In-filter_old, In-Contains, Contains-In}
use Rattle.golf_theory.proofs.Tests.{is_in-from, In-from, not_in-from, is_in-append, is_in-same, same_test}
use Rattle.golf_theory.proofs.Times.{times-append, times-In, times-none}
use Rattle.golf_base.specs.declared.ids.GoroutineId.{GoroutineId}
use Rattle.golf_data.specs.declared.report.Book.{Book}
use Rattle.golf_model.specs.Reports.{numbers}
use Rattle.golf_reclaim.specs.RunBook.{stays_reported, HasStaying, CanNote}
use Rattle.golf_reclaim.proofs.Flags.{map-filter-swap}

among-filtered : (p : ℕ → Bool) (x : ℕ) (xs : List ℕ) → is_in x (filter p xs) ≡ (p x && is_in x xs)
among-filtered p x xs = same_test (is_in x (filter p xs)) (p x && is_in x xs)
    (λ t. let i = In-filter p x xs (In-from x (filter p xs) t) in and_from (p x) (is_in x xs) i.1 (is_in-from x xs i.0))
    (λ t. let a = and_parts (p x) (is_in x xs) t in is_in-from x (filter p xs)
    (In-filter_old p x xs a.0 (In-from x xs a.1)))

numbers-append : (gs hs : List GoroutineId) → numbers (gs ++ hs) ≡ numbers gs ++ numbers hs
numbers-append gs hs = map-append (λ (g : GoroutineId). g.0) gs hs

-- ---- who stays is who was reported more often than removed

more-by : (b : Bool) (r c : ℕ) → r ≡ c + cond b 1 0 → nat_lt c r ≡ b
more-by true r c e = lt-ltb c r (omega (arith, e))
more-by false r c e = le-ltb c r (omega (arith, e))

pub stays-alike : (book : Book) (staying : List GoroutineId) (g : ℕ) → HasStaying book.reported book.reclaimed staying
    → stays_reported book g ≡ is_in g (numbers staying)
stays-alike book staying g has = more-by (is_in g (numbers staying)) (times g (numbers book.reported))
    (times g (numbers book.reclaimed)) (has.counts g)

pub unreported-alike : (book : Book) (staying goroutines : List GoroutineId)
    → HasStaying book.reported book.reclaimed staying
    → filter (λ g. not (is_in g.0 (numbers staying))) goroutines ≡ filter
    (λ g. not (stays_reported book g.0)) goroutines
unreported-alike book staying goroutines has =
    let alike : (g : ℕ) → stays_reported book g ≡ is_in g (numbers staying) = λ g. stays-alike book staying g has in
    simp alike

-- ---- once more is noted

-- a number that stands at most once stands once if it is a member
once : (g : ℕ) (xs : List ℕ) → times g xs ≤ 1 → times g xs ≡ cond (is_in g xs) 1 0
once g xs l = elim (cases_Bool (is_in g xs)) [
  | inl t ↦ rw t (let i = times-In g xs (In-from g xs t) in omega (arith, i, l))
  | inr f ↦ rw f (times-none g xs (not_in-from g xs f))
]

-- b: stays before, n: new, o: gone now; r: how often reported before, c: how often removed
counted-by : (b n o : Bool) (r c : ℕ) → r ≡ c + cond b 1 0 → (n ≡ true → b ≡ false) → (o ≡ true → (b || n) ≡ true)
    → r + cond n 1 0 ≡ (c + cond o 1 0) + cond (not o && (b || n)) 1 0
counted-by true true o r c e h k = absurd (true≢false (h refl))
counted-by true false true r c e h k = omega (arith, e)
counted-by true false false r c e h k = omega (arith, e)
counted-by false true true r c e h k = omega (arith, e)
counted-by false true false r c e h k = omega (arith, e)
counted-by false false true r c e h k = absurd (true≢false (sym (k refl)))
counted-by false false false r c e h k = omega (arith, e)

pub staying-noted : (book : Book) (new gone staying after : List GoroutineId)
    → HasStaying book.reported book.reclaimed staying → CanNote (numbers new) (numbers gone) book
    → IsNonDecreasingBy (λ (g : GoroutineId). g.0) after
    → ((n : ℕ) → is_in n (numbers after) ≡ is_in n
    (filter (λ k. not (is_in k (numbers gone))) (numbers (staying ++ new))))
    → HasStaying (book.reported ++ new) (book.reclaimed ++ gone) after
staying-noted book new gone staying after has can rises members = record {
  rises = rises;
  counts = λ g.
      let b : Bool = is_in g (numbers staying) in
      let n : Bool = is_in g (numbers new) in
      let o : Bool = is_in g (numbers gone) in
      let r : ℕ = times g (numbers book.reported) in
      let c : ℕ = times g (numbers book.reclaimed) in
      let same = stays-alike book staying g has in
      rw (
        numbers-append book.reported new,
        times-append g (numbers book.reported) (numbers new),
        once g (numbers new) (can.new_once g),
        numbers-append book.reclaimed gone,
        times-append g (numbers book.reclaimed) (numbers gone),
        once g (numbers gone) (can.gone_once g),
        members g,
        among-filtered (λ k. not (is_in k (numbers gone))) g (numbers (staying ++ new)),
        numbers-append staying new,
        is_in-append g (numbers staying) (numbers new),
      )
      (counted-by b n o r c (has.counts g) (λ t. sym same ∙ can.unreported g (In-from g (numbers new) t))
      (λ t. rw same at (can.reported g (In-from g (numbers gone) t))));
}

-- gathered in two steps, and then in another order
pub staying-among : {now then after : List GoroutineId} (staying new gone : List GoroutineId) (n : ℕ) → now ≡ []
    ++ filter (λ g. not (is_in g.0 (numbers gone))) staying → then ≡ now
    ++ filter (λ g. not (is_in g.0 (numbers gone))) new → IsPermutation then after
    → is_in n (numbers after) ≡ is_in n (filter (λ k. not (is_in k (numbers gone))) (numbers (staying ++ new)))
staying-among {now} {then} {after} staying new gone n first second moved =
    is_in-same n (numbers after) (numbers then) (members after then (IsPermutation-sym then after moved))
    (members then after moved)
    ∙ rw (
      second,
      first,
      map-filter-swap (λ (g : GoroutineId). g.0) (λ k. not (is_in k (numbers gone))) (staying ++ new),
      filter-append (λ (g : GoroutineId). not (is_in g.0 (numbers gone))) staying new,
    )
  where
    members : (xs ys : List GoroutineId) → IsPermutation xs ys → In n (numbers xs) → In n (numbers ys)
    members xs ys q i = let b = In-map_back (λ (g : GoroutineId). g.0) n xs i in
        rw b.1 (In-map (λ (g : GoroutineId). g.0) b.0 ys
        (In-Contains ys b.0 (Contains-permutation xs ys b.0 q (Contains-In xs b.0 b.2))))

-- what room was taken for is added
pub added : {A E : Type 0} (r : Result A E) (old xs after : List GoroutineId) → IsOk r
    → after ≡ cond (is_ok r) (old ++ xs) old → after ≡ old ++ xs
added (Ok x) old xs after g e = e
added (Err x) old xs after g e = absurd (true≢false (sym g))
