-- Taking the markers together, and what follows at the end.
-- For: `conclude`, src/conclude.rt; `IsGathered`, specs/MergedMarkers.antt
-- By: induction over the list of markers, and over the list of places that are left
use Rattle.std.proofs.Common.{◌≡◌, ◌≢◌, ℕ, zero, suc, ◌+◌, ◌<◌, ◌≤◌, ◌⊎◌, List, [], ◌∷◌, ◌++◌, Bool, cond, ne_eqb}
use Rattle.std.proofs.Common.{length, length-append, refl, sym, ap, ◌∙◌, subst, inl, inr, ⊎_elim, arith}
use Rattle.std.specs.Prelude.{sum_by}
use Rattle.std.proofs.lemmas.Bool.{cases_lt}
use Rattle.std.proofs.lemmas.List.Sums.{sum_by-cons, sum_by_push}
use mathlib.Core.Option.{some, some-injective, some-ne-none}
use mathlib.Core.Logic.{dite}
use native.Mathlib.Decide.{ℕ_discrete}
use lib.ListN.{get_elem?}
use Rattle.atomic_table.proofs.Lists.{at_longer, at_last}
use Rattle.golf_theory.specs.Membership.{In}
use Rattle.golf_theory.specs.Counts.{times}
use Rattle.golf_theory.proofs.Times.{times-In, In-times}
use Rattle.golf_marks.specs.declared.marks.Marks.{Marks}
use Rattle.golf_marks.specs.Flags.{IsSet}
use Rattle.golf_marks.specs.Places.{place_count}
use Rattle.golf_marks.specs.Seats.{graph_in, claimed, known, parts, IsSeatOf}
use Rattle.golf_grey.specs.Hands.{took, pushed, capacity_of, places_of, hand_count, IsHandOf, AreAllHands}
use Rattle.golf_grey.proofs.Taking.{all_of}
use Rattle.golf_grey.specs.declared.hand.GreyHand.{GreyHand}
use Rattle.golf_grey.specs.declared.pool.GreyPool.{GreyPool}
use Rattle.golf_grey.proofs.Stages.{push_cases, at_end}
use Rattle.golf_mark.specs.declared.marker.Marker.{Marker}
use Rattle.golf_mark.specs.MarkerTurns.{is_one}
use Rattle.golf_mark.specs.UnderWay.{IsScanned}
use Rattle.golf_mark.specs.MergedMarkers.{AllRun, IsEvenWith, IsGathered, IsNoted, Finisher, IsFinisherOf, IsHandedOver}

pub gathered_first : (marks : Marks) (ms rest : List Marker) (m : Marker) (todo : List Bool) → ms ≡ rest ++ m ∷ []
    → IsSeatOf marks m.scanner.seat → length todo ≡ place_count (graph_in marks)
    → ((x : ℕ) → x < place_count (graph_in marks) → IsNoted m x → IsSet todo x)
    → IsGathered marks ms rest (record { seat = m.scanner.seat; todo = todo })
gathered_first marks ms rest m todo is seat size notes = record {
  fits = record { seat = seat; todo = size };
  begins = λ k x e. subst (λ (l : List Marker). get_elem? l k ≡ some x) (sym is) (at_longer rest (m ∷ []) k x e);
  all = λ k x e low. ⊎_elim (λ (t : (k < length rest) × (get_elem? rest k ≡ some x)). t.1)
      (λ (t : (k ≡ length rest) × (m ≡ x)). absurd (omega arith)) (here k x e);
  sums = λ h. omega (
    arith,
    sum_by_push (λ (y : Marker). sum_by h (claimed y.scanner.seat)) rest m,
    ap (sum_by (λ (y : Marker). sum_by h (claimed y.scanner.seat))) is,
  );
  counted = omega (
    arith,
    sum_by_push (λ (y : Marker). parts y.scanner.seat) rest m,
    ap (sum_by (λ (y : Marker). parts y.scanner.seat)) is,
  );
  told = λ k x e low y h. subst (λ (z : Marker). In y (known z.scanner.seat)) (sym (is_last k x e low)) h;
  noted = λ k x e low y in_range h. notes y in_range (subst (λ (z : Marker). IsNoted z y) (sym (is_last k x e low)) h);
}
  where
    here : (k : ℕ) (x : Marker) → get_elem? ms k ≡ some x → ((k < length rest) × (get_elem? rest k ≡ some x))
        ⊎ ((k ≡ length rest) × (m ≡ x))
    here k x e = push_cases rest m x k (subst (λ (l : List Marker). get_elem? l k ≡ some x) is e)

    is_last : (k : ℕ) (x : Marker) → get_elem? ms k ≡ some x → length rest ≤ k → m ≡ x
    is_last k x e low = ⊎_elim (λ (t : (k < length rest) × (get_elem? rest k ≡ some x)). absurd (omega arith))
        (λ (t : (k ≡ length rest) × (m ≡ x)). t.1) (here k x e)

pub last_in : (marks : Marks) (ms rest more : List Marker) (m : Marker) (f : Finisher) → rest ≡ more ++ m ∷ []
    → IsGathered marks ms rest f → get_elem? ms (length more) ≡ some m
last_in marks ms rest more m f is g = g.begins (length more) m
    (subst (λ (l : List Marker). get_elem? l (length more) ≡ some m) (sym is) (at_last more m (length more) refl))

-- the finisher e has what f had, and what the marker m had
pub record TakesIn (marks : Marks) (m : Marker) (f e : Finisher) : Type 0 where
  pub fits : IsFinisherOf marks e
  pub sums : (h : ℕ → ℕ) → sum_by h (claimed e.seat) ≡ sum_by h (claimed f.seat) + sum_by h (claimed m.scanner.seat)
  pub parts : parts e.seat ≡ parts f.seat + parts m.scanner.seat
  pub knew : (x : ℕ) → In x (known f.seat) → In x (known e.seat)
  pub learns : (x : ℕ) → In x (known m.scanner.seat) → In x (known e.seat)
  pub kept : (x : ℕ) → IsSet f.todo x → IsSet e.todo x
  pub noted : (x : ℕ) → x < place_count (graph_in marks) → IsNoted m x → IsSet e.todo x

pub gathered_more : (marks : Marks) (ms rest more : List Marker) (m : Marker) (f e : Finisher) → rest ≡ more ++ m ∷ []
    → IsGathered marks ms rest f → TakesIn marks m f e → IsGathered marks ms more e
gathered_more marks ms rest more m f e is g taken = record {
  fits = taken.fits;
  begins = λ k x d. g.begins k x (subst (λ (l : List Marker). get_elem? l k ≡ some x) (sym is)
      (at_longer more (m ∷ []) k x d));
  all = λ k x d low. ⊎_elim (λ (t : (k < length more) × (get_elem? more k ≡ some x)). t.1)
      (λ (t : (k ≡ length more) × (m ≡ x)). absurd (omega arith))
      (push_cases more m x k (subst (λ (l : List Marker). get_elem? l k ≡ some x) is
      (g.all k x d (omega (arith, len)))));
  sums = λ h. omega (
    arith,
    g.sums h,
    taken.sums h,
    sum_by_push (λ (y : Marker). sum_by h (claimed y.scanner.seat)) more m,
    ap (sum_by (λ (y : Marker). sum_by h (claimed y.scanner.seat))) is,
  );
  counted = omega (
    arith,
    g.counted,
    taken.parts,
    sum_by_push (λ (y : Marker). parts y.scanner.seat) more m,
    ap (sum_by (λ (y : Marker). parts y.scanner.seat)) is,
  );
  told = λ k x d low y h. ⊎_elim
      (λ (old : k < length rest). taken.learns y
      (subst (λ (z : Marker). In y (known z.scanner.seat)) (sym (is_last k x d low old)) h))
      (λ (past : length rest ≤ k). taken.knew y (g.told k x d past y h))
      (cases_lt k (length rest));
  noted = λ k x d low y in_range h. ⊎_elim
      (λ (old : k < length rest). taken.noted y in_range
      (subst (λ (z : Marker). IsNoted z y) (sym (is_last k x d low old)) h))
      (λ (past : length rest ≤ k). taken.kept y (g.noted k x d past y in_range h))
      (cases_lt k (length rest));
}
  where
    len : length rest ≡ length more + 1
    len = ap length is ∙ length-append more (m ∷ [])

    is_last : (k : ℕ) (x : Marker) → get_elem? ms k ≡ some x → length more ≤ k → k < length rest → m ≡ x
    is_last k x d low old = ⊎_elim (λ (t : (k < length more) × (get_elem? more k ≡ some x)). absurd (omega arith))
        (λ (t : (k ≡ length more) × (m ≡ x)). t.1)
        (push_cases more m x k (subst (λ (l : List Marker). get_elem? l k ≡ some x) is (g.all k x d old)))

some_of : (f : Marker → ℕ) (ms : List Marker) → 0 < sum_by f ms → (k : ℕ) × (m : Marker) × (get_elem? ms k ≡ some m)
    × (0 < f m)
some_of f [] pos = absurd (omega arith)
some_of f (m ∷ ms) pos = ⊎_elim
    (λ (here : 0 < f m). (0, m, refl, here))
    (λ (none : f m ≤ 0). let r = some_of f ms (omega (arith, sum_by-cons f m ms)) in (suc r.0, r.1, r.2, r.3))
    (cases_lt 0 (f m))

at_most_all : (f : Marker → ℕ) (ms : List Marker) (k : ℕ) (m : Marker) → get_elem? ms k ≡ some m → f m ≤ sum_by f ms
at_most_all f [] k m at = absurd (some-ne-none m (sym at))
at_most_all f (x ∷ ms) zero m at = omega (arith, sum_by-cons f x ms, ap f (some-injective x m at))
at_most_all f (x ∷ ms) (suc k) m at = omega (arith, sum_by-cons f x ms, at_most_all f ms k m at)

in_left : (left : List ℕ) (x : ℕ) → 0 < sum_by (is_one x) left → In x left
in_left [] x pos = absurd (omega arith)
in_left (y ∷ left) x pos = dite (ℕ_discrete y x)
    (λ (is : y ≡ x). inl (sym is))
    (λ (apart : y ≢ x). let none = ap (λ (b : Bool). let n : ℕ = cond b 1 0 in n) (ne_eqb y x apart) in
    inr (in_left left x (omega (arith, sum_by-cons (is_one x) y left, none))))

no_items : {A : Type 0} (f : A → ℕ) (l : List A) → length l ≡ 0 → sum_by f l ≡ 0
no_items f [] e = refl
no_items f (x ∷ xs) e = absurd (omega arith)

-- all markers have run and none is left to take in, and what f has to do and what was left is noted
pub record AllTakenIn (marks : Marks) (pool : GreyPool) (ms rest : List Marker) (left : List ℕ) (f : Finisher)
    (todo : List Bool) : Type 0 where
  pub none : length rest ≡ 0
  pub run : AllRun marks pool ms
  pub even : IsEvenWith ms left
  pub gathered : IsGathered marks ms rest f
  pub kept : (x : ℕ) → IsSet f.todo x → IsSet todo x
  pub noted : (x : ℕ) → x < place_count (graph_in marks) → In x left → IsSet todo x

-- a place that was shared is scanned or noted, once what is left is noted
shared_covers : {marks : Marks} {pool : GreyPool} {ms rest : List Marker} {left : List ℕ} {f : Finisher}
    {todo : List Bool} → AllTakenIn marks pool ms rest left f todo → (x : ℕ) → x < place_count (graph_in marks)
    → 0 < sum_by (λ m. sum_by (is_one x) (pushed m.hand)) ms → IsScanned (graph_in marks) (known f.seat) x
    ⊎ IsSet todo x
shared_covers {ms = ms} {rest = rest} {left = left} all x low pos = ⊎_elim
    (λ (some_left : 0 < sum_by (is_one x) left). inr (all.noted x low (in_left left x some_left)))
    (λ (no_left : sum_by (is_one x) left ≤ 0).
    let t = some_of (λ m. took (is_one x) m.hand) ms (omega (arith, all.even (is_one x))) in
    let past : length rest ≤ t.0 = omega (arith, all.none) in
    elim ((all.run t.0 t.1 t.2).attended x low t.3) [
      | inl s ↦ inl (λ q l. all.gathered.told t.0 t.1 t.2 past q (s q l))
      | inr m ↦ inr (all.kept x (all.gathered.noted t.0 t.1 t.2 past x low (inl m)))
    ])
    (cases_lt 0 (sum_by (is_one x) left))

-- each place that was claimed is scanned or noted, once all markers are taken in and what is left is noted
pub covers : {marks : Marks} {pool : GreyPool} {ms rest : List Marker} {left : List ℕ} {f : Finisher} {todo : List Bool}
    → AllTakenIn marks pool ms rest left f todo → (x : ℕ) → x < place_count (graph_in marks)
    → 0 < times x (claimed f.seat) → IsScanned (graph_in marks) (known f.seat) x ⊎ IsSet todo x
covers {ms = ms} {rest = rest} all x low pos =
    let t = some_of (λ m. sum_by (is_one x) (claimed m.scanner.seat)) ms
    (omega (
      arith,
      all.gathered.sums (is_one x),
      no_items (λ (m : Marker). sum_by (is_one x) (claimed m.scanner.seat)) rest all.none,
    )) in
    let m : Marker = t.1 in
    let past : length rest ≤ t.0 = omega (arith, all.none) in
    elim ((all.run t.0 m t.2).fits.covered x low (In-times x (claimed m.scanner.seat) t.3)) [
      | inl s ↦ inl (λ q l. all.gathered.told t.0 m t.2 past q (s q l))
      | inr j ↦ elim j [
        | inl k ↦ inr (all.kept x (all.gathered.noted t.0 m t.2 past x low (inr k)))
        | inr k ↦ shared_covers all x low
            (omega (
              arith,
              times-In x (pushed m.hand) k,
              at_most_all (λ y. sum_by (is_one x) (pushed y.hand)) ms t.0 m t.2,
            ))
      ]
    ]

pub handed_first : (ms rest : List Marker) (m : Marker) → ms ≡ rest ++ m ∷ [] → IsHandedOver ms rest (m.hand ∷ [])
handed_first ms rest m is = record {
  count = omega (arith, ap (λ (l : List Marker). length l) is, length-append rest (m ∷ []));
  from = one;
  sums_pushed = λ f. omega (
    arith,
    sum_by_push (λ (y : Marker). sum_by f (pushed y.hand)) rest m,
    ap (sum_by (λ (y : Marker). sum_by f (pushed y.hand))) is,
    sum_by-cons (λ (h : GreyHand). sum_by f (pushed h)) m.hand [],
  );
  sums_taken = λ f. omega (
    arith,
    sum_by_push (λ (y : Marker). took f y.hand) rest m,
    ap (sum_by (λ (y : Marker). took f y.hand)) is,
    sum_by-cons (λ (h : GreyHand). took f h) m.hand [],
  );
}
  where
    one : (k : ℕ) (h : GreyHand) → get_elem? (m.hand ∷ []) k ≡ some h → (j : ℕ) × (x : Marker)
        × (get_elem? ms j ≡ some x) × (x.hand ≡ h) × (j + k + 1 ≡ length ms)
    one zero h e = (
      length rest,
      m,
      at_end ms rest m (length rest) is refl,
      some-injective m.hand h e,
      omega (arith, ap (λ (l : List Marker). length l) is, length-append rest (m ∷ [])),
    )
    one (suc k) h e = absurd (some-ne-none h (sym e))

pub handed_more : (ms rest more : List Marker) (m : Marker) (hands : List GreyHand) → rest ≡ more ++ m ∷ []
    → get_elem? ms (length more) ≡ some m → IsHandedOver ms rest hands → IsHandedOver ms more (hands ++ m.hand ∷ [])
handed_more ms rest more m hands is at o = record {
  count = omega (arith, o.count, len, length-append hands (m.hand ∷ []));
  from = λ k h e. ⊎_elim
      (λ (a : (k < length hands) × (get_elem? hands k ≡ some h)). o.from k h a.1)
      (λ (a : (k ≡ length hands) × (m.hand ≡ h)). (length more, m, at, a.1, omega (arith, a.0, o.count, len)))
      (push_cases hands m.hand h k e);
  sums_pushed = λ f. omega (
    arith,
    o.sums_pushed f,
    sum_by_push (λ (y : Marker). sum_by f (pushed y.hand)) more m,
    ap (sum_by (λ (y : Marker). sum_by f (pushed y.hand))) is,
    sum_by_push (λ (h : GreyHand). sum_by f (pushed h)) hands m.hand,
  );
  sums_taken = λ f. omega (
    arith,
    o.sums_taken f,
    sum_by_push (λ (y : Marker). took f y.hand) more m,
    ap (sum_by (λ (y : Marker). took f y.hand)) is,
    sum_by_push (λ (h : GreyHand). took f h) hands m.hand,
  );
}
  where
    len : length rest ≡ length more + 1
    len = ap (λ (l : List Marker). length l) is ∙ length-append more (m ∷ [])

pub hands_of : (marks : Marks) (pool : GreyPool) (ms rest : List Marker) (hands : List GreyHand) → length rest ≡ 0
    → length ms ≡ hand_count pool → AllRun marks pool ms → IsHandedOver ms rest hands → AreAllHands pool hands
hands_of marks pool ms rest hands none count all o =
    all_of pool.thieves.items (capacity_of pool) (places_of pool) hands (omega (arith, o.count))
    (λ k h e. let r = o.from k h e in subst (IsHandOf pool) r.3 (all r.0 r.1 r.2).fits.hand)
    (λ k h e. let r = o.from k h e in omega (arith, r.4, (all r.0 r.1 r.2).number, ap (λ (x : GreyHand). x.number) r.3))

pub even_of : (ms rest : List Marker) (hands : List GreyHand) (left : List ℕ) → length rest ≡ 0
    → IsHandedOver ms rest hands
    → ((f : ℕ → ℕ) → sum_by (λ (h : GreyHand). sum_by f (pushed h)) hands ≡ sum_by (λ (h : GreyHand). took f h) hands
    + sum_by f left) → IsEvenWith ms left
even_of ms rest hands left none o closed f = omega (
  arith,
  closed f,
  o.sums_pushed f,
  o.sums_taken f,
  no_items (λ (m : Marker). sum_by f (pushed m.hand)) rest none,
  no_items (λ (m : Marker). took f m.hand) rest none,
)
