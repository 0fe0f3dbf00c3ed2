-- The flag at the rank of an object that is there.
-- For: `flagged` and `queue_finalisers`, src/finaliser_queue.rt
-- By: induction over the list of flags, with the entries that they belong to
use Rattle.std.proofs.Common.{◌≡◌, ℕ, suc, ◌<◌, ◌≤◌, Bool, true, false, ◌||◌, cond, List, [], ◌∷◌, ◌++◌, not, map}
use Rattle.std.proofs.Common.{length, get_or, inl, inr, refl, sym, ap, ◌∙◌, arith}
use Rattle.std.specs.Prelude.{IsTrue, ◌↔◌, Result, Ok, Err, OnOk}
use Rattle.std.proofs.lemmas.Bool.{eq-eqb, ne_eqb, lt-ltb, le-ltb}
use Rattle.golf_theory.specs.Membership.{In, is_in}
use Rattle.golf_theory.specs.Maps.{Entry, Rises, keys, only, rank}
use Rattle.golf_theory.proofs.MapEntries.{Entry-keys}
use Rattle.golf_theory.proofs.MapFinds.{Entry-above}
use Rattle.golf_theory.proofs.Tests.{is_in-out}
use Rattle.golf_theory.specs.Flags.{kept, left_out}
use Rattle.golf_theory.proofs.Flagged.{kept-only, left_out-only}
use Rattle.golf_model.specs.State.{State}
use Rattle.golf_model.specs.Collections.{queued, queue_outside}
use Rattle.golf_state.specs.CollectedParts.{queue_unflagged}
use Rattle.golf_marks.specs.Flags.{IsSet}

In-kept : {X : Type 0} (flags : List Bool) (xs : List X) (x : X) → In x (kept flags xs) → In x xs
In-kept [] xs x h = absurd h
In-kept (b ∷ bs) [] x h = h
In-kept {X = X} (b ∷ bs) (y ∷ ys) x h =
    elim b as (λ c. In x (cond c (y ∷ kept bs ys) (kept bs ys)) → In x (y ∷ ys)) [
      | true ↦ λ i. elim i [ inl e ↦ inl e | inr k ↦ inr (In-kept bs ys x k) ]
      | false ↦ λ i. inr (In-kept bs ys x i)
    ] h

module _ {X : Type 0} where
  kept-above : (j o : ℕ) (flags : List Bool) (es : List (ℕ × X)) → Rises j es → o < j
      → is_in o (kept flags (keys es)) ≡ false
  kept-above j o flags es r l = is_in-out o (kept flags (keys es)) (λ h.
      let e = Entry-keys es o (In-kept flags (keys es) o h) in
      let a = Entry-above j es o e.0 r e.1 in
      omega (arith, a, l))

  pub flag-of : (j : ℕ) (flags : List Bool) (es : List (ℕ × X)) (o : ℕ) (x : X) → Rises j es → length flags ≡ length es
      → Entry es o x → get_or flags (rank o es) false ≡ is_in o (kept flags (keys es))
  flag-of j flags [] o x r l h = absurd h
  flag-of j [] (e ∷ es) o x r l h = absurd (omega (arith, l))
  flag-of j (b ∷ bs) (e ∷ es) o x r l (inl h) =
      let low : o ≤ e.0 = omega (arith, h.0) in
      let later : is_in o (kept bs (keys es)) ≡ false = kept-above (suc e.0) o bs es r.1 (omega (arith, h.0)) in
      ap (λ t. get_or (b ∷ bs) (cond t (suc (rank o es)) 0) false) (le-ltb e.0 o low)
      ∙ elim b as (λ c. c ≡ is_in o (cond c (e.0 ∷ kept bs (keys es)) (kept bs (keys es)))) [
        | true ↦ sym (ap (λ t. t || is_in o (kept bs (keys es))) (eq-eqb o e.0 h.0))
        | false ↦ sym later
      ]
  flag-of j (b ∷ bs) (e ∷ es) o x r l (inr h) =
      let above = Entry-above (suc e.0) es o x r.1 h in
      let more : e.0 < o = omega (arith, above) in
      ap (λ t. get_or (b ∷ bs) (cond t (suc (rank o es)) 0) false) (lt-ltb e.0 o more)
      ∙ flag-of (suc e.0) bs es o x r.1 (omega (arith, l)) h
      ∙ elim b as (λ c. is_in o (kept bs (keys es)) ≡ is_in o (cond c (e.0 ∷ kept bs (keys es)) (kept bs (keys es)))) [
        | true ↦ sym (ap (λ t. t || is_in o (kept bs (keys es))) (ne_eqb o e.0 (λ s. omega (arith, s, more))))
        | false ↦ refl
      ]

-- a test that is true if the flag is set is the flag
pub is-flag : (b : Bool) (flags : List Bool) (n : ℕ) → (IsTrue b ↔ IsSet flags n) → b ≡ get_or flags n false
is-flag b flags n h = by b (get_or flags n false) h
  where
    by : (b c : Bool) → (IsTrue b ↔ (c ≡ true)) → b ≡ c
    by true true h = refl
    by true false h = sym (h.0 refl)
    by false true h = h.1 refl
    by false false h = refl

-- what the flags of the marked objects leave is queued
pub queued-outside : (s : State) (xs : List ℕ) (flags : List Bool) → flags ≡ map (λ e. is_in e.0 xs) s.finalisers
    → queue_unflagged flags s ≡ queue_outside xs s
queued-outside s xs flags is =
    let a : kept flags s.finalisers ≡ only (λ o. is_in o xs) s.finalisers =
    ap (λ (fs : List Bool). kept fs s.finalisers) is ∙ kept-only (λ o. is_in o xs) s.finalisers in
    let b : left_out flags s.finalisers ≡ only (λ o. not (is_in o xs)) s.finalisers =
    ap (λ (fs : List Bool). left_out fs s.finalisers) is ∙ left_out-only (λ o. is_in o xs) s.finalisers in
    λ i. record s { finalisers = a i; queue = s.queue ++ queued (b i) }

-- what holds if a call went well holds under another name
pub where-ok : {A E : Type 0} (r : Result A E) (P Q : Type 0) → (P → Q) → OnOk r P → OnOk r Q
where-ok (Ok x) P Q f h = f h
where-ok (Err e) P Q f h = h
