-- What clearing does, place by place.
-- For: `clear_bits`, `clear_under`, `clear_all`, src/zeros.rt; `cleared_slots`, specs/Slots.antt
-- By: induction over the list of values
use Rattle.std.proofs.Common.{◌≡◌, ℕ, zero, suc, ◌+◌, ◌^◌, ◌<◌, ◌≤◌, nat_le, Bool, true, false, cond}
use Rattle.std.proofs.Common.{List, [], ◌∷◌, length, Some, refl, sym, ◌∙◌, arith, slice_get}
use Rattle.std.proofs.Common.{slice_set, pos}
use Rattle.std.specs.Prelude.{bit_or}
use Rattle.std.specs.Int.{w64, bit_not}
use Rattle.std.proofs.lemmas.Nat.{or_lt}
use Rattle.std.proofs.lemmas.Nat.Bits.{bit_at-lt, bit_at-zero, bit_at_not}
use Rattle.std.proofs.lemmas.Option.{slice_get_within}
use Rattle.std.proofs.lemmas.Bool.{cases_eq, cases_lt, le-leb, lt-leb, or_left, or_right, or_cases}
use Rattle.std.proofs.lemmas.Bool.Decides.{nat_tests}
use Rattle.golf_data.specs.declared.value.Value.{Value}
use Rattle.golf_data.specs.Masks.{has_bit, stays_under}
use Rattle.golf_data.proofs.Masks.{has_bit-or, lowest_bit}
use Rattle.golf_data.specs.Slots.{cleared_from, cleared_slots}
use Rattle.golf_data.specs.Zeros.{AreZeros, AreAllZero, stays_but, stays_until, stays_yet}

abbrev pub none : Value
none = Value.Int (pos 0)

-- places from k on, and places from 0 on
first : (k : ℕ) → k + 0 ≡ k
first k = omega arith

later : (k i : ℕ) → k + 1 + i ≡ k + suc i
later k i = omega arith

whole : (i : ℕ) → 0 + i ≡ i
whole i = omega arith

-- tests that do the same to each value clear the same
pub agree : (p q : ℕ → Bool) (k : ℕ) (vs : List Value)
    → ((i : ℕ) (v : Value) → slice_get vs i ≡ Some v → cond (p (k + i)) v none ≡ cond (q (k + i)) v none)
    → cleared_from p k vs ≡ cleared_from q k vs
agree p q k [] h = refl
agree p q k (v ∷ vs) h =
    let head = rw first at (h 0 v refl) in
    let tail = agree p q (k + 1) vs (λ i w e. rw later (h (suc i) w e)) in cc

pub all-stay : (p : ℕ → Bool) (k : ℕ) (vs : List Value) → ((i : ℕ) → i < length vs → p (k + i) ≡ true)
    → cleared_from p k vs ≡ vs
all-stay p k [] h = refl
all-stay p k (v ∷ vs) h =
    let head = rw first at (h 0 (omega arith)) in
    rw (head, all-stay p (k + 1) vs (λ i l. rw later (h (suc i) (omega (arith, l)))))

-- one place more
pub one-more : (p q : ℕ → Bool) (k n : ℕ) (vs : List Value) → q (k + n) ≡ false
    → ((i : ℕ) → (i ≡ n → ⊥) → p (k + i) ≡ q (k + i)) → slice_set (cleared_from p k vs) n none ≡ cleared_from q k vs
one-more p q k n [] f h = refl
one-more p q k zero (v ∷ vs) f h =
    let head = rw first at f in
    rw (head, agree p q (k + 1) vs (λ i w e. rw (later, h (suc i) (λ t. omega (arith, t)))))
one-more p q k (suc n) (v ∷ vs) f h =
    let head = rw first at (h 0 (λ t. omega (arith, t))) in
    rw (head, one-more p q (k + 1) n vs (rw later f) (λ i t. rw later (h (suc i) (λ s. t (omega (arith, s))))))

-- ---- all places, of which the first n are cleared

pub until_start : (vs : List Value) → cleared_slots (stays_until 0 (λ i. false)) vs ≡ vs
until_start vs = all-stay (stays_until 0 (λ i. false)) 0 vs (λ i l. rw (le-leb 0 (0 + i) (omega arith)))

pub until_clear : (n : ℕ) (vs : List Value) → slice_set (cleared_slots (stays_until n (λ i. false)) vs) n none
    ≡ cleared_slots (stays_until (n + 1) (λ i. false)) vs
until_clear n vs = one-more (stays_until n (λ i. false)) (stays_until (n + 1) (λ i. false)) 0 n vs
    (rw (whole n, lt-leb (n + 1) n (omega arith))) (λ i t. rw (whole i) (grind (arith, nat_tests)))

pub until_end : (n : ℕ) (vs : List Value) → length vs ≤ n
    → cleared_slots (stays_until n (λ i. false)) vs ≡ cleared_slots (λ i. false) vs
until_end n vs h = agree (stays_until n (λ i. false)) (λ i. false) 0 vs
    (λ i v e. rw (whole i, lt-leb n i (omega (arith, slice_get_within vs i v e, h))))

pub values_length : (vs : List Value) (i : ℕ) → length (slice_set vs i none) ≡ length vs
values_length [] i = refl
values_length (w ∷ vs) zero = refl
values_length (w ∷ vs) (suc i) = rw (values_length vs i)

pub ruleset by_places = (until_start, until_clear, until_end, values_length)

-- ---- bit by bit

pub yet_start : (dead : ℕ) (vs : List Value) → cleared_slots (stays_yet dead dead) vs ≡ vs
yet_start dead vs = all-stay (stays_yet dead dead) 0 vs (λ i l. grind arith)

pub yet_one : (dead left rest at : ℕ) (vs : List Value) → at < 64 → has_bit left at ≡ true
    → ((i : ℕ) → i < 64 → has_bit left i ≡ true → has_bit dead i ≡ true)
    → ((i : ℕ) → i < 64 → (i ≡ at → ⊥) → has_bit rest i ≡ has_bit left i) → has_bit rest at ≡ false
    → slice_set (cleared_slots (stays_yet dead left) vs) at none ≡ cleared_slots (stays_yet dead rest) vs
yet_one dead left rest at vs low bit among others own = one-more (stays_yet dead left) (stays_yet dead rest) 0 at vs
    (rw (whole at, lt-leb 64 at low, among at low bit) own) (λ i t. rw (whole i) (grind (arith, nat_tests, others i)))

pub yet_end : (dead left : ℕ) (vs : List Value) → left ≡ 0
    → cleared_slots (stays_yet dead left) vs ≡ cleared_slots (stays_but dead) vs
yet_end dead left vs e =
    rw e (agree (stays_yet dead 0) (stays_but dead) 0 vs (λ i v s. rw (bit_at-zero (0 + i)) (grind arith)))

pub ruleset by_bits = (yet_start, yet_one, yet_end, cases_eq, lowest_bit)

-- what stands at a place that was cleared or not
pub at-cleared : (test : ℕ → Bool) (k i : ℕ) (vs : List Value) (v : Value)
    → slice_get (cleared_from test k vs) i ≡ Some v → (w : Value) × (slice_get vs i ≡ Some w)
    × (cond (test (k + i)) w none ≡ v)
at-cleared test k i [] v e = cc
at-cleared test k zero (w ∷ vs) v e = (w, refl, rw first cc)
at-cleared test k (suc i) (w ∷ vs) v e =
    let r = at-cleared test (k + 1) i vs v e in
    (r.0, r.1, rw (← later k i) r.2)

-- what was known to hold 0 still does, and so does what was cleared
pub more_zeros : (zeros dead : ℕ) (vs : List Value) → AreZeros zeros vs
    → AreZeros (bit_or zeros dead) (cleared_slots (stays_but dead) vs)
more_zeros zeros dead vs h = λ i v l t e.
    let r = at-cleared (stays_but dead) 0 i vs v e in
    let q = rw whole at r.2 in
    grind (arith, nat_tests, has_bit-or zeros dead i, h i r.0 l, r.1, q)

pub still_zero : (test : ℕ → Bool) (known : Bool) (vs : List Value) → AreAllZero known vs
    → AreAllZero known (cleared_slots test vs)
still_zero test known vs h = λ k i v e.
    let r = at-cleared test 0 i vs v e in grind (arith, h k i r.0 r.1, r.2)

-- what is known to hold 0 need not be cleared
pub under_is : (mask zeros : ℕ) (vs : List Value) → mask < 2 ^ 64 → zeros < 2 ^ 64 → AreZeros zeros vs
    → cleared_slots (stays_but (bit_not w64 (bit_or mask zeros))) vs ≡ cleared_slots (stays_under (Some mask)) vs
under_is mask zeros vs m z h =
    agree (stays_but (bit_not w64 (bit_or mask zeros))) (stays_under (Some mask)) 0 vs (λ i v e.
    let word = bit_or mask zeros in
    let turned = bit_at_not w64 word i (or_lt 64 mask zeros m z) in
    rw (whole i) (grind (arith, nat_tests, turned, bit_at-lt word i, has_bit-or mask zeros i, h i v)))

-- if nothing has died
pub none_dead : (mask zeros : ℕ) (vs : List Value) → mask < 2 ^ 64 → zeros < 2 ^ 64 → AreZeros zeros vs
    → bit_not w64 (bit_or mask zeros) ≡ 0 → vs ≡ cleared_slots (stays_under (Some mask)) vs
none_dead mask zeros vs m z h e =
    sym (all-stay (stays_but (bit_not w64 (bit_or mask zeros))) 0 vs
    (λ i l. or_right (nat_le 64 (0 + i)) _ (rw (e, bit_at-zero (0 + i))))) ∙ under_is mask zeros vs m z h

pub ruleset under_mask = (under_is, none_dead, more_zeros, still_zero)

-- ---- slots that all hold 0

pub gone : (vs : List Value) (i : ℕ) (v : Value) → slice_get (cleared_slots (λ i. false) vs) i ≡ Some v → v ≡ none
gone vs i v e = sym (at-cleared (λ j. false) 0 i vs v e).2

pub zero_stays : (known : Bool) (vs : List Value) → AreAllZero known vs → known ≡ true
    → vs ≡ cleared_slots (λ i. false) vs
zero_stays known vs h k =
    sym (all-stay (λ i. true) 0 vs (λ i l. refl)) ∙ agree (λ i. true) (λ i. false) 0 vs (λ i v e. h k i v e)

pub ruleset all_zero = (gone, zero_stays)
