-- Bits of words, and the places that they stand for.
-- For: `mask` and `bit`, src/bits.rt; `marked_in` and `unset_in`, golf_marks/specs/Bits.antt.
-- By: arithmetic; induction over the bits of a word that are told.
use Rattle.std.proofs.Common.{◌≡◌, ◌≢◌, ℕ, ◌+◌, ◌-◌, ◌*◌, ◌/◌, ◌%◌, ◌^◌, ◌<◌, ◌≤◌, inl, inr, Bool, cond, zero, suc}
use Rattle.std.proofs.Common.{List, [], ◌∷◌, ◌++◌, length, set, replicate, refl, sym, ap, ◌∙◌, subst, eq-eqb, ne_eqb}
use Rattle.std.proofs.Common.{arith, min, max, w64}
use Rattle.std.specs.Prelude.{bit_and, bit_or, slice_index}
use Rattle.std.specs.Int.{bit_not}
use Rattle.std.proofs.lemmas.Bool.{cases_eq, cases_lt}
use Rattle.std.proofs.lemmas.List.{get_or-set_same, get_or-set_other, get_or-replicate, get_or_past}
use Rattle.std.proofs.lemmas.Nat.{and_le_l, and_le_r, pow_below, bit_set_by_shift}
use Rattle.std.proofs.lemmas.Nat.Bits.{shr_and_one, bit_at_and, bit_at_or, bit_at_not, bit_at-pow_same}
use Rattle.std.proofs.lemmas.Nat.Bits.{bit_at-pow_other}
use Rattle.std.proofs.Math.ListN.{length-replicate}
use Rattle.golf_theory.specs.Membership.{In}
use Rattle.golf_theory.specs.Counts.{times}
use Rattle.golf_theory.proofs.Lists.{In-cases}
use Rattle.golf_theory.proofs.Times.{times-push, times-none, In-times}
use Rattle.golf_marks.specs.Bits.{word_of, mask_of, bit_in, bit_at, marked_below, marked_in, unset_in}

pub bit_small : (p n : ℕ) → bit_in p n ≤ 1
unfolding bit_in
bit_small p n = and_le_r (n / 2 ^ (p % 64)) 1

-- the bit says what the word has in common with the mask
pub bit_set : (p n : ℕ) → bit_and n (mask_of p) ≢ 0 → bit_in p n ≡ 1
unfolding bit_in
bit_set p n h = (bit_set_by_shift n (p % 64)).1 h

pub set_bit : (p n : ℕ) → bit_in p n ≡ 1 → bit_and n (mask_of p) ≢ 0
unfolding bit_in
set_bit p n h = (bit_set_by_shift n (p % 64)).0 h

pub bit_clear : (p n : ℕ) → bit_and n (mask_of p) ≡ 0 → bit_in p n ≡ 0
bit_clear p n z = elim (cases_eq (bit_in p n) 1) [
  | inl one ↦ absurd (set_bit p n one z)
  | inr none ↦ let s = bit_small p n in omega (arith, none)
]

-- a place is the one of its word and of its bit
pub one_place : (p q : ℕ) → word_of p ≡ word_of q → p % 64 ≡ q % 64 → p ≡ q
one_place p q w r = omega arith

pow_same : (i j : ℕ) → 2 ^ i ≡ 2 ^ j → i ≡ j
pow_same i j e = elim (cases_lt i j) [
  | inl less ↦ absurd (let b = pow_below i j less in omega (arith, e, b))
  | inr more ↦ elim (cases_eq i j) [
    | inl same ↦ same
    | inr apart ↦ absurd (let b = pow_below j i (omega (arith, more, apart)) in omega (arith, e, b))
  ]
]

pub one_bit : (p q : ℕ) → word_of p ≡ word_of q → mask_of p ≡ mask_of q → p ≡ q
one_bit p q w m = one_place p q w (pow_same (p % 64) (q % 64) m)

-- the bit as a quotient
bit_is : (p n : ℕ) → bit_in p n ≡ n / 2 ^ (p % 64) % 2
unfolding bit_in
bit_is p n = shr_and_one n (p % 64)

-- the mask of a place has its bit alone
pub mask_same : (p : ℕ) → bit_in p (mask_of p) ≡ 1
mask_same p = bit_is p (mask_of p) ∙ bit_at-pow_same (p % 64)

pub mask_other : (p q : ℕ) → q % 64 ≢ p % 64 → bit_in q (mask_of p) ≡ 0
mask_other p q apart = bit_is q (mask_of p) ∙ bit_at-pow_other (p % 64) (q % 64) apart

-- a bit is set in one of two words
pub or_bit : (p n m : ℕ) → bit_in p (bit_or n m) ≡ max (bit_in p n) (bit_in p m)
or_bit p n m = bit_is p (bit_or n m) ∙ bit_at_or n m (p % 64) ∙ (λ i. max (sym (bit_is p n) i) (sym (bit_is p m) i))

-- a bit is set in the mask, and not in the word
pub unset_bit : (p m n : ℕ) → n < 2 ^ 64 → bit_in p (unset_in m n) ≡ min (bit_in p m) (1 - bit_in p n)
unset_bit p m n small =
    let flipped = bit_at_not w64 n (p % 64) small (omega arith) ∙ ap (λ (k : ℕ). 1 - k) (sym (bit_is p n)) in
    bit_is p (unset_in m n) ∙ bit_at_and m (bit_not w64 n) (p % 64) ∙ (λ i. min (sym (bit_is p m) i) (flipped i))

-- what a step with this mask adds
pub gained_bit : (p m n : ℕ) → n < 2 ^ 64 → bit_in p (unset_in m n) + bit_in p n ≡ bit_in p (bit_or n m)
gained_bit p m n small = omega (arith, or_bit p n m, unset_bit p m n small, bit_small p n, bit_small p m)

-- the words with the bits of a mask set
abbrev pub with_bits : List ℕ → ℕ → ℕ → List ℕ
with_bits words w m = set words w (bit_or (slice_index words w) m)

pub bits_there : (words : List ℕ) (w m x : ℕ) → w < length words → word_of x ≡ w
    → bit_at (with_bits words w m) x ≡ bit_in x (bit_or (slice_index words w) m)
bits_there words w m x low same = ap (λ (k : ℕ). bit_in x (slice_index (with_bits words w m) k)) same
    ∙ ap (bit_in x) (get_or-set_same words w (bit_or (slice_index words w) m) 0 low)

pub bits_elsewhere : (words : List ℕ) (w m x : ℕ) → word_of x ≢ w → bit_at (with_bits words w m) x ≡ bit_at words x
bits_elsewhere words w m x apart =
    ap (bit_in x) (get_or-set_other words w (word_of x) (bit_or (slice_index words w) m) 0 apart)

-- no bit of words that are 0 is set
zeros_at : (n k : ℕ) → slice_index (replicate n 0) k ≡ 0
zeros_at n k = elim (cases_lt k n) [
  | inl low ↦ get_or-replicate {A = ℕ} n k 0 0 low
  | inr past ↦ get_or_past (replicate n 0) k 0 (omega (arith, length-replicate {A = ℕ} n 0))
]

pub no_bit : (n p : ℕ) → bit_at (replicate n 0) p ≡ 0
no_bit n p = ap (bit_in p) (zeros_at n (word_of p)) ∙ bit_clear p 0 (let l = and_le_l 0 (mask_of p) in omega (arith, l))

-- one more place is told if its bit is set
told_more : (word n k : ℕ) → bit_in (64 * word + k) n ≡ 1
    → marked_below word n (suc k) ≡ marked_below word n k ++ (64 * word + k) ∷ []
told_more word n k one = ap (λ (b : Bool). cond b (marked_below word n k ++ (64 * word + k) ∷ [])
    (marked_below word n k))
    (eq-eqb (bit_in (64 * word + k) n) 1 one)

told_same : (word n k : ℕ) → bit_in (64 * word + k) n ≢ 1 → marked_below word n (suc k) ≡ marked_below word n k
told_same word n k clear =
    ap (λ (b : Bool). cond b (marked_below word n k ++ (64 * word + k) ∷ []) (marked_below word n k))
    (ne_eqb (bit_in (64 * word + k) n) 1 clear)

-- what is told of a word is set in it
told_set : (word n k p : ℕ) → k ≤ 64 → In p (marked_below word n k)
    → (word_of p ≡ word) × (p % 64 < k) × (bit_in p n ≡ 1)
told_set word n zero p few h = absurd h
told_set word n (suc k) p few h = elim (cases_eq (bit_in (64 * word + k) n) 1) [
  | inl one ↦ elim (In-cases p (marked_below word n k) ((64 * word + k) ∷ [])
      (subst (In p) (told_more word n k one) h)) [
        | inl i ↦ let t = told_set word n k p (omega (arith, few)) i in (t.0, omega (arith, t.1), t.2)
        | inr i ↦ elim i [
          | inl e ↦ (omega (arith, e, few), omega (arith, e, few), ap (λ (q : ℕ). bit_in q n) e ∙ one)
          | inr none ↦ absurd none
        ]
      ]
  | inr clear ↦
      let t = told_set word n k p (omega (arith, few)) (subst (In p) (told_same word n k clear) h) in
      (t.0, omega (arith, t.1), t.2)
]

-- how often a place is told
told_once : (word n k p : ℕ) → k ≤ 64 → word_of p ≡ word → p % 64 < k → times p (marked_below word n k) ≡ bit_in p n
told_once word n zero p few w low = absurd (omega (arith, low))
told_once word n (suc k) p few w low =
    let q : ℕ = 64 * word + k in
    let before : p % 64 ≡ k → times p (marked_below word n k) ≡ 0 = λ e. times-none p (marked_below word n k)
    (λ h. let t = told_set word n k p (omega (arith, few)) h in omega (arith, t.1, e)) in
    elim (cases_eq (bit_in q n) 1) [
      | inl one ↦ elim (cases_eq (p % 64) k) [
        | inl e ↦
            let is : q ≡ p = omega (arith, w, e) in
            let here = ap (λ (b : Bool). let m : ℕ = cond b 1 0 in m) (eq-eqb q p is) in omega (
              arith,
              ap (times p) (told_more word n k one),
              times-push p (marked_below word n k) q,
              here,
              before e,
              ap (λ (j : ℕ). bit_in j n) is,
              one,
            )
        | inr ne ↦
            let other = ap (λ (b : Bool). let m : ℕ = cond b 1 0 in m)
            (ne_eqb q p (λ (is : q ≡ p). ne (omega (arith, is, few)))) in omega (
              arith,
              ap (times p) (told_more word n k one),
              times-push p (marked_below word n k) q,
              other,
              told_once word n k p (omega (arith, few)) w (omega (arith, low, ne)),
            )
      ]
      | inr clear ↦ elim (cases_eq (p % 64) k) [
        | inl e ↦
            let is : q ≡ p = omega (arith, w, e) in omega (
              arith,
              ap (times p) (told_same word n k clear),
              before e,
              ap (λ (j : ℕ). bit_in j n) is,
              clear,
              bit_small q n,
            )
        | inr ne ↦ omega (
          arith,
          ap (times p) (told_same word n k clear),
          told_once word n k p (omega (arith, few)) w (omega (arith, low, ne)),
        )
      ]
    ]

pub marked_times : (word n p : ℕ) → word_of p ≡ word → times p (marked_in word n) ≡ bit_in p n
marked_times word n p w = told_once word n 64 p (omega arith) w (omega arith)

pub marked_set : (word n p : ℕ) → In p (marked_in word n) → (word_of p ≡ word) × (bit_in p n ≡ 1)
marked_set word n p h = let t = told_set word n 64 p (omega arith) h in (t.0, t.2)

pub set_marked : (word n p : ℕ) → word_of p ≡ word → bit_in p n ≡ 1 → In p (marked_in word n)
set_marked word n p w one = In-times p (marked_in word n) (omega (arith, marked_times word n p w, one))

pub marked_elsewhere : (word n p : ℕ) → word_of p ≢ word → times p (marked_in word n) ≡ 0
marked_elsewhere word n p apart = times-none p (marked_in word n) (λ h. apart (marked_set word n p h).0)

-- a bit that is clear up to there is told first
none_told : (word n k : ℕ) → k ≤ 64 → ((i : ℕ) → i < k → n / 2 ^ i % 2 ≡ 0) → marked_below word n k ≡ []
none_told word n zero few clear = refl
none_told word n (suc k) few clear =
    told_same word n k (λ one. let z = clear k (omega arith) in let b = bit_is (64 * word + k) n in
    let r : (64 * word + k) % 64 ≡ k = omega (arith, few) in
    let e = ap (λ (j : ℕ). n / 2 ^ j % 2) r in omega (arith, one, z, b, e))
    ∙ none_told word n k (omega (arith, few)) (λ i low. clear i (omega (arith, low)))

-- the word m has all bits of the word n but the lowest, which is k
pub record IsRest (n k m : ℕ) : Type 0 where
  pub low : k < 64
  pub clear : (i : ℕ) → i < k → n / 2 ^ i % 2 ≡ 0
  pub set : n / 2 ^ k % 2 ≡ 1
  pub gone : m / 2 ^ k % 2 ≡ 0
  pub same : (i : ℕ) → i < 64 → i ≢ k → m / 2 ^ i % 2 ≡ n / 2 ^ i % 2

bit_of : (word n k : ℕ) → k < 64 → bit_in (64 * word + k) n ≡ n / 2 ^ k % 2
bit_of word n k low = bit_is (64 * word + k) n
    ∙ ap (λ (j : ℕ). n / 2 ^ j % 2) (let r : (64 * word + k) % 64 ≡ k = omega (arith, low) in r)

lowest_told : (word n k m j : ℕ) → IsRest n k m → k < j → j ≤ 64
    → marked_below word n j ≡ (64 * word + k) ∷ marked_below word m j
lowest_told word n k m zero r past few = absurd (omega (arith, past))
lowest_told word n k m (suc j) r past few = elim (cases_eq j k) [
  | inl e ↦ subst (λ (i : ℕ). marked_below word n (suc i) ≡ (64 * word + k) ∷ marked_below word m (suc i)) (sym e)
      (told_more word n k (bit_of word n k r.low ∙ r.set)
      ∙ ap (λ (xs : List ℕ). xs ++ (64 * word + k) ∷ []) (none_told word n k (omega (arith, few, e)) r.clear)
      ∙ ap (λ (xs : List ℕ). (64 * word + k) ∷ xs) (sym (told_same word m k
      (λ one. omega (arith, one, bit_of word m k r.low, r.gone))
      ∙ none_told word m k (omega (arith, few, e))
      (λ i low. r.same i (omega (arith, low, few, e)) (omega (arith, low)) ∙ r.clear i low))))
  | inr ne ↦
      let here : j < 64 = omega (arith, few) in
      let rest = lowest_told word n k m j r (omega (arith, past, ne)) (omega (arith, few)) in
      let same = bit_of word m j here ∙ r.same j here ne ∙ sym (bit_of word n j here) in
      elim (cases_eq (bit_in (64 * word + j) n) 1) [
        | inl one ↦ told_more word n j one ∙ ap (λ (xs : List ℕ). xs ++ (64 * word + j) ∷ []) rest
            ∙ ap (λ (xs : List ℕ). (64 * word + k) ∷ xs) (sym (told_more word m j (same ∙ one)))
        | inr clear ↦ told_same word n j clear ∙ rest
            ∙ ap (λ (xs : List ℕ). (64 * word + k) ∷ xs) (sym (told_same word m j (λ one. clear (sym same ∙ one))))
      ]
]

pub none_marked : (word n : ℕ) → ((i : ℕ) → n / 2 ^ i % 2 ≡ 0) → marked_in word n ≡ []
none_marked word n clear = none_told word n 64 (omega arith) (λ i _. clear i)

pub lowest_marked : (word n k m : ℕ) → IsRest n k m → marked_in word n ≡ (64 * word + k) ∷ marked_in word m
lowest_marked word n k m r = lowest_told word n k m 64 r r.low (omega arith)
