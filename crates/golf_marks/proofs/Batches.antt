-- What a batch has, gains and gives.
-- For: `Batch`, src/batch.rt; `claim` and `glance`, src/marks.rt.
-- By: the laws of bits; no induction.
use Rattle.std.proofs.Common.{◌≡◌, ◌≢◌, ℕ, ◌+◌, ◌*◌, ◌/◌, ◌%◌, ◌^◌, ◌<◌}
use Rattle.std.proofs.Common.{◌⊎◌, inl, inr, List, [], ◌∷◌, length, suc, ◌-◌}
use Rattle.std.proofs.Common.{refl, sym, ap, ◌∙◌, subst, arith, w64}
use Rattle.std.specs.Prelude.{bit_and, bit_or, ◌↔◌}
use Rattle.std.specs.Int.{trailing_zeros}
use Rattle.std.proofs.lemmas.Bool.{cases_eq, cases_lt}
use Rattle.std.proofs.lemmas.Nat.{pow_pos, pow_below, and_block, and_mask, mod_below, div-add-mod'}
use Rattle.std.proofs.Math.Nat.{mod_self, two-pow-succ}
use Rattle.std.specs.Int.Bits.{and_self}
use Rattle.std.proofs.lemmas.Nat.Bits.{bit_at-trailing_zeros, bit_at-zero, bit_at-pow_same, bit_at-pow_other}
use Rattle.std.proofs.lemmas.Nat.Bits.{bit_at_cat_low, bit_at_cat_high, same_from_bits_below}
use Rattle.golf_theory.specs.Membership.{In}
use Rattle.golf_marks.specs.declared.batch.Batch.{Batch}
use Rattle.golf_marks.specs.Batches.{batched}
use Rattle.golf_marks.specs.Bits.{word_of, mask_of, bit_in, marked_in, unset_in}
use Rattle.golf_marks.proofs.BitLaws.{bit_small, or_bit, unset_bit, mask_same, mask_other, one_place, marked_set}
use Rattle.golf_marks.proofs.BitLaws.{set_marked}
use Rattle.golf_marks.proofs.BitLaws.{none_marked, lowest_marked}

pub batched_is : (b : Batch) → batched b ≡ marked_in b.word b.bits
unfolding batched
batched_is b = refl

-- the batch of one place
pub only_place : (p : ℕ) → marked_in (p / 64) (mask_of p) ≡ p ∷ []
only_place p =
    let k : ℕ = p % 64 in
    lowest_marked (p / 64) (mask_of p) k 0 (record {
      low = omega arith;
      clear = λ i less. bit_at-pow_other k i (λ e. omega (arith, e, less));
      set = bit_at-pow_same k;
      gone = bit_at-zero k;
      same = λ i low other. bit_at-zero i ∙ sym (bit_at-pow_other k i other);
    })
    ∙ ap (λ (q : ℕ). q ∷ marked_in (p / 64) 0) (let e : 64 * (p / 64) + p % 64 ≡ p = omega arith in e)
    ∙ ap (λ (xs : List ℕ). p ∷ xs) (none_marked (p / 64) 0 bit_at-zero)

-- a batch without a bit has no place, and no other one
pub no_place : (w n : ℕ) → n ≡ 0 → marked_in w n ≡ []
no_place w n none = ap (marked_in w) none ∙ none_marked w 0 bit_at-zero

-- what is left if the lowest bit is cleared
abbrev pub without_lowest : ℕ → ℕ
without_lowest n = bit_and n (n - 1)

-- below a bit that is set there are only clear ones: what is left are the bits above
rest_is : (a k : ℕ) → without_lowest (a * 2 ^ suc k + 2 ^ k) ≡ a * 2 ^ suc k + 0
rest_is a k =
    let some = pow_pos k in
    let less = pow_below k (suc k) (omega arith) in
    let one_less : a * 2 ^ suc k + 2 ^ k - 1 ≡ a * 2 ^ suc k + (2 ^ k - 1) = omega (arith, some) in
    ap (bit_and (a * 2 ^ suc k + 2 ^ k)) one_less
    ∙ and_block (suc k) a a (2 ^ k) (2 ^ k - 1) less (omega (arith, less))
    ∙ (λ i. and_self a i * 2 ^ suc k + (and_mask (2 ^ k) k ∙ mod_self (2 ^ k)) i)

-- a number whose low bits are clear, but for the bit k
low_clear : (n k : ℕ) → ((i : ℕ) → i < k → n / 2 ^ i % 2 ≡ 0) → n % 2 ^ k ≡ 0
low_clear n k clear =
    let some = pow_pos k in
    same_from_bits_below k (n % 2 ^ k) 0 (mod_below n (2 ^ k) some) some (λ i less.
    sym (bit_at_cat_low (n / 2 ^ k) k (n % 2 ^ k) i less)
    ∙ ap (λ (x : ℕ). x / 2 ^ i % 2) (div-add-mod' n (2 ^ k)) ∙ clear i less ∙ sym (bit_at-zero i))

twice : (a h : ℕ) → (2 * a + 1) * h + 0 ≡ a * (h + h) + h
twice a h = omega arith

halves : (n k : ℕ) → n % 2 ^ k ≡ 0 → n / 2 ^ k % 2 ≡ 1 → n ≡ n / 2 ^ k / 2 * 2 ^ suc k + 2 ^ k
halves n k none one =
    let h : ℕ = 2 ^ k in
    let q : ℕ = n / h in
    let whole = div-add-mod' n (2 ^ k) in
    let odd : q ≡ 2 * (q / 2) + 1 = omega (arith, one) in
    sym whole ∙ ap (λ (r : ℕ). q * h + r) none ∙ ap (λ (x : ℕ). x * h + 0) odd
    ∙ twice (q / 2) h ∙ ap (λ (x : ℕ). q / 2 * x + h) (sym (two-pow-succ k))

pub lowest_first : (w n : ℕ) → 0 < n → n < 2 ^ 64
    → marked_in w n ≡ (64 * w + trailing_zeros w64 n) ∷ marked_in w (without_lowest n)
lowest_first w n some small =
    let t = bit_at-trailing_zeros w64 n some small in
    let k : ℕ = trailing_zeros w64 n in
    let a : ℕ = n / 2 ^ k / 2 in
    let parts : n ≡ a * 2 ^ suc k + 2 ^ k = halves n k (low_clear n k t.2) t.1 in
    let left : without_lowest n ≡ a * 2 ^ suc k + 0 = ap without_lowest parts ∙ rest_is a k in
    let bit_left : (i : ℕ) → without_lowest n / 2 ^ i % 2 ≡ (a * 2 ^ suc k + 0) / 2 ^ i % 2 =
    λ i. ap (λ (x : ℕ). x / 2 ^ i % 2) left in
    let less = pow_below k (suc k) (omega arith) in
    lowest_marked w n k (without_lowest n) (record {
      low = t.0;
      clear = t.2;
      set = t.1;
      gone = bit_left k ∙ bit_at_cat_low a (suc k) 0 k (omega arith) ∙ bit_at-zero k;
      same = λ i low other. elim (cases_lt i k) [
        | inl below ↦ bit_left i ∙ bit_at_cat_low a (suc k) 0 i (omega (arith, below)) ∙ bit_at-zero i
            ∙ sym (t.2 i below)
        | inr above ↦ bit_left i ∙ bit_at_cat_high a (suc k) 0 i (omega (arith, less)) (omega (arith, above, other))
            ∙ sym (bit_at_cat_high a (suc k) (2 ^ k) i less (omega (arith, above, other)))
            ∙ ap (λ (x : ℕ). x / 2 ^ i % 2) (sym parts)
      ];
    })

pub some_place : (w n : ℕ) → n ≢ 0 → n < 2 ^ 64 → marked_in w n ≢ []
some_place w n some small none = absurd (cc (lowest_first w n (omega (arith, some)) small, none))

-- one more place of the word
added_place : (w n p x : ℕ) → p / 64 ≡ w
    → In x (marked_in w (bit_or n (mask_of p))) ↔ (In x (marked_in w n) ⊎ (x ≡ p))
added_place w n p x here = (
  λ h.
      let t = marked_set w (bit_or n (mask_of p)) x h in
      elim (cases_eq (bit_in x n) 1) [
        | inl old ↦ inl (set_marked w n x t.0 old)
        | inr other ↦ elim (cases_eq (x % 64) (p % 64)) [
          | inl e ↦ inr (one_place x p (t.0 ∙ sym here) e)
          | inr ne ↦ absurd (omega (arith, or_bit x n (mask_of p), t.1, mask_other p x ne, bit_small x n, other))
        ]
      ],
  λ h. elim h [
    | inl k ↦
        let t = marked_set w n x k in
        set_marked w (bit_or n (mask_of p)) x t.0
        (omega (arith, or_bit x n (mask_of p), t.1, bit_small x (mask_of p)))
    | inr e ↦ subst (λ (y : ℕ). In y (marked_in w (bit_or n (mask_of p)))) (sym e)
        (set_marked w (bit_or n (mask_of p)) p here
        (omega (arith, or_bit p n (mask_of p), mask_same p, bit_small p n)))
  ],
)

pub adds : (old new : Batch) (p x : ℕ) → new.word ≡ old.word → new.bits ≡ bit_or old.bits (mask_of p)
    → p / 64 ≡ old.word
    → In x (batched new) ↔ (In x (batched old) ⊎ (x ≡ p))
unfolding batched
adds old new p x word bits here =
    let is : marked_in new.word new.bits ≡ marked_in old.word (bit_or old.bits (mask_of p)) =
    ap (λ (w : ℕ). marked_in w new.bits) word ∙ ap (marked_in old.word) bits in
    subst (λ (xs : List ℕ). In x xs ↔ (In x (marked_in old.word old.bits) ⊎ (x ≡ p))) (sym is)
    (added_place old.word old.bits p x here)

-- the places whose bits are not set in the word are places of the mask
pub unset_part : (w m n x : ℕ) → n < 2 ^ 64 → In x (marked_in w (unset_in m n)) → In x (marked_in w m)
unset_part w m n x small h =
    let t = marked_set w (unset_in m n) x h in
    set_marked w m x t.0 (omega (arith, unset_bit x m n small, t.1, bit_small x m))

-- each place of the mask is unset or marked
pub unset_or_marked : (w m n x : ℕ) → n < 2 ^ 64 → In x (marked_in w m)
    → In x (marked_in w (unset_in m n)) ⊎ In x (marked_in w n)
unset_or_marked w m n x small h =
    let t = marked_set w m x h in
    elim (cases_eq (bit_in x n) 1) [
      | inl one ↦ inr (set_marked w n x t.0 one)
      | inr clear ↦ inl (set_marked w (unset_in m n) x t.0
          (omega (arith, unset_bit x m n small, t.1, bit_small x n, clear)))
    ]

pub unset_clear : (w m n x : ℕ) → n < 2 ^ 64 → In x (marked_in w (unset_in m n)) → (word_of x ≡ w) × (bit_in x n ≡ 0)
unset_clear w m n x small h =
    let t = marked_set w (unset_in m n) x h in
    (t.0, omega (arith, unset_bit x m n small, t.1, bit_small x n))

-- a place of a list that is not empty
pub first_of : (xs : List ℕ) → 0 < length xs → (x : ℕ) × In x xs
first_of [] some = absurd (omega arith)
first_of (x ∷ xs) some = (x, inl refl)
