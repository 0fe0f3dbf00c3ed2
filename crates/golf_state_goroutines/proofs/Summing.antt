-- How many run in each 64 blocks, once one block has changed.
-- For: `HasSums` (golf_state_goroutines/specs/Sums.antt)
-- By: cases of the block's number and of the 64 blocks
use Rattle.std.proofs.Common.{◌≡◌, ℕ, zero, suc, ◌+◌, ◌*◌, ◌/◌, ◌<◌, ◌≤◌, List, [], ◌∷◌, length, take, get_or}
use Rattle.std.proofs.Common.{Some, inl, inr, refl, sym, ap, ◌∙◌, arith, slice_get, slice_set}
use Rattle.std.proofs.lemmas.Bool.{cases_lt}
use Rattle.std.proofs.lemmas.List.{length-map, length-set, take-take, take_all, length-take-le}
use Rattle.golf_base.specs.declared.ids.GoroutineId.{GoroutineId}
use Rattle.golf_state_goroutines.specs.RunBlocks.{numbers, running_in, runs_before}
use Rattle.golf_state_goroutines.specs.Sums.{AreSums, HasSums}
use Rattle.golf_state_goroutines.specs.declared.run_blocks.RunBlock.{RunBlock}
use Rattle.golf_blocks.specs.Gather.{gather}
use Rattle.golf_blocks.proofs.Gathers.{gather-change, gather-before, gather-less, gather-next}
use Rattle.golf_state_goroutines.proofs.BlockLaws.{numbers-length}

pub get-same : (ns : List ℕ) (i v : ℕ) → i < length ns → get_or (slice_set ns i v) i 0 ≡ v
get-same [] i v l = absurd (omega (arith, l))
get-same (n ∷ ns) zero v l = refl
get-same (n ∷ ns) (suc i) v l = get-same ns i v (omega (arith, l))

get-other : (ns : List ℕ) (i j v : ℕ) → (j ≡ i → ⊥) → get_or (slice_set ns i v) j 0 ≡ get_or ns j 0
get-other [] i j v d = refl
get-other (n ∷ ns) zero zero v d = absurd (d refl)
get-other (n ∷ ns) zero (suc j) v d = refl
get-other (n ∷ ns) (suc i) zero v d = refl
get-other (n ∷ ns) (suc i) (suc j) v d = get-other ns i j v (λ e. d (ap suc e))

-- the counts change by the same difference behind one block, and the sum of its 64 blocks by that
pub sums-change : (f g : ℕ → ℕ) (ns : List ℕ) (i d e v : ℕ) → AreSums f ns → i / 64 < length ns
    → ((n : ℕ) → n ≤ i → g n ≡ f n) → ((n : ℕ) → i < n → g n + e ≡ f n + d) → v + e ≡ get_or ns (i / 64) 0 + d
    → AreSums g (slice_set ns (i / 64) v)
sums-change f g ns i d e v a l below above is = λ j.
    elim (cases_lt j (i / 64)) [
      | inl h ↦
          let x = get-other ns (i / 64) j v (λ q. omega (arith, h, q)) in
          let b = below (64 * j + 64) (omega (arith, h)) in
          let c = below (64 * j) (omega (arith, h)) in
          omega (arith, x, b, c, a j)
      | inr h ↦ elim (cases_lt (i / 64) j) [
        | inl k ↦
            let x = get-other ns (i / 64) j v (λ q. omega (arith, k, q)) in
            let b = above (64 * j + 64) (omega (arith, k)) in
            let c = above (64 * j) (omega (arith, k)) in
            omega (arith, x, b, c, a j)
        | inr k ↦
            let same : j ≡ i / 64 = omega (arith, h, k) in
            let x = ap (λ n. get_or (slice_set ns (i / 64) v) n 0) same ∙ get-same ns (i / 64) v l in
            let y = ap (λ n. get_or ns n 0) same in
            let b = above (64 * j + 64) (omega (arith, same)) in
            let c = below (64 * j) (omega (arith, same)) in
            omega (arith, x, y, b, c, a j, is)
      ]
    ]

pub inside : (i n m : ℕ) → i < n → n ≤ 64 * m → i / 64 < m
inside i n m a b = omega (arith, a, b)

-- one block changes
pub sums-set : (bs : List RunBlock) (ns : List ℕ) (i d e v : ℕ) (b c : RunBlock) → HasSums bs ns → slice_get bs i ≡ Some b
    → i < length bs
    → length c.running.items + e ≡ length b.running.items + d → v + e ≡ get_or ns (i / 64) 0 + d
    → HasSums (slice_set bs i c) (slice_set ns (i / 64) v)
sums-set bs ns i d e v b c s h l is vs = record {
  each = sums-change (runs_before bs) (runs_before (slice_set bs i c)) ns i d e v s.each
      (inside i (length bs) (length ns) l s.enough)
      (λ n k. ap (λ (xs : List ℕ). length xs) (gather-before (λ (b : RunBlock). numbers b.running.items) bs i n c k))
      (λ n k.
      let r = gather-change (λ (b : RunBlock). numbers b.running.items) bs i n b c k h in
      let x = length-map b.running.items (λ (g : GoroutineId). g.0) in
      let y = length-map c.running.items (λ (g : GoroutineId). g.0) in
      omega (arith, r, x, y, is)) vs;
  enough = omega (arith, length-set bs i c, length-set ns (i / 64) v, s.enough);
}

-- one sum is at most all
pub sum-few : (bs : List RunBlock) (ns : List ℕ) (j : ℕ) → HasSums bs ns → get_or ns j 0 ≤ length (running_in bs)
sum-few bs ns j s = let a = s.each j in let b =
    gather-less (λ (b : RunBlock). numbers b.running.items) bs (64 * j + 64) in omega (arith, a, b)

-- what is read within a list does not depend on what stands past its end
pub read-any : (ns : List ℕ) (i d v : ℕ) → i < length ns → v ≡ get_or ns i d → v ≡ get_or ns i 0
read-any [] i d v l h = absurd (omega (arith, l))
read-any (n ∷ ns) zero d v l h = h
read-any (n ∷ ns) (suc i) d v l h = read-any ns i d v (omega (arith, l)) h

pub runs-none : (n : ℕ) → runs_before [] n ≡ 0
runs-none zero = refl
runs-none (suc n) = refl

-- one block more is summed up
pub sums-more : (bs : List RunBlock) (ns : List ℕ) (i v : ℕ) (b : RunBlock) → AreSums (runs_before (take i bs)) ns
    → slice_get bs i ≡ Some b → i < length bs → i / 64 < length ns
    → v ≡ get_or ns (i / 64) 0 + length b.running.items
    → AreSums (runs_before (take (i + 1) bs)) (slice_set ns (i / 64) v)
sums-more bs ns i v b a h l within is =
    sums-change (runs_before (take i bs)) (runs_before (take (i + 1) bs)) ns i (length b.running.items) 0 v a within
    (λ n k. ap (λ (cs : List RunBlock). length (running_in cs))
    (take-take n (i + 1) bs (omega (arith, k)) ∙ sym (take-take n i bs k)))
    (λ n k.
    let x = ap (λ (cs : List RunBlock). length (running_in cs))
    (take_all n (take (i + 1) bs) (omega (arith, k, length-take-le (i + 1) bs (omega (arith, l))))) in
    let y = ap (λ (cs : List RunBlock). length (running_in cs))
    (take_all n (take i bs) (omega (arith, k, length-take-le i bs (omega (arith, l))))) in
    let z = gather-next (λ (b : RunBlock). numbers b.running.items) bs i b h in
    omega (arith, x, y, z, length-map b.running.items (λ (g : GoroutineId). g.0)))
    (omega (arith, is))

-- a sum, and one block's more, are at most all
pub sum-next : (bs : List RunBlock) (ns : List ℕ) (i : ℕ) (b : RunBlock) → AreSums (runs_before (take i bs)) ns
    → slice_get bs i ≡ Some b → get_or ns (i / 64) 0 + length b.running.items ≤ length (running_in bs)
sum-next bs ns i b a h =
    let j = i / 64 in
    let x = a j in
    let y = gather-less (λ (b : RunBlock). numbers b.running.items) (take i bs) (64 * j + 64) in
    let z = gather-next (λ (b : RunBlock). numbers b.running.items) bs i b h in
    let w = gather-less (λ (b : RunBlock). numbers b.running.items) bs (i + 1) in
    omega (arith, x, y, z, w, length-map b.running.items (λ (g : GoroutineId). g.0))

-- ---- what runs in one block is at most the sum, and the sum at most all

module _ {X Y : Type 0} (f : X → List Y) where
  gather-mono : (xs : List X) (m n : ℕ) → m ≤ n → length (gather f (take m xs)) ≤ length (gather f (take n xs))
  gather-mono xs m n l =
      let a = gather-less f (take n xs) m in
      let b = ap (λ (ys : List X). length (gather f ys)) (take-take m n xs l) in
      omega (arith, a, b)

  pub gather-holds : (xs : List X) (i : ℕ) (x : X) → slice_get xs i ≡ Some x → length (f x) ≤ length (gather f xs)
  gather-holds xs i x h = let a = gather-next f xs i x h in let b = gather-less f xs (i + 1) in omega (arith, a, b)

  pub gather-between : (xs : List X) (i m n : ℕ) (x : X) → slice_get xs i ≡ Some x → m ≤ i → i + 1 ≤ n
      → length (gather f (take m xs)) + length (f x) ≤ length (gather f (take n xs))
  gather-between xs i m n x h l k =
      let a = gather-next f xs i x h in
      let b = gather-mono xs m i l in
      let c = gather-mono xs (i + 1) n k in
      omega (arith, a, b, c)

-- the sum of 64 blocks is at least what runs in one of them
pub sum-holds : (bs : List RunBlock) (ns : List ℕ) (i : ℕ) (b : RunBlock) → HasSums bs ns → slice_get bs i ≡ Some b
    → length b.running.items ≤ get_or ns (i / 64) 0
sum-holds bs ns i b s h =
    let j = i / 64 in
    let a = s.each j in
    let c = gather-between (λ (b : RunBlock). numbers b.running.items) bs i (64 * j) (64 * j + 64) b h (low i) (high i) in
    omega (arith, a, c, numbers-length b.running.items)
  where
    low : (i : ℕ) → 64 * (i / 64) ≤ i
    low i = omega arith

    high : (i : ℕ) → i + 1 ≤ 64 * (i / 64) + 64
    high i = omega arith
