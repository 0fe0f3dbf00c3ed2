-- The entry at the rank of a key, in its block or right behind it.
-- For: src/successors.rt
-- By: the laws of three parts (proofs/Middles.antt)
use Rattle.std.proofs.Common.{◌≡◌, ℕ, zero, suc, ◌+◌, ◌<◌, ◌≤◌, true, cond, List, [], ◌∷◌, ◌++◌, length, take, drop}
use Rattle.std.proofs.Common.{None, nat_lt, refl, ap, ◌∙◌, arith, slice_get}
use Rattle.std.proofs.lemmas.Bool.{lt-ltb, le-ltb}
use Rattle.std.proofs.lemmas.Option.{slice_get_past}
use Rattle.golf_theory.specs.Maps.{Rises, AllBelow, rank}
use Rattle.golf_theory.proofs.Ranks.{rank-within}
use Rattle.golf_blocks.specs.Gather.{not_empty}
use Rattle.golf_blocks.specs.Blocks.{entries_in, AreBlocks, keyed_blocks}
use Rattle.golf_blocks.specs.declared.blocks.Block.{Block}
use Rattle.golf_blocks.proofs.Gathers.{gather-split}
use Rattle.golf_blocks.proofs.Middles.{get-middle}
use Rattle.golf_blocks.proofs.BlockLaws.{tops-below}
use Rattle.golf_blocks.proofs.Places.{Sides, all-tops}

module _ {X : Type 0} where
  rank-below : (k : ℕ) (es : List (ℕ × X)) → AllBelow k es → rank k es ≡ length es
  rank-below k [] a = refl
  rank-below k (e ∷ es) a = ap (λ t. cond t (suc (rank k es)) 0) (lt-ltb e.0 k a.0) ∙ ap suc (rank-below k es a.1)

  rank-left : (k : ℕ) (ms bs : List (ℕ × X)) → Rises (suc k) bs → rank k (ms ++ bs) ≡ rank k ms
  rank-left k [] [] r = refl
  rank-left k [] (b ∷ bs) r = ap (λ t. cond t (suc (rank k bs)) 0) (le-ltb b.0 k (omega (arith, r.0)))
  rank-left k (m ∷ ms) bs r = ap (λ n. cond (nat_lt m.0 k) (suc n) 0) (rank-left k ms bs r)

  rank-middle : (k : ℕ) (us ms bs : List (ℕ × X)) → AllBelow k us → Rises (suc k) bs
      → rank k (us ++ (ms ++ bs)) ≡ length us + rank k ms
  rank-middle k [] ms bs u r = let h = rank-left k ms bs r in omega (arith, h)
  rank-middle k (a ∷ us) ms bs u r =
      let h = rank-middle k us ms bs u.1 r in
      ap (λ t. cond t (suc (rank k (us ++ (ms ++ bs)))) 0) (lt-ltb a.0 k u.0)
      ∙ (let q : suc (rank k (us ++ (ms ++ bs))) ≡ suc (length us) + rank k ms = omega (arith, h) in q)

  get-behind : (us bs : List X) (i : ℕ) → i ≡ length us → slice_get (us ++ bs) i ≡ slice_get bs 0
  get-behind [] bs i e = ap (slice_get bs) e
  get-behind (a ∷ us) bs zero e = absurd (omega (arith, e))
  get-behind (a ∷ us) bs (suc i) e = get-behind us bs i (omega (arith, e))

module _ {V : Type 0} where
  -- all keys are smaller
  pub next-none : (bs : List (Block V)) (i k : ℕ) → AreBlocks 0 bs → i ≡ rank k (keyed_blocks bs) → length bs ≤ i
      → slice_get (entries_in bs) (rank k (entries_in bs)) ≡ None
  next-none bs i k a at l =
      let es = entries_in bs in
      slice_get_past es (rank k es) (omega (arith, rank-below k es (tops-below k 0 bs a (all-tops bs i k at l))))

  module _ (bs : List (Block V)) (i k : ℕ) (b : Block V) (s : Sides bs i k b) where
    split : entries_in bs ≡ entries_in (take i bs) ++ (b.entries.items ++ entries_in (drop (suc i) bs))
    split = gather-split (λ (b : Block V). b.entries.items) bs i b s.here

    ranked : rank k (entries_in bs) ≡ length (entries_in (take i bs)) + rank k b.entries.items
    ranked = ap (rank k) split ∙ rank-middle k (entries_in (take i bs)) b.entries.items (entries_in (drop (suc i) bs))
        s.under s.above

    -- the block has one
    pub next-here : rank k b.entries.items < length b.entries.items
        → slice_get (entries_in bs) (rank k (entries_in bs)) ≡ slice_get b.entries.items (rank k b.entries.items)
    next-here l =
        ap (λ (es : List (ℕ × V)). slice_get es (rank k (entries_in bs))) split
        ∙ get-middle (entries_in (take i bs)) b.entries.items (entries_in (drop (suc i) bs)) (rank k b.entries.items)
        (rank k (entries_in bs)) l ranked

    -- it is behind the block
    pub next-behind : length b.entries.items ≤ rank k b.entries.items
        → slice_get (entries_in bs) (rank k (entries_in bs)) ≡ slice_get (entries_in (drop (suc i) bs)) 0
    next-behind l =
        let front = entries_in (take i bs) in
        let back = entries_in (drop (suc i) bs) in
        let all : rank k b.entries.items ≡ length b.entries.items = omega (arith, l, rank-within k b.entries.items) in
        ap (λ (es : List (ℕ × V)). slice_get es (rank k (entries_in bs))) split
        ∙ ap (slice_get (front ++ (b.entries.items ++ back))) (ranked ∙ ap (λ n. length front + n) all)
        ∙ past front b.entries.items back
      where
        past : (us ms ds : List (ℕ × V)) → slice_get (us ++ (ms ++ ds)) (length us + length ms) ≡ slice_get ds 0
        past [] ms ds = get-behind ms ds (0 + length ms) (omega arith)
        past (u ∷ us) ms ds =
            ap (slice_get (u ∷ (us ++ (ms ++ ds))))
            (let q : suc (length us) + length ms ≡ suc (length us + length ms) = omega arith in q) ∙ past us ms ds

  -- no block is without an entry
  pub first-some : (es : List (ℕ × V)) → not_empty es ≡ true → slice_get es 0 ≡ None → ⊥
  first-some [] n h = cc
  first-some (e ∷ es) n h = cc
