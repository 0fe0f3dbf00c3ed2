-- The block of a number, and the blocks before and after it.
-- For: `AreRunBlocks` (golf_state_goroutines/specs/RunBlocks.antt) and src/run_list.rt
-- By: induction over the list of blocks
use Rattle.std.proofs.Common.{◌≡◌, ℕ, zero, suc, ◌+◌, ◌*◌, ◌/◌, ◌^◌, ◌<◌, ◌≤◌, true, false, cond, List, [], ◌∷◌}
use Rattle.std.proofs.Common.{◌++◌, length, take, drop, get_or, Option, Some, inl, inr, refl, sym, ap, ◌∙◌, subst}
use Rattle.std.proofs.Common.{arith, slice_get, slice_set, nat_lt}
use Rattle.std.specs.Prelude.{option_map}
use Rattle.std.proofs.lemmas.Bool.{le-ltb, lt-ltb, ltb-true}
use Rattle.std.proofs.lemmas.List.{take-map, take_all}
use Rattle.std.proofs.lemmas.Option.{slice_get-map, slice_get_read}
use Rattle.golf_theory.specs.Maps.{Rises, AllBelow, rank}
use Rattle.golf_theory.specs.Membership.{In}
use Rattle.golf_theory.specs.Stored.{placed, without}
use Rattle.golf_blocks.proofs.Gathers.{gather-split, gather-set}
use Rattle.golf_blocks.proofs.Middles.{rank-least}
use Rattle.golf_state_goroutines.specs.RisingLists.{RisesFrom}
use Rattle.golf_state_goroutines.specs.Goroutines.{AllUnder, IsNone}
use Rattle.golf_state_goroutines.specs.RunBlocks.{numbers, running_in, block_keys, RisesIn, IsRunBlock, AreRunBlocks}
use Rattle.golf_state_goroutines.specs.RunBlocks.{keyed_blocks}
use Rattle.golf_state_goroutines.specs.declared.run_blocks.RunBlock.{RunBlock}
use Rattle.golf_state_goroutines.proofs.Ranges.{in-length, in-less, in-more, in-from, in-under, in-append}
use Rattle.golf_state_goroutines.proofs.Middles.{without-middle, placed-middle}

pub blocks-rise : (k : ℕ) (bs : List RunBlock) → AreRunBlocks k bs → Rises k (keyed_blocks bs)
blocks-rise k [] a = tt
blocks-rise k (b ∷ bs) a = (a.0, blocks-rise (suc b.key) bs a.2)

pub block-at : (k i : ℕ) (bs : List RunBlock) (b : RunBlock) → AreRunBlocks k bs → slice_get bs i ≡ Some b → IsRunBlock b
block-at k i [] b a h = absurd (cc)
block-at k zero (x ∷ bs) b a h = let same : x ≡ b = cc in subst IsRunBlock same a.1
block-at k (suc i) (x ∷ bs) b a h = block-at (suc x.key) i bs b a.2 h

blocks-take : (k i : ℕ) (bs : List RunBlock) → AreRunBlocks k bs → AreRunBlocks k (take i bs)
blocks-take k zero bs a = tt
blocks-take k (suc i) [] a = tt
blocks-take k (suc i) (b ∷ bs) a = (a.0, a.1, blocks-take (suc b.key) i bs a.2)

blocks-drop : (k i : ℕ) (bs : List RunBlock) (b : RunBlock) → AreRunBlocks k bs → slice_get bs i ≡ Some b
    → AreRunBlocks (suc b.key) (drop (suc i) bs)
blocks-drop k i [] b a h = absurd (cc)
blocks-drop k zero (x ∷ bs) b a h = let same : x ≡ b = cc in subst (λ (w : RunBlock). AreRunBlocks (suc w.key) bs) same a.2
blocks-drop k (suc i) (x ∷ bs) b a h = blocks-drop (suc x.key) i bs b a.2 h

pub blocks-set : (k i : ℕ) (bs : List RunBlock) (b c : RunBlock) → AreRunBlocks k bs → slice_get bs i ≡ Some b → IsRunBlock c
    → c.key ≡ b.key → AreRunBlocks k (slice_set bs i c)
blocks-set k i [] b c a h is e = absurd (cc)
blocks-set k zero (x ∷ bs) b c a h is e =
    let same : x ≡ b = cc in
    let n : c.key ≡ x.key = e ∙ ap (λ (w : RunBlock). w.key) (sym same) in
    (omega (arith, a.0, n), is, subst (λ (n : ℕ). AreRunBlocks (suc n) bs) (sym n) a.2)
blocks-set k (suc i) (x ∷ bs) b c a h is e = (a.0, a.1, blocks-set (suc x.key) i bs b c a.2 h is e)

pub limited : (k : ℕ) (bs : List RunBlock) → AreRunBlocks k bs → AllBelow (2 ^ 24) (keyed_blocks bs)
limited k [] a = tt
limited k (b ∷ bs) a = (a.1.limit, limited (suc b.key) bs a.2)

rank-taken : {X : Type 0} (k : ℕ) (es : List (ℕ × X)) → AllBelow k (take (rank k es) es)
rank-taken k [] = tt
rank-taken k (e ∷ es) = elim (nat_lt e.0 k) as (λ t. nat_lt e.0 k ≡ t
    → AllBelow k (take (cond t (suc (rank k es)) 0) (e ∷ es))) [
      | true ↦ λ t. (ltb-true e.0 k t, rank-taken k es)
      | false ↦ λ t. tt
    ] refl

-- every key is at least the first one
later : (j : ℕ) (bs : List RunBlock) (k : ℕ) → AreRunBlocks j bs → In k (block_keys bs) → j ≤ k
later j [] k a h = absurd h
later j (b ∷ bs) k a (inl e) = omega (arith, a.0, e)
later j (b ∷ bs) k a (inr h) = let l = later (suc b.key) bs k a.2 h in omega (arith, a.0, l)

none-left : (g : ℕ) (xs ys : List ℕ) → IsNone g (xs ++ ys) → IsNone g xs
none-left g [] ys n = tt
none-left g (x ∷ xs) ys n = (n.0, none-left g xs ys n.1)

none-right : (g : ℕ) (xs ys : List ℕ) → IsNone g (xs ++ ys) → IsNone g ys
none-right g [] ys n = n
none-right g (x ∷ xs) ys n = none-right g xs ys n.1

-- ---- the numbers of several blocks

pub running-within : (k n : ℕ) (bs : List RunBlock) → AreRunBlocks k bs → AllBelow n (keyed_blocks bs) → k ≤ n
    → RisesIn (k * 256) (n * 256) (running_in bs)
running-within k n [] a l h = omega (arith, h)
running-within k n (b ∷ bs) a l h =
    let ns = numbers b.running.items in
    in-append (k * 256) (suc b.key * 256) (n * 256) ns (running_in bs)
    (in-less (k * 256) (b.key * 256) (suc b.key * 256) ns (omega (arith, a.0))
    (in-more (b.key * 256) (b.key * 256 + 256) (suc b.key * 256) ns (omega arith) a.1.running))
    (running-within (suc b.key) n bs a.2 l.1 (omega (arith, l.0)))

-- there are fewer of them than numbers of 32 bits
pub running-few : (bs : List RunBlock) → AreRunBlocks 0 bs → length (running_in bs) ≤ 2 ^ 32
running-few bs a = let h = in-length (0 * 256) (2 ^ 24 * 256) (running_in bs)
    (running-within 0 (2 ^ 24) bs a (limited 0 bs a) (omega arith)) in omega (arith, h)

-- ---- the block of a number

-- before it all numbers are smaller, and after it greater
pub record Sides (bs : List RunBlock) (i g : ℕ) (b : RunBlock) : Type 0 where
  pub within : i < length bs
  pub here : slice_get bs i ≡ Some b
  pub block : IsRunBlock b
  pub under : AllUnder g (running_in (take i bs))
  pub above : RisesFrom (suc g) (running_in (drop (suc i) bs))

before : (bs : List RunBlock) (i g : ℕ) → i ≡ rank (g / 256) (keyed_blocks bs)
    → AllBelow (g / 256) (keyed_blocks (take i bs))
before bs i g e =
    subst (λ (es : List (ℕ × RunBlock)). AllBelow (g / 256) es) (take-map (λ (b : RunBlock). (b.key, b)) i bs)
    (subst (λ n. AllBelow (g / 256) (take n (keyed_blocks bs))) (sym e) (rank-taken (g / 256) (keyed_blocks bs)))

low : (g : ℕ) → g / 256 * 256 ≤ g
low g = omega arith

high : (g k : ℕ) → g / 256 ≤ k → suc g ≤ suc k * 256
high g k l = omega (arith, l)

sides : (bs : List RunBlock) (i g : ℕ) (b : RunBlock) → AreRunBlocks 0 bs → i ≡ rank (g / 256) (keyed_blocks bs)
    → i < length bs → slice_get bs i ≡ Some b → Sides bs i g b
sides bs i g b a e within h =
    let is = block-at 0 i bs b a h in
    let at : slice_get (keyed_blocks bs) (rank (g / 256) (keyed_blocks bs)) ≡ Some (b.key, b) =
    ap (slice_get (keyed_blocks bs)) (sym e) ∙ slice_get-map (λ (b : RunBlock). (b.key, b)) bs i
    ∙ ap (λ (o : Option RunBlock). option_map (λ (b : RunBlock). (b.key, b)) o) h in
    let least : g / 256 ≤ b.key = rank-least (g / 256) (keyed_blocks bs) (b.key, b) at in
    let d = blocks-drop 0 i bs b a h in
    record {
      within = within;
      here = h;
      block = is;
      under = in-under g (0 * 256) (g / 256 * 256) _ (low g)
          (running-within 0 (g / 256) (take i bs) (blocks-take 0 i bs a) (before bs i g e) (omega arith));
      above = in-from (suc g) (suc b.key * 256) (2 ^ 24 * 256) (running_in (drop (suc i) bs))
          (high g b.key least) (running-within (suc b.key) (2 ^ 24) (drop (suc i) bs) d
          (limited (suc b.key) (drop (suc i) bs) d) (omega (arith, is.limit)));
    }

-- the block of a number, once it is read
pub found : (bs cs : List RunBlock) (i g : ℕ) (b : RunBlock) → AreRunBlocks 0 bs
    → i ≡ rank (g / 256) (keyed_blocks cs) → cs ≡ bs → i < length bs → b ≡ get_or bs i b → Sides bs i g b
found bs cs i g b a at same within read =
    sides bs i g b a (at ∙ ap (λ (ds : List RunBlock). rank (g / 256) (keyed_blocks ds)) same) within
    (slice_get_read bs (length bs) i b refl within read)

-- if all blocks have smaller keys, all numbers are smaller
pub all-under : (bs cs : List RunBlock) (i g : ℕ) → AreRunBlocks 0 bs → i ≡ rank (g / 256) (keyed_blocks cs) → cs ≡ bs
    → length bs ≤ i → AllUnder g (running_in bs)
all-under bs cs i g a at same h =
    let e = at ∙ ap (λ (ds : List RunBlock). rank (g / 256) (keyed_blocks ds)) same in
    in-under g (0 * 256) (g / 256 * 256) _ (low g) (running-within 0 (g / 256) bs a
    (subst (λ (cs : List RunBlock). AllBelow (g / 256) (keyed_blocks cs)) (take_all i bs h) (before bs i g e))
    (omega arith))

-- ---- the block of a key that is there

-- it stands at the rank of the key
pub record Stands (bs : List RunBlock) (i k : ℕ) : Type 0 where
  pub within : i < length bs
  pub key : (b : RunBlock) → slice_get bs i ≡ Some b → b.key ≡ k

pub stands : (j : ℕ) (bs : List RunBlock) (k : ℕ) → AreRunBlocks j bs → In k (block_keys bs)
    → Stands bs (rank k (keyed_blocks bs)) k
stands j [] k a h = absurd h
stands j (b ∷ bs) k a (inl e) =
    let here : rank k (keyed_blocks (b ∷ bs)) ≡ 0 =
    ap (λ t. cond t (suc (rank k (keyed_blocks bs))) 0) (le-ltb b.key k (omega (arith, e))) in
    record {
      within = omega (arith, here);
      key = λ c h.
          let read : ◌≡◌ {A = Option RunBlock} (Some b) (Some c) = sym (ap (slice_get (b ∷ bs)) here) ∙ h in
          let same : b ≡ c = cc in
          ap (λ (w : RunBlock). w.key) (sym same) ∙ sym e;
    }
stands j (b ∷ bs) k a (inr h) =
    let rest = stands (suc b.key) bs k a.2 h in
    let less = later (suc b.key) bs k a.2 h in
    let here : rank k (keyed_blocks (b ∷ bs)) ≡ suc (rank k (keyed_blocks bs)) =
    ap (λ t. cond t (suc (rank k (keyed_blocks bs))) 0) (lt-ltb b.key k (omega (arith, less))) in
    record {
      within = omega (arith, here, rest.within);
      key = λ c h. rest.key c (sym (ap (slice_get (b ∷ bs)) here) ∙ h);
    }

-- ---- what concerns the number concerns its block alone

module _ (bs : List RunBlock) (i g : ℕ) (b : RunBlock) (s : Sides bs i g b) where
  split-running : running_in bs ≡ running_in (take i bs) ++ (numbers b.running.items ++ running_in (drop (suc i) bs))
  split-running = gather-split (λ (b : RunBlock). numbers b.running.items) bs i b s.here

  set-running : (c : RunBlock) (ns : List ℕ) → numbers c.running.items ≡ ns
      → running_in (slice_set bs i c) ≡ running_in (take i bs) ++ (ns ++ running_in (drop (suc i) bs))
  set-running c ns e =
      gather-set (λ (b : RunBlock). numbers b.running.items) bs i b c s.here
      ∙ ap (λ (ms : List ℕ). running_in (take i bs) ++ (ms ++ running_in (drop (suc i) bs))) e

  pub without-in : (c : RunBlock) → numbers c.running.items ≡ without g (numbers b.running.items)
      → running_in (slice_set bs i c) ≡ without g (running_in bs)
  without-in c e = set-running c (without g (numbers b.running.items)) e
      ∙ sym (ap (without g) split-running ∙ without-middle g (running_in (take i bs)) (numbers b.running.items)
      (running_in (drop (suc i) bs)) s.under s.above)

  pub placed-in : (c : RunBlock) → numbers c.running.items ≡ placed g (numbers b.running.items)
      → running_in (slice_set bs i c) ≡ placed g (running_in bs)
  placed-in c e = set-running c (placed g (numbers b.running.items)) e
      ∙ sym (ap (placed g) split-running ∙ placed-middle g (running_in (take i bs)) (numbers b.running.items)
      (running_in (drop (suc i) bs)) s.under s.above)

  pub none-in : IsNone g (running_in bs) → IsNone g (numbers b.running.items)
  none-in n =
      none-left g (numbers b.running.items) (running_in (drop (suc i) bs))
      (none-right g (running_in (take i bs)) (numbers b.running.items ++ running_in (drop (suc i) bs))
      (subst (IsNone g) split-running n))

-- the keys of the blocks stay
pub keys-set : (bs : List RunBlock) (i : ℕ) (b c : RunBlock) → slice_get bs i ≡ Some b → c.key ≡ b.key
    → block_keys (slice_set bs i c) ≡ block_keys bs
keys-set [] i b c h e = refl
keys-set (d ∷ bs) zero b c h e =
    let here : d ≡ b = cc in
    ap (λ (k : ℕ). k ∷ block_keys bs) (e ∙ ap (λ (w : RunBlock). w.key) (sym here))
keys-set (d ∷ bs) (suc i) b c h e = ap (λ (ks : List ℕ). d.key ∷ ks) (keys-set bs i b c h e)
