-- The block of a number, and the blocks before and behind it.
-- For: `block_of` (src/blocks.rt), `put_in` (src/insertions.rt), `take_from` (src/removals.rt), `get`
-- (src/map.rt)
-- By: the laws of three parts (proofs/Parts.antt)
use Rattle.std.proofs.Common.{◌≡◌, ℕ, suc, ◌^◌, ◌<◌, ◌≤◌, Bool, true, false, cond, not, List, [], ◌∷◌, ◌++◌, length}
use Rattle.std.proofs.Common.{take, drop, Option, Some, None, ◌==◌, nat_lt, refl, sym, ap, ◌∙◌, subst, arith, slice_get}
use Rattle.std.proofs.Common.{slice_set}
use Rattle.std.specs.Prelude.{option_map}
use Rattle.std.proofs.lemmas.Bool.{ltb-true}
use Rattle.std.proofs.lemmas.List.{take-map, take_all, length-append}
use Rattle.std.proofs.lemmas.Option.{slice_get-map}
use Rattle.golf_theory.specs.Maps.{find, insert, only, Rises, AllBelow, rank}
use Rattle.golf_theory.proofs.MapOrder.{Rises-less, Rises-only, Rises-add, AllBelow-more, AllBelow-only, AllBelow-add}
use Rattle.golf_theory.proofs.Insert.{Rises-insert, AllBelow-insert}
use Rattle.golf_theory.specs.Flags.{kept}
use Rattle.golf_theory.proofs.Ranks.{Rises-kept, AllBelow-kept}
use Rattle.golf_blocks.proofs.Middles.{rank-least}
use Rattle.golf_blocks.proofs.Gathers.{gather-split, gather-set}
use Rattle.golf_blocks.proofs.Middles.{find-middle}
use Rattle.golf_blocks.specs.Blocks.{entries_in, IsBlock, AreBlocks, keyed_blocks, has_room}
use Rattle.golf_blocks.specs.declared.blocks.Block.{Block}
use Rattle.golf_blocks.proofs.Parts.{insert-middle, insert-length, only-middle, only-length, kept-length}
use Rattle.golf_blocks.proofs.BlockLaws.{tops-below, rises-in, block-at, blocks-take, blocks-drop}

rank-taken : {X : Type 0} (k : ℕ) (es : List (ℕ × X)) → AllBelow k (take (rank k es) es)
rank-taken k [] = tt
rank-taken k (e ∷ es) = elim (nat_lt e.0 k) as (λ t. nat_lt e.0 k ≡ t
    → AllBelow k (take (cond t (suc (rank k es)) 0) (e ∷ es))) [
      | true ↦ λ t. (ltb-true e.0 k t, rank-taken k es)
      | false ↦ λ t. tt
    ] refl

module _ {V : Type 0} where
  -- the tops before are smaller
  before : (bs : List (Block V)) (i g : ℕ) → i ≡ rank g (keyed_blocks bs) → AllBelow g (keyed_blocks (take i bs))
  before bs i g e =
      subst (λ (es : List (ℕ × Block V)). AllBelow g es) (take-map (λ (b : Block V). (b.top, b)) i bs)
      (subst (λ n. AllBelow g (take n (keyed_blocks bs))) (sym e) (rank-taken g (keyed_blocks bs)))

  -- before the block all numbers are smaller, and behind it greater
  pub record Sides (bs : List (Block V)) (i g : ℕ) (b : Block V) : Type 0 where
    pub here : slice_get bs i ≡ Some b
    pub top : g ≤ b.top
    pub rises : Rises 0 b.entries.items
    pub tops : AllBelow g (keyed_blocks (take i bs))
    pub under : AllBelow g (entries_in (take i bs))
    pub above : Rises (suc g) (entries_in (drop (suc i) bs))

  pub top-least : (bs : List (Block V)) (i g : ℕ) (b : Block V) → i ≡ rank g (keyed_blocks bs) → slice_get bs i ≡ Some b
      → g ≤ b.top
  top-least bs i g b e h =
      let at : slice_get (keyed_blocks bs) (rank g (keyed_blocks bs)) ≡ Some (b.top, b) =
      ap (slice_get (keyed_blocks bs)) (sym e) ∙ slice_get-map (λ (b : Block V). (b.top, b)) bs i
      ∙ ap (λ (o : Option (Block V)). option_map (λ (b : Block V). (b.top, b)) o) h in
      rank-least g (keyed_blocks bs) (b.top, b) at

  pub sides : (bs : List (Block V)) (i g : ℕ) (b : Block V) → AreBlocks 0 bs → i ≡ rank g (keyed_blocks bs)
      → slice_get bs i ≡ Some b → Sides bs i g b
  sides bs i g b a e h =
      let standing = block-at 0 i bs b a h in
      let least = top-least bs i g b e h in
      let l = before bs i g e in
      record {
        here = h;
        top = least;
        rises = Rises-less 0 standing.least b.entries.items (omega arith) standing.is.rises;
        tops = l;
        under = tops-below g 0 (take i bs) (blocks-take 0 i bs a) l;
        above = Rises-less (suc g) (suc b.top) (entries_in (drop (suc i) bs)) (omega (arith, least))
            (rises-in (suc b.top) (drop (suc i) bs) (blocks-drop 0 i bs b a h));
      }

  -- if all blocks have smaller tops, all numbers are smaller
  pub all-tops : (bs : List (Block V)) (i g : ℕ) → i ≡ rank g (keyed_blocks bs) → length bs ≤ i → AllBelow g (keyed_blocks bs)
  all-tops bs i g e h = subst (λ (cs : List (Block V)). AllBelow g (keyed_blocks cs)) (take_all i bs h) (before bs i g e)

  -- ---- what concerns the number concerns its block alone

  module _ (bs : List (Block V)) (i g : ℕ) (b : Block V) (s : Sides bs i g b) where
    split-entries : entries_in bs ≡ entries_in (take i bs) ++ (b.entries.items ++ entries_in (drop (suc i) bs))
    split-entries = gather-split (λ (b : Block V). b.entries.items) bs i b s.here

    set-entries : (c : Block V) → entries_in (slice_set bs i c) ≡ entries_in (take i bs)
        ++ (c.entries.items ++ entries_in (drop (suc i) bs))
    set-entries c = gather-set (λ (b : Block V). b.entries.items) bs i b c s.here

    pub find-in : find g (entries_in bs) ≡ find g b.entries.items
    find-in = ap (find g) split-entries ∙ find-middle g (entries_in (take i bs)) b.entries.items (entries_in (drop (suc i) bs))
        s.under s.above

    pub only-in : (c : Block V) → c.entries.items ≡ only (λ h. not (h == g)) b.entries.items
        → entries_in (slice_set bs i c) ≡ only (λ h. not (h == g)) (entries_in bs)
    only-in c e =
        set-entries c
        ∙ ap (λ (es : List (ℕ × V)). entries_in (take i bs) ++ (es ++ entries_in (drop (suc i) bs))) e
        ∙ sym (ap (only (λ h. not (h == g))) split-entries
        ∙ only-middle g (entries_in (take i bs)) b.entries.items (entries_in (drop (suc i) bs)) s.under s.above)

    pub insert-in : (v : V) (c : Block V) → c.entries.items ≡ insert g v b.entries.items
        → entries_in (slice_set bs i c) ≡ insert g v (entries_in bs)
    insert-in v c e =
        set-entries c
        ∙ ap (λ (es : List (ℕ × V)). entries_in (take i bs) ++ (es ++ entries_in (drop (suc i) bs))) e
        ∙ sym (ap (insert g v) split-entries ∙ insert-middle g v (entries_in (take i bs)) b.entries.items
        (entries_in (drop (suc i) bs)) s.under s.above)

  -- ---- a block after a change

  pub block-from : (l t : ℕ) (es : List (ℕ × V)) (c : Block V) → c.top ≡ t → c.entries.items ≡ es → l ≤ t → t < 2 ^ 32
      → Rises l es → AllBelow (suc t) es → length es ≤ 512 → IsBlock l c
  block-from l t es c e f order limit rises below few = record {
    order = omega (arith, e, order);
    limit = omega (arith, e, limit);
    rises = subst (λ (xs : List (ℕ × V)). Rises l xs) (sym f) rises;
    below = subst (λ (xs : List (ℕ × V)). AllBelow (suc c.top) xs) (sym f)
        (subst (λ n. AllBelow (suc n) es) (sym e) below);
    few = omega (arith, few, ap (λ (xs : List (ℕ × V)). length xs) f);
  }

  pub block-same : (l : ℕ) (b c : Block V) → IsBlock l b → c.top ≡ b.top → c.entries.items ≡ b.entries.items → IsBlock l c
  block-same l b c is e f = block-from l b.top b.entries.items c e f is.order is.limit is.rises is.below is.few

  pub block-put : (l g : ℕ) (v : V) (b c : Block V) → IsBlock l b → l ≤ g → g ≤ b.top → find g b.entries.items ≡ None
      → has_room (Some b) ≡ true → c.top ≡ b.top → c.entries.items ≡ insert g v b.entries.items → IsBlock l c
  block-put l g v b c is low high none room e f =
      let less = ltb-true (length b.entries.items) 512 room in
      block-from l b.top (insert g v b.entries.items) c e f is.order is.limit
      (Rises-insert l g v b.entries.items low none is.rises)
      (AllBelow-insert (suc b.top) g v b.entries.items (omega (arith, high)) is.below)
      (omega (arith, less, insert-length g v b.entries.items))

  pub block-append : (l g : ℕ) (v : V) (b c : Block V) → IsBlock l b → b.top < g → g < 2 ^ 32 → has_room (Some b) ≡ true
      → c.top ≡ g → c.entries.items ≡ b.entries.items ++ (g, v) ∷ [] → IsBlock l c
  block-append l g v b c is high limit room e f =
      let less = ltb-true (length b.entries.items) 512 room in
      let order : l ≤ g = omega (arith, is.order, high) in
      block-from l g (b.entries.items ++ (g, v) ∷ []) c e f order limit
      (Rises-add l g v b.entries.items order (AllBelow-more (suc b.top) g b.entries.items (omega (arith, high)) is.below)
      is.rises)
      (AllBelow-add (suc g) g v b.entries.items (omega arith)
      (AllBelow-more (suc b.top) (suc g) b.entries.items (omega (arith, high)) is.below))
      (omega (arith, less, length-append b.entries.items ((g, v) ∷ [])))

  pub block-one : (l g : ℕ) (v : V) (c : Block V) → l ≤ g → g < 2 ^ 32 → c.top ≡ g → c.entries.items ≡ (g, v) ∷ [] → IsBlock l c
  block-one l g v c order limit e f = block-from l g ((g, v) ∷ []) c e f order limit (order, tt) (omega arith, tt)
      (omega arith)

  pub block-only : (p : ℕ → Bool) (l : ℕ) (b c : Block V) → IsBlock l b → c.top ≡ b.top
      → c.entries.items ≡ only p b.entries.items → IsBlock l c
  block-only p l b c is e f =
      block-from l b.top (only p b.entries.items) c e f is.order is.limit
      (Rises-only l p b.entries.items is.rises)
      (AllBelow-only (suc b.top) p b.entries.items is.below)
      (omega (arith, only-length p b.entries.items, is.few))

  pub block-kept : (bits : List Bool) (l : ℕ) (b c : Block V) → IsBlock l b → c.top ≡ b.top
      → c.entries.items ≡ kept bits b.entries.items → IsBlock l c
  block-kept bits l b c is e f =
      block-from l b.top (kept bits b.entries.items) c e f is.order is.limit
      (Rises-kept l bits b.entries.items is.rises)
      (AllBelow-kept (suc b.top) bits b.entries.items is.below)
      (omega (arith, kept-length bits b.entries.items, is.few))
