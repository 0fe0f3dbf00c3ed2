-- Blocks in order, and what they are after a change of one.
-- For: `AreBlocks`, `AreFilled` (golf_blocks/specs/Blocks.antt)
-- By: induction over the list of blocks
use Rattle.std.proofs.Common.{◌≡◌, ℕ, zero, suc, ◌^◌, ◌<◌, ◌≤◌, true, false, cond, List, [], ◌∷◌, ◌++◌, length, filter}
use Rattle.std.proofs.Common.{take, drop, Some, refl, sym, ap, ◌∙◌, subst, arith, append_assoc, slice_get, slice_set}
use Rattle.std.proofs.lemmas.List.{append-nil}
use Rattle.golf_theory.specs.Maps.{Rises, AllBelow}
use Rattle.golf_theory.proofs.MapOrder.{Rises-less, AllBelow-more}
use Rattle.golf_theory.proofs.Ranks.{few}
use Rattle.golf_blocks.specs.Gather.{not_empty}
use Rattle.golf_blocks.specs.Blocks.{entries_in, IsBlock, AreBlocks, is_filled, AreFilled, keyed_blocks}
use Rattle.golf_blocks.specs.declared.blocks.Block.{Block}
use Rattle.golf_blocks.proofs.Parts.{rises-append, below-append}

pub nothing : {X : Type 0} (xs : List X) → not_empty xs ≡ false → xs ≡ []
nothing [] h = refl
nothing (x ∷ xs) h = absurd (cc)

pub something : {X : Type 0} (xs : List X) → 0 < length xs → not_empty xs ≡ true
something [] l = absurd (omega (arith, l))
something (x ∷ xs) l = refl

module _ {V : Type 0} where
  pub rises-in : (lo : ℕ) (bs : List (Block V)) → AreBlocks lo bs → Rises lo (entries_in bs)
  rises-in lo [] a = tt
  rises-in lo (b ∷ bs) a = rises-append lo (suc b.top) b.entries.items (entries_in bs)
      (omega (arith, a.0.order)) a.0.rises a.0.below (rises-in (suc b.top) bs a.1)

  pub tops-below : (g lo : ℕ) (bs : List (Block V)) → AreBlocks lo bs → AllBelow g (keyed_blocks bs)
      → AllBelow g (entries_in bs)
  tops-below g lo [] a l = tt
  tops-below g lo (b ∷ bs) a l = below-append g b.entries.items (entries_in bs)
      (AllBelow-more (suc b.top) g b.entries.items (omega (arith, l.0)) a.0.below) (tops-below g (suc b.top) bs a.1 l.1)

  limited : (lo : ℕ) (bs : List (Block V)) → AreBlocks lo bs → AllBelow (2 ^ 32) (keyed_blocks bs)
  limited lo [] a = tt
  limited lo (b ∷ bs) a = (a.0.limit, limited (suc b.top) bs a.1)

  -- there are fewer of them than numbers of 32 bits
  pub few-entries : (bs : List (Block V)) → AreBlocks 0 bs → length (entries_in bs) ≤ 2 ^ 32
  few-entries bs a =
      let n = few 0 (2 ^ 32) (entries_in bs) (omega arith) (rises-in 0 bs a)
      (tops-below (2 ^ 32) 0 bs a (limited 0 bs a)) in
      omega (arith, n)

  pub blocks-rise : (lo : ℕ) (bs : List (Block V)) → AreBlocks lo bs → Rises lo (keyed_blocks bs)
  blocks-rise lo [] a = tt
  blocks-rise lo (b ∷ bs) a = (a.0.order, blocks-rise (suc b.top) bs a.1)

  -- a block at its place, with its least number
  pub record Standing (lo : ℕ) (b : Block V) : Type 0 where
    pub least : ℕ
    pub bound : lo ≤ least
    pub is : IsBlock least b

  pub block-at : (lo i : ℕ) (bs : List (Block V)) (b : Block V) → AreBlocks lo bs → slice_get bs i ≡ Some b → Standing lo b
  block-at lo i [] b a h = absurd (cc)
  block-at lo zero (x ∷ bs) b a h = let same : x ≡ b =
      cc in record { least = lo; bound = omega arith; is = subst (IsBlock lo) same a.0 }
  block-at lo (suc i) (x ∷ bs) b a h =
      let rest = block-at (suc x.top) i bs b a.1 h in
      record { least = rest.least; bound = omega (arith, rest.bound, a.0.order); is = rest.is }

  pub blocks-take : (lo i : ℕ) (bs : List (Block V)) → AreBlocks lo bs → AreBlocks lo (take i bs)
  blocks-take lo zero bs a = tt
  blocks-take lo (suc i) [] a = tt
  blocks-take lo (suc i) (b ∷ bs) a = (a.0, blocks-take (suc b.top) i bs a.1)

  pub blocks-drop : (lo i : ℕ) (bs : List (Block V)) (b : Block V) → AreBlocks lo bs → slice_get bs i ≡ Some b
      → AreBlocks (suc b.top) (drop (suc i) bs)
  blocks-drop lo i [] b a h = absurd (cc)
  blocks-drop lo zero (x ∷ bs) b a h = let same : x ≡ b = cc in subst (λ (w : Block V). AreBlocks (suc w.top) bs) same a.1
  blocks-drop lo (suc i) (x ∷ bs) b a h = blocks-drop (suc x.top) i bs b a.1 h

  block-less : (j k : ℕ) (b : Block V) → j ≤ k → IsBlock k b → IsBlock j b
  block-less j k b l is = record {
    order = omega (arith, l, is.order);
    limit = is.limit;
    rises = Rises-less j k b.entries.items l is.rises;
    below = is.below;
    few = is.few;
  }

  blocks-less : (j k : ℕ) (bs : List (Block V)) → j ≤ k → AreBlocks k bs → AreBlocks j bs
  blocks-less j k [] l a = tt
  blocks-less j k (b ∷ bs) l a = (block-less j k b l a.0, a.1)

  -- ---- another block in its place

  pub blocks-set : (lo i : ℕ) (bs : List (Block V)) (b c : Block V) → AreBlocks lo bs → slice_get bs i ≡ Some b
      → ((l : ℕ) → IsBlock l b → IsBlock l c) → c.top ≡ b.top → AreBlocks lo (slice_set bs i c)
  blocks-set lo i [] b c a h is e = absurd (cc)
  blocks-set lo zero (x ∷ bs) b c a h is e =
      let same : x ≡ b = cc in
      let n : c.top ≡ x.top = e ∙ ap (λ (w : Block V). w.top) (sym same) in
      (is lo (subst (IsBlock lo) same a.0), subst (λ (n : ℕ). AreBlocks (suc n) bs) (sym n) a.1)
  blocks-set lo (suc i) (x ∷ bs) b c a h is e = (a.0, blocks-set (suc x.top) i bs b c a.1 h is e)

  -- which has one number more, above the tops before
  pub blocks-put : (lo i g : ℕ) (bs : List (Block V)) (b c : Block V) → AreBlocks lo bs → lo ≤ g
      → AllBelow g (keyed_blocks (take i bs)) → slice_get bs i ≡ Some b → ((l : ℕ) → l ≤ g → IsBlock l b → IsBlock l c)
      → c.top ≡ b.top → AreBlocks lo (slice_set bs i c)
  blocks-put lo i g [] b c a l u h is e = absurd (cc)
  blocks-put lo zero g (x ∷ bs) b c a l u h is e =
      let same : x ≡ b = cc in
      let n : c.top ≡ x.top = e ∙ ap (λ (w : Block V). w.top) (sym same) in
      (is lo l (subst (IsBlock lo) same a.0), subst (λ (n : ℕ). AreBlocks (suc n) bs) (sym n) a.1)
  blocks-put lo (suc i) g (x ∷ bs) b c a l u h is e =
      (a.0, blocks-put (suc x.top) i g bs b c a.1 (omega (arith, u.0)) u.1 h is e)

  -- the last block may get a greater top
  pub blocks-end : (lo i : ℕ) (bs : List (Block V)) (b c : Block V) → AreBlocks lo bs → suc i ≡ length bs
      → slice_get bs i ≡ Some b → ((l : ℕ) → IsBlock l b → IsBlock l c) → AreBlocks lo (slice_set bs i c)
  blocks-end lo i [] b c a n h is = absurd (cc)
  blocks-end lo zero (x ∷ []) b c a n h is = let same : x ≡ b = cc in (is lo (subst (IsBlock lo) same a.0), tt)
  blocks-end lo zero (x ∷ y ∷ bs) b c a n h is = absurd (omega (arith, n))
  blocks-end lo (suc i) (x ∷ bs) b c a n h is = (a.0, blocks-end (suc x.top) i bs b c a.1 (omega (arith, n)) h is)

  pub blocks-push : (lo : ℕ) (bs : List (Block V)) (c : Block V) → AreBlocks lo bs → AllBelow c.top (keyed_blocks bs)
      → lo ≤ c.top → ((l : ℕ) → l ≤ c.top → IsBlock l c) → AreBlocks lo (bs ++ c ∷ [])
  blocks-push lo [] c a l h is = (is lo h, tt)
  blocks-push lo (b ∷ bs) c a l h is = (a.0, blocks-push (suc b.top) bs c a.1 l.1 (omega (arith, l.0)) is)

  -- ---- a block less

  pub blocks-remove : (lo i : ℕ) (bs : List (Block V)) → AreBlocks lo bs → AreBlocks lo (take i bs ++ drop (suc i) bs)
  blocks-remove lo zero [] a = tt
  blocks-remove lo zero (b ∷ bs) a = blocks-less lo (suc b.top) bs (omega (arith, a.0.order)) a.1
  blocks-remove lo (suc i) [] a = tt
  blocks-remove lo (suc i) (b ∷ bs) a = (a.0, blocks-remove (suc b.top) i bs a.1)

  pub blocks-filled : (lo : ℕ) (bs : List (Block V)) → AreBlocks lo bs → AreBlocks lo (filter is_filled bs)
  blocks-filled lo [] a = tt
  blocks-filled lo (b ∷ bs) a = elim (is_filled b) as (λ t. AreBlocks lo
      (cond t (b ∷ filter is_filled bs) (filter is_filled bs))) [
        | true ↦ (a.0, blocks-filled (suc b.top) bs a.1)
        | false ↦ blocks-less lo (suc b.top) (filter is_filled bs) (omega (arith, a.0.order))
            (blocks-filled (suc b.top) bs a.1)
      ]

  -- ---- blocks that have an entry each

  pub filled-filter : (bs : List (Block V)) → AreFilled (filter is_filled bs)
  filled-filter [] = tt
  filled-filter (b ∷ bs) = elim (is_filled b) as (λ t. is_filled b ≡ t
      → AreFilled (cond t (b ∷ filter is_filled bs) (filter is_filled bs))) [
        | true ↦ λ t. (t, filled-filter bs)
        | false ↦ λ t. filled-filter bs
      ] refl

  pub filled-append : (bs cs : List (Block V)) → AreFilled bs → AreFilled cs → AreFilled (bs ++ cs)
  filled-append [] cs f g = g
  filled-append (b ∷ bs) cs f g = (f.0, filled-append bs cs f.1 g)

  pub filled-take : (i : ℕ) (bs : List (Block V)) → AreFilled bs → AreFilled (take i bs)
  filled-take zero bs f = tt
  filled-take (suc i) [] f = tt
  filled-take (suc i) (b ∷ bs) f = (f.0, filled-take i bs f.1)

  pub filled-drop : (i : ℕ) (bs : List (Block V)) → AreFilled bs → AreFilled (drop i bs)
  filled-drop zero bs f = f
  filled-drop (suc i) [] f = tt
  filled-drop (suc i) (b ∷ bs) f = filled-drop i bs f.1

  pub filled-set : (i : ℕ) (bs : List (Block V)) (c : Block V) → AreFilled bs → is_filled c ≡ true
      → AreFilled (slice_set bs i c)
  filled-set i [] c f h = tt
  filled-set zero (b ∷ bs) c f h = (h, f.1)
  filled-set (suc i) (b ∷ bs) c f h = (f.0, filled-set i bs c f.1 h)

  -- all but one, and that one too
  pub filled-three : (i : ℕ) (bs : List (Block V)) (b : Block V) → slice_get bs i ≡ Some b → AreFilled (take i bs)
      → is_filled b ≡ true → AreFilled (drop (suc i) bs) → AreFilled bs
  filled-three i [] b h f t g = tt
  filled-three zero (x ∷ bs) b h f t g = let same : x ≡ b = cc in (ap is_filled same ∙ t, g)
  filled-three (suc i) (x ∷ bs) b h f t g = (f.0, filled-three i bs b h f.1 t g)

  pub filled-at : (i : ℕ) (bs : List (Block V)) (b : Block V) → AreFilled bs → slice_get bs i ≡ Some b → is_filled b ≡ true
  filled-at i [] b f h = absurd (cc)
  filled-at zero (x ∷ bs) b f h = let same : x ≡ b = cc in ap is_filled (sym same) ∙ f.0
  filled-at (suc i) (x ∷ bs) b f h = filled-at i bs b f.1 h

  -- ---- more entries in the last block

  pub end-entries : (i : ℕ) (bs : List (Block V)) (b c : Block V) (ps : List (ℕ × V)) → suc i ≡ length bs
      → slice_get bs i ≡ Some b → c.entries.items ≡ b.entries.items ++ ps → entries_in (slice_set bs i c) ≡ entries_in bs ++ ps
  end-entries i [] b c ps n h e = absurd (cc)
  end-entries zero (x ∷ []) b c ps n h e =
      let same : x ≡ b = cc in
      append-nil c.entries.items ∙ e ∙ ap (λ (w : Block V). w.entries.items ++ ps) (sym same)
      ∙ sym (ap (λ (es : List (ℕ × V)). es ++ ps) (append-nil x.entries.items))
  end-entries zero (x ∷ y ∷ bs) b c ps n h e = absurd (omega (arith, n))
  end-entries (suc i) (x ∷ bs) b c ps n h e =
      ap (λ (es : List (ℕ × V)). x.entries.items ++ es) (end-entries i bs b c ps (omega (arith, n)) h e)
      ∙ sym (append_assoc x.entries.items (entries_in bs) ps)
