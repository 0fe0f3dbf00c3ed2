-- The block of a number, and the blocks without the entry of that number.
-- For: `take_from` (src/removals.rt)
-- By: the laws of blocks (proofs/BlockLaws.antt, proofs/Places.antt)
use Rattle.std.proofs.Common.{◌≡◌, ℕ, ◌+◌, ◌<◌, ◌==◌, not, List, length, take, drop, get_or, refl, sym, ap, ◌∙◌, subst}
use Rattle.std.proofs.Common.{arith, slice_set}
use Rattle.std.proofs.lemmas.List.{take-set, drop-set-lt}
use Rattle.std.proofs.lemmas.Option.{slice_get_read}
use Rattle.golf_theory.specs.Maps.{only, rank}
use Rattle.golf_blocks.specs.Blocks.{entries_in, AreBlocks, AreFilled, keyed_blocks}
use Rattle.golf_blocks.specs.declared.blocks.Block.{Block}
use Rattle.golf_blocks.proofs.Gathers.{gather-swap}
use Rattle.golf_blocks.proofs.BlockLaws.{blocks-set, filled-take, filled-drop}
use Rattle.golf_blocks.proofs.Places.{Sides, sides, only-in, block-only}

module _ {V : Type 0} where
  -- the block of a number, once it is read
  pub record Found (bs : List (Block V)) (i g : ℕ) (b : Block V) : Type 0 where
    pub within : i < length bs
    pub is : Sides bs i g b

  pub found : (bs cs : List (Block V)) (i g : ℕ) (b : Block V) → AreBlocks 0 bs → i ≡ rank g (keyed_blocks cs)
      → cs ≡ bs → i < length bs → b ≡ get_or bs i b → Found bs i g b
  found bs cs i g b a at same within read = record {
    within = within;
    is = sides bs i g b a (at ∙ ap (λ (ds : List (Block V)). rank g (keyed_blocks ds)) same)
        (slice_get_read bs (length bs) i b refl within read);
  }

  -- the blocks without the entry of the number
  pub record Parted (bs : List (Block V)) (i g : ℕ) (b n : Block V) : Type 0 where
    pub blocks : AreBlocks 0 (slice_set bs i n)
    pub before : AreFilled (take i (slice_set bs i n))
    pub after : AreFilled (drop (i + 1) (slice_set bs i n))
    pub entries : entries_in (slice_set bs i n) ≡ only (λ h. not (h == g)) (entries_in bs)
    pub count : length (entries_in (slice_set bs i n)) + length b.entries.items ≡ length (entries_in bs)
        + length n.entries.items

  pub parted : (bs : List (Block V)) (i g : ℕ) (b n : Block V) → AreBlocks 0 bs → AreFilled bs → Found bs i g b
      → n.top ≡ b.top → n.entries.items ≡ only (λ h. not (h == g)) b.entries.items → Parted bs i g b n
  parted bs i g b n a f w top entries = record {
    blocks = blocks-set 0 i bs b n a w.is.here (λ l is. block-only (λ h. not (h == g)) l b n is top entries) top;
    before = subst AreFilled (sym (take-set bs i n)) (filled-take i bs f);
    after = subst AreFilled (sym (drop-set-lt (i + 1) bs i n (omega arith))) (filled-drop (i + 1) bs f);
    entries = only-in bs i g b w.is n entries;
    count = gather-swap (λ (b : Block V). b.entries.items) bs i b n w.is.here w.within;
  }
