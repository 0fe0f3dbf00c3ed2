-- A block that is split in halves.
-- For: `split` (src/full_blocks.rt)
-- By: induction over the list of blocks
use Rattle.std.proofs.Common.{◌≡◌, ℕ, zero, suc, ◌+◌, ◌-◌, ◌<◌, ◌≤◌, Bool, true, false, cond, List, [], ◌∷◌, ◌++◌}
use Rattle.std.proofs.Common.{length, take, drop, Option, Some, None, nat_lt, refl, sym, ap, ◌∙◌, subst, arith}
use Rattle.std.proofs.Common.{append_assoc, slice_get, slice_set, get_or}
use Rattle.std.proofs.lemmas.Option.{slice_get_read}
use Rattle.std.specs.Prelude.{insert, option_map}
use Rattle.std.proofs.lemmas.Bool.{ltb-false, lt-ltb, le-ltb}
use Rattle.std.proofs.lemmas.List.{length-take-le, length-drop, take-append-drop}
use Rattle.golf_theory.specs.Maps.{Rises, rank}
use Rattle.golf_blocks.proofs.Gathers.{gather-append, gather-split}
use Rattle.golf_blocks.specs.Blocks.{entries_in, IsBlock, AreBlocks, is_filled, AreFilled, keyed_blocks}
use Rattle.golf_blocks.specs.Blocks.{has_room}
use Rattle.golf_blocks.specs.declared.blocks.Block.{Block}
use Rattle.golf_blocks.proofs.Parts.{Cut, cut-at, rises-take, below-drop, some-between}
use Rattle.golf_blocks.proofs.BlockLaws.{something}
use Rattle.golf_blocks.proofs.Places.{block-from, top-least}

module _ {V : Type 0} where
  -- ---- the halves

  -- two blocks in place of one
  pub record AreHalves (i : ℕ) (bs : List (Block V)) (b f k : Block V) : Type 0 where
    pub here : slice_get bs i ≡ Some b
    pub top : k.top ≡ b.top
    pub entries : f.entries.items ++ k.entries.items ≡ b.entries.items
    pub front : (l : ℕ) → IsBlock l b → IsBlock l f
    pub back : (l : ℕ) → IsBlock l b → IsBlock (suc f.top) k
    pub front_filled : is_filled f ≡ true
    pub back_filled : is_filled k ≡ true
    pub front_room : has_room (Some f) ≡ true
    pub back_room : has_room (Some k) ≡ true

  numbered : (t : ℕ) (o : Option (ℕ × V)) → option_map (λ p. p.0) o ≡ Some t → (e : ℕ × V) × (o ≡ Some e) × (t ≡ e.0)
  numbered t None h = absurd (cc)
  numbered t (Some e) h = (e, refl, cc)

  pub halves : (n i : ℕ) (bs : List (Block V)) (b f k : Block V) → slice_get bs i ≡ Some b → suc n < 512
      → length b.entries.items ≡ 512
      → f.entries.items ≡ take (suc n) b.entries.items → option_map (λ p. p.0) (slice_get b.entries.items n) ≡ Some f.top
      → k.entries.items ≡ drop (suc n) b.entries.items → k.top ≡ b.top → AreHalves i bs b f k
  halves n i bs b f k h less count front last back top =
      let es = b.entries.items in
      let e = numbered f.top (slice_get es n) last in
      let m : length f.entries.items ≡ suc n = ap (λ (xs : List (ℕ × V)). length xs) front
      ∙ length-take-le (suc n) es (omega (arith, less, count)) in
      let o : length k.entries.items ≡ length es - suc n = ap (λ (xs : List (ℕ × V)). length xs) back
      ∙ length-drop (suc n) es in
      let some : 0 < length (drop (suc n) es) = omega (arith, length-drop (suc n) es, less, count) in
      record {
        here = h;
        top = top;
        entries = ap (λ (xs : List (ℕ × V)). xs ++ k.entries.items) front
            ∙ ap (λ (xs : List (ℕ × V)). take (suc n) es ++ xs) back ∙ take-append-drop (suc n) es;
        front = λ l is.
            let c : Cut l n e.0 es = cut-at l n es e.0 is.rises e.1 in
            let between = some-between (suc e.0.0) (suc b.top) (drop (suc n) es) some c.above
            (below-drop (suc b.top) (suc n) es is.below) in
            block-from l e.0.0 (take (suc n) es) f e.2 front c.least (omega (arith, between, is.limit))
            (rises-take l (suc n) es is.rises) c.below
            (omega (arith, less, m, ap (λ (xs : List (ℕ × V)). length xs) front));
        back = λ l is.
            let c : Cut l n e.0 es = cut-at l n es e.0 is.rises e.1 in
            let between = some-between (suc e.0.0) (suc b.top) (drop (suc n) es) some c.above
            (below-drop (suc b.top) (suc n) es is.below) in
            block-from (suc f.top) b.top (drop (suc n) es) k top back (omega (arith, between, e.2)) is.limit
            (subst (λ t. Rises (suc t) (drop (suc n) es)) (sym e.2) c.above)
            (below-drop (suc b.top) (suc n) es is.below)
            (omega (arith, o, count, ap (λ (xs : List (ℕ × V)). length xs) back));
        front_filled = something f.entries.items (omega (arith, m));
        back_filled = something k.entries.items (omega (arith, o, less, count));
        front_room = lt-ltb (length f.entries.items) 512 (omega (arith, m, less));
        back_room = lt-ltb (length k.entries.items) 512 (omega (arith, o, count));
      }

  -- a full block has as many as a block may have
  pub full-count : (l i : ℕ) (bs : List (Block V)) (b : Block V) → IsBlock l b → slice_get bs i ≡ Some b
      → has_room (slice_get bs i) ≡ false → length b.entries.items ≡ 512
  full-count l i bs b is h full =
      let many = ltb-false (length b.entries.items) 512 (ap has_room (sym h) ∙ full) in
      omega (arith, many, is.few)

  -- ---- the blocks with the halves

  abbrev pub with-halves : ℕ → List (Block V) → Block V → Block V → List (Block V)
  with-halves i bs f k = take i bs ++ (f ∷ (k ∷ drop (suc i) bs))

  pub halves-form : (i : ℕ) (bs : List (Block V)) (f k : Block V) → i < length bs
      → insert (slice_set bs i f) (suc i) k ≡ with-halves i bs f k
  halves-form i [] f k l = absurd (omega (arith, l))
  halves-form zero (x ∷ bs) f k l = refl
  halves-form (suc i) (x ∷ bs) f k l = ap (λ (cs : List (Block V)). x ∷ cs) (halves-form i bs f k (omega (arith, l)))

  pub halves-blocks : (lo i : ℕ) (bs : List (Block V)) (b f k : Block V) → AreBlocks lo bs → AreHalves i bs b f k
      → AreBlocks lo (with-halves i bs f k)
  halves-blocks lo i bs b f k a s = blocks lo i bs a s.here
    where
      blocks : (lo i : ℕ) (bs : List (Block V)) → AreBlocks lo bs → slice_get bs i ≡ Some b
          → AreBlocks lo (with-halves i bs f k)
      blocks lo i [] a h = absurd (cc)
      blocks lo zero (x ∷ bs) a h =
          let same : x ≡ b = cc in
          let is : IsBlock lo b = subst (IsBlock lo) same a.0 in
          let top : x.top ≡ k.top = ap (λ (w : Block V). w.top) same ∙ sym s.top in
          (s.front lo is, (s.back lo is, subst (λ (n : ℕ). AreBlocks (suc n) bs) top a.1))
      blocks lo (suc i) (x ∷ bs) a h = (a.0, blocks (suc x.top) i bs a.1 h)

  pub halves-filled : (i : ℕ) (bs : List (Block V)) (b f k : Block V) → AreFilled bs → AreHalves i bs b f k
      → AreFilled (with-halves i bs f k)
  halves-filled i bs b f k a s = filled i bs a s.here
    where
      filled : (i : ℕ) (bs : List (Block V)) → AreFilled bs → slice_get bs i ≡ Some b → AreFilled (with-halves i bs f k)
      filled i [] a h = absurd (cc)
      filled zero (x ∷ bs) a h = (s.front_filled, (s.back_filled, a.1))
      filled (suc i) (x ∷ bs) a h = (a.0, filled i bs a.1 h)

  pub halves-entries : (i : ℕ) (bs : List (Block V)) (b f k : Block V) → AreHalves i bs b f k
      → entries_in (with-halves i bs f k) ≡ entries_in bs
  halves-entries i bs b f k s =
      gather-append (λ (b : Block V). b.entries.items) (take i bs) (f ∷ (k ∷ drop (suc i) bs))
      ∙ ap (λ (es : List (ℕ × V)). entries_in (take i bs) ++ es)
      (sym (append_assoc f.entries.items k.entries.items (entries_in (drop (suc i) bs)))
      ∙ ap (λ (es : List (ℕ × V)). es ++ entries_in (drop (suc i) bs)) s.entries)
      ∙ sym (gather-split (λ (b : Block V). b.entries.items) bs i b s.here)

  -- the half that the number belongs to
  pub halves-place : (g i : ℕ) (bs : List (Block V)) (b f k : Block V) → AreHalves i bs b f k → g ≤ b.top
      → i ≡ rank g (keyed_blocks bs) → cond (nat_lt f.top g) (i + 1) i ≡ rank g (keyed_blocks (with-halves i bs f k))
  halves-place g i bs b f k s l e = place i bs s.here e
    where
      later : (t : Bool) (i : ℕ) → cond t (suc i + 1) (suc i) ≡ suc (cond t (i + 1) i)
      later true i = omega arith
      later false i = refl

      place : (i : ℕ) (bs : List (Block V)) → slice_get bs i ≡ Some b → i ≡ rank g (keyed_blocks bs)
          → cond (nat_lt f.top g) (i + 1) i ≡ rank g (keyed_blocks (with-halves i bs f k))
      place i [] h e = absurd (cc)
      place zero (x ∷ bs) h e =
          elim (nat_lt f.top g) as (λ t. cond t (0 + 1) 0 ≡ cond t
          (suc (cond (nat_lt k.top g) (suc (rank g (keyed_blocks bs))) 0)) 0) [
            | true ↦ ap (λ t. suc (cond t (suc (rank g (keyed_blocks bs))) 0))
                (sym (le-ltb k.top g (omega (arith, l, s.top))))
            | false ↦ refl
          ]
      place (suc i) (x ∷ bs) h e =
          elim (nat_lt x.top g) as (λ t. suc i ≡ cond t (suc (rank g (keyed_blocks bs))) 0
          → cond (nat_lt f.top g) (suc i + 1) (suc i) ≡ cond t
          (suc (rank g (keyed_blocks (with-halves i bs f k)))) 0) [
            | true ↦ λ e. later (nat_lt f.top g) i ∙ ap suc (place i bs h (omega (arith, e)))
            | false ↦ λ e. absurd (omega (arith, e))
          ] e

  pub halves-room : (t : Bool) (i : ℕ) (bs : List (Block V)) (b f k : Block V) → AreHalves i bs b f k
      → has_room (slice_get (with-halves i bs f k) (cond t (i + 1) i)) ≡ true
  halves-room t i bs b f k s = room i bs s.here
    where
      shifted : (t : Bool) (i : ℕ) (x : Block V) (cs : List (Block V))
          → slice_get (x ∷ cs) (cond t (suc i + 1) (suc i)) ≡ slice_get cs (cond t (i + 1) i)
      shifted true i x cs = ap (slice_get (x ∷ cs)) (let q : suc i + 1 ≡ suc (i + 1) = omega arith in q)
      shifted false i x cs = refl

      first : (t : Bool) (cs : List (Block V)) → has_room (slice_get (f ∷ (k ∷ cs)) (cond t (0 + 1) 0)) ≡ true
      first true cs = s.back_room
      first false cs = s.front_room

      room : (i : ℕ) (bs : List (Block V)) → slice_get bs i ≡ Some b
          → has_room (slice_get (with-halves i bs f k) (cond t (i + 1) i)) ≡ true
      room i [] h = absurd (cc)
      room zero (x ∷ bs) h = first t bs
      room (suc i) (x ∷ bs) h = ap has_room (shifted t i x (with-halves i bs f k)) ∙ room i bs h

  -- there is a block that has room
  pub room-within : (i : ℕ) (bs : List (Block V)) → has_room (slice_get bs i) ≡ true → i < length bs
  room-within i [] h = absurd (cc)
  room-within zero (b ∷ bs) h = omega arith
  room-within (suc i) (b ∷ bs) h = let l = room-within i bs h in omega (arith, l)

  -- ---- the split as a whole

  -- the full block that is lent, after room was asked for
  pub record Full (cs : List (Block V)) (i : ℕ) (b : Block V) : Type 0 where
    pub blocks : AreBlocks 0 cs
    pub filled : AreFilled cs
    pub within : i < length cs
    pub here : slice_get cs i ≡ Some b

  pub full : (bs cs : List (Block V)) (i : ℕ) (b : Block V) → cs ≡ bs → AreBlocks 0 bs → AreFilled bs → i < length bs
      → b ≡ get_or cs i b → Full cs i b
  full bs cs i b same blocks filled within read =
      let inside : i < length cs = omega (arith, within, ap (λ (ds : List (Block V)). length ds) same) in
      record {
        blocks = subst (AreBlocks 0) (sym same) blocks;
        filled = subst AreFilled (sym same) filled;
        within = inside;
        here = slice_get_read cs (length cs) i b refl inside read;
      }

  -- the blocks with the halves
  pub record Split (cs now : List (Block V)) (i k : ℕ) (f : Block V) : Type 0 where
    pub blocks : AreBlocks 0 now
    pub filled : AreFilled now
    pub entries : entries_in now ≡ entries_in cs
    pub place : cond (nat_lt f.top k) (i + 1) i ≡ rank k (keyed_blocks now)
    pub room : has_room (slice_get now (cond (nat_lt f.top k) (i + 1) i)) ≡ true

  pub split-of : (cs now : List (Block V)) (i k : ℕ) (b f o : Block V) → Full cs i b → i ≡ rank k (keyed_blocks cs)
      → has_room (slice_get cs i) ≡ false → AreHalves i cs b f o → now ≡ insert (slice_set cs i f) (i + 1) o
      → Split cs now i k f
  split-of cs now i k b f o u at none both is =
      let next : i + 1 ≡ suc i = omega arith in
      let form : now ≡ with-halves i cs f o = is ∙ ap (λ (n : ℕ). insert (slice_set cs i f) n o) next
      ∙ halves-form i cs f o u.within in
      record {
        blocks = subst (AreBlocks 0) (sym form) (halves-blocks 0 i cs b f o u.blocks both);
        filled = subst AreFilled (sym form) (halves-filled i cs b f o u.filled both);
        entries = ap (λ (ds : List (Block V)). entries_in ds) form ∙ halves-entries i cs b f o both;
        place = halves-place k i cs b f o both (top-least cs i k b at u.here) at
            ∙ ap (λ (ds : List (Block V)). rank k (keyed_blocks ds)) (sym form);
        room = ap (λ (ds : List (Block V)). has_room (slice_get ds (cond (nat_lt f.top k) (i + 1) i))) form
            ∙ halves-room (nat_lt f.top k) i cs b f o both;
      }
