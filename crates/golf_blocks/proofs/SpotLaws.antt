-- The entry at a spot, and the blocks once its value was changed.
-- For: src/spots.rt, and `get`, `get_mut` (src/map.rt)
-- By: cases on what is read, and the laws of blocks
use Rattle.std.proofs.Common.{◌≡◌, ℕ, zero, suc, ◌+◌, ◌<◌, ◌≤◌, true, false, cond, List, [], ◌∷◌, length}
use Rattle.std.proofs.Common.{take, drop, get_or, Option, Some, None, refl, sym, ap, ◌∙◌, arith}
use Rattle.std.proofs.Common.{slice_get, slice_set}
use Rattle.std.specs.Prelude.{is_some}
use Rattle.std.specs.Vec.{with_item}
use Rattle.std.proofs.lemmas.Bool.{eqb-true, eq-eqb, ne_eqb}
use Rattle.std.proofs.lemmas.List.{length-set}
use Rattle.std.proofs.lemmas.Option.{slice_get_read, slice_get_within}
use Rattle.golf_theory.specs.Maps.{find, put, Rises, rank}
use Rattle.golf_theory.proofs.MapFinds.{find_above}
use Rattle.golf_theory.proofs.MapOrder.{Rises-put, AllBelow-put}
use Rattle.golf_theory.proofs.Placing.{put_below}
use Rattle.golf_theory.proofs.Guesses.{at-least}
use Rattle.golf_theory.proofs.Ranks.{at_key, find-rank}
use Rattle.golf_theory.proofs.Readings.{same-item}
use Rattle.golf_blocks.specs.Blocks.{entries_in, AreBlocks, AreFilled, keyed_blocks}
use Rattle.golf_blocks.specs.Spots.{has_key, entry_in}
use Rattle.golf_blocks.specs.declared.blocks.Block.{Block}
use Rattle.golf_blocks.proofs.Gathers.{gather-get, gather-set, gather-split}
use Rattle.golf_blocks.proofs.Middles.{set-middle}
use Rattle.golf_blocks.proofs.BlockLaws.{rises-in, tops-below, blocks-set, filled-set, something}
use Rattle.golf_blocks.proofs.Places.{Sides, all-tops, find-in, block-from}

-- ---- keys are unique, so an entry that stands anywhere is the one that is found and set

module _ {X : Type 0} where
  find-at : (j n : ℕ) (es : List (ℕ × X)) (e : ℕ × X) → Rises j es → slice_get es n ≡ Some e → find e.0 es ≡ Some e.1
  find-at j n [] e r h = absurd (cc)
  find-at j zero (x ∷ es) e r h =
      let same : x ≡ e = cc in
      ap (λ b. cond b (Some x.1) (find e.0 es)) (eq-eqb e.0 x.0 (sym (ap (λ (y : ℕ × X). y.0) same)))
      ∙ ap (λ (y : ℕ × X). Some y.1) same
  find-at j (suc n) (x ∷ es) e r h =
      let l = at-least (suc x.0) n es e r.1 h in
      ap (λ b. cond b (Some x.1) (find e.0 es)) (ne_eqb e.0 x.0 (λ q. omega (arith, l, q)))
      ∙ find-at (suc x.0) n es e r.1 h

  put-at : (j n : ℕ) (w : X) (es : List (ℕ × X)) (e : ℕ × X) → Rises j es → slice_get es n ≡ Some e
      → slice_set es n (e.0, w) ≡ put e.0 w es
  put-at j n w [] e r h = absurd (cc)
  put-at j zero w (x ∷ es) e r h =
      let key : x.0 ≡ e.0 = ap (λ (y : ℕ × X). y.0) (let same : x ≡ e = cc in same) in
      ap (λ (n : ℕ). (n, w) ∷ es) (sym key)
      ∙ sym (ap (λ b. (x.0, cond b w x.1) ∷ put e.0 w es) (eq-eqb e.0 x.0 (sym key))
      ∙ ap (λ (z : List (ℕ × X)). (x.0, w) ∷ z) (put_below e.0 w (suc x.0) es (omega (arith, key)) r.1))
  put-at j (suc n) w (x ∷ es) e r h =
      let l = at-least (suc x.0) n es e r.1 h in
      ap (λ (z : List (ℕ × X)). x ∷ z) (put-at (suc x.0) n w es e r.1 h)
      ∙ sym (ap (λ b. (x.0, cond b w x.1) ∷ put e.0 w es) (ne_eqb e.0 x.0 (λ q. omega (arith, l, q))))

  pub put-length : (k : ℕ) (v : X) (es : List (ℕ × X)) → length (put k v es) ≡ length es
  put-length k v [] = refl
  put-length k v (e ∷ es) = ap suc (put-length k v es)

module _ {V : Type 0} where
  -- ---- a spot that has the key

  pub record Spotted (bs : List (Block V)) (i j k : ℕ) : Type 0 where
    pub block : Block V
    pub entry : ℕ × V
    pub here : slice_get bs i ≡ Some block
    pub at : slice_get block.entries.items j ≡ Some entry
    pub key : k ≡ entry.0

  pub spotted : (bs : List (Block V)) (i j k : ℕ) → has_key k (entry_in j (slice_get bs i)) ≡ true → Spotted bs i j k
  spotted bs i j k h = in-block (slice_get bs i) refl h
    where
      in-entries : (b : Block V) (o : Option (ℕ × V)) → slice_get bs i ≡ Some b → slice_get b.entries.items j ≡ o
          → has_key k o ≡ true → Spotted bs i j k
      in-entries b None p q h = absurd (cc)
      in-entries b (Some e) p q h = record { block = b; entry = e; here = p; at = q; key = eqb-true k e.0 h }

      in-block : (o : Option (Block V)) → slice_get bs i ≡ o → has_key k (entry_in j o) ≡ true → Spotted bs i j k
      in-block None p h = absurd (cc)
      in-block (Some b) p h = in-entries b (slice_get b.entries.items j) p refl h

  -- the value that is found
  pub find-spot : (bs : List (Block V)) (i j k : ℕ) → AreBlocks 0 bs → (s : Spotted bs i j k)
      → find k (entries_in bs) ≡ Some s.entry.1
  find-spot bs i j k a s =
      let n = length (entries_in (take i bs)) + j in
      let get : slice_get (entries_in bs) n ≡ Some s.entry =
      gather-get (λ (b : Block V). b.entries.items) bs i j s.block s.here
      (slice_get_within s.block.entries.items j s.entry s.at) ∙ s.at in
      ap (λ (m : ℕ). find m (entries_in bs)) s.key ∙ find-at 0 n (entries_in bs) s.entry (rises-in 0 bs a) get

  pub spot-found : (bs : List (Block V)) (i j k : ℕ) → AreBlocks 0 bs → has_key k (entry_in j (slice_get bs i)) ≡ true
      → true ≡ is_some (find k (entries_in bs))
  spot-found bs i j k a h = sym (ap is_some (find-spot bs i j k a (spotted bs i j k h)))

  -- ---- a search that fails

  -- all tops are smaller
  pub past-tops : (bs : List (Block V)) (i k : ℕ) → AreBlocks 0 bs → i ≡ rank k (keyed_blocks bs) → length bs ≤ i
      → false ≡ is_some (find k (entries_in bs))
  past-tops bs i k a at l = sym (ap is_some
      (find_above k (entries_in bs) k (tops-below k 0 bs a (all-tops bs i k at l)) (omega arith)))

  -- the key does not stand at its rank in its block
  pub not-there : (bs : List (Block V)) (i j k : ℕ) (b : Block V) → Sides bs i k b → j ≡ rank k b.entries.items
      → has_key k (entry_in j (slice_get bs i)) ≡ false → false ≡ is_some (find k (entries_in bs))
  not-there bs i j k b s at h =
      let es = b.entries.items in
      sym (ap is_some (find-in bs i k b s ∙ find-rank k 0 es s.rises
      ∙ ap (λ (n : ℕ). at_key k (slice_get es n)) (sym at)
      ∙ none (slice_get es j) (ap (λ (o : Option (Block V)). has_key k (entry_in j o)) (sym s.here) ∙ h)))
    where
      none : (o : Option (ℕ × V)) → has_key k o ≡ false → at_key k o ≡ None
      none None h = refl
      none (Some e) h = ap (λ t. cond t (Some e.1) None) h

  -- ---- the block and the entry at a spot, once they are read

  pub record Read (bs : List (Block V)) (i j k : ℕ) (b : Block V) : Type 0 where
    pub within : i < length bs
    pub inside : j < length b.entries.items
    pub here : slice_get bs i ≡ Some b
    pub entry : ℕ × V
    pub at : slice_get b.entries.items j ≡ Some entry
    pub key : k ≡ entry.0
    pub value : find k (entries_in bs) ≡ Some entry.1

  pub read : (bs : List (Block V)) (i j k : ℕ) (b : Block V) → AreBlocks 0 bs
      → has_key k (entry_in j (slice_get bs i)) ≡ true → b ≡ get_or bs i b → Read bs i j k b
  read bs i j k b a h is =
      let s = spotted bs i j k h in
      let within = slice_get_within bs i s.block s.here in
      let here = slice_get_read bs (length bs) i b refl within is in
      let same : s.block ≡ b = same-item (slice_get bs i) s.block b s.here here in
      let at : slice_get b.entries.items j ≡ Some s.entry =
      ap (λ (w : Block V). slice_get w.entries.items j) (sym same) ∙ s.at in
      record {
        within = within;
        inside = slice_get_within b.entries.items j s.entry at;
        here = here;
        entry = s.entry;
        at = at;
        key = s.key;
        value = find-spot bs i j k a s;
      }

  -- the entry that is read is the one that is found
  pub read-value : (bs : List (Block V)) (i j k : ℕ) (b : Block V) (e : ℕ × V) (r : Read bs i j k b)
      → e ≡ get_or b.entries.items j e → find k (entries_in bs) ≡ Some e.1
  read-value bs i j k b e r is =
      let es = b.entries.items in
      let here = slice_get_read es (length es) j e refl r.inside is in
      r.value ∙ ap (λ (x : ℕ × V). Some x.1) (same-item (slice_get es j) r.entry e r.at here)

  -- ---- the blocks once the value is changed

  pub record Written (bs now : List (Block V)) (k : ℕ) (w : V) : Type 0 where
    pub blocks : AreBlocks 0 now
    pub filled : AreFilled now
    pub entries : entries_in now ≡ put k w (entries_in bs)
    pub count : length (entries_in now) ≡ length (entries_in bs)

  pub written : (bs : List (Block V)) (i j k : ℕ) (b : Block V) (e : ℕ × V) (w : V) → AreBlocks 0 bs → AreFilled bs
      → Read bs i j k b → e ≡ get_or b.entries.items j e
      → Written bs (slice_set bs i (record { top = b.top; entries = with_item b.entries j (e.0, w) })) k w
  written bs i j k b e w a f r is =
      let es = b.entries.items in
      let n : Block V = record { top = b.top; entries = with_item b.entries j (e.0, w) } in
      let here = slice_get_read es (length es) j e refl r.inside is in
      let key : k ≡ e.0 = r.key ∙ ap (λ (x : ℕ × V). x.0) (same-item (slice_get es j) r.entry e r.at here) in
      let F = λ (c : Block V). c.entries.items in
      let front = entries_in (take i bs) in
      let back = entries_in (drop (suc i) bs) in
      let m = length front + j in
      let get = gather-get F bs i j b r.here r.inside ∙ here in
      let all : entries_in (slice_set bs i n) ≡ put k w (entries_in bs) =
      gather-set F bs i b n r.here
      ∙ sym (ap (λ (xs : List (ℕ × V)). slice_set xs m (e.0, w)) (gather-split F bs i b r.here)
      ∙ set-middle front es back j m (e.0, w) r.inside refl)
      ∙ put-at 0 m w (entries_in bs) e (rises-in 0 bs a) get
      ∙ ap (λ (x : ℕ). put x w (entries_in bs)) (sym key) in
      record {
        blocks = blocks-set 0 i bs b n a r.here (λ l block.
            let one : n.entries.items ≡ put e.0 w es = put-at l j w es e block.rises here in
            block-from l b.top (put e.0 w es) n refl one block.order block.limit
            (Rises-put l e.0 w es block.rises) (AllBelow-put (suc b.top) e.0 w es block.below)
            (omega (arith, block.few, put-length e.0 w es))) refl;
        filled = filled-set i bs n f (something n.entries.items (omega (arith, r.inside, length-set es j (e.0, w))));
        entries = all;
        count = ap (λ (xs : List (ℕ × V)). length xs) all ∙ put-length k w (entries_in bs);
      }
