use Rattle.std.proofs.Common.{◌≡◌, ℕ, ◌+◌, ◌<◌, ◌≤◌, Bool, List, [], ◌∷◌, ◌++◌, length, take, drop, get_or, Some, refl}
use Rattle.std.proofs.Common.{sym, ap, ◌∙◌, arith, append_assoc, slice_get, slice_set}
use Rattle.std.proofs.lemmas.Option.{slice_get_read}
use Rattle.std.proofs.lemmas.List.{length-set, length-append, drop-drop, drop-set-lt, drop_more, drop_all, take_all}
use Rattle.std.proofs.lemmas.List.{append-nil}
use Rattle.golf_theory.specs.Flags.{kept}
use Rattle.golf_blocks.proofs.Gathers.{gather-more, gather-before}
use Rattle.golf_theory.proofs.Readings.{set-here, same-item}
use Rattle.golf_blocks.proofs.Retains.{kept-split, kept-none}
use Rattle.golf_blocks.specs.Blocks.{entries_in}
use Rattle.golf_blocks.specs.declared.blocks.Block.{Block}
use Rattle.golf_blocks.proofs.BlockLaws.{blocks-set}
use Rattle.golf_blocks.proofs.Places.{block-kept}
use Rattle.golf_blocks.proofs.removals.retain_entries.Goals as goal

-- the entries of the blocks from one on
rest-of : {V : Type 0} (bs old : List (Block V)) (i : ℕ) (b : Block V) → i < length bs → b ≡ get_or bs i b → drop i bs ≡ drop i old
    → entries_in (drop i old) ≡ b.entries.items ++ entries_in (drop (i + 1) old)
rest-of {V} bs old i b l r e =
    let more : drop i bs ≡ b ∷ drop (i + 1) bs = drop_more bs i b l ∙ ap (λ (w : Block V). w ∷ drop (i + 1) bs) (sym r) in
    let next : drop (i + 1) bs ≡ drop (i + 1) old = sym (drop-drop 1 i bs) ∙ ap (λ (cs : List (Block V)). drop 1 cs) e
    ∙ drop-drop 1 i old in
    ap (λ (cs : List (Block V)). entries_in cs) (sym e ∙ more) ∙ ap (λ (cs : List (Block V)). b.entries.items ++ entries_in cs) next

pub split_at-requires : goal.split_at-requires
split_at-requires g c =
    let bs = c.loop-at.blocks.items in
    let old = c.args.blocks.now.items in
    let i = c.loop-at.at in
    let within : i < length bs = omega (
      arith,
      c.loop-at-test.true,
      c.len-at-end.ensures,
      c.args.blocks.now.ok.0,
      c.loop-at.invariant.len,
    ) in
    let b = c.index.result.now in
    let rest = rest-of bs old i b within c.index.ensures c.loop-at.invariant.same in
    omega (
      arith,
      c.len.ensures,
      b.entries.ok.0,
      c.loop-at.invariant.flags,
      ap (λ (ps : List (ℕ × _)). length ps) rest,
      length-append b.entries.items (entries_in (drop (i + 1) old)),
    )

pub retain_in-requires : goal.retain_in-requires
retain_in-requires g c =
    let bs = c.loop-at.blocks.items in
    let old = c.args.blocks.now.items in
    let i = c.loop-at.at in
    let within : i < length bs = omega (
      arith,
      c.loop-at-test.true,
      c.len-at-end.ensures,
      c.args.blocks.now.ok.0,
      c.loop-at.invariant.len,
    ) in
    let b = c.index_mut.result.now in
    let here : slice_get bs i ≡ Some b = slice_get_read bs (length bs) i b refl within c.index_mut.ensures.value in
    let a = c.index.result.now in
    let first : slice_get bs i ≡ Some a = slice_get_read bs (length bs) i a refl within c.index.ensures in
    let same = ap (λ (w : Block _). length w.entries.items) (same-item (slice_get bs i) a b first here) in
    omega (arith, c.split_at.ensures.front_len, c.len.ensures, a.entries.ok.0, same)

pub loop-at-preserved : goal.loop-at-preserved
loop-at-preserved g c =
    let bs = c.loop-at.blocks.items in
    let old = c.args.blocks.now.items in
    let i = c.loop-at.at in
    let within : i < length bs = omega (
      arith,
      c.loop-at-test.true,
      c.len-at-end.ensures,
      c.args.blocks.now.ok.0,
      c.loop-at.invariant.len,
    ) in
    let b = c.index_mut.result.now in
    let here : slice_get bs i ≡ Some b = slice_get_read bs (length bs) i b refl within c.index_mut.ensures.value in
    let a = c.index.result.now in
    let first : slice_get bs i ≡ Some a = slice_get_read bs (length bs) i a refl within c.index.ensures in
    let count : c.len.result ≡ length b.entries.items =
    omega (
      arith,
      c.len.ensures,
      a.entries.ok.0,
      ap (λ (w : Block _). length w.entries.items) (same-item (slice_get bs i) a b first here),
    ) in
    let n = c.retain_in.new.block in
    let rest = c.loop-at.rest.now in
    let R = entries_in (drop (i + 1) old) in
    let T = entries_in (take i bs) in
    let left = rest-of bs old i b within c.index_mut.ensures.value c.loop-at.invariant.same in
    let new = slice_set bs i n in
    let now : slice_get new i ≡ Some n = set-here bs i n within in
    let entries : entries_in (take (i + 1) new) ≡ T ++ n.entries.items =
    gather-more (λ (b : Block _). b.entries.items) new i n now
    ∙ ap (λ (ps : List (ℕ × _)). ps ++ n.entries.items)
    (gather-before (λ (b : Block _). b.entries.items) bs i i n (omega arith)) in
    record {
      blocks = blocks-set 0 i bs b n c.loop-at.invariant.blocks here
          (λ l is. block-kept _ l b n is c.retain_in.ensures.top c.retain_in.ensures.entries) c.retain_in.ensures.top;
      len = length-set bs i n ∙ c.loop-at.invariant.len;
      same = drop-set-lt (i + 1) bs i n (omega arith) ∙ sym (drop-drop 1 i bs)
          ∙ ap (λ (cs : List (Block _)). drop 1 cs) c.loop-at.invariant.same ∙ drop-drop 1 i old;
      flags = omega (
        arith,
        c.split_at.ensures.back_len,
        count,
        c.loop-at.invariant.flags,
        ap (λ (ps : List (ℕ × _)). length ps) left,
        length-append b.entries.items R,
      );
      entries =
          ap (λ (ps : List (ℕ × _)). ps ++ kept c.split_at.result.1.now R)
          (entries ∙ ap (λ (ps : List (ℕ × _)). T ++ ps)
          (c.retain_in.ensures.entries ∙ ap (λ (bits : List Bool). kept bits b.entries.items) c.split_at.ensures.front))
          ∙ append_assoc T (kept (take c.len.result rest) b.entries.items) (kept c.split_at.result.1.now R)
          ∙ ap (λ (bits : List Bool). T ++ (kept (take c.len.result rest) b.entries.items ++ kept bits R))
          c.split_at.ensures.back
          ∙ ap (λ (ps : List (ℕ × _)). T ++ ps)
          (sym (ap (kept rest) left ∙ kept-split c.len.result rest b.entries.items R count))
          ∙ c.loop-at.invariant.entries;
    }

pub returns-clause-entries : goal.returns-clause-entries
returns-clause-entries g c =
    let bs = c.loop-at.blocks.items in
    let old = c.args.blocks.now.items in
    let i = c.loop-at.at in
    let past : length old ≤ i = omega (arith, c.loop-at-test.false, c.len-at-end.ensures, c.args.blocks.now.ok.0) in
    let all = ap (λ (cs : List (Block _)). entries_in cs) (take_all i bs (omega (arith, past, c.loop-at.invariant.len))) in
    let none : kept c.loop-at.rest.now (entries_in (drop i old)) ≡ [] =
    kept-none c.loop-at.rest.now (entries_in (drop i old))
    (ap (λ (cs : List (Block _)). entries_in cs) (drop_all i old past)) in
    sym all ∙ sym (append-nil (entries_in (take i bs)))
    ∙ ap (λ (ps : List (ℕ × _)). entries_in (take i bs) ++ ps) (sym none) ∙ c.loop-at.invariant.entries
