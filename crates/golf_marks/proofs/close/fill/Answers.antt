use Rattle.std.proofs.Common.{◌≢◌, ℕ, ◌+◌, ◌<◌, sym, ap, ◌∙◌, arith, List, Bool, length, false, below_more}
use Rattle.std.specs.Prelude.{slice_index_or, ◌==◌}
use Rattle.std.proofs.lemmas.List.{get_or-set_same, get_or-set_other, length-set}
use Rattle.std.specs.Mem.Slots.{slots_items}
use Rattle.golf_theory.proofs.Sums.{get_or_of}
use Rattle.golf_marks.specs.Bits.{word_of, bit_in}
use Rattle.golf_marks.proofs.close.fill.Goals as goal

pub loop-i-preserved : goal.loop-i-preserved
loop-i-preserved c =
    let old = c.loop-i.flags in
    let i : ℕ = c.loop-i.i in
    let words = slots_items c.args.closed.now.words in
    let low : i < length old = omega (arith, c.len-i-end.ensures, c.loop-i.invariant.size) in
    record {
      size = ap length c.set.ensures ∙ length-set old i _ ∙ c.loop-i.invariant.size;
      filled = below_more _ _
          (λ k h.
          let apart : k ≢ i = omega arith in
          ap (λ (l : List Bool). slice_index_or l k false) c.set.ensures ∙ get_or-set_other old i k _ false apart
          ∙ c.loop-i.invariant.filled k h)
          (ap (λ (l : List Bool). slice_index_or l i false) c.set.ensures ∙ get_or-set_same old i _ false low
          ∙ ap (λ (n : ℕ). n == 1) (c.bit.ensures
          ∙ ap (bit_in (c.args.first + i)) (sym
          (get_or_of words (word_of (c.args.first + i)) c.word.result 0 c.word.ensures))));
    }
