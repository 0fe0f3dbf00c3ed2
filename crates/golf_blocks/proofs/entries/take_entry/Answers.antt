use Rattle.std.proofs.Common.{◌≡◌, ℕ, ◌<◌, ◌≤◌, List, length, Some, sym, ap, ◌∙◌, refl, arith, slice_get}
use Rattle.std.specs.Prelude.{remove}
use Rattle.std.proofs.lemmas.Option.{slice_get_past, slice_get_read}
use Rattle.golf_theory.specs.Maps.{rank}
use Rattle.golf_blocks.proofs.EntryLaws.{only-there, only-absent}
use Rattle.golf_blocks.proofs.entries.take_entry.Goals as goal
use Rattle.golf_blocks.proofs.entries.take_entry.Goals.{else-at-len-via-then-at-len+else-index-key}
use Rattle.golf_blocks.proofs.entries.take_entry.Goals.{else-at-len-via-else-at-len}

pub returns-then-index-key : goal.returns-then-index-key
returns-then-index-key g c =
    let es = c.args.entries.now.items in
    let k = c.args.key in
    let at : c.rank_of-at.result ≡ rank k es = c.rank_of-at.ensures
    ∙ ap (λ (xs : List (ℕ × _)). rank k xs) c.as_slice.ensures.value in
    let within : c.rank_of-at.result < length es =
    omega (arith, c.if-at-len.true, c.len.ensures, c.args.entries.now.ok.0) in
    let here = slice_get_read es (length es) c.rank_of-at.result c.index.result.now refl within c.index.ensures in
    c.remove.ensures.items ∙ ap (remove es) at
    ∙ only-there 0 k es c.index.result.now c.requires (ap (slice_get es) (sym at) ∙ here) c.if-index-key.true

pub returns-else-at-len : goal.returns-else-at-len
returns-else-at-len g c =
    let es = c.args.entries.now.items in
    let k = c.args.key in
    let at : c.rank_of-at.result ≡ rank k es = c.rank_of-at.ensures
    ∙ ap (λ (xs : List (ℕ × _)). rank k xs) c.as_slice.ensures.value in
    only-absent 0 k es c.requires (λ x i s.
    let there : slice_get es c.rank_of-at.result ≡ Some x = ap (slice_get es) at ∙ i in
    elim c.else-at-len.branch [
      | else-at-len-via-then-at-len+else-index-key w ↦
          let within : c.rank_of-at.result < length es =
          omega (arith, w.if-at-len.true, c.len.ensures, c.args.entries.now.ok.0) in
          let here = slice_get_read es (length es) c.rank_of-at.result w.index.result.now refl within w.index.ensures in
          let same : w.index.result.now ≡ x = cc in
          w.if-index-key.false (ap (λ (y : ℕ × _). y.0) same ∙ s)
      | else-at-len-via-else-at-len w ↦
          let past : length es ≤ c.rank_of-at.result =
          omega (arith, w.if-at-len.false, c.len.ensures, c.args.entries.now.ok.0) in
          let none = slice_get_past es c.rank_of-at.result past in
          absurd (cc)
    ])
