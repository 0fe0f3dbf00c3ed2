use Rattle.std.proofs.Common.{◌≡◌, ℕ, ◌+◌, Bool, List, ◌∷◌, ◌++◌, length, take, drop, refl, sym, ap, ◌∙◌, arith}
use Rattle.std.proofs.lemmas.List.{length-append, drop_more}
use Rattle.golf_data.specs.declared.goroutine.Queued.{Queued}
use Rattle.golf_model.specs.Collections.{queued}
use Rattle.golf_theory.specs.Flags.{left_out}
use Rattle.golf_blocks.specs.Blocks.{entries_in}
use Rattle.golf_blocks.specs.declared.blocks.Block.{Block}
use Rattle.golf_state_finalisers.proofs.Queueing.{queued-split}
use Rattle.golf_state_finalisers.proofs.walks.unflagged_in.Goals as goal

pub loop-at-preserved : goal.loop-at-preserved
loop-at-preserved c =
    let bs = c.args.blocks.now in
    let i = c.loop-at.at in
    let b = c.index-blocks-at.result in
    let ps = c.as_slice-pairs.result.now in
    let rest = c.loop-at.rest.now in
    let m : ℕ = length ps in
    let R = entries_in (drop (i + 1) bs) in
    let left : entries_in (drop i bs) ≡ b.entries.items ++ R =
    ap (λ (cs : List (Block ℕ)). entries_in cs)
    (drop_more bs i b c.loop-at-test.true ∙ ap (λ (w : Block ℕ). w ∷ drop (i + 1) bs) (sym c.index-blocks-at.is)) in
    let these : ps ≡ b.entries.items = c.as_slice-pairs.ensures.value
    ∙ ap (λ (w : Block ℕ). w.entries.items) (sym c.index-blocks-at.is) in
    record {
      flags = omega (
        arith,
        c.split_at.ensures.back_len,
        c.loop-at.invariant.flags,
        ap (λ (xs : List (ℕ × ℕ)). length xs) these,
        ap (λ (xs : List (ℕ × ℕ)). length xs) left,
        length-append b.entries.items R,
      );
      entries =
          ap (λ (z : List Queued). z ++ queued (left_out c.split_at.result.1.now R))
          (c.in_ok-add_unflagged.ensures ∙ ap
          (λ (bits : List Bool). c.loop-at.entries ++ queued (left_out bits ps)) c.split_at.ensures.front)
          ∙ ap (λ (bits : List Bool). (c.loop-at.entries ++ queued (left_out (take m rest) ps))
          ++ queued (left_out bits R)) c.split_at.ensures.back
          ∙ queued-split c.loop-at.entries m rest ps R refl
          ∙ ap (λ (xs : List (ℕ × ℕ)). c.loop-at.entries ++ queued (left_out rest (xs ++ R))) these
          ∙ ap (λ (xs : List (ℕ × ℕ)). c.loop-at.entries ++ queued (left_out rest xs)) (sym left)
          ∙ c.loop-at.invariant.entries;
    }
