use Rattle.std.proofs.Common.{◌≡◌, ℕ, zero, suc, ◌+◌, ◌<◌, List, [], ◌∷◌, length, get_or, Some, refl, sym, ap, ◌∙◌}
use Rattle.std.proofs.Common.{arith, slice_get}
use Rattle.std.proofs.lemmas.Option.{slice_get_read, slice_get_past}
use Rattle.golf_base.specs.declared.ids.GoroutineId.{GoroutineId}
use Rattle.golf_state_goroutines.specs.RunBlocks.{numbers, running_in, runs_before}
use Rattle.golf_state_goroutines.specs.declared.run_blocks.RunBlock.{RunBlock}
use Rattle.golf_blocks.proofs.Gathers.{gather-get, gather-all, gather-next}
use Rattle.golf_state_goroutines.proofs.BlockLaws.{numbers-length}
use Rattle.golf_state_goroutines.proofs.walks.running_from.Goals as goal

read : (xs : List GoroutineId) (i : ℕ) (d : GoroutineId) → i < length xs
    → Some (get_or xs i d).0 ≡ slice_get (numbers xs) i
read [] i d l = absurd (omega (arith, l))
read (x ∷ xs) zero d l = refl
read (x ∷ xs) (suc i) d l = read xs i d (omega (arith, l))

pub returns-then-rest-running : goal.returns-then-rest-running
returns-then-rest-running c =
    let bs = c.args.blocks.now in
    let i = c.loop-at.at in
    let b = c.index-blocks-at.result in
    let xs = c.as_slice-running.result.now in
    let here = slice_get_read bs (length bs) i b refl c.loop-at-test.true c.index-blocks-at.is in
    let same : xs ≡ b.running.items = c.as_slice-running.ensures.value
    ∙ ap (λ (w : RunBlock). w.running.items) (sym c.index-blocks-at.is) in
    let l : c.loop-at.rest < length (numbers b.running.items) =
    omega (
      arith,
      c.if-rest-running.true,
      ap (λ (ys : List GoroutineId). length ys) same,
      numbers-length b.running.items,
    ) in
    read xs c.loop-at.rest _ c.if-rest-running.true
    ∙ ap (λ (ys : List GoroutineId). slice_get (numbers ys) c.loop-at.rest) same
    ∙ sym (gather-get (λ (b : RunBlock). numbers b.running.items) bs i c.loop-at.rest b here l)
    ∙ ap (λ (n : ℕ). slice_get (running_in bs) n) c.loop-at.invariant

pub returns : goal.returns
returns c =
    let bs = c.args.blocks.now in
    let all = ap (λ (xs : List ℕ). length xs)
    (gather-all (λ (b : RunBlock). numbers b.running.items) bs c.loop-at.at (omega (arith, c.loop-at-test.false))) in
    sym (slice_get_past (running_in bs) (runs_before bs c.args.start + c.args.k)
    (omega (arith, all, c.loop-at.invariant)))

pub loop-at-preserved : goal.loop-at-preserved
loop-at-preserved c =
    let bs = c.args.blocks.now in
    let i = c.loop-at.at in
    let b = c.index-blocks-at.result in
    let xs = c.as_slice-running.result.now in
    let here = slice_get_read bs (length bs) i b refl c.loop-at-test.true c.index-blocks-at.is in
    let same : xs ≡ b.running.items = c.as_slice-running.ensures.value
    ∙ ap (λ (w : RunBlock). w.running.items) (sym c.index-blocks-at.is) in
    let step = gather-next (λ (b : RunBlock). numbers b.running.items) bs i b here in
    omega (
      arith,
      step,
      numbers-length b.running.items,
      ap (λ (ys : List GoroutineId). length ys) same,
      c.if-rest-running.false,
      c.loop-at.invariant,
    )
