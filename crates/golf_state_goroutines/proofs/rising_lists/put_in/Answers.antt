use Rattle.std.proofs.Common.{◌≡◌, ℕ, ◌+◌, List, length, sym, ap, ◌∙◌, arith}
use Rattle.std.specs.Prelude.{insert}
use Rattle.golf_base.specs.declared.ids.GoroutineId.{GoroutineId}
use Rattle.golf_state_goroutines.specs.RunBlocks.{numbers}
use Rattle.golf_state_goroutines.specs.RisingLists.{leading}
use Rattle.golf_state_goroutines.proofs.Numbered.{numbers-insert}
use Rattle.golf_state_goroutines.proofs.Rises.{placed-leading}
use Rattle.golf_state_goroutines.proofs.rising_lists.put_in.Goals as goal

pub put_at-requires-clause-within : goal.put_at-requires-clause-within
put_at-requires-clause-within c = omega (
  arith,
  c.leading-at.ensures.within,
  ap length c.as_slice.ensures.value,
  c.args.goroutines.now.ok.0,
)

pub returns-clause-all : goal.returns-clause-all
returns-clause-all c =
    let xs = c.args.goroutines.now.items in
    let ns = numbers xs in
    let g = c.args.g.0 in
    let at : c.leading-at.result ≡ leading (g + 1) ns = c.leading-at.ensures.place
    ∙ ap (λ (k : ℕ). leading (k + 1) (numbers c.as_slice.result.now)) c.from.ensures
    ∙ ap (λ (ys : List GoroutineId). leading (g + 1) (numbers ys)) c.as_slice.ensures.value in
    ap numbers c.put_at.ensures.items ∙ numbers-insert xs c.leading-at.result c.args.g
    ∙ ap (λ (i : ℕ). insert ns i g) at ∙ sym (placed-leading g ns)
